use Rattle.std.proofs.Common.{◌≢◌, ◌<◌, ◌≤◌, ◌+◌, ap, arith, drop, length, sym, ◌∙◌}
use Rattle.std.proofs.lemmas.List.{drop_all}
use Rattle.act_super.specs.declared.entry.Zone.{Zone}
use Rattle.act_super.specs.States.{reshaped, zone_key_at, zone_shape_at}
use Rattle.act_image.specs.Kept.{IsKeptChains, old_chain}
use Rattle.act_image.proofs.AfterFacts.{next_reshaped, next_same}
use Rattle.act_image.proofs.ChainFacts.{other_key, own_key, up_begin, up_end, up_one}
use Rattle.act_image.proofs.kept.kept_reshaped.Goals as goal
use Rattle.act_image.proofs.kept.kept_reshaped.Goals.{then-zone_key-key+in_ok-put, else-zone_key-key+in_ok-keep}

pub loop-i-init : goal.loop-i-init
loop-i-init c =
    up_begin (IsKeptChains (old_chain c.args.old.places.now c.args.old.rows.now c.args.old.from) c.args.next.now.entry c.args.shape.now) (reshaped c.args.key c.args.shape.now c.args.state.now.state.zones) c.new-chains.result (c.new-chains.ensures _ c.args.next.now.entry c.args.shape.now)

pub loop-i-preserved : goal.loop-i-preserved
loop-i-preserved c =
    let zones = c.args.state.now.state.zones in
    let shape = c.args.shape.now in
    let all = reshaped c.args.key shape zones in
    let chain = old_chain c.args.old.places.now c.args.old.rows.now c.args.old.from in
    let low : c.loop-i.i < length zones = omega (arith, c.loop-i-test.true, c.zones-i-end.ensures) in
    let zone : Zone = record { key = zone_key_at zones c.loop-i.i; shape = zone_shape_at zones c.loop-i.i } in
    let new : Zone = record { key = c.args.key; shape = shape } in
    elim c.if-zone_key-key.branch [
      | then-zone_key-key+in_ok-put w ↦
          up_one (IsKeptChains chain c.args.next.now.entry shape) all (reshaped c.args.key shape (drop c.loop-i.i zones)) (reshaped c.args.key shape (drop (c.loop-i.i + 1) zones)) c.loop-i.chains w.put.new.self c.if-zone_key-key.chains new
          (next_reshaped zones c.loop-i.i low c.args.key shape (sym c.zone_key.ensures ∙ w.if-zone_key-key.true)) c.loop-i.invariant
          (λ some are. w.in_ok-put.ensures chain c.args.next.now.entry some (own_key c.args.next.now.entry c.args.key c.requires.key) are) w.chains-is
      | else-zone_key-key+in_ok-keep w ↦
          (let other : zone_key_at zones c.loop-i.i ≢ c.args.key = λ e. w.if-zone_key-key.false (c.zone_key.ensures ∙ e) in
          up_one (IsKeptChains chain c.args.next.now.entry shape) all (reshaped c.args.key shape (drop c.loop-i.i zones)) (reshaped c.args.key shape (drop (c.loop-i.i + 1) zones)) c.loop-i.chains w.keep.new.self c.if-zone_key-key.chains zone
          (next_same zones c.loop-i.i low c.args.key shape other) c.loop-i.invariant
          (λ some are. w.in_ok-keep.ensures c.args.next.now.entry shape some (other_key c.args.next.now.entry c.args.key (zone_key_at zones c.loop-i.i) c.requires.key other) are) w.chains-is)
    ]

pub returns : goal.returns
returns c =
    let zones = c.args.state.now.state.zones in
    let shape = c.args.shape.now in
    let chain = old_chain c.args.old.places.now c.args.old.rows.now c.args.old.from in
    let high : length zones ≤ c.loop-i.i = omega (arith, c.loop-i-test.false, c.zones-i-end.ensures) in
    up_end (IsKeptChains chain c.args.next.now.entry shape) (reshaped c.args.key shape zones) (reshaped c.args.key shape (drop c.loop-i.i zones)) c.loop-i.chains c.loop-i.invariant (ap (reshaped c.args.key shape) (drop_all c.loop-i.i zones high))
