use Rattle.std.proofs.Common.{◌≢◌, ◌<◌, ◌≤◌, ◌+◌, ap, arith, drop, length, sym, ◌∙◌}
use Rattle.std.proofs.lemmas.List.{drop_all}
use Rattle.act_super.specs.declared.entry.Zone.{Zone}
use Rattle.act_super.specs.States.{without_key, zone_key_at, zone_shape_at}
use Rattle.act_image.specs.Kept.{IsKeptChains, old_chain}
use Rattle.act_image.proofs.AfterFacts.{next_dropped, next_kept}
use Rattle.act_image.proofs.ChainFacts.{other_key, up_begin, up_end, up_one, up_same}
use Rattle.act_image.proofs.kept.kept_without.Goals as goal
use Rattle.act_image.proofs.kept.kept_without.Goals.{then-zone_key-key+in_ok-keep, else-zone_key-key}

pub loop-i-init : goal.loop-i-init
loop-i-init c = λ shape.
    up_begin (IsKeptChains (old_chain c.args.old.places.now c.args.old.rows.now c.args.old.from) c.args.next.now.entry shape) (without_key c.args.key c.args.state.now.state.zones) c.new-chains.result (c.new-chains.ensures _ c.args.next.now.entry shape)

pub loop-i-preserved : goal.loop-i-preserved
loop-i-preserved c = λ shape.
    let zones = c.args.state.now.state.zones in
    let all = without_key c.args.key zones in
    let chain = old_chain c.args.old.places.now c.args.old.rows.now c.args.old.from in
    let low : c.loop-i.i < length zones = omega (arith, c.loop-i-test.true, c.zones-i-end.ensures) in
    let zone : Zone = record { key = zone_key_at zones c.loop-i.i; shape = zone_shape_at zones c.loop-i.i } in
    elim c.if-zone_key-key.branch [
      | then-zone_key-key+in_ok-keep w ↦
          (let other : zone_key_at zones c.loop-i.i ≢ c.args.key = λ e. w.if-zone_key-key.true (c.zone_key.ensures ∙ e) in
          up_one (IsKeptChains chain c.args.next.now.entry shape) all (without_key c.args.key (drop c.loop-i.i zones)) (without_key c.args.key (drop (c.loop-i.i + 1) zones)) c.loop-i.chains w.keep.new.self c.if-zone_key-key.chains zone
          (next_kept zones c.loop-i.i low c.args.key other) (c.loop-i.invariant shape)
          (λ some are. w.in_ok-keep.ensures c.args.next.now.entry shape some (other_key c.args.next.now.entry c.args.key (zone_key_at zones c.loop-i.i) c.requires.key other) are) w.chains-is)
      | else-zone_key-key w ↦
          up_same (IsKeptChains chain c.args.next.now.entry shape) all (without_key c.args.key (drop c.loop-i.i zones)) (without_key c.args.key (drop (c.loop-i.i + 1) zones)) c.loop-i.chains c.if-zone_key-key.chains
          (next_dropped zones c.loop-i.i low c.args.key (sym c.zone_key.ensures ∙ w.if-zone_key-key.false)) (c.loop-i.invariant shape) w.chains-is
    ]

pub returns : goal.returns
returns c = λ shape.
    let zones = c.args.state.now.state.zones in
    let chain = old_chain c.args.old.places.now c.args.old.rows.now c.args.old.from in
    let high : length zones ≤ c.loop-i.i = omega (arith, c.loop-i-test.false, c.zones-i-end.ensures) in
    up_end (IsKeptChains chain c.args.next.now.entry shape) (without_key c.args.key zones) (without_key c.args.key (drop c.loop-i.i zones)) c.loop-i.chains (c.loop-i.invariant shape) (ap (without_key c.args.key) (drop_all c.loop-i.i zones high))
