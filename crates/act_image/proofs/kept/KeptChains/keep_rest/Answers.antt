use Rattle.std.proofs.Common.{◌<◌, ◌≤◌, ◌+◌, ◌++◌, arith, drop, length, refl}
use Rattle.std.proofs.lemmas.List.{drop_all}
use Rattle.act_super.specs.declared.entry.Zone.{Zone}
use Rattle.act_super.specs.States.{zone_key_at, zone_shape_at}
use Rattle.act_image.specs.Kept.{IsKeptChains, old_chain}
use Rattle.act_image.proofs.AfterFacts.{next_all}
use Rattle.act_image.proofs.ChainFacts.{up_end, up_one}
use Rattle.act_image.proofs.kept.KeptChains.keep_rest.Goals as goal

pub loop-i-init : goal.loop-i-init
loop-i-init c = λ shape zones h. record { done = zones; are = h; left = refl }

pub loop-i-preserved : goal.loop-i-preserved
loop-i-preserved c = λ shape before h.
    let zones = c.args.state.now.state.zones in
    let chain = old_chain c.args.old.places.now c.args.old.rows.now c.args.old.from in
    let low : c.loop-i.i < length zones = omega (arith, c.loop-i-test.true, c.zones-i-end.ensures) in
    let zone : Zone = record { key = zone_key_at zones c.loop-i.i; shape = zone_shape_at zones c.loop-i.i } in
    up_one (IsKeptChains chain c.args.next.now.entry shape) (before ++ drop c.args.from zones) (drop c.loop-i.i zones) (drop (c.loop-i.i + 1) zones) c.loop-i.self c.keep.new.self c.keep.new.self zone
    (next_all zones c.loop-i.i low) (c.loop-i.invariant shape before h) (λ some are. c.in_ok-keep.ensures c.args.next.now.entry shape some (c.requires.free c.loop-i.i low) are) refl

pub returns : goal.returns
returns c = λ shape before h.
    let zones = c.args.state.now.state.zones in
    let chain = old_chain c.args.old.places.now c.args.old.rows.now c.args.old.from in
    let high : length zones ≤ c.loop-i.i = omega (arith, c.loop-i-test.false, c.zones-i-end.ensures) in
    up_end (IsKeptChains chain c.args.next.now.entry shape) (before ++ drop c.args.from zones) (drop c.loop-i.i zones) c.loop-i.self (c.loop-i.invariant shape before h) (drop_all c.loop-i.i zones high)
