use Rattle.std.proofs.Common.{rules, ◌≡◌, ◌∙◌}
use Rattle.std.specs.Prelude.{FitsSigned, ◌-ℤ◌, ◌*ℤ◌}
use Rattle.std.specs.Int.{w32, w64, w128}
use Rattle.std.proofs.lemmas.Int.{to_z-of_z}
use Rattle.act_probe.proofs.SweepFacts.{less_than}
use Rattle.act_probe.proofs.sweep.is_left.Goals as goal

pub returns : goal.returns
returns c =
    let ax : FitsSigned w32 c.args.a.x = search rules in
    let ay : FitsSigned w32 c.args.a.y = search rules in
    let bx : FitsSigned w32 c.args.b.x = search rules in
    let by : FitsSigned w32 c.args.b.y = search rules in
    let px : FitsSigned w32 c.args.p.x = search rules in
    let py : FitsSigned w32 c.args.p.y = search rules in
    let d1 : FitsSigned w64 c.difference.result = search rules in
    let d2 : FitsSigned w64 c.difference-2.result = search rules in
    let d3 : FitsSigned w64 c.difference-3.result = search rules in
    let d4 : FitsSigned w64 c.difference-4.result = search rules in
    let m1 : FitsSigned w128 c.product-right.result = search rules in
    let m2 : FitsSigned w128 c.product-left.result = search rules in
    let one : c.difference.result ≡ c.args.p.x -ℤ c.args.a.x = c.difference.ensures ∙ simp to_z-of_z in
    let two : c.difference-2.result ≡ c.args.b.y -ℤ c.args.a.y = c.difference-2.ensures ∙ simp to_z-of_z in
    let three : c.difference-3.result ≡ c.args.b.x -ℤ c.args.a.x = c.difference-3.ensures ∙ simp to_z-of_z in
    let four : c.difference-4.result ≡ c.args.p.y -ℤ c.args.a.y = c.difference-4.ensures ∙ simp to_z-of_z in
    let right : c.product-right.result ≡ c.difference.result *ℤ c.difference-2.result = c.product-right.ensures ∙ simp to_z-of_z in
    let left : c.product-left.result ≡ c.difference-3.result *ℤ c.difference-4.result = c.product-left.ensures ∙ simp to_z-of_z in
    c.is_below.ensures ∙ simp to_z-of_z (less_than c.args.a c.args.b c.args.p _ _ _ _ _ _ one two three four right left)
