use Rattle.std.proofs.Common.{◌≡◌, ◌∙◌, ap, sym, arith}
use Rattle.act_super.specs.States.{Plain}
use Rattle.act_super.specs.Places.{zones_with}
use Rattle.act_super.specs.Standings.{shapes_in}
use Rattle.act_super.proofs.StateFacts.{length_shapes}
use Rattle.act_super.proofs.Keyed.{length-zones}
use Rattle.act_super.proofs.state.Super.zones.Goals as goal

pub returns : goal.returns
returns c =
    let zones : c.args.self.now.state.zones ≡ zones_with c.self.inside.keys.items (shapes_in c.self.inside.standings.items) = ap (λ (p : Plain). p.state.zones) (sym c.self.view_is) in
    let count = length-zones c.self.inside.keys.items (shapes_in c.self.inside.standings.items) (length_shapes c.self.inside.standings.items ∙ c.self.invariant.lengths) in
    rw zones (omega (arith, c.len.ensures, count))
