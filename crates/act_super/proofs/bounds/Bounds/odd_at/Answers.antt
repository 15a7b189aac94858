use Rattle.std.proofs.Common.{◌∙◌, sym}
use Rattle.act_super.proofs.BoundFacts.{beside_odd, east_told, west_odd}
use Rattle.act_super.proofs.bounds.Bounds.odd_at.Goals as goal

pub returns-then-is_beside : goal.returns-then-is_beside
returns-then-is_beside c = λ sides bound. sym (beside_odd c.args.self.now.frame c.args.p sides bound.framed (sym c.is_beside.ensures ∙ c.if-is_beside.true))

pub returns-then-is_behind : goal.returns-then-is_behind
returns-then-is_behind c = λ sides bound. sym (west_odd c.args.self.now.frame c.args.p sides bound.framed (sym c.is_behind.ensures ∙ c.if-is_behind.true))

pub returns-then-is_before : goal.returns-then-is_before
returns-then-is_before c = east_told c.args.self.now c.args.p c.odd_above.result (sym c.is_before.ensures ∙ c.if-is_before.true) c.odd_above.ensures
