use Rattle.std.proofs.Common.{◌∙◌, sym}
use Rattle.act_super.proofs.FrameFacts.{point_outside}
use Rattle.act_super.proofs.standing.Standing.contains.Goals as goal

pub returns-then-is_apart : goal.returns-then-is_apart
returns-then-is_apart c = sym (point_outside c.args.self.now.frame c.args.self.now.shape c.args.p c.args.self.now.framed (sym c.is_apart.ensures ∙ c.if-is_apart.true))
