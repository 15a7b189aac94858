use Rattle.std.proofs.Common.{◌∙◌, sym}
use Rattle.act_super.proofs.BlockFacts.{none_touches}
use Rattle.act_super.proofs.blocks.group_touches.Goals as goal

pub returns-then-is_apart : goal.returns-then-is_apart
returns-then-is_apart c = sym (none_touches c.args.bounds.now.frame c.args.hull c.args.sides.now c.requires.group.framed (sym c.is_apart.ensures ∙ c.if-is_apart.true))
