use Rattle.act_super.proofs.StateFacts.{sound_nothing}
use Rattle.act_super.proofs.state.Super.new.Goals as goal

pub invariant_of-result : goal.invariant_of-result
invariant_of-result c =
    rw (c.new.ensures.items, c.new-2.ensures.items, c.new-3.ensures) (sound_nothing c.args.settings (c.args.settings.in_limits.1))
