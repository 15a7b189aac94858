use Rattle.std.proofs.Common.{◌≡◌, drop}
use Rattle.act_super.specs.States.{has_key}
use Rattle.act_image.proofs.after.stands.Given as goal

abbrev pub invariant-loop-i : goal.invariant-loop-i
invariant-loop-i l = has_key l.key l.state.state.zones ≡ has_key l.key (drop l.i l.state.state.zones)
