use Rattle.std.proofs.Common.{rules, ◌+◌, ap}
use Rattle.act_rows.specs.Tokens.{ticket_of}
use Rattle.act_rows.proofs.Calls as call
use Rattle.act_rows.proofs.pin.Pin.leave.Goals as goal

pub store-requires : goal.store-requires
store-requires g c = (search rules, search rules, call.leave_call (Unit {0}) g.F.Fact.fact _ _ _ _ (ticket_of c.self.inside.seat.me.0) _ _ _ (ap (λ m. m.0) c.self.invariant.seated) c.self.invariant.holds (ap (λ z. 1 + z) c.self.invariant.numbers.0))
