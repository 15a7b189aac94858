use Rattle.std.proofs.Common.{rules, arith, ◌≡◌, ◌-◌, ◌<◌, length, sym, ap, ◌∙◌}
use lib.ListN.{length-replicate}
use Rattle.act_tally.specs.declared.views.Keeper.{Keeper}
use Rattle.act_tally.specs.Tokens.{keeper_of}
use Rattle.act_tally.proofs.Calls as call
use Rattle.act_tally.proofs.claims.Claims.hand.Goals as goal

pub split_seat-seat-requires : goal.split_seat-seat-requires
split_seat-seat-requires c =
    let i = c.self.invariant in
    let q : Keeper = keeper_of c.self.inside.seat.me.0 in
    let here : c.self.inside.seat.table_id ≡ c.shared.result.now.table_id = sym (c.shared.ensures ∙ i.link) in
    let wide = i.wide in
    let words_is = ap (λ z. z.words) here in
    let some_spare : 0 < length c.self.inside.spares.items = search rules in
    let many : length c.self.inside.spares.items ≡ q.claimers - q.handed = ap length i.spares ∙ length-replicate (q.claimers - q.handed) c.self.inside.seat.table_id in
    (here, omega arith, call.hand_call (Unit {0}) _ _ _ q (ap (λ m. m.0) i.seated) (omega arith))
