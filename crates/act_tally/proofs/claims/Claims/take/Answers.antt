use Rattle.std.proofs.Common.{arith, ◌≡◌, ℕ, ◌≤◌, sym, ap, ◌∙◌}
use Rattle.act_base.specs.Counting.{times}
use Rattle.act_tally.specs.declared.views.Keeper.{Keeper}
use Rattle.act_tally.specs.declared.views.View.TheVariants.{Keeps}
use Rattle.act_tally.specs.Steps.{taken_back, takes}
use Rattle.act_tally.specs.Tokens.{keeper_of, drawer_of}
use Rattle.act_tally.proofs.Calls as call
use Rattle.act_tally.proofs.claims.Claims.take.Goals as goal

pub join_seat-requires : goal.join_seat-requires
join_seat-requires c =
    let i = c.self.invariant in
    let j = c.claimer.invariant in
    let same_table : c.claimer.inside.seat.table_id ≡ c.self.inside.seat.table_id = ap (λ z. z.table) c.claimer.view_is ∙ (c.requires ∙ sym (ap (λ z. z.table) c.self.view_is)) in
    let here : c.self.inside.seat.table_id ≡ c.shared.result.now.table_id = sym (c.shared.ensures ∙ i.link) in
    let wide = i.wide in
    let words_is = ap (λ z. z.words) here in
    (here, same_table ∙ here, ap (λ m. m.1) j.seated, omega arith, call.take_call (Unit {0}) _ _ _ _ _ (keeper_of c.self.inside.seat.me.0) (drawer_of c.claimer.inside.seat.me.0) (ap (λ m. m.0) i.seated) (ap (λ m. m.0) j.seated))

pub load-requires : goal.load-requires
load-requires c =
    let i = c.self.invariant in
    let j = c.claimer.invariant in
    let q : Keeper = taken_back (keeper_of c.self.inside.seat.me.0) (drawer_of c.claimer.inside.seat.me.0) in
    let one : c.join_seat.new.seat.me.0 ≡ Keeps q = ap (λ m. m.0) c.join_seat.ensures.2 ∙ (λ k. takes (i.seated k).0 (j.seated k).0) in
    let here : c.join_seat.new.seat.table_id ≡ c.shared-2.result.now.table_id = c.join_seat.ensures.0 ∙ sym (c.shared-2.ensures ∙ i.link) in
    let wide = i.wide in
    let words_is = ap (λ z. z.words) (c.shared-2.ensures ∙ i.link) in
    (here, omega arith, call.check_call (Unit {0}) _ _ _ _ q one)

pub returns-clause-apart : goal.returns-clause-apart
returns-clause-apart c =
    let i = c.self.invariant in
    let j = c.claimer.invariant in
    let q : Keeper = taken_back (keeper_of c.self.inside.seat.me.0) (drawer_of c.claimer.inside.seat.me.0) in
    let one : c.join_seat.new.seat.me.0 ≡ Keeps q = ap (λ m. m.0) c.join_seat.ensures.2 ∙ (λ k. takes (i.seated k).0 (j.seated k).0) in
    let is : c.load.new.seat.me.0 ≡ Keeps q = ap (λ m. m.0) c.load.ensures.2.0 ∙ one in
    call.at_keeper (λ z. (number : ℕ) → times z.fetched number ≤ 1) c.load.new.seat.me q is (c.load.ensures.2.1 q one).0
