use Rattle.std.proofs.Common.{◌≡◌, length, arith, sym, ◌∙◌, ap, subst, [], ◌∷◌, inr}
use Rattle.std.proofs.lemmas.Result.{IfOk-weaker, MatchResult-weaker}
use Rattle.act_super.specs.Shifts.{IsMost, added}
use Rattle.act_super.specs.Standings.{standing_most, standing_rows, values}
use Rattle.act_super.specs.Sound.{spliced}
use Rattle.act_super.specs.States.{room_of}
use Rattle.act_super.proofs.RoomFacts.{length_joined, most_joined, rows_joined}
use Rattle.act_super.proofs.StateFacts.{joined}
use Rattle.act_super.proofs.StandingFacts.{length_values}
use Rattle.act_super.proofs.room.room_in.Goals as goal

pub more-requires-clause-few : goal.more-requires-clause-few
more-requires-clause-few c =
    let is : spliced c.args.standings.now c.args.from c.args.new c.args.to ≡ joined c.args.standings.now c.args.from (c.in-Some.zone.now ∷ []) c.args.to = ap (λ n. spliced c.args.standings.now c.args.from n c.args.to) c.in-Some.is in
    let others : values c.as_slice-2.result.now ≡ joined c.args.standings.now c.args.from [] c.args.to = ap values c.as_slice-2.ensures.value ∙ c.in-Ok.ensures in
    omega (arith, ap (λ r. length r) is, ap (λ r. length r) others, length_joined c.args.standings.now c.args.from c.args.to c.in-Some.zone.now, length_values c.as_slice-2.result.now, c.requires.countable)

pub returns-clause-ok : goal.returns-clause-ok
returns-clause-ok c =
    let is : spliced c.args.standings.now c.args.from c.args.new c.args.to ≡ joined c.args.standings.now c.args.from (c.in-Some.zone.now ∷ []) c.args.to = ap (λ n. spliced c.args.standings.now c.args.from n c.args.to) c.in-Some.is in
    let others : values c.as_slice-2.result.now ≡ joined c.args.standings.now c.args.from [] c.args.to = ap values c.as_slice-2.ensures.value ∙ c.in-Ok.ensures in
    let rows : c.in-Ok-more.found.rows ≡ standing_rows [] (spliced c.args.standings.now c.args.from c.args.new c.args.to) =
    c.in-Ok-more.ensures.rows ∙ ap (λ r. standing_rows [] (added r c.in-Some.zone.now)) others ∙ sym (rows_joined [] c.args.standings.now c.args.from c.args.to c.in-Some.zone.now) ∙ ap (standing_rows []) (sym is) in
    let same : standing_most (added (values c.as_slice-2.result.now) c.in-Some.zone.now) ≡ standing_most (spliced c.args.standings.now c.args.from c.args.new c.args.to) =
    ap (λ r. standing_most (added r c.in-Some.zone.now)) others ∙ sym (most_joined c.args.standings.now c.args.from c.args.to c.in-Some.zone.now) ∙ ap standing_most (sym is) in
    let most_is : IsMost c.in-Ok-more.found.most (standing_most (spliced c.args.standings.now c.args.from c.args.new c.args.to)) = subst (IsMost c.in-Ok-more.found.most) same c.in-Ok-more.ensures.most in
    let real = standing_most (spliced c.args.standings.now c.args.from c.args.new c.args.to) in
    IfOk-weaker c.verdict-2.result _ _ (λ rows_found h. (h.0 ∙ rows, ap (room_of c.args.limit real) h.0 ∙ h.1 real most_is)) c.verdict-2.ensures.ok

pub returns-clause-err : goal.returns-clause-err
returns-clause-err c =
    let is : spliced c.args.standings.now c.args.from c.args.new c.args.to ≡ joined c.args.standings.now c.args.from (c.in-Some.zone.now ∷ []) c.args.to = ap (λ n. spliced c.args.standings.now c.args.from n c.args.to) c.in-Some.is in
    let others : values c.as_slice-2.result.now ≡ joined c.args.standings.now c.args.from [] c.args.to = ap values c.as_slice-2.ensures.value ∙ c.in-Ok.ensures in
    let rows : c.in-Ok-more.found.rows ≡ standing_rows [] (spliced c.args.standings.now c.args.from c.args.new c.args.to) =
    c.in-Ok-more.ensures.rows ∙ ap (λ r. standing_rows [] (added r c.in-Some.zone.now)) others ∙ sym (rows_joined [] c.args.standings.now c.args.from c.args.to c.in-Some.zone.now) ∙ ap (standing_rows []) (sym is) in
    let same : standing_most (added (values c.as_slice-2.result.now) c.in-Some.zone.now) ≡ standing_most (spliced c.args.standings.now c.args.from c.args.new c.args.to) =
    ap (λ r. standing_most (added r c.in-Some.zone.now)) others ∙ sym (most_joined c.args.standings.now c.args.from c.args.to c.in-Some.zone.now) ∙ ap standing_most (sym is) in
    let most_is : IsMost c.in-Ok-more.found.most (standing_most (spliced c.args.standings.now c.args.from c.args.new c.args.to)) = subst (IsMost c.in-Ok-more.found.most) same c.in-Ok-more.ensures.most in
    let real = standing_most (spliced c.args.standings.now c.args.from c.args.new c.args.to) in
    MatchResult-weaker c.verdict-2.result c.verdict-2.ensures.err (λ x h. h) (λ why h. inr (ap (room_of c.args.limit real) (sym rows) ∙ h real most_is))
