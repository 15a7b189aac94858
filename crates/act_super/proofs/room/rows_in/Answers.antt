use Rattle.std.proofs.Common.{◌≡◌, length, arith, sym, ◌∙◌, ap, [], ◌∷◌}
use Rattle.std.proofs.lemmas.Result.{IfOk-weaker}
use Rattle.act_super.specs.Shifts.{added}
use Rattle.act_super.specs.Standings.{standing_rows, values}
use Rattle.act_super.specs.Sound.{spliced}
use Rattle.act_super.proofs.RoomFacts.{length_joined, rows_joined}
use Rattle.act_super.proofs.StateFacts.{joined}
use Rattle.act_super.proofs.StandingFacts.{length_values}
use Rattle.act_super.proofs.room.rows_in.Goals as goal

pub rows_more-requires-clause-few : goal.rows_more-requires-clause-few
rows_more-requires-clause-few c =
    let is : spliced c.args.standings.now c.args.from c.args.new c.args.to ≡ joined c.args.standings.now c.args.from (c.in-Some.zone.now ∷ []) c.args.to = ap (λ n. spliced c.args.standings.now c.args.from n c.args.to) c.in-Some.is in
    let others : values c.as_slice-in-Some.result.now ≡ joined c.args.standings.now c.args.from [] c.args.to = ap values c.as_slice-in-Some.ensures.value ∙ c.in_ok-others.ensures in
    omega (arith, ap (λ r. length r) is, ap (λ r. length r) others, length_joined c.args.standings.now c.args.from c.args.to c.in-Some.zone.now, length_values c.as_slice-in-Some.result.now, c.requires.countable)

pub returns-in-Some : goal.returns-in-Some
returns-in-Some c =
    let is : spliced c.args.standings.now c.args.from c.args.new c.args.to ≡ joined c.args.standings.now c.args.from (c.in-Some.zone.now ∷ []) c.args.to = ap (λ n. spliced c.args.standings.now c.args.from n c.args.to) c.in-Some.is in
    let others : values c.as_slice-in-Some.result.now ≡ joined c.args.standings.now c.args.from [] c.args.to = ap values c.as_slice-in-Some.ensures.value ∙ c.in_ok-others.ensures in
    let same = ap (λ r. standing_rows c.args.marks.now (added r c.in-Some.zone.now)) others ∙ sym (rows_joined c.args.marks.now c.args.standings.now c.args.from c.args.to c.in-Some.zone.now) ∙ ap (standing_rows c.args.marks.now) (sym is) in
    IfOk-weaker c.rows_more.result _ _ (λ rows e. e ∙ same) c.rows_more.ensures
