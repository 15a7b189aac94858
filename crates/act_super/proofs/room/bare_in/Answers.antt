use Rattle.std.proofs.Common.{◌≡◌, ◌+◌, ◌<◌, length, arith, sym, ◌∙◌, ap, [], inl, inr}
use Rattle.act_super.specs.Shifts.{added}
use Rattle.act_super.specs.Standings.{standing_most, standing_rows, values}
use Rattle.act_super.proofs.RoomFacts.{length_removed, most_removed, rows_removed}
use Rattle.act_super.proofs.StateFacts.{joined}
use Rattle.act_super.proofs.StandingFacts.{length_values}
use Rattle.act_super.proofs.room.bare_in.Goals as goal

pub fewer-requires-clause-few : goal.fewer-requires-clause-few
fewer-requires-clause-few c =
    let next : c.args.to ≡ c.args.from + 1 = elim c.requires.step [ inl e ↦ absurd (c.if-to-from.false e) | inr e ↦ e ] in
    let less : c.args.from < length c.args.standings.now = omega (arith, c.requires.to) in
    let others : values c.args.others.now ≡ joined c.args.standings.now c.args.from [] (c.args.from + 1) = c.requires.others ∙ ap (λ t. joined c.args.standings.now c.args.from [] t) next in
    omega (arith, ap (λ r. length r) others, length_removed c.args.standings.now c.args.from c.index-standings-from.result less c.index-standings-from.is, length_values c.args.others.now, c.requires.few)

pub fewer-requires-clause-rows : goal.fewer-requires-clause-rows
fewer-requires-clause-rows c =
    let next : c.args.to ≡ c.args.from + 1 = elim c.requires.step [ inl e ↦ absurd (c.if-to-from.false e) | inr e ↦ e ] in
    let less : c.args.from < length c.args.standings.now = omega (arith, c.requires.to) in
    let others : values c.args.others.now ≡ joined c.args.standings.now c.args.from [] (c.args.from + 1) = c.requires.others ∙ ap (λ t. joined c.args.standings.now c.args.from [] t) next in
    c.requires.plain ∙ rows_removed [] c.args.standings.now c.args.from c.index-standings-from.result less c.index-standings-from.is ∙ ap (λ r. standing_rows [] (added r c.index-standings-from.result)) (sym others)

pub fewer-requires-clause-most : goal.fewer-requires-clause-most
fewer-requires-clause-most c =
    let next : c.args.to ≡ c.args.from + 1 = elim c.requires.step [ inl e ↦ absurd (c.if-to-from.false e) | inr e ↦ e ] in
    let less : c.args.from < length c.args.standings.now = omega (arith, c.requires.to) in
    let others : values c.args.others.now ≡ joined c.args.standings.now c.args.from [] (c.args.from + 1) = c.requires.others ∙ ap (λ t. joined c.args.standings.now c.args.from [] t) next in
    let same = most_removed c.args.standings.now c.args.from c.index-standings-from.result less c.index-standings-from.is ∙ ap (λ r. standing_most (added r c.index-standings-from.result)) (sym others) in
    omega (arith, same, c.requires.most)
