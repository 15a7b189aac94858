use Rattle.std.proofs.Common.{◌≡◌, ◌∙◌, ap, sym, inr, []}
use Rattle.std.proofs.lemmas.Result.{IfOk-weaker, MatchResult-weaker}
use Rattle.act_grid.specs.Cell.{root_cell}
use Rattle.act_super.specs.Standings.{standing_ground, standing_most, standing_rows, values}
use Rattle.act_super.specs.States.{room_of}
use Rattle.act_super.specs.Trees.{most, under}
use Rattle.act_super.proofs.RoomFacts.{most_found, plain_most}
use Rattle.act_super.proofs.room.room.Goals as goal

pub returns-clause-ok : goal.returns-clause-ok
returns-clause-ok c =
    let rows : c.in-Ok.found.rows ≡ standing_rows [] (values c.args.zones.now) = c.in-Ok.ensures.rows ∙ ap (λ cells. standing_rows cells (values c.args.zones.now)) c.new-none.ensures in
    let most_is : c.in-Ok.found.most ≡ standing_most (values c.args.zones.now) =
    c.in-Ok.ensures.most ∙ ap (λ cells. most (under (standing_ground cells) (values c.args.zones.now) root_cell)) c.new-none.ensures ∙ sym (plain_most (values c.args.zones.now)) in
    let found = most_found c.in-Ok.found.most (standing_most (values c.args.zones.now)) most_is in
    IfOk-weaker c.verdict.result _ _ (λ r h. (h.0 ∙ rows, ap (room_of c.args.limit (standing_most (values c.args.zones.now))) h.0 ∙ h.1 (standing_most (values c.args.zones.now)) found)) c.verdict.ensures.ok

pub returns-clause-err : goal.returns-clause-err
returns-clause-err c =
    let rows : c.in-Ok.found.rows ≡ standing_rows [] (values c.args.zones.now) = c.in-Ok.ensures.rows ∙ ap (λ cells. standing_rows cells (values c.args.zones.now)) c.new-none.ensures in
    let most_is : c.in-Ok.found.most ≡ standing_most (values c.args.zones.now) =
    c.in-Ok.ensures.most ∙ ap (λ cells. most (under (standing_ground cells) (values c.args.zones.now) root_cell)) c.new-none.ensures ∙ sym (plain_most (values c.args.zones.now)) in
    let found = most_found c.in-Ok.found.most (standing_most (values c.args.zones.now)) most_is in
    MatchResult-weaker c.verdict.result c.verdict.ensures.err (λ x h. h) (λ why h. inr (ap (room_of c.args.limit (standing_most (values c.args.zones.now))) (sym rows) ∙ h (standing_most (values c.args.zones.now)) found))
