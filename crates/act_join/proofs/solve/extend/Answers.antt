use Rattle.std.proofs.Common.{◌≡◌, ◌-◌, ◌++◌, ◌∙◌, ap, arith, take}
use Rattle.act_script.specs.Turns.{most_sampled}
use Rattle.act_join.proofs.SolveFacts.{cut_at}
use Rattle.act_join.proofs.solve.extend.Goals as goal

pub returns-clause-ok : goal.returns-clause-ok
returns-clause-ok c =
    let list = c.args.list.now.items in
    let points = c.args.points.now in
    let room = 65536 - c.len-room.result in
    let cut : list ++ take room points ≡ take most_sampled (list ++ points) = cut_at most_sampled room list points (omega (arith, c.len-room.ensures, c.requires)) in
    c.in_ok-extend_from_slice.ensures.items ∙ ap (λ l. list ++ l) c.first.ensures ∙ cut
