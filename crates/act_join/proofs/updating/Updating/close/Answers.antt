use Rattle.act_script.specs.Turns.{turns_of}
use Rattle.act_join.specs.Held.{accepted_in}
use Rattle.act_join.specs.Working.{held_by, updates_among}
use Rattle.act_join.proofs.SolveFacts.{if_all, on_any, open_held, open_merges, open_points}
use Rattle.act_join.proofs.UpdatingFacts.{all_done}
use Rattle.act_join.proofs.updating.Updating.close.Goals as goal

pub returns-in_ok-gather-in-Ok-clause-solves : goal.returns-in_ok-gather-in-Ok-clause-solves
returns-in_ok-gather-in-Ok-clause-solves g c =
    if_all c.merge.result _ _ c.merge.ensures (λ solved merges. λ start points steps o.
    merges (held_by start) (accepted_in (held_by start) (turns_of points steps)) (turns_of points steps)
    (rw (c.from_vec.ensures.items, c.from_vec-in-Ok.ensures.items, c.as_slice-in-Ok-2.ensures.value)
    (open_merges start points steps c.args.self.now c.answer.new.self c.args.parts c.args.first c.in-Ok.answers.items o
    (all_done start points (updates_among steps) c.answer.new.self (c.in-Ok.ensures.along start points (updates_among steps) o.along) c.in-Ok.ensures.all)
    (rw c.as_slice.ensures.value at c.in-Ok.ensures.found))))

pub returns-in_ok-gather-in-Ok-clause-held : goal.returns-in_ok-gather-in-Ok-clause-held
returns-in_ok-gather-in-Ok-clause-held g c = on_any c.merge.result _ (λ start points steps o.
    open_held start points steps c.answer.new.self
    (all_done start points (updates_among steps) c.answer.new.self (c.in-Ok.ensures.along start points (updates_among steps) o.along) c.in-Ok.ensures.all))

pub returns-in_ok-gather-in-Ok-clause-points : goal.returns-in_ok-gather-in-Ok-clause-points
returns-in_ok-gather-in-Ok-clause-points g c = on_any c.merge.result _ (λ start points steps o.
    open_points start points steps c.answer.new.self c.args.parts.batches.items c.gather.new.list.items
    (all_done start points (updates_among steps) c.answer.new.self (c.in-Ok.ensures.along start points (updates_among steps) o.along) c.in-Ok.ensures.all)
    o.batches (rw c.as_slice-in-Ok.ensures.value at c.in_ok-gather-in-Ok.ensures.ok))
