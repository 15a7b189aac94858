use Rattle.std.proofs.Common.{◌≡◌, ap, ◌∙◌, arith}
use Rattle.act_grid.specs.Cell.{first_entry, entries_filled, Address}
use Rattle.act_grid.proofs.CellFacts.{entries_are, first_is}
use Rattle.act_grid.proofs.cell.Cell.slot.Goals as goal

pub returns-clause-first : goal.returns-clause-first
returns-clause-first c =
    let here : Address = record { level = c.self.inside.level; path = c.self.inside.path } in
    let e : here.level ≡ c.args.self.now.level = ap (λ (a : Address). a.level) c.self.view_is in
    first_is here c.args.node_level (omega arith) (omega arith) ∙ ap (λ a. first_entry a c.args.node_level) c.self.view_is

pub returns-clause-count : goal.returns-clause-count
returns-clause-count c =
    let here : Address = record { level = c.self.inside.level; path = c.self.inside.path } in
    let e : here.level ≡ c.args.self.now.level = ap (λ (a : Address). a.level) c.self.view_is in
    entries_are here c.args.node_level (omega arith) (omega arith) ∙ ap (λ a. entries_filled a c.args.node_level) c.self.view_is
