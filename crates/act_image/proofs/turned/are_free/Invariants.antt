use Rattle.std.proofs.Common.{◌≡◌, drop}
use Rattle.std.specs.List.{list_all}
use Rattle.act_image.specs.Turned.{is_free}
use Rattle.act_image.proofs.turned.are_free.Given as goal

abbrev pub invariant-loop-cell : goal.invariant-loop-cell
invariant-loop-cell l = list_all (is_free l.next.entry l.state.state.zones) l.cells ≡ list_all (is_free l.next.entry l.state.state.zones) (drop l.cell-index l.cells)
