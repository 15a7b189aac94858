use Rattle.std.proofs.Common.{◌≡◌, ◌++◌, map, take}
use Rattle.act_image.specs.declared.nodes.NodePlace.{NodePlace}
use Rattle.act_image.proofs.path.push_cells.Given as goal

abbrev pub invariant-loop-node : goal.invariant-loop-node
invariant-loop-node l = l.cells.items ≡ l.fn.cells.items ++ map (λ (node : NodePlace). node.cell) (take l.node-index l.nodes)
