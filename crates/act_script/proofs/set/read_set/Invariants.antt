use Rattle.std.proofs.Common.{◌≡◌, ◌==◌, length}
use Rattle.std.specs.List.{slice_split}
use Rattle.act_grid.specs.Layers.{no_layers}
use Rattle.act_script.specs.Items.{set_with}
use Rattle.act_script.proofs.set.read_set.Given as goal

abbrev pub invariant-numbers : goal.invariant-numbers
invariant-numbers l = set_with l.set (slice_split (λ b. b == 59) l.rest) ≡ set_with no_layers (slice_split (λ b. b == 59) l.fn.text)

abbrev pub decreases-numbers : goal.decreases-numbers
decreases-numbers l = length l.rest
