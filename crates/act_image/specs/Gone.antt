-- The rows of an image that a new one lacks.
use Rattle.std.specs.Prelude.{ℕ, ◌+◌, false, Bool, cond, List, [], ◌∷◌, length, slice_index, slice_index_or}
use Rattle.act_super.specs.declared.entry.Entry.{Entry}
use Rattle.act_image.specs.declared.chains.ChainPlace.{ChainPlace}
use Rattle.act_image.specs.declared.nodes.NodePlace.{NodePlace}
use Rattle.act_image.specs.Fresh.{is_changed}
use Rattle.act_image.specs.Pics.{no_node, part_of}

-- the row of the i-th node and its list rows, if it doesn't stay
abbrev pub gone_node : List NodePlace → List Bool → List ℕ → ℕ → List ℕ
gone_node nodes stays rows i =
    cond (slice_index_or stays i false) []
    (slice_index rows i ∷ part_of rows (length nodes + (slice_index_or nodes i no_node).first) (slice_index_or nodes i no_node).count)

-- the rows of a chain, if it is that of the changed zone. Those of all chains stand from one on
abbrev pub gone_chain : Entry → List ℕ → ℕ → ChainPlace → List ℕ
gone_chain e rows from place = cond (is_changed e place.key) (part_of rows (from + place.first) place.count) []
