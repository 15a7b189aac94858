-- Sets of layers.
use Rattle.std.specs.Prelude.{ℕ, ◌/◌, ◌%◌, ◌^◌, ◌-◌, Bool, ◌==◌, bit_or, replicate, slice_index, slice_set}
use Rattle.std.specs.Int.{bit_at}
use Rattle.act_grid.specs.declared.layers.Layers.{Layers}

-- the layer of a zone's key: its eight high bits
abbrev pub layer_of : ℕ → ℕ
layer_of key = key / 2 ^ 24

-- the layer, 0 to 255, is in the set
abbrev pub has_layer : Layers → ℕ → Bool
has_layer layers n = bit_at (slice_index layers.words (n / 64)) (n % 64) == 1

-- all layers, none, and a set with one layer more
abbrev pub all_layers : Layers
all_layers = record { words = replicate 4 (2 ^ 64 - 1) }

abbrev pub no_layers : Layers
no_layers = record { words = replicate 4 0 }

abbrev pub with_layer : Layers → ℕ → Layers
with_layer layers n =
    record { words = slice_set layers.words (n / 64) (bit_or (slice_index layers.words (n / 64)) (2 ^ (n % 64))) }
