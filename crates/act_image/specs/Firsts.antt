-- Chains by ascending key.
use Rattle.std.specs.Prelude.{ℕ, ◌<◌, List, length, slice_index_or}
use Rattle.act_image.specs.declared.chains.ChainPlace.{ChainPlace}
use Rattle.act_image.specs.Words.{no_chain}

-- the key of each chain is above that of the one before
abbrev pub IsRising : List ChainPlace → Type 0
IsRising places = (i j : ℕ) → i < j → j < length places → (slice_index_or places i no_chain).key < (slice_index_or places j no_chain).key
