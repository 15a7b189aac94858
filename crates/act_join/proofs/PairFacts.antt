-- The lines of pairs, one by one.
use Rattle.std.proofs.Common.{◌≡◌, ℕ, suc, ◌+◌, ◌<◌, List, ◌++◌, drop, length, refl, arith, get_or, drop-cons}
use Rattle.std.specs.Prelude.{slice_index}
use Rattle.act_index.specs.declared.pairs.Pair.{Pair}
use Rattle.act_join.specs.Replies.{key_text, pairs_text}

-- the line of the pair at a place, and those of the pairs after it
pub pairs_step : (ids : List ℕ) (pairs : List Pair) (i : ℕ) (d : Pair) → i < length pairs
    → pairs_text ids (drop i pairs) ≡ key_text (slice_index ids (get_or pairs i d).point) (get_or pairs i d).key ++ pairs_text ids (drop (i + 1) pairs)
pairs_step ids pairs i d within = let one : i + 1 ≡ suc i = omega arith in rw (drop-cons pairs i d within, one) refl
