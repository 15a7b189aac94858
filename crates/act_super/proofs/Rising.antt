-- Keys in ascending order.
use Rattle.std.proofs.Common.{ℕ, zero, suc, ◌+◌, ◌<◌, ◌≤◌, List, [], ◌∷◌, length, get_or, arith}
use Rattle.std.specs.Prelude.{insert, remove}
use Rattle.act_super.specs.Places.{IsRisingFrom}

-- none is below the number
pub above : (low : ℕ) (keys : List ℕ) → IsRisingFrom low keys → (j : ℕ) → j < length keys → low ≤ get_or keys j 0
above low [] h j within = absurd (omega arith)
above low (key ∷ keys) h zero within = h.0
above low (key ∷ keys) h (suc j) within =
    let more : key + 1 ≤ get_or keys j 0 = above (key + 1) keys h.1 j (omega arith) in omega (arith, h.0)

-- a later key is no less
pub ordered : (low : ℕ) (keys : List ℕ) → IsRisingFrom low keys → (i j : ℕ) → i ≤ j → j < length keys → get_or keys i 0 ≤ get_or keys j 0
ordered low [] h i j order within = absurd (omega arith)
ordered low (key ∷ keys) h zero zero order within = omega arith
ordered low (key ∷ keys) h zero (suc j) order within =
    let more : key + 1 ≤ get_or keys j 0 = above (key + 1) keys h.1 j (omega arith) in omega arith
ordered low (key ∷ keys) h (suc i) zero order within = absurd (omega arith)
ordered low (key ∷ keys) h (suc i) (suc j) order within = ordered (key + 1) keys h.1 i j (omega arith) (omega arith)

-- a lower number
pub lowered : (low high : ℕ) (keys : List ℕ) → low ≤ high → IsRisingFrom high keys → IsRisingFrom low keys
lowered low high [] order h = tt
lowered low high (key ∷ keys) order h = (omega (arith, h.0), h.1)

-- a higher number, which the first key allows
raised : (low high : ℕ) (keys : List ℕ) → (0 < length keys → high ≤ get_or keys 0 0) → IsRisingFrom low keys → IsRisingFrom high keys
raised low high [] first h = tt
raised low high (key ∷ keys) first h = (first (omega arith), h.1)

pub rising_insert : (low key : ℕ) (keys : List ℕ) (i : ℕ) → IsRisingFrom low keys → low ≤ key → i ≤ length keys
    → ((k : ℕ) → k < i → get_or keys k 0 < key) → ((k : ℕ) → i ≤ k → k < length keys → key < get_or keys k 0)
    → IsRisingFrom low (insert keys i key)
rising_insert low key keys zero h least within before after =
    (least, raised low (key + 1) keys (λ some. let more : key < get_or keys 0 0 = after 0 (omega arith) some in omega arith) h)
rising_insert low key [] (suc i) h least within before after = absurd (omega arith)
rising_insert low key (other ∷ keys) (suc i) h least within before after =
    let below : other < key = before 0 (omega arith) in (
      h.0,
      rising_insert (other + 1) key keys i h.1 (omega arith) (omega arith)
          (λ k less. before (suc k) (omega arith)) (λ k more less. after (suc k) (omega arith) (omega arith)),
    )

pub rising_remove : (low : ℕ) (keys : List ℕ) (i : ℕ) → IsRisingFrom low keys → i < length keys → IsRisingFrom low (remove keys i)
rising_remove low [] i h within = absurd (omega arith)
rising_remove low (key ∷ keys) zero h within = lowered low (key + 1) keys (omega (arith, h.0)) h.1
rising_remove low (key ∷ keys) (suc i) h within = (h.0, rising_remove (key + 1) keys i h.1 (omega arith))
