-- The rows and words of a zone's chain.
use Rattle.std.proofs.Common.{◌≡◌, ℕ, suc, ◌+◌, ◌*◌, ◌/◌, ◌%◌, ◌^◌, ◌<◌, ◌≤◌, ◌⊎◌, inl, inr, refl, sym, ap, ◌∙◌, subst, arith, Bool, List, [], ◌∷◌, length, drop, drop-cons}
use Rattle.std.specs.Prelude.{slice_index}
use Rattle.std.specs.List.{AllByRecursion as Each}
use Rattle.std.proofs.lemmas.List.{get_or_past, drop_all}
use Rattle.std.proofs.lemmas.List.Sums.{sum_by-cons}
use Rattle.std.proofs.lemmas.List.Elements.{recursion_from_All}
use Rattle.act_grid.specs.declared.Point.{Point}
use Rattle.act_geom.specs.Body.{body_of}
use Rattle.act_geom.specs.Rings.{vertices_of}
use Rattle.act_geom.specs.Walk.{Expects}
use Rattle.act_geom.specs.declared.walk.Walk.{Walk}
use Rattle.act_geom.proofs.BodyFacts.{length-body}
use Rattle.act_geom.proofs.WalkFacts.{not_at_end}
use Rattle.act_base.specs.Counting.{times}
use Rattle.act_base.specs.Sight.{Sight}
use Rattle.act_entry.specs.References.{IsRow}
use Rattle.act_super.specs.declared.entry.Zone.{Zone}
use Rattle.act_probe.specs.Chains.{ChainAt, IsAt}
use Rattle.act_probe.specs.Reads.{body_reads}

-- a shape has no more rings than a third of its vertices
rings_few : (rings : List (List Point)) → Each (λ ring. 3 ≤ length ring) rings → 3 * length rings ≤ vertices_of rings
rings_few [] each = omega arith
rings_few (ring ∷ rings) each = omega (arith, each.0, rings_few rings each.1, sum_by-cons (λ (r : List Point). length r) ring rings)

-- a row's number fits a word's low half, and there is none behind the last one
small_row : {x : Sight} {zone : Zone} {first : ℕ} (c : ChainAt x zone first) (i : ℕ) → slice_index c.rows i % 2 ^ 32 ≡ slice_index c.rows i
small_row c i = by (sides i (length c.rows))
  where
    sides : (a b : ℕ) → (a < b) ⊎ (b ≤ a)
    sides a b = grind arith

    by : (i < length c.rows) ⊎ (length c.rows ≤ i) → slice_index c.rows i % 2 ^ 32 ≡ slice_index c.rows i
    by (inl within) = omega (arith, (c.low i within).1)
    by (inr past) = rw (get_or_past c.rows i 0 past) refl

-- the row after one that isn't the first, as the first word of that one tells it
next_row : {x : Sight} {zone : Zone} {first : ℕ} (c : ChainAt x zone first) (i word : ℕ) → i < length c.rows → 0 < i → word ≡ x.word (slice_index c.rows i) 0
    → word % 2 ^ 32 ≡ slice_index c.rows (i + 1)
next_row c i word within after is = ap (λ w. w % 2 ^ 32) (is ∙ c.chain.next i after within) ∙ small_row c (i + 1)

-- the second row, as the first word of the first one tells it with the key
pub second_row : {x : Sight} {zone : Zone} {first : ℕ} (c : ChainAt x zone first) (word : ℕ) → word ≡ x.word first 0 → word % 2 ^ 32 ≡ slice_index c.rows 1
second_row {x} c word is =
    let told = is ∙ ap (λ r. x.word r 0) (sym c.first) ∙ c.chain.first in
    omega (arith, told, small_row c 1)

pub first_key : {x : Sight} {zone : Zone} {first : ℕ} (c : ChainAt x zone first) (word : ℕ) → word ≡ x.word first 0 → word / 2 ^ 32 ≡ zone.key
first_key {x} c word is =
    let told = is ∙ ap (λ r. x.word r 0) (sym c.first) ∙ c.chain.first in
    omega (arith, told, small_row c 1)

-- the first row of a chain is of the image, and one that a reference may name
pub held_first : {x : Sight} {zone : Zone} {row : ℕ} → ChainAt x zone row → 0 < times x.rows row
held_first {x} c =
    let some : 0 < length c.rows = omega (arith, c.chain.size) in
    subst (λ r. 0 < times x.rows r) c.first (c.held 0 some)

pub row_fits : {x : Sight} {zone : Zone} {row : ℕ} → ChainAt x zone row → IsRow row
row_fits c =
    let some : 0 < length c.rows = omega (arith, c.chain.size) in
    let low : IsRow (slice_index c.rows 0) = ((c.low 0 some).0, omega (arith, (c.low 0 some).1)) in
    rw c.first at low

module _ (x : Sight) (zone : Zone) (first : ℕ) (c : ChainAt x zone first) where
  -- the words of the body have places in the rows
  pub enough : length (body_of zone.shape) ≤ 255 * length c.rows
  enough = omega (arith, length-body zone.shape, c.chain.size)

  pub short : length (body_of zone.shape) ≤ 349526
  short = omega (arith, length-body zone.shape, c.small, rings_few zone.shape (recursion_from_All (λ (ring : List Point). 3 ≤ length ring) zone.shape c.full))

  -- so many words of the row at hand were read
  pub at_ahead : (row next passed place k n : ℕ) → place + n ≤ 255 → IsAt x zone first c row next passed place k → IsAt x zone first c row next passed (place + n) (k + n)
  at_ahead row next passed place k n within at = record { row_is = at.row_is; next_is = at.next_is; read = omega (arith, at.read); within = within }

  -- ---- the next word stands in the row at hand
  module _ (row next passed place k : ℕ) (before : k < length (body_of zone.shape)) (at : IsAt x zone first c row next passed place k) where
    pub within_here : place < 255 → passed < length c.rows
    within_here left = omega (arith, before, at.read, enough)

    pub held_here : place < 255 → 0 < times x.rows row
    held_here left = rw at.row_is (c.held passed (within_here left))

    pub word_here : place < 255 → x.word row (place + 1) ≡ slice_index (body_of zone.shape) k
    word_here left =
        let j : k / 255 ≡ passed = omega (arith, at.read, left) in
        let r : k % 255 ≡ place = omega (arith, at.read, left) in
        let one : place + 1 ≡ 1 + place = omega arith in
        let b = c.chain.body k (omega (arith, before, enough)) in
        rw (at.row_is, one) (rw (j, r) at b)

    pub at_here : place < 255 → IsAt x zone first c row next passed (place + 1) (k + 1)
    at_here left = record { row_is = at.row_is; next_is = at.next_is; read = omega (arith, at.read); within = omega (arith, left) }

    -- ---- it stands in the next row
    pub within_next : 255 ≤ place → passed + 1 < length c.rows
    within_next full = omega (arith, before, at.read, at.within, full, enough)

    pub held_next : 255 ≤ place → 0 < times x.rows next
    held_next full = rw at.next_is (c.held (passed + 1) (within_next full))

    pub word_next : 255 ≤ place → x.word next 1 ≡ slice_index (body_of zone.shape) k
    word_next full =
        let j : k / 255 ≡ passed + 1 = omega (arith, at.read, at.within, full) in
        let r : k % 255 ≡ 0 = omega (arith, at.read, at.within, full) in
        let b = c.chain.body k (omega (arith, before, enough)) in
        rw at.next_is (rw (j, r) at b)

    pub at_next : 255 ≤ place → (word : ℕ) → word ≡ x.word next 0 → IsAt x zone first c next (word % 2 ^ 32) (passed + 1) 1 (k + 1)
    at_next full word is = record {
      row_is = at.next_is;
      next_is = next_row c (passed + 1) word (within_next full) (omega arith) (is ∙ ap (λ r. x.word r 0) at.next_is);
      read = omega (arith, at.read, at.within, full);
      within = omega arith;
    }

    pub passed_few : passed < 2 ^ 32
    passed_few = omega (arith, before, at.read, short)

  -- ---- the walk over the words
  pub going : (walk : Walk) (k : ℕ) (answer : Bool) → Expects walk (drop k (body_of zone.shape)) answer → k < length (body_of zone.shape)
  going walk k answer expects = by (sides k (length (body_of zone.shape)))
    where
      sides : (a b : ℕ) → (a < b) ⊎ (b ≤ a)
      sides a b = grind arith

      by : (k < length (body_of zone.shape)) ⊎ (length (body_of zone.shape) ≤ k) → k < length (body_of zone.shape)
      by (inl within) = within
      by (inr past) = absurd (not_at_end walk answer (rw (drop_all k (body_of zone.shape) past) at expects))

  -- no body has more words
  pub over : (walk : Walk) (k : ℕ) (answer : Bool) → 349526 ≤ k → Expects walk (drop k (body_of zone.shape)) answer → ⊥
  over walk k answer past expects = omega (arith, past, going walk k answer expects, short)

  -- the next word that it expects
  pub next_word : (walk : Walk) (k word : ℕ) (answer : Bool) → k < length (body_of zone.shape) → word ≡ slice_index (body_of zone.shape) k
      → Expects walk (drop k (body_of zone.shape)) answer → Expects walk (word ∷ drop (k + 1) (body_of zone.shape)) answer
  next_word walk k word answer within is expects =
      let one : k + 1 ≡ suc k = omega arith in
      rw (is, one) (rw (drop-cons (body_of zone.shape) k 0 within) at expects)

  pub reads_few : (row next passed place k : ℕ) → k < length (body_of zone.shape) → 0 < place → IsAt x zone first c row next passed place (k + 1)
      → k + 1 + passed ≤ body_reads zone
  reads_few row next passed place k within some at = omega (arith, within, some, at.read, enough, c.chain.size)
