-- Candidates that are tested, and the pairs that are kept.
use Rattle.std.proofs.Common.{◌≡◌, ◌≢◌, ◌⊎◌, inl, inr, ℕ, ◌+◌, ◌≤◌, ◌<◌, ◌++◌, Bool, true, false, cond, refl, sym, ap, ◌∙◌, arith, List, [], ◌∷◌, append_assoc, length, map, take, drop, get_or, get_or-set_same, get_or-set_other, pos}
use Rattle.std.proofs.Math.ListN.{set}
use Rattle.std.specs.List.{All, AllByRecursion as Each, Contains}
use Rattle.std.proofs.lemmas.List.{get_or-map, get_or_default, same_lists, drop_more, drop-set-lt, take_more_set, take-set}
use Rattle.std.proofs.lemmas.List.Elements.{recursion_from_All}
use Rattle.act_super.specs.declared.entry.Zone.{Zone}
use Rattle.act_probe.specs.declared.buffers.Candidate.{Candidate}
use Rattle.act_probe.specs.declared.buffers.Hit.{Hit as Pair}
use Rattle.act_probe.specs.Batches.{Settles, answered, chosen}

-- what stands behind the last candidate, and behind the last pair
abbrev pub no_candidate : Candidate
no_candidate = record { row = 0; next = 0; slot = 0; point = record { x = pos 0; y = pos 0 }; odd = false }

abbrev pub no_pair : Pair
no_pair = record { point = 0; key = 0 }

-- each item is the one that it is mapped to
map_fixed : {X : Type 0} (f : X → X) (xs : List X) → Each (λ x. x ≡ f x) xs → map f xs ≡ xs
map_fixed f [] each = refl
map_fixed f (x ∷ xs) each = λ i. sym each.0 i ∷ map_fixed f xs each.1 i

pub all_answered : (zones : ℕ → Zone) (xs ys : List Candidate) → All (λ (c : Candidate). c ≡ answered zones c) xs → map (answered zones) xs ≡ map (answered zones) ys → xs ≡ map (answered zones) ys
all_answered zones xs ys all same = sym (map_fixed (answered zones) xs (recursion_from_All (λ (c : Candidate). c ≡ answered zones c) xs all)) ∙ same

-- ---- answers that are told one after another
-- a slot that is told at the place j or behind it
abbrev pub Later : ℕ → List ℕ → ℕ → Type 0
Later j slots i = (n : ℕ) × (j ≤ n) × (n < length slots) × (get_or slots n i ≡ i)

pub later : (slots : List ℕ) (i : ℕ) → Contains slots i → Later 0 slots i
later slots i h = (h.0, omega arith, h.1, h.2)

module _ (answers : List Bool) (slots : List ℕ) (j : ℕ) (within : j < length slots) (kept : List Bool) (slot : ℕ) (value : Bool) (at : (d : ℕ) → get_or slots j d ≡ slot) (fits : slot < length kept)
    (told : get_or answers slot false ≡ value) where
  pub told_more : (i : ℕ) → (get_or kept i false ≡ get_or answers i false) ⊎ Later j slots i → (get_or (set kept slot value) i false ≡ get_or answers i false) ⊎ Later (j + 1) slots i
  told_more i h = by (sides i) h
    where
      sides : (i : ℕ) → (i ≡ slot) ⊎ (i ≢ slot)
      sides i = grind arith

      places : (n : ℕ) → j ≤ n → (n ≡ j) ⊎ (j + 1 ≤ n)
      places n h = grind arith

      past : i ≢ slot → (n : ℕ) → n < length slots → get_or slots n i ≡ i → (n ≡ j) ⊎ (j + 1 ≤ n) → Later (j + 1) slots i
      past off n inside is (inl e) = absurd (off (sym is ∙ ap (λ m. get_or slots m i) e ∙ at i))
      past off n inside is (inr more) = (n, more, inside, is)

      by : (i ≡ slot) ⊎ (i ≢ slot) → (get_or kept i false ≡ get_or answers i false) ⊎ Later j slots i → (get_or (set kept slot value) i false ≡ get_or answers i false) ⊎ Later (j + 1) slots i
      by (inl e) h = inl (ap (λ m. get_or (set kept slot value) m false) e ∙ get_or-set_same kept slot value false fits ∙ sym told ∙ ap (λ m. get_or answers m false) (sym e))
      by (inr off) (inl right) = inl (get_or-set_other kept slot i value false off ∙ right)
      by (inr off) (inr l) = inr (past off l.0 l.2 l.3 (places l.0 l.1))

pub told_last : (answers kept : List Bool) (slots : List ℕ) (j i : ℕ) → length slots ≤ j → (get_or kept i false ≡ get_or answers i false) ⊎ Later j slots i → get_or kept i false ≡ get_or answers i false
told_last answers kept slots j i end (inl right) = right
told_last answers kept slots j i end (inr l) = absurd (omega (arith, end, l.1, l.2))

-- ---- pairs that are kept
pub chosen_more : {X : Type 0} (bs : List Bool) (xs : List X) (i : ℕ) (d : X) → i < length bs → i < length xs
    → chosen (drop i bs) (drop i xs) ≡ cond (get_or bs i false) (get_or xs i d ∷ chosen (drop (i + 1) bs) (drop (i + 1) xs)) (chosen (drop (i + 1) bs) (drop (i + 1) xs))
chosen_more bs xs i d bits items = rw (drop_more bs i false bits, drop_more xs i d items) refl

module _ {X : Type 0} (bs : List Bool) (xs ys : List X) (to i : ℕ) (d : X) (below : to ≤ i) (bits : i < length bs) (items : i < length xs)
    (so_far : take to xs ++ chosen (drop i bs) (drop i xs) ≡ chosen bs ys) where
  rest : drop (i + 1) (set xs to (get_or xs i d)) ≡ drop (i + 1) xs
  rest = drop-set-lt (i + 1) xs to (get_or xs i d) (omega (arith, below))

  pub shift_kept : get_or bs i false ≡ true → take (to + 1) (set xs to (get_or xs i d)) ++ chosen (drop (i + 1) bs) (drop (i + 1) (set xs to (get_or xs i d))) ≡ chosen bs ys
  shift_kept is =
      let here : chosen (drop i bs) (drop i xs) ≡ get_or xs i d ∷ chosen (drop (i + 1) bs) (drop (i + 1) xs) = chosen_more bs xs i d bits items ∙ rw is refl in
      let front = take_more_set xs to (get_or xs i d) (omega (arith, below, items)) in
      rw (rest, front) (append_assoc (take to xs) (get_or xs i d ∷ []) (chosen (drop (i + 1) bs) (drop (i + 1) xs)) ∙ ap (λ l. take to xs ++ l) (sym here) ∙ so_far)

  pub shift_left : get_or bs i false ≡ false → take to (set xs to (get_or xs i d)) ++ chosen (drop (i + 1) bs) (drop (i + 1) (set xs to (get_or xs i d))) ≡ chosen bs ys
  shift_left is =
      let here : chosen (drop i bs) (drop i xs) ≡ chosen (drop (i + 1) bs) (drop (i + 1) xs) = chosen_more bs xs i d bits items ∙ rw is refl in
      rw (rest, take-set xs to (get_or xs i d)) (ap (λ l. take to xs ++ l) (sym here) ∙ so_far)

-- ---- bits
pub slot_at : (cs : List Candidate) (j d : ℕ) → j < length cs → get_or (map (λ (c : Candidate). c.slot) cs) j d ≡ (get_or cs j no_candidate).slot
slot_at cs j d within = get_or-map (λ (c : Candidate). c.slot) cs j no_candidate d within

pub same_bits : (xs ys : List Bool) → length xs ≡ length ys → ((i : ℕ) → i < length ys → get_or xs i false ≡ get_or ys i false) → xs ≡ ys
same_bits xs ys long each =
    same_lists xs ys long (λ i d within. get_or_default xs i d false within ∙ each i (omega (arith, within, long)) ∙ get_or_default ys i false d (omega (arith, within, long)))

pub begins : (kept answers : List Bool) (cs : List Candidate) → Settles kept answers cs → (i : ℕ) → i < length answers
    → (get_or kept i false ≡ get_or answers i false) ⊎ Later 0 (map (λ (c : Candidate). c.slot) cs) i
begins kept answers cs s i within = by (s.rest i within)
  where
    by : (get_or kept i false ≡ get_or answers i false) ⊎ Contains (map (λ (c : Candidate). c.slot) cs) i → (get_or kept i false ≡ get_or answers i false) ⊎ Later 0 (map (λ (c : Candidate). c.slot) cs) i
    by (inl right) = inl right
    by (inr h) = inr (later (map (λ (c : Candidate). c.slot) cs) i h)
