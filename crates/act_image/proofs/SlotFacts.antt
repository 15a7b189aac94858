-- Rows that stay and rows that come.
use Rattle.std.proofs.Common.{◌≡◌, ℕ, zero, suc, ◌+◌, ◌<◌, ◌≤◌, refl, sym, ap, ◌∙◌, subst, arith, List, [], ◌∷◌, ◌++◌, length, get_or, replicate, set, take, drop}
use Rattle.std.proofs.lemmas.List.{append_assoc, append-nil, drop_all, drop_more, length-set, take_all, take_more_set}
use Rattle.act_base.specs.Counting.{times}
use Rattle.act_base.proofs.Times.{times_here}
use Rattle.act_image.specs.declared.slots.Slot.{Slot}
use Rattle.act_image.specs.declared.slots.Slot.TheVariants as slot
use Rattle.act_image.specs.Kept.{new_slots}
use Rattle.act_image.specs.Slots.{kept_of, new_places, with_rows}

pub rows_length : (slots : List Slot) (rows : List ℕ) → length (with_rows slots rows) ≡ length slots
rows_length [] rows = refl
rows_length (slot.Kept r ∷ slots) rows = ap suc (rows_length slots rows)
rows_length (slot.New ∷ slots) [] = ap suc (rows_length slots [])
rows_length (slot.New ∷ slots) (x ∷ rows) = ap suc (rows_length slots rows)

-- each row stays or is new
pub all_slots : (k : ℕ) (slots : List Slot) → length (kept_of slots) + length (new_places k slots) ≡ length slots
all_slots k [] = refl
all_slots k (slot.Kept r ∷ slots) = omega (arith, all_slots (k + 1) slots)
all_slots k (slot.New ∷ slots) = omega (arith, all_slots (k + 1) slots)

pub all_times : (k : ℕ) (slots : List Slot) (rows : List ℕ) (r : ℕ) → length rows ≡ length (new_places k slots) → times (with_rows slots rows) r ≡ times (kept_of slots) r + times rows r
all_times k [] [] r h = refl
all_times k [] (x ∷ rows) r h = absurd (omega (arith, h))
all_times k (slot.Kept a ∷ slots) rows r h = omega (arith, all_times (k + 1) slots rows r h)
all_times k (slot.New ∷ slots) [] r h = absurd (omega (arith, h))
all_times k (slot.New ∷ slots) (x ∷ rows) r h = omega (arith, all_times (k + 1) slots rows r (omega (arith, h)))

-- the number of a row that stays
pub kept_row : (slots : List Slot) (rows : List ℕ) (k r : ℕ) → get_or slots k slot.New ≡ slot.Kept r → get_or (with_rows slots rows) k 0 ≡ r
kept_row [] rows k r h = absurd (cc)
kept_row (slot.Kept a ∷ slots) rows zero r h = (let e : a ≡ r = cc in e)
kept_row (slot.Kept a ∷ slots) rows (suc k) r h = kept_row slots rows k r h
kept_row (slot.New ∷ slots) rows zero r h = absurd (cc)
kept_row (slot.New ∷ slots) [] (suc k) r h = kept_row slots [] k r h
kept_row (slot.New ∷ slots) (x ∷ rows) (suc k) r h = kept_row slots rows k r h

-- a row that stays is among those that stay
pub kept_there : (slots : List Slot) (k r : ℕ) → get_or slots k slot.New ≡ slot.Kept r → 0 < times (kept_of slots) r
kept_there [] k r h = absurd (cc)
kept_there (slot.Kept a ∷ slots) zero r h = (let e : a ≡ r = cc in subst (λ (v : ℕ). 0 < times (a ∷ kept_of slots) v) e (omega (arith, times_here a (kept_of slots))))
kept_there (slot.Kept a ∷ slots) (suc k) r h = (let more = kept_there slots k r h in omega (arith, more))
kept_there (slot.New ∷ slots) zero r h = absurd (cc)
kept_there (slot.New ∷ slots) (suc k) r h = kept_there slots k r h

-- the number of a new row
pub record NewRow (b : ℕ) (slots : List Slot) (rows : List ℕ) (k : ℕ) : Type 0 where
  pub index : ℕ
  pub within : index < length rows
  pub row : get_or rows index 0 ≡ get_or (with_rows slots rows) k 0
  pub place : get_or (new_places b slots) index 0 ≡ b + k

pub new_row : (b : ℕ) (slots : List Slot) (rows : List ℕ) (k : ℕ) → k < length slots → get_or slots k slot.New ≡ slot.New → length rows ≡ length (new_places b slots) → NewRow b slots rows k
new_row b [] rows k low h long = absurd (omega (arith, low))
new_row b (slot.Kept a ∷ slots) rows zero low h long = absurd (cc)
new_row b (slot.Kept a ∷ slots) rows (suc k) low h long =
    let n = new_row (b + 1) slots rows k (omega (arith, low)) h long in
    record { index = n.index; within = n.within; row = n.row; place = n.place ∙ omega arith }
new_row b (slot.New ∷ slots) [] k low h long = absurd (omega (arith, long))
new_row b (slot.New ∷ slots) (x ∷ rows) zero low h long = record { index = 0; within = omega arith; row = refl; place = omega arith }
new_row b (slot.New ∷ slots) (x ∷ rows) (suc k) low h long =
    let n = new_row (b + 1) slots rows k (omega (arith, low)) h (omega (arith, long)) in
    let within = n.within in
    record { index = suc n.index; within = omega (arith, within); row = n.row; place = n.place ∙ omega arith }

-- ---- going through the slots
next_slot : (slots : List Slot) (k : ℕ) (s : Slot) → k < length slots → get_or slots k slot.New ≡ s → drop k slots ≡ s ∷ drop (k + 1) slots
next_slot slots k s low is = drop_more slots k slot.New low ∙ ap (λ v. v ∷ drop (k + 1) slots) is

pub count_new : (slots : List Slot) (k n all : ℕ) → k < length slots → get_or slots k slot.New ≡ slot.New → n + length (new_places k (drop k slots)) ≡ all → n + 1 + length (new_places (k + 1) (drop (k + 1) slots)) ≡ all
count_new slots k n all low is h = omega (arith, h, ap (λ v. length (new_places k v)) (next_slot slots k slot.New low is))

pub count_kept : (slots : List Slot) (k n all r : ℕ) → k < length slots → get_or slots k slot.New ≡ slot.Kept r → n + length (new_places k (drop k slots)) ≡ all → n + length (new_places (k + 1) (drop (k + 1) slots)) ≡ all
count_kept slots k n all r low is h = omega (arith, h, ap (λ v. length (new_places k v)) (next_slot slots k (slot.Kept r) low is))

pub count_end : (slots : List Slot) (k n all : ℕ) → length slots ≤ k → n + length (new_places k (drop k slots)) ≡ all → n ≡ all
count_end slots k n all high h = omega (arith, h, ap (λ v. length (new_places k v)) (drop_all k slots high))

-- the rows before the k-th have their numbers
pub record IsPut (slots : List Slot) (rows all : List ℕ) (k taken : ℕ) : Type 0 where
  pub long : length all ≡ length slots
  pub left : taken + length (new_places k (drop k slots)) ≡ length rows
  pub rest : with_rows slots rows ≡ take k all ++ with_rows (drop k slots) (drop taken rows)

pub put_kept : (slots : List Slot) (rows all : List ℕ) (k taken r : ℕ) → k < length slots → get_or slots k slot.New ≡ slot.Kept r → IsPut slots rows all k taken → IsPut slots rows (set all k r) (k + 1) taken
put_kept slots rows all k taken r low is h =
    let next = next_slot slots k (slot.Kept r) low is in
    record {
      long = length-set all k r ∙ h.long;
      left = ap (λ v. taken + length (new_places k v)) (sym next) ∙ h.left;
      rest = h.rest ∙ ap (λ v. take k all ++ with_rows v (drop taken rows)) next ∙ sym (append_assoc (take k all) (r ∷ []) (with_rows (drop (k + 1) slots) (drop taken rows)))
          ∙ ap (λ v. v ++ with_rows (drop (k + 1) slots) (drop taken rows)) (sym (take_more_set all k r (omega (arith, low, h.long))));
    }

pub put_new : (slots : List Slot) (rows all : List ℕ) (k taken r : ℕ) → k < length slots → get_or slots k slot.New ≡ slot.New → taken < length rows → get_or rows taken 0 ≡ r → IsPut slots rows all k taken → IsPut slots rows (set all k r) (k + 1) (taken + 1)
put_new slots rows all k taken r low is more at h =
    let next = next_slot slots k slot.New low is in
    let row : drop taken rows ≡ r ∷ drop (taken + 1) rows = drop_more rows taken 0 more ∙ ap (λ v. v ∷ drop (taken + 1) rows) at in
    let count = ap (λ v. taken + length (new_places k v)) next in
    record {
      long = length-set all k r ∙ h.long;
      left = omega (arith, count, h.left);
      rest = h.rest ∙ (λ i. take k all ++ with_rows (next i) (row i)) ∙ sym (append_assoc (take k all) (r ∷ []) (with_rows (drop (k + 1) slots) (drop (taken + 1) rows)))
          ∙ ap (λ v. v ++ with_rows (drop (k + 1) slots) (drop (taken + 1) rows)) (sym (take_more_set all k r (omega (arith, low, h.long))));
    }

-- a new row is there
pub row_left : (slots : List Slot) (rows all : List ℕ) (k taken : ℕ) → k < length slots → get_or slots k slot.New ≡ slot.New → IsPut slots rows all k taken → taken < length rows
row_left slots rows all k taken low is h = let count = ap (λ v. taken + length (new_places k v)) (next_slot slots k slot.New low is) in omega (arith, count, h.left)

pub put_end : (slots : List Slot) (rows all : List ℕ) (k taken : ℕ) → length slots ≤ k → IsPut slots rows all k taken → all ≡ with_rows slots rows
put_end slots rows all k taken high h =
    sym (h.rest ∙ (λ i. take_all k all (omega (arith, high, h.long)) i ++ with_rows (drop_all k slots high i) (drop taken rows)) ∙ append-nil all)

-- where all rows are new
abbrev pub all_new : ℕ → List Slot
all_new zero = []
all_new (suc n) = slot.New ∷ all_new n

pub none_kept : (n : ℕ) → kept_of (all_new n) ≡ []
none_kept zero = refl
none_kept (suc n) = none_kept n

pub as_many_new : (n k : ℕ) → length (new_places k (all_new n)) ≡ n
as_many_new zero k = refl
as_many_new (suc n) k = ap suc (as_many_new n (k + 1))

pub new_at : (n k i : ℕ) → i < n → get_or (new_places k (all_new n)) i 0 ≡ k + i
new_at zero k i low = absurd (omega (arith, low))
new_at (suc n) k zero low = omega arith
new_at (suc n) k (suc i) low = new_at n (k + 1) i (omega (arith, low)) ∙ omega arith

pub long_new : (n : ℕ) → length (all_new n) ≡ n
long_new zero = refl
long_new (suc n) = ap suc (long_new n)

pub get_new : (n k : ℕ) → get_or (all_new n) k slot.New ≡ slot.New
get_new zero k = refl
get_new (suc n) zero = refl
get_new (suc n) (suc k) = get_new n k

pub new_all : (n : ℕ) → replicate n slot.New ≡ all_new n
new_all zero = refl
new_all (suc n) = ap (λ v. slot.New ∷ v) (new_all n)

-- ---- new rows put one behind the other
new_more : (n : ℕ) → new_slots n ++ slot.New ∷ [] ≡ new_slots (n + 1)
new_more zero = refl
new_more (suc n) = let next : suc n + 1 ≡ suc (n + 1) = omega arith in ap (λ v. slot.New ∷ v) (new_more n) ∙ ap new_slots (sym next)

pub new_step : (before now after : List Slot) (n : ℕ) → now ≡ before ++ new_slots n → after ≡ now ++ slot.New ∷ [] → after ≡ before ++ new_slots (n + 1)
new_step before now after n h e = e ∙ ap (λ v. v ++ slot.New ∷ []) h ∙ append_assoc before (new_slots n) (slot.New ∷ []) ∙ ap (λ v. before ++ v) (new_more n)
