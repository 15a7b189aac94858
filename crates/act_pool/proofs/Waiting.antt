-- Lists of retired rows: joined, parted by a bound, and with one row more. Some are for the layer above.
use Rattle.std.proofs.Common.{◌≡◌, ℕ, zero, suc, ◌+◌, ◌<◌, ◌≤◌, List, [], ◌∷◌, ◌++◌, length, get_or, take, drop, append_assoc, Bool, true, false, cond, sym, refl, ap, ◌∙◌, subst, inl, inr, arith}
use Rattle.std.proofs.lemmas.Bool.{leb-true, leb-false, le-leb, lt-leb, cases_Bool}
use mathlib.Core.Logic.{dite}
use native.Mathlib.Decide.{ℕ_discrete}
use lib.Dec.{leb}
use Rattle.act_base.specs.Counting.{times}
use Rattle.act_base.proofs.Times.{times_here, times_else, times_there}
use Rattle.act_pool.specs.Retired.{rows_of, versions_of, Each, IsInOrder, placed, later, freed}

pub rows_of-append : (xs ys : List (ℕ × ℕ)) → rows_of (xs ++ ys) ≡ rows_of xs ++ rows_of ys
rows_of-append [] ys = refl
rows_of-append (x ∷ xs) ys = ap (λ z. x.0 ∷ z) (rows_of-append xs ys)

pub versions_of-append : (xs ys : List (ℕ × ℕ)) → versions_of (xs ++ ys) ≡ versions_of xs ++ versions_of ys
versions_of-append [] ys = refl
versions_of-append (x ∷ xs) ys = ap (λ z. x.1 ∷ z) (versions_of-append xs ys)

pub length-rows_of : (xs : List (ℕ × ℕ)) → length (rows_of xs) ≡ length xs
length-rows_of [] = refl
length-rows_of (x ∷ xs) = ap suc (length-rows_of xs)

pub length-versions_of : (xs : List (ℕ × ℕ)) → length (versions_of xs) ≡ length xs
length-versions_of [] = refl
length-versions_of (x ∷ xs) = ap suc (length-versions_of xs)

pub times_parted : (b r : ℕ) (xs : List (ℕ × ℕ)) → times (rows_of (later b xs)) r + times (freed b xs) r ≡ times (rows_of xs) r
times_parted b r [] = refl
times_parted b r (x ∷ xs) = let h = times_parted b r xs in
    elim (leb x.1 b) as (λ t. times (rows_of (cond t (later b xs) (x ∷ later b xs))) r + times (cond t (x.0 ∷ freed b xs) (freed b xs)) r ≡ times (rows_of (x ∷ xs)) r) [ true ↦ omega arith | false ↦ omega arith ]

pub length_parted : (b : ℕ) (xs : List (ℕ × ℕ)) → length (later b xs) + length (freed b xs) ≡ length xs
length_parted b [] = refl
length_parted b (x ∷ xs) = let h = length_parted b xs in
    elim (leb x.1 b) as (λ t. length (cond t (later b xs) (x ∷ later b xs)) + length (cond t (x.0 ∷ freed b xs) (freed b xs)) ≡ length (x ∷ xs)) [ true ↦ omega arith | false ↦ omega arith ]

pub later_times : (b w : ℕ) (xs : List (ℕ × ℕ)) → times (versions_of (later b xs)) w ≤ times (versions_of xs) w
later_times b w [] = omega arith
later_times b w (x ∷ xs) = let h = later_times b w xs in
    elim (leb x.1 b) as (λ t. times (versions_of (cond t (later b xs) (x ∷ later b xs))) w ≤ times (versions_of (x ∷ xs)) w) [ true ↦ omega arith | false ↦ omega arith ]

-- what waits, waits for more than the bound
pub later_above : (b w : ℕ) (xs : List (ℕ × ℕ)) → 0 < times (versions_of (later b xs)) w → b < w
later_above b w [] h = absurd (omega arith)
later_above b w (x ∷ xs) h = elim (cases_Bool (leb x.1 b)) [
  | inl e ↦ later_above b w xs (subst (λ (t : Bool). 0 < times (versions_of (cond t (later b xs) (x ∷ later b xs))) w) e h)
  | inr e ↦ let g : 0 < times (x.1 ∷ versions_of (later b xs)) w = subst (λ (t : Bool). 0 < times (versions_of (cond t (later b xs) (x ∷ later b xs))) w) e h in
      dite (ℕ_discrete x.1 w) (λ q. let l = leb-false x.1 b e in omega arith) (λ ne. let q = times_else x.1 w (versions_of (later b xs)) ne in later_above b w xs (omega arith))
]

-- what holds of each pair
module _ (P : ℕ → ℕ → Type 0) where
  pub each-append : (xs ys : List (ℕ × ℕ)) → Each P xs → Each P ys → Each P (xs ++ ys)
  each-append [] ys a b = b
  each-append (x ∷ xs) ys a b = (a.0, each-append xs ys a.1 b)

  pub each_later : (b : ℕ) (xs : List (ℕ × ℕ)) → Each P xs → Each P (later b xs)
  each_later b [] a = tt
  each_later b (x ∷ xs) a = let h = each_later b xs a.1 in elim (leb x.1 b) as (λ t. Each P (cond t (later b xs) (x ∷ later b xs))) [ true ↦ h | false ↦ (a.0, h) ]

  pub each_freed : (b r : ℕ) (xs : List (ℕ × ℕ)) → Each P xs → 0 < times (freed b xs) r → (w : ℕ) × (w ≤ b) × P r w
  each_freed b r [] a h = absurd (omega arith)
  each_freed b r (x ∷ xs) a h = elim (cases_Bool (leb x.1 b)) [
    | inl e ↦ let g : 0 < times (x.0 ∷ freed b xs) r = subst (λ (t : Bool). 0 < times (cond t (x.0 ∷ freed b xs) (freed b xs)) r) e h in
        dite (ℕ_discrete x.0 r) (λ q. (x.1, leb-true x.1 b e, subst (λ z. P z x.1) q a.0)) (λ ne. each_freed b r xs a.1 (let q = times_else x.0 r (freed b xs) ne in omega arith))
    | inr e ↦ each_freed b r xs a.1 (subst (λ (t : Bool). 0 < times (cond t (x.0 ∷ freed b xs) (freed b xs)) r) e h)
  ]

pub each_map : (P Q : ℕ → ℕ → Type 0) → ((r w : ℕ) → P r w → Q r w) → (xs : List (ℕ × ℕ)) → Each P xs → Each Q xs
each_map P Q f [] a = tt
each_map P Q f (x ∷ xs) a = (f x.0 x.1 a.0, each_map P Q f xs a.1)

-- one row more, wherever it is placed
pub times_placed : (r w : ℕ) (xs : List (ℕ × ℕ)) (y : ℕ) → times (rows_of (placed r w xs)) y ≡ times (r ∷ []) y + times (rows_of xs) y
times_placed r w [] y = omega arith
times_placed r w (x ∷ xs) y = let h = times_placed r w xs y in
    elim (leb x.1 w) as (λ t. times (rows_of (cond t (x ∷ placed r w xs) ((r, w) ∷ x ∷ xs))) y ≡ times (r ∷ []) y + times (rows_of (x ∷ xs)) y) [ true ↦ omega arith | false ↦ omega arith ]

pub versions_placed : (r w : ℕ) (xs : List (ℕ × ℕ)) (y : ℕ) → times (versions_of (placed r w xs)) y ≡ times (w ∷ []) y + times (versions_of xs) y
versions_placed r w [] y = omega arith
versions_placed r w (x ∷ xs) y = let h = versions_placed r w xs y in
    elim (leb x.1 w) as (λ t. times (versions_of (cond t (x ∷ placed r w xs) ((r, w) ∷ x ∷ xs))) y ≡ times (w ∷ []) y + times (versions_of (x ∷ xs)) y) [ true ↦ omega arith | false ↦ omega arith ]

pub each_placed : (P : ℕ → ℕ → Type 0) (r w : ℕ) (xs : List (ℕ × ℕ)) → P r w → Each P xs → Each P (placed r w xs)
each_placed P r w [] p a = (p, a)
each_placed P r w (x ∷ xs) p a = let h = each_placed P r w xs p a.1 in elim (leb x.1 w) as (λ t. Each P (cond t (x ∷ placed r w xs) ((r, w) ∷ x ∷ xs))) [ true ↦ (a.0, h) | false ↦ (p, a) ]

-- where no row waits for a later version, it stands last
pub placed_last : (r w : ℕ) (xs : List (ℕ × ℕ)) → Each (λ _ v. v ≤ w) xs → placed r w xs ≡ xs ++ (r, w) ∷ []
placed_last r w [] a = refl
placed_last r w (x ∷ xs) a = ap (λ t. cond t (x ∷ placed r w xs) ((r, w) ∷ x ∷ xs)) (le-leb x.1 w a.0) ∙ ap (λ z. x ∷ z) (placed_last r w xs a.1)

-- it stands between those that wait for no later version and those that wait for a later one
pub placed_between : (r w : ℕ) (xs ys : List (ℕ × ℕ)) → Each (λ _ v. v ≤ w) xs → Each (λ _ v. w < v) ys → placed r w (xs ++ ys) ≡ xs ++ (r, w) ∷ ys
placed_between r w [] [] a b = refl
placed_between r w [] (y ∷ ys) a b = ap (λ t. cond t (y ∷ placed r w ys) ((r, w) ∷ y ∷ ys)) (lt-leb y.1 w b.0)
placed_between r w (x ∷ xs) ys a b = ap (λ t. cond t (x ∷ placed r w (xs ++ ys)) ((r, w) ∷ x ∷ (xs ++ ys))) (le-leb x.1 w a.0) ∙ ap (λ z. x ∷ z) (placed_between r w xs ys a.1 b)

-- lists in order
pub ordered_placed : (r w : ℕ) (xs : List (ℕ × ℕ)) → IsInOrder xs → IsInOrder (placed r w xs)
ordered_placed r w [] o = (tt, tt)
ordered_placed r w (x ∷ xs) o = elim (cases_Bool (leb x.1 w)) [
  | inl e ↦ subst (λ (t : Bool). IsInOrder (cond t (x ∷ placed r w xs) ((r, w) ∷ x ∷ xs))) (sym e) (each_placed (λ _ v. x.1 ≤ v) r w xs (leb-true x.1 w e) o.0, ordered_placed r w xs o.1)
  | inr e ↦ let above : w < x.1 = leb-false x.1 w e in
      subst (λ (t : Bool). IsInOrder (cond t (x ∷ placed r w xs) ((r, w) ∷ x ∷ xs))) (sym e) ((omega arith, each_map (λ _ v. x.1 ≤ v) (λ _ v. w ≤ v) (λ r' v h. omega arith) xs o.0), o)
]

pub ordered_later : (b : ℕ) (xs : List (ℕ × ℕ)) → IsInOrder xs → IsInOrder (later b xs)
ordered_later b [] o = tt
ordered_later b (x ∷ xs) o = let h = ordered_later b xs o.1 in elim (leb x.1 b) as (λ t. IsInOrder (cond t (later b xs) (x ∷ later b xs))) [ true ↦ h | false ↦ (each_later (λ _ v. x.1 ≤ v) b xs o.0, h) ]

-- where all wait for a version above the bound, none is freed
pub none_freed : (b : ℕ) (xs : List (ℕ × ℕ)) → Each (λ _ v. b < v) xs → (freed b xs ≡ []) × (later b xs ≡ xs)
none_freed b [] a = (refl, refl)
none_freed b (x ∷ xs) a =
    let h = none_freed b xs a.1 in
    let no = lt-leb x.1 b a.0 in
    (ap (λ t. cond t (x.0 ∷ freed b xs) (freed b xs)) no ∙ h.0, ap (λ t. cond t (later b xs) (x ∷ later b xs)) no ∙ ap (λ z. x ∷ z) h.1)

-- where the first waits for a version above the bound, so do all
pub head_above : (b : ℕ) (x : ℕ × ℕ) (xs : List (ℕ × ℕ)) → IsInOrder (x ∷ xs) → b < x.1 → Each (λ _ v. b < v) (x ∷ xs)
head_above b x xs o h = (h, each_map (λ _ v. x.1 ≤ v) (λ _ v. b < v) (λ r v g. omega arith) xs o.0)

-- the first row is freed
module _ (b : ℕ) (free : List ℕ) (l : List (ℕ × ℕ)) (x : ℕ × ℕ) (some_row : 0 < length l) (first : x ≡ get_or l 0 x) where
  pub front_is : l ≡ x ∷ drop 1 l
  front_is = go l some_row first
    where
      go : (l : List (ℕ × ℕ)) → 0 < length l → x ≡ get_or l 0 x → l ≡ x ∷ drop 1 l
      go [] h e = absurd (omega arith)
      go (y ∷ ys) h e = ap (λ z. z ∷ ys) (sym e)

  pub freed_front : x.1 ≤ b → (free ++ x.0 ∷ []) ++ freed b (drop 1 l) ≡ free ++ freed b l
  freed_front low = append_assoc free (x.0 ∷ []) (freed b (drop 1 l)) ∙ ap (λ z. free ++ z) (sym (ap (freed b) front_is ∙ ap (λ (t : Bool). cond t (x.0 ∷ freed b (drop 1 l)) (freed b (drop 1 l))) (le-leb x.1 b low)))

  pub later_front : x.1 ≤ b → later b (drop 1 l) ≡ later b l
  later_front low = sym (ap (later b) front_is ∙ ap (λ (t : Bool). cond t (later b (drop 1 l)) (x ∷ later b (drop 1 l))) (le-leb x.1 b low))

  -- where it waits for a version above the bound, nothing is freed any more
  pub none_front : b < x.1 → IsInOrder l → (freed b l ≡ []) × (later b l ≡ l)
  none_front high o = none_freed b l (subst (Each (λ _ v. b < v)) (sym front_is) (head_above b x (drop 1 l) (subst IsInOrder front_is o) high))

-- what holds of each holds of the one at a place
each_at : (P : ℕ → ℕ → Type 0) (l : List (ℕ × ℕ)) (n : ℕ) (x : ℕ × ℕ) → Each P l → n < length l → x ≡ get_or l n x → P x.0 x.1
each_at P [] n x a h e = absurd (omega arith)
each_at P (y ∷ ys) zero x a h e = subst (λ (z : ℕ × ℕ). P z.0 z.1) (sym e) a.0
each_at P (y ∷ ys) (suc n) x a h e = each_at P ys n x a.1 (omega arith) e

-- where the one at a place waits for no later version, so do those before it
pub each_before : (w : ℕ) (l : List (ℕ × ℕ)) (n : ℕ) (x : ℕ × ℕ) → IsInOrder l → n < length l → x ≡ get_or l n x → x.1 ≤ w → Each (λ _ v. v ≤ w) (take (suc n) l)
each_before w [] n x o h e low = absurd (omega arith)
each_before w (y ∷ ys) zero x o h e low = (subst (λ (z : ℕ × ℕ). z.1 ≤ w) e low, tt)
each_before w (y ∷ ys) (suc n) x o h e low = (let a : y.1 ≤ x.1 = each_at (λ _ v. y.1 ≤ v) ys n x o.0 (omega arith) e in omega arith, each_before w ys n x o.1 (omega arith) e low)

-- the one at a place, and those behind it
pub each_behind : (P : ℕ → ℕ → Type 0) (l : List (ℕ × ℕ)) (n : ℕ) (x : ℕ × ℕ) → n < length l → x ≡ get_or l n x → P x.0 x.1 → Each P (drop (suc n) l) → Each P (drop n l)
each_behind P [] n x h e p a = absurd (omega arith)
each_behind P (y ∷ ys) zero x h e p a = (subst (λ (z : ℕ × ℕ). P z.0 z.1) e p, a)
each_behind P (y ∷ ys) (suc n) x h e p a = each_behind P ys n x (omega arith) e p a

-- where each version that occurs is at most v, no row waits for a later one
pub each_versions : (v : ℕ) (xs : List (ℕ × ℕ)) → ((w : ℕ) → 0 < times (versions_of xs) w → w ≤ v) → Each (λ _ w. w ≤ v) xs
each_versions v [] all = tt
each_versions v (x ∷ xs) all = (all x.1 (let h = times_here x.1 (versions_of xs) in omega arith), each_versions v xs (λ w h. all w (let t = times_there x.1 w (versions_of xs) in omega arith)))
