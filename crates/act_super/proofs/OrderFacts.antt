-- A list in order is the only one with its elements.
use Rattle.std.proofs.Common.{◌≡◌, ℕ, suc, ◌+◌, ◌<◌, ◌≤◌, refl, sym, ap, ◌∙◌, subst, arith, Bool, true, false, cond, ◌&&◌, ◌||◌, ◌==◌, nat_lt, List, [], ◌∷◌, length, map, get_or, All, count_by, IsPermutation, IsSortedBy, if◌then◌else◌}
use Rattle.std.specs.Cmp.{IsStrictWeakOrder}
use Rattle.std.specs.Ordering.{is_lt, nat_cmp, ordering_then}
use Rattle.std.proofs.lemmas.Bool.Decides.{nat_tests}
use Rattle.std.proofs.lemmas.List.Elements.{All-nil, All-cons, All-head, All-tail, All-from_get_or}
use Rattle.std.proofs.lemmas.List.Sorted.{All-permutation, IsPermutation-map, sorted_far, sum_by-IsPermutation}
use Rattle.std.proofs.lemmas.List.Sums.{sum_by-cons}
use Rattle.act_grid.specs.Cell.{Address, IsCell, id_of}
use Rattle.act_grid.proofs.IdFacts.{same_id}
use Rattle.act_super.specs.declared.chosen.Choice.{Choice}
use Rattle.act_super.specs.Choices.{cells_in, ranks_before}
use Rattle.act_super.specs.Training.{in_order, is_first, with_cell}

-- 1 where it passes
abbrev one_if : Bool → ℕ
one_if b = cond b 1 0

-- no element comes before an earlier one
abbrev pub Ordered : {X : Type 0} → (X → X → Bool) → List X → Type 0
Ordered before [] = Unit {0}
Ordered before (x ∷ xs) = All (λ y. before y x ≡ false) xs × Ordered before xs

count-cons : {X : Type 0} (p : X → Bool) (x : X) (xs : List X) → count_by p (x ∷ xs) ≡ one_if (p x) + count_by p xs
count-cons p x xs = sum_by-cons (λ y. cond (p y) 1 0) x xs

count_none : {X : Type 0} (p : X → Bool) (xs : List X) → All (λ x. p x ≡ false) xs → count_by p xs ≡ 0
count_none p [] h = refl
count_none p (x ∷ xs) h =
    let one : one_if (p x) ≡ 0 = ap one_if (All-head (λ y. p y ≡ false) x xs h) in
    omega (arith, count-cons p x xs, one, count_none p xs (All-tail (λ y. p y ≡ false) x xs h))

head_none : {X : Type 0} (p : X → Bool) (x : X) (xs : List X) → count_by p (x ∷ xs) ≡ 0 → p x ≡ false
head_none p x xs h = by (p x) (count_by p xs) (sym (count-cons p x xs) ∙ h)
  where
    by : (b : Bool) (n : ℕ) → one_if b + n ≡ 0 → b ≡ false
    by true n e = absurd (omega arith)
    by false n e = refl

module _ {X : Type 0} (before : X → X → Bool) (P : X → Type 0) (itself : (x : X) → before x x ≡ false)
    (one : (x y : X) → P x → P y → before x y ≡ false → before y x ≡ false → x ≡ y) where
  none_first : (x y : X) (xs ys : List X) → Ordered before (y ∷ ys) → ((p : X → Bool) → count_by p (x ∷ xs) ≡ count_by p (y ∷ ys)) → before x y ≡ false
  none_first x y xs ys o counts =
      head_none (λ z. before z y) x xs (counts (λ z. before z y) ∙ count_none (λ z. before z y) (y ∷ ys) (All-cons (λ z. before z y ≡ false) y ys (itself y) o.0))

  pub same_from_counts : (xs ys : List X) → All P xs → All P ys → Ordered before xs → Ordered before ys → ((p : X → Bool) → count_by p xs ≡ count_by p ys) → xs ≡ ys
  same_from_counts [] [] a b o q counts = refl
  same_from_counts [] (y ∷ ys) a b o q counts = absurd (omega (arith, counts (λ z. true), count-cons (λ z. true) y ys))
  same_from_counts (x ∷ xs) [] a b o q counts = absurd (omega (arith, counts (λ z. true), count-cons (λ z. true) x xs))
  same_from_counts (x ∷ xs) (y ∷ ys) a b o q counts =
      let e : x ≡ y = one x y (All-head P x xs a) (All-head P y ys b) (none_first x y xs ys q counts) (none_first y x ys xs o (λ p. sym (counts p))) in
      let rest : (p : X → Bool) → count_by p xs ≡ count_by p ys =
      λ p. omega (arith, counts p, count-cons p x xs, count-cons p y ys, ap (λ z. one_if (p z)) e) in
      let tail : xs ≡ ys = same_from_counts xs ys (All-tail P x xs a) (All-tail P y ys b) o.1 q.1 rest in
      ap (λ z. z ∷ xs) e ∙ ap (λ zs. y ∷ zs) tail

-- a sorted list is in order
pub ordered_from_sorted : {X : Type 0} (before : X → X → Bool) → IsStrictWeakOrder before → (xs : List X) → IsSortedBy before xs → Ordered before xs
ordered_from_sorted before o xs sorted = by xs (sorted_far before o xs sorted)
  where
    by : (xs : List _) → ((i j : ℕ) (d : _) → i ≤ j → j < length xs → before (get_or xs j d) (get_or xs i d) ≡ false) → Ordered before xs
    by [] h = tt
    by (x ∷ xs) h = (All-from_get_or (λ y. before y x ≡ false) xs x (λ i less. h 0 (suc i) x (omega arith) (omega arith)), by xs (λ i j d le less. h (suc i) (suc j) d (omega arith) (omega arith)))

-- ---- the order of training

-- by a first number that falls and a second one that rises
abbrev comes : ℕ → ℕ → ℕ → ℕ → Bool
comes a i b j = nat_lt b a || (a == b && nat_lt i j)

comes_itself : (a i : ℕ) → comes a i a i ≡ false
comes_itself a i = grind (arith, nat_tests)

comes_one_way : (a i b j : ℕ) → comes a i b j ≡ true → comes b j a i ≡ false
comes_one_way a i b j h = grind (arith, nat_tests)

comes_chain : (a i b j c k : ℕ) → comes a i b j ≡ false → comes b j c k ≡ false → comes a i c k ≡ false
comes_chain a i b j c k h l = grind (arith, nat_tests)

comes_neither : (a i b j : ℕ) → comes a i b j ≡ false → comes b j a i ≡ false → i ≡ j
comes_neither a i b j h l = grind (arith, nat_tests)

pub ranks_weakly : IsStrictWeakOrder ranks_before
ranks_weakly = record {
  one_way = λ x y h. comes_one_way x.cost (id_of x.cell) y.cost (id_of y.cell) h;
  chain = λ x y z h l. comes_chain x.cost (id_of x.cell) y.cost (id_of y.cell) z.cost (id_of z.cell) h l;
}

module _ (cost : Address → ℕ) where
  count_with : (p : Address → Bool) (c : Address) (cells : List Address) → count_by p (with_cell cost c cells) ≡ count_by p (c ∷ cells)
  count_with p c [] = refl
  count_with p c (d ∷ cells) = by (is_first cost c d) (count_with p c cells)
    where
      by : (b : Bool) → count_by p (with_cell cost c cells) ≡ count_by p (c ∷ cells) → count_by p (if b then c ∷ d ∷ cells else d ∷ with_cell cost c cells) ≡ count_by p (c ∷ d ∷ cells)
      by true h = refl
      by false h = omega (arith, count-cons p d (with_cell cost c cells), h, count-cons p c cells, count-cons p c (d ∷ cells), count-cons p d cells)

  count_order : (p : Address → Bool) (cells : List Address) → count_by p (in_order cost cells) ≡ count_by p cells
  count_order p [] = refl
  count_order p (c ∷ cells) = omega (arith, count_with p c (in_order cost cells), count-cons p c (in_order cost cells), count_order p cells, count-cons p c cells)

  all_with : (P : Address → Type 0) (c : Address) (cells : List Address) → P c → All P cells → All P (with_cell cost c cells)
  all_with P c [] one all = All-cons P c [] one all
  all_with P c (d ∷ cells) one all = by (is_first cost c d) (all_with P c cells one (All-tail P d cells all))
    where
      by : (b : Bool) → All P (with_cell cost c cells) → All P (if b then c ∷ d ∷ cells else d ∷ with_cell cost c cells)
      by true h = All-cons P c (d ∷ cells) one all
      by false h = All-cons P d (with_cell cost c cells) (All-head P d cells all) h

  all_order : (P : Address → Type 0) (cells : List Address) → All P cells → All P (in_order cost cells)
  all_order P [] all = all
  all_order P (c ∷ cells) all = all_with P c (in_order cost cells) (All-head P c cells all) (all_order P cells (All-tail P c cells all))

  -- what doesn't come before d doesn't come before what comes before d
  all_behind : (c d : Address) (cells : List Address) → is_first cost c d ≡ true → All (λ e. is_first cost e d ≡ false) cells → All (λ e. is_first cost e c ≡ false) cells
  all_behind c d [] h all = All-nil (λ e. is_first cost e c ≡ false)
  all_behind c d (e ∷ cells) h all =
      All-cons (λ e. is_first cost e c ≡ false) e cells
      (comes_chain (cost e) (id_of e) (cost d) (id_of d) (cost c) (id_of c) (All-head (λ e. is_first cost e d ≡ false) e cells all) (comes_one_way (cost c) (id_of c) (cost d) (id_of d) h))
      (all_behind c d cells h (All-tail (λ e. is_first cost e d ≡ false) e cells all))

  ordered_with : (c : Address) (cells : List Address) → Ordered (is_first cost) cells → Ordered (is_first cost) (with_cell cost c cells)
  ordered_with c [] o = (All-nil (λ e. is_first cost e c ≡ false), tt)
  ordered_with c (d ∷ cells) o = by (is_first cost c d) refl (ordered_with c cells o.1)
    where
      by : (b : Bool) → is_first cost c d ≡ b → Ordered (is_first cost) (with_cell cost c cells) → Ordered (is_first cost) (if b then c ∷ d ∷ cells else d ∷ with_cell cost c cells)
      by true h r = (All-cons (λ e. is_first cost e c ≡ false) d cells (comes_one_way (cost c) (id_of c) (cost d) (id_of d) h) (all_behind c d cells h o.0), o)
      by false h r = (all_with (λ e. is_first cost e d ≡ false) c cells h o.0, r)

  ordered : (cells : List Address) → Ordered (is_first cost) (in_order cost cells)
  ordered [] = tt
  ordered (c ∷ cells) = ordered_with c (in_order cost cells) (ordered cells)

  is_one : (c d : Address) → IsCell c → IsCell d → is_first cost c d ≡ false → is_first cost d c ≡ false → c ≡ d
  is_one c d a b h l = same_id c d a b (comes_neither (cost c) (id_of c) (cost d) (id_of d) h l)

  -- choices with their costs
  abbrev pub IsCosted : Choice → Type 0
  IsCosted choice = choice.cost ≡ cost choice.cell

  costed : (cells : List Address) → All IsCosted (map (λ c. record { cost = cost c; cell = c }) cells)
  costed [] = All-nil IsCosted
  costed (c ∷ cells) = All-cons IsCosted _ (map (λ c. record { cost = cost c; cell = c }) cells) refl (costed cells)

  cells_back : (cells : List Address) → cells_in (map (λ c. record { cost = cost c; cell = c }) cells) ≡ cells
  cells_back [] = refl
  cells_back (c ∷ cells) = ap (λ r. c ∷ r) (cells_back cells)

  first_from_rank : (a b : Choice) → IsCosted a → IsCosted b → ranks_before a b ≡ false → is_first cost a.cell b.cell ≡ false
  first_from_rank a b e f h =
      ap (λ n. comes n (id_of a.cell) (cost b.cell) (id_of b.cell)) (sym e) ∙ ap (λ n. comes a.cost (id_of a.cell) n (id_of b.cell)) (sym f) ∙ h

  all_cells : (a : Choice) (choices : List Choice) → IsCosted a → All IsCosted choices → All (λ b. ranks_before b a ≡ false) choices → All (λ c. is_first cost c a.cell ≡ false) (cells_in choices)
  all_cells a [] one all h = All-nil (λ c. is_first cost c a.cell ≡ false)
  all_cells a (b ∷ choices) one all h =
      All-cons (λ c. is_first cost c a.cell ≡ false) b.cell (cells_in choices)
      (first_from_rank b a (All-head IsCosted b choices all) one (All-head (λ x. ranks_before x a ≡ false) b choices h))
      (all_cells a choices one (All-tail IsCosted b choices all) (All-tail (λ x. ranks_before x a ≡ false) b choices h))

  ordered_cells : (choices : List Choice) → All IsCosted choices → Ordered ranks_before choices → Ordered (is_first cost) (cells_in choices)
  ordered_cells [] all o = tt
  ordered_cells (a ∷ choices) all o =
      let one = All-head IsCosted a choices all in
      let rest = All-tail IsCosted a choices all in
      (all_cells a choices one rest o.0, ordered_cells choices rest o.1)

  -- sorted choices are the cells in order
  pub ranked_cells : (cells : List Address) (found ranked : List Choice) → found ≡ map (λ c. record { cost = cost c; cell = c }) cells → IsPermutation found ranked → IsSortedBy ranks_before ranked
      → All IsCell cells → cells_in ranked ≡ in_order cost cells
  ranked_cells cells found ranked e moved sorted all =
      let back : cells_in found ≡ cells = ap cells_in e ∙ cells_back cells in
      let moved_cells : IsPermutation cells (cells_in ranked) = subst (λ xs. IsPermutation xs (cells_in ranked)) back (IsPermutation-map (λ (x : Choice). x.cell) found ranked moved) in
      let costs : All IsCosted ranked = All-permutation IsCosted found ranked moved (subst (All IsCosted) (sym e) (costed cells)) in
      same_from_counts (is_first cost) IsCell (λ c. comes_itself (cost c) (id_of c)) is_one
      (cells_in ranked) (in_order cost cells)
      (All-permutation IsCell cells (cells_in ranked) moved_cells all)
      (all_order IsCell cells all)
      (ordered_cells ranked costs (ordered_from_sorted ranks_before ranks_weakly ranked sorted))
      (ordered cells)
      (λ p. sum_by-IsPermutation (λ c. one_if (p c)) cells (cells_in ranked) moved_cells ∙ sym (count_order p cells))

ranked_by_key : (a i b j : ℕ) → is_lt (ordering_then (nat_cmp b a) (nat_cmp i j)) ≡ (nat_lt b a || (a == b && nat_lt i j))
ranked_by_key a i b j = grind (arith, nat_tests)

abbrev ranks_by_key : Choice → Choice → Bool
ranks_by_key a b = is_lt (ordering_then (nat_cmp b.cost a.cost) (nat_cmp (id_of a.cell) (id_of b.cell)))

-- what a sort by the cost, the other way round, and then the id tells
pub ranked_from_keys : (xs : List Choice) → IsSortedBy ranks_by_key xs → IsSortedBy ranks_before xs
ranked_from_keys xs h k d low high =
    let a = get_or xs (k + 1) d in
    let b = get_or xs k d in
    sym (ranked_by_key a.cost (id_of a.cell) b.cost (id_of b.cell)) ∙ h k d low high
