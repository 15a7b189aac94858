-- The lists of a node in its list rows.
use Rattle.std.proofs.Common.{◌≡◌, ◌≢◌, ℕ, zero, suc, ◌+◌, ◌-◌, ◌/◌, ◌<◌, ◌≤◌, ◌⊎◌, inl, inr, Bool, true, false, cond, refl, sym, ap, ◌∙◌, subst, arith, List, [], ◌∷◌, ◌++◌, nat_lt, length, get_or}
use Rattle.std.proofs.lemmas.List.{length-append, length-map, get_or_past, get_or_append_left, get_or-append-add, get_or_push}
use Rattle.std.proofs.lemmas.Bool.Decides.{nat_tests}
use Rattle.act_grid.specs.Cell.{Address}
use Rattle.act_entry.specs.declared.reference.Ref.{Ref}
use Rattle.act_super.specs.declared.entry.Zone.{Zone}
use Rattle.act_super.specs.Grounds.{same_cell}
use Rattle.act_super.specs.Nodes.{Start, list_start, pack_of}
use Rattle.act_super.specs.Packs.{list_words}
use Rattle.act_super.specs.Sizes.{refs_of}
use Rattle.act_probe.proofs.NodeFacts.{Among}
use Rattle.act_image.specs.declared.lists.Fill.{Fill}
use Rattle.act_image.specs.declared.lists.ListWord.{ListWord}
use Rattle.act_image.specs.declared.lists.ListWord.TheVariants as list
use Rattle.act_image.specs.Plans.{behind_last, filled, pairs_in, put_list, put_lists, refs_on, slot_ref, start_at, words_in}
use Rattle.act_image.proofs.FillFacts.{other_is, same_is, same_self}

-- ---- the words of a list
pairs_length : (refs : List Ref) → length (pairs_in refs) ≡ (length refs + 1) / 2
pairs_length [] = refl
pairs_length (a ∷ []) = refl
pairs_length (a ∷ (b ∷ refs)) = omega (arith, pairs_length refs)

pub words_length : (refs : List Ref) → length (words_in refs) ≡ list_words (length refs)
words_length refs = omega (arith, pairs_length refs)

pub refs_length : (zones : List Zone) (leaf : Address) → length (refs_on zones leaf) ≡ length (refs_of zones leaf)
refs_length zones leaf = length-map (refs_of zones leaf) (slot_ref zones)

-- ---- rows with more words behind the last ones
behind_length : (rows : List (List ListWord)) (words : List ListWord) → length (behind_last rows words) ≡ length rows
behind_length [] words = refl
behind_length (row ∷ []) words = refl
behind_length (row ∷ (next ∷ rows)) words = ap suc (behind_length (next ∷ rows) words)

behind_old : (rows : List (List ListWord)) (words : List ListWord) (r : ℕ) → suc r ≢ length rows → get_or (behind_last rows words) r [] ≡ get_or rows r []
behind_old [] words r ne = refl
behind_old (row ∷ []) words zero ne = absurd (ne refl)
behind_old (row ∷ []) words (suc r) ne = refl
behind_old (row ∷ (next ∷ rows)) words zero ne = refl
behind_old (row ∷ (next ∷ rows)) words (suc r) ne = behind_old (next ∷ rows) words r (λ e. ne (ap suc e))

behind_new : (rows : List (List ListWord)) (words : List ListWord) (r : ℕ) → suc r ≡ length rows → get_or (behind_last rows words) r [] ≡ get_or rows r [] ++ words
behind_new [] words r e = absurd (omega (arith, e))
behind_new (row ∷ []) words zero e = refl
behind_new (row ∷ []) words (suc r) e = absurd (omega (arith, e))
behind_new (row ∷ (next ∷ rows)) words zero e = absurd (omega (arith, e))
behind_new (row ∷ (next ∷ rows)) words (suc r) e = behind_new (next ∷ rows) words r (omega (arith, e))

push_old : (rows : List (List ListWord)) (words : List ListWord) (r : ℕ) → r ≢ length rows → get_or (rows ++ words ∷ []) r [] ≡ get_or rows r []
push_old [] words zero ne = absurd (ne refl)
push_old [] words (suc r) ne = refl
push_old (row ∷ rows) words zero ne = refl
push_old (row ∷ rows) words (suc r) ne = push_old rows words r (λ e. ne (ap suc e))

push_length : (rows : List (List ListWord)) (words : List ListWord) → length (rows ++ words ∷ []) ≡ length rows + 1
push_length rows words = length-append rows (words ∷ [])

-- ---- how the rows are filled
pub record IsFilled (s : Fill) (rows : List (List ListWord)) : Type 0 where
  pub count : length rows ≡ s.rows
  pub last : (r : ℕ) → suc r ≡ length rows → length (get_or rows r []) ≡ s.at
  pub none : length rows ≡ 0 → s.at ≡ 256
  pub short : s.at ≤ 256

-- the words of a list went behind those of a row
pub record Put (s : Fill) (n : ℕ) (rows after : List (List ListWord)) (words : List ListWord) (row place : ℕ) : Type 0 where
  pub within : row < length after
  pub at : get_or after row [] ≡ get_or rows row [] ++ words
  pub place_is : length (get_or rows row []) ≡ place
  pub others : (r : ℕ) → r ≢ row → get_or after r [] ≡ get_or rows r []
  pub old : (r : ℕ) → r ≢ row → r < length after → r < length rows
  pub more : length rows ≤ length after
  pub fits : place + list_words n ≤ 256
  pub filled : IsFilled (filled s n) after

many_is : (n : ℕ) → 2 < n → nat_lt n 3 ≡ false
many_is n h = grind (arith, nat_tests)

few_is : (n : ℕ) → n ≤ 2 → nat_lt n 3 ≡ true
few_is n h = grind (arith, nat_tests)

module _ (s : Fill) (n : ℕ) (rows : List (List ListWord)) (words : List ListWord) (h : IsFilled s rows) (many : 2 < n) (few : n ≤ 510) (long : length words ≡ list_words n) where
  lt_false : (a b : ℕ) → nat_lt a b ≡ false → b ≤ a
  lt_false a b e = grind (arith, nat_tests)

  some_row : (s.at + list_words n) ≤ 256 → 0 < s.rows
  some_row fits = by (sides s.rows)
    where
      sides : (m : ℕ) → (m ≡ 0) ⊎ (0 < m)
      sides m = grind arith

      by : (s.rows ≡ 0) ⊎ (0 < s.rows) → 0 < s.rows
      by (inl e) = let full : s.at ≡ 256 = h.none (h.count ∙ e) in absurd (omega (arith, full, fits))
      by (inr e) = e

  filled_new : nat_lt 256 (s.at + list_words n) ≡ true → filled s n ≡ record { rows = s.rows + 1; at = list_words n }
  filled_new full = let none = many_is n many in rw (none, full) refl

  filled_behind : nat_lt 256 (s.at + list_words n) ≡ false → filled s n ≡ record { rows = s.rows; at = s.at + list_words n }
  filled_behind full = let none = many_is n many in rw (none, full) refl

  put_new : nat_lt 256 (s.at + list_words n) ≡ true → Put s n rows (rows ++ words ∷ []) words s.rows 0
  put_new full =
      let pushed = push_length rows words in
      let past : get_or rows s.rows [] ≡ [] = get_or_past rows s.rows [] (omega (arith, h.count)) in
      let new : get_or (rows ++ words ∷ []) s.rows [] ≡ words = get_or_push rows words [] s.rows h.count in
      record {
        within = omega (arith, pushed, h.count);
        at = new ∙ ap (λ v. v ++ words) (sym past);
        place_is = ap length past;
        others = λ r ne. push_old rows words r (λ e. ne (e ∙ h.count));
        old = λ r ne low. below r ne (omega (arith, low, pushed, h.count));
        more = omega (arith, pushed);
        fits = omega (arith, few);
        filled = subst (λ v. IsFilled v (rows ++ words ∷ [])) (sym (filled_new full)) (record {
          count = omega (arith, pushed, h.count);
          last = λ r e. let is : r ≡ s.rows = omega (arith, e, pushed, h.count) in ap (λ k. length (get_or (rows ++ words ∷ []) k [])) is ∙ ap length new ∙ long;
          none = λ e. absurd (omega (arith, e, pushed));
          short = omega (arith, few);
        });
      }
    where
      below : (r : ℕ) → r ≢ s.rows → r < s.rows + 1 → r < length rows
      below r ne low = less r s.rows (length rows) ne low h.count
        where
          less : (r m n : ℕ) → r ≢ m → r < m + 1 → n ≡ m → r < n
          less r m n ne low e = grind arith

  put_behind : nat_lt 256 (s.at + list_words n) ≡ false → Put s n rows (behind_last rows words) words (s.rows - 1) s.at
  put_behind full =
      let fits : s.at + list_words n ≤ 256 = lt_false 256 (s.at + list_words n) full in
      let some = some_row fits in
      let same = behind_length rows words in
      let last : suc (s.rows - 1) ≡ length rows = omega (arith, some, h.count) in
      let new = behind_new rows words (s.rows - 1) last in
      record {
        within = omega (arith, same, last);
        at = new;
        place_is = h.last (s.rows - 1) last;
        others = λ r ne. behind_old rows words r (λ e. ne (omega (arith, e, last)));
        old = λ r ne low. omega (arith, low, same);
        more = omega (arith, same);
        fits = fits;
        filled = subst (λ v. IsFilled v (behind_last rows words)) (sym (filled_behind full)) (record {
          count = same ∙ h.count;
          last = λ r e. (
              let is : r ≡ s.rows - 1 = omega (arith, e, same, last) in
              let both = length-append (get_or rows (s.rows - 1) []) words in
              let old = h.last (s.rows - 1) last in
              let there : length (get_or (behind_last rows words) r []) ≡ length (get_or rows (s.rows - 1) [] ++ words) = ap (λ k. length (get_or (behind_last rows words) k [])) is ∙ ap length new in
              omega (arith, there, both, old, long));
          none = λ e. absurd (omega (arith, e, same, last));
          short = fits;
        });
      }

  put_list_is : (refs : List Ref) → words ≡ words_in refs → Put s n rows (put_list s n rows refs) words (start_at s n).row (start_at s n).place
  put_list_is refs is = by (nat_lt n 3) (nat_lt 256 (s.at + list_words n)) (many_is n many) refl
    where
      by : (a b : Bool) → a ≡ false → nat_lt 256 (s.at + list_words n) ≡ b
          → Put s n rows (cond a rows (cond b (rows ++ words_in refs ∷ []) (behind_last rows (words_in refs)))) words
          (cond {A = Start} b (record { row = s.rows; place = 0 }) (record { row = s.rows - 1; place = s.at })).row
          (cond {A = Start} b (record { row = s.rows; place = 0 }) (record { row = s.rows - 1; place = s.at })).place
      by true b e f = absurd (cc)
      by false true e f = subst (λ w. Put s n rows (rows ++ w ∷ []) words s.rows 0) is (put_new f)
      by false false e f = subst (λ w. Put s n rows (behind_last rows w) words (s.rows - 1) s.at) is (put_behind f)

-- ---- words that stay
pub record Kept (rows after : List (List ListWord)) : Type 0 where
  pub more : length rows ≤ length after
  pub longer : (r : ℕ) → length (get_or rows r []) ≤ length (get_or after r [])
  pub same : (r j : ℕ) → j < length (get_or rows r []) → get_or (get_or after r []) j (list.Count 0) ≡ get_or (get_or rows r []) j (list.Count 0)

-- the words of a list stand in a row from a place on
pub record StandsAt (rows : List (List ListWord)) (n : ℕ) (words : List ListWord) (row place : ℕ) : Type 0 where
  pub within : row < length rows
  pub each : (j : ℕ) → j < length words → get_or (get_or rows row []) (place + j) (list.Count 0) ≡ get_or words j (list.Count 0)
  pub end : place + list_words n ≤ length (get_or rows row [])
  pub fits : place + list_words n ≤ 256

kept_self : (rows : List (List ListWord)) → Kept rows rows
kept_self rows = record { more = omega arith; longer = λ r. omega arith; same = λ r j h. refl }

kept_more : (a b d : List (List ListWord)) → Kept a b → Kept b d → Kept a d
kept_more a b d h k = record {
  more = omega (arith, h.more, k.more);
  longer = λ r. omega (arith, h.longer r, k.longer r);
  same = λ r j low. k.same r j (omega (arith, low, h.longer r)) ∙ h.same r j low;
}

stands_kept : (rows after : List (List ListWord)) (n : ℕ) (words : List ListWord) (row place : ℕ) → length words ≡ list_words n → Kept rows after → StandsAt rows n words row place → StandsAt after n words row place
stands_kept rows after n words row place long k h = record {
  within = omega (arith, h.within, k.more);
  each = λ j low. k.same row (place + j) (omega (arith, low, h.end, long)) ∙ h.each j low;
  end = omega (arith, h.end, k.longer row);
  fits = h.fits;
}

module _ (s : Fill) (n : ℕ) (rows after : List (List ListWord)) (words : List ListWord) (row place : ℕ) (long : length words ≡ list_words n) (p : Put s n rows after words row place) where
  same_or : (a b : ℕ) → (a ≡ b) ⊎ (a ≢ b)
  same_or a b = mathlib.Core.Logic.dite (native.Mathlib.Decide.ℕ_discrete a b) (λ e. inl e) (λ ne. inr ne)

  both_long : length (get_or after row []) ≡ length (get_or rows row []) + length words
  both_long = ap length p.at ∙ length-append (get_or rows row []) words

  put_kept : Kept rows after
  put_kept = record {
    more = p.more;
    longer = λ r. by_row r (same_or r row);
    same = λ r j low. same_row r j low (same_or r row);
  }
    where
      by_row : (r : ℕ) → (r ≡ row) ⊎ (r ≢ row) → length (get_or rows r []) ≤ length (get_or after r [])
      by_row r (inl e) = subst (λ k. length (get_or rows k []) ≤ length (get_or after k [])) (sym e) (omega (arith, both_long))
      by_row r (inr ne) = omega (arith, ap length (p.others r ne))

      at_row : (j : ℕ) → j < length (get_or rows row []) → get_or (get_or after row []) j (list.Count 0) ≡ get_or (get_or rows row []) j (list.Count 0)
      at_row j low = ap (λ v. get_or v j (list.Count 0)) p.at ∙ get_or_append_left (get_or rows row []) words (list.Count 0) j low

      same_row : (r j : ℕ) → j < length (get_or rows r []) → (r ≡ row) ⊎ (r ≢ row) → get_or (get_or after r []) j (list.Count 0) ≡ get_or (get_or rows r []) j (list.Count 0)
      same_row r j low (inl e) =
          subst (λ k. j < length (get_or rows k []) → get_or (get_or after k []) j (list.Count 0) ≡ get_or (get_or rows k []) j (list.Count 0)) (sym e) (at_row j) low
      same_row r j low (inr ne) = ap (λ v. get_or v j (list.Count 0)) (p.others r ne)

  put_stands : StandsAt after n words row place
  put_stands = record {
    within = p.within;
    each = λ j low. ap (λ v. get_or v (place + j) (list.Count 0)) p.at
        ∙ ap (λ k. get_or (get_or rows row [] ++ words) (k + j) (list.Count 0)) (sym p.place_is) ∙ get_or-append-add (get_or rows row []) words j (list.Count 0);
    end = omega (arith, both_long, p.place_is, long);
    fits = p.fits;
  }

-- ---- the lists of leaves
abbrev pub FewRefs : List Zone → Address → Type 0
FewRefs zones leaf = length (refs_of zones leaf) ≤ 510

abbrev pub NoTwice : List Address → Type 0
NoTwice [] = Unit {0}
NoTwice (c ∷ cells) = (Among cells c → ⊥) × NoTwice cells

module _ (zones : List Zone) (trained : List Address) where
  sides3 : (n : ℕ) → (n ≤ 2) ⊎ (2 < n)
  sides3 n = grind arith

  abbrev start : Fill → List Address → Address → Start
  start s leaves leaf = list_start (record { zones = zones; trained = trained }) (record { rows = s.rows; at = s.at }) leaves leaf

  -- a step: the leaf has no list, or it was put
  abbrev Step : Fill → List (List ListWord) → Address → Type 0
  Step s rows leaf =
      let n = length (refs_of zones leaf) in
      ((n ≤ 2) × (filled s n ≡ s) × (put_list s n rows (refs_on zones leaf) ≡ rows)) ⊎ ((2 < n) × Put s n rows (put_list s n rows (refs_on zones leaf)) (words_in (refs_on zones leaf)) (start_at s n).row (start_at s n).place)

  words_long : (leaf : Address) → length (words_in (refs_on zones leaf)) ≡ list_words (length (refs_of zones leaf))
  words_long leaf = words_length (refs_on zones leaf) ∙ ap list_words (refs_length zones leaf)

  step : (s : Fill) (rows : List (List ListWord)) (leaf : Address) → IsFilled s rows → FewRefs zones leaf → Step s rows leaf
  step s rows leaf h few = by (sides3 (length (refs_of zones leaf)))
    where
      by : (length (refs_of zones leaf) ≤ 2) ⊎ (2 < length (refs_of zones leaf)) → Step s rows leaf
      by (inl none) = let e = few_is (length (refs_of zones leaf)) none in inl (none, rw e refl, rw e refl)
      by (inr many) = inr (many, put_list_is s (length (refs_of zones leaf)) rows (words_in (refs_on zones leaf)) h many few (words_long leaf) (refs_on zones leaf) refl)

  step_filled : (s : Fill) (rows : List (List ListWord)) (leaf : Address) → IsFilled s rows → Step s rows leaf
      → IsFilled (filled s (length (refs_of zones leaf))) (put_list s (length (refs_of zones leaf)) rows (refs_on zones leaf))
  step_filled s rows leaf h (inl none) = subst (λ v. IsFilled v (put_list s (length (refs_of zones leaf)) rows (refs_on zones leaf))) (sym none.1) (subst (IsFilled s) (sym none.2) h)
  step_filled s rows leaf h (inr put) = put.1.filled

  step_kept : (s : Fill) (rows : List (List ListWord)) (leaf : Address) → Step s rows leaf → Kept rows (put_list s (length (refs_of zones leaf)) rows (refs_on zones leaf))
  step_kept s rows leaf (inl none) = subst (Kept rows) (sym none.2) (kept_self rows)
  step_kept s rows leaf (inr put) = put_kept s (length (refs_of zones leaf)) rows (put_list s (length (refs_of zones leaf)) rows (refs_on zones leaf)) (words_in (refs_on zones leaf)) _ _ (words_long leaf) put.1

  pub all_filled : (leaves : List Address) (s : Fill) (rows : List (List ListWord)) → IsFilled s rows → Rattle.std.specs.List.AllByRecursion (FewRefs zones) leaves
      → length (put_lists zones s rows leaves) ≡ (pack_of (record { zones = zones; trained = trained }) (record { rows = s.rows; at = s.at }) leaves).rows
  all_filled [] s rows h few = h.count
  all_filled (leaf ∷ leaves) s rows h few =
      all_filled leaves (filled s (length (refs_of zones leaf))) (put_list s (length (refs_of zones leaf)) rows (refs_on zones leaf)) (step_filled s rows leaf h (step s rows leaf h few.0)) few.1

  pub all_kept : (leaves : List Address) (s : Fill) (rows : List (List ListWord)) → IsFilled s rows → Rattle.std.specs.List.AllByRecursion (FewRefs zones) leaves → Kept rows (put_lists zones s rows leaves)
  all_kept [] s rows h few = kept_self rows
  all_kept (leaf ∷ leaves) s rows h few =
      let one = step s rows leaf h few.0 in
      kept_more rows (put_list s (length (refs_of zones leaf)) rows (refs_on zones leaf)) _ (step_kept s rows leaf one)
      (all_kept leaves (filled s (length (refs_of zones leaf))) (put_list s (length (refs_of zones leaf)) rows (refs_on zones leaf)) (step_filled s rows leaf h one) few.1)

  -- the list of a leaf stands where it is said to
  pub listed : (leaf : Address) (leaves : List Address) (s : Fill) (rows : List (List ListWord)) → IsFilled s rows → Rattle.std.specs.List.AllByRecursion (FewRefs zones) leaves → Among leaves leaf
      → 2 < length (refs_of zones leaf)
      → StandsAt (put_lists zones s rows leaves) (length (refs_of zones leaf)) (words_in (refs_on zones leaf)) (start s leaves leaf).row (start s leaves leaf).place
  listed leaf [] s rows h few among many = absurd among
  listed leaf (other ∷ leaves) s rows h few among many =
      let one = step s rows other h few.0 in
      let n = length (refs_of zones other) in
      by (same_cell other leaf) refl among one
      (all_kept leaves (filled s n) (put_list s n rows (refs_on zones other)) (step_filled s rows other h one) few.1)
      (λ among. listed leaf leaves (filled s n) (put_list s n rows (refs_on zones other)) (step_filled s rows other h one) few.1 among many)
    where
      After : List (List ListWord)
      After = put_lists zones (filled s (length (refs_of zones other))) (put_list s (length (refs_of zones other)) rows (refs_on zones other)) leaves

      here : (other : Address) → 2 < length (refs_of zones other) → Step s rows other → (after : List (List ListWord)) → Kept (put_list s (length (refs_of zones other)) rows (refs_on zones other)) after
          → StandsAt after (length (refs_of zones other)) (words_in (refs_on zones other)) (start_at s (length (refs_of zones other))).row (start_at s (length (refs_of zones other))).place
      here other many (inl none) after kept = absurd (omega (arith, many, none.0))
      here other many (inr put) after kept =
          stands_kept _ after _ _ _ _ (words_long other) kept (put_stands s (length (refs_of zones other)) rows _ (words_in (refs_on zones other)) _ _ (words_long other) put.1)

      by : (b : Bool) → same_cell other leaf ≡ b → Among (other ∷ leaves) leaf → Step s rows other
          → Kept (put_list s (length (refs_of zones other)) rows (refs_on zones other))
          (put_lists zones (filled s (length (refs_of zones other))) (put_list s (length (refs_of zones other)) rows (refs_on zones other)) leaves)
          → (Among leaves leaf → StandsAt (put_lists zones (filled s (length (refs_of zones other))) (put_list s (length (refs_of zones other)) rows (refs_on zones other)) leaves)
          (length (refs_of zones leaf)) (words_in (refs_on zones leaf)) (start (filled s (length (refs_of zones other))) leaves leaf).row (start (filled s (length (refs_of zones other))) leaves leaf).place)
          → StandsAt (put_lists zones (filled s (length (refs_of zones other))) (put_list s (length (refs_of zones other)) rows (refs_on zones other)) leaves)
          (length (refs_of zones leaf)) (words_in (refs_on zones leaf))
          (cond b (start_at s (length (refs_of zones other))) (start (filled s (length (refs_of zones other))) leaves leaf)).row
          (cond b (start_at s (length (refs_of zones other))) (start (filled s (length (refs_of zones other))) leaves leaf)).place
      by true e among one kept more =
          let is = same_is other leaf e in
          subst (λ (l : Address). StandsAt (put_lists zones (filled s (length (refs_of zones other))) (put_list s (length (refs_of zones other)) rows (refs_on zones other)) leaves)
          (length (refs_of zones l)) (words_in (refs_on zones l)) (start_at s (length (refs_of zones other))).row (start_at s (length (refs_of zones other))).place) is
          (here other (subst (λ (l : Address). 2 < length (refs_of zones l)) (sym is) many) one _ kept)
      by false e (inl same) one kept more = absurd (other_is other leaf e same)
      by false e (inr among) one kept more = more among

  -- the last list in a row
  pub record LastIn (leaves : List Address) (s : Fill) (after : List (List ListWord)) (i : ℕ) : Type 0 where
    pub leaf : Address
    pub among : Among leaves leaf
    pub many : 2 < length (refs_of zones leaf)
    pub row : (start s leaves leaf).row ≡ i
    pub end : (start s leaves leaf).place + list_words (length (refs_of zones leaf)) ≡ length (get_or after i [])

  abbrev Ends : List Address → Fill → List (List ListWord) → List (List ListWord) → ℕ → Type 0
  Ends leaves s rows after i = ((i < length rows) × (length (get_or after i []) ≡ length (get_or rows i []))) ⊎ LastIn leaves s after i

  pub ends : (i : ℕ) (leaves : List Address) (s : Fill) (rows : List (List ListWord)) → IsFilled s rows → Rattle.std.specs.List.AllByRecursion (FewRefs zones) leaves → NoTwice leaves
      → i < length (put_lists zones s rows leaves) → Ends leaves s rows (put_lists zones s rows leaves) i
  ends i [] s rows h few once low = inl (low, refl)
  ends i (leaf ∷ leaves) s rows h few once low =
      let n = length (refs_of zones leaf) in
      let one = step s rows leaf h few.0 in
      by one (ends i leaves (filled s n) (put_list s n rows (refs_on zones leaf)) (step_filled s rows leaf h one) few.1 once.1 low)
    where
      n : ℕ
      n = length (refs_of zones leaf)

      by : Step s rows leaf
          → Ends leaves (filled s (length (refs_of zones leaf))) (put_list s (length (refs_of zones leaf)) rows (refs_on zones leaf))
          (put_lists zones (filled s (length (refs_of zones leaf))) (put_list s (length (refs_of zones leaf)) rows (refs_on zones leaf)) leaves) i
          → Ends (leaf ∷ leaves) s rows (put_lists zones (filled s (length (refs_of zones leaf))) (put_list s (length (refs_of zones leaf)) rows (refs_on zones leaf)) leaves) i
      by one (inr last) =
          let other : same_cell leaf last.leaf ≡ false = differs (same_cell leaf last.leaf) refl in
          inr (record {
            leaf = last.leaf;
            among = inr last.among;
            many = last.many;
            row = ap (λ b. (cond b (start_at s (length (refs_of zones leaf))) (start (filled s (length (refs_of zones leaf))) leaves last.leaf)).row) other ∙ last.row;
            end = ap (λ b. (cond b (start_at s (length (refs_of zones leaf))) (start (filled s (length (refs_of zones leaf))) leaves last.leaf)).place + list_words (length (refs_of zones last.leaf))) other ∙ last.end;
          })
        where
          differs : (b : Bool) → same_cell leaf last.leaf ≡ b → b ≡ false
          differs true e = absurd (once.0 (subst (λ (l : Address). Among leaves l) (sym (same_is leaf last.leaf e)) last.among))
          differs false e = refl
      by (inl none) (inl old) = inl (subst (λ v. (i < length v) × (length (get_or (put_lists zones (filled s (length (refs_of zones leaf))) (put_list s (length (refs_of zones leaf)) rows (refs_on zones leaf)) leaves) i []) ≡ length (get_or v i []))) none.2 old)
      by (inr put) (inl old) = at_row (Rattle.act_image.proofs.PackFacts.same_or s (length (refs_of zones leaf)) rows _ (words_in (refs_on zones leaf)) _ _ (words_long leaf) put.1 i (start_at s (length (refs_of zones leaf))).row)
        where
          at_row : (i ≡ (start_at s (length (refs_of zones leaf))).row) ⊎ (i ≢ (start_at s (length (refs_of zones leaf))).row)
              → Ends (leaf ∷ leaves) s rows (put_lists zones (filled s (length (refs_of zones leaf))) (put_list s (length (refs_of zones leaf)) rows (refs_on zones leaf)) leaves) i
          at_row (inr ne) = inl (put.1.old i ne old.0, old.1 ∙ ap length (put.1.others i ne))
          at_row (inl e) =
              let same = same_self leaf leaf refl in
              let long = both_long s (length (refs_of zones leaf)) rows _ (words_in (refs_on zones leaf)) _ _ (words_long leaf) put.1 in
              let there : length (get_or (put_list s (length (refs_of zones leaf)) rows (refs_on zones leaf)) i [])
              ≡ length (get_or (put_list s (length (refs_of zones leaf)) rows (refs_on zones leaf)) (start_at s (length (refs_of zones leaf))).row []) =
              ap (λ k. length (get_or (put_list s (length (refs_of zones leaf)) rows (refs_on zones leaf)) k [])) e in
              inr (record {
                leaf = leaf;
                among = inl refl;
                many = put.0;
                row = ap (λ b. (cond b (start_at s (length (refs_of zones leaf))) (start (filled s (length (refs_of zones leaf))) leaves leaf)).row) same ∙ sym e;
                end = ap (λ b. (cond b (start_at s (length (refs_of zones leaf))) (start (filled s (length (refs_of zones leaf))) leaves leaf)).place + list_words (length (refs_of zones leaf))) same
                    ∙ omega (arith, long, put.1.place_is, words_long leaf, there, old.1);
              })
