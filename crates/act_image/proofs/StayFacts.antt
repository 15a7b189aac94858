-- What a node and its lists hold in two states that don't differ there.
use Rattle.std.proofs.Common.{◌≡◌, ℕ, zero, suc, ◌+◌, ◌<◌, Bool, true, false, cond, refl, sym, ap, ◌∙◌, subst, List, [], ◌∷◌, ◌++◌, nat_lt, length, get_or, map}
use Rattle.std.specs.List.{AllByRecursion as Each}
use Rattle.std.proofs.lemmas.List.{length-map, map-append}
use Rattle.act_grid.specs.declared.Settings.{Settings}
use Rattle.act_grid.specs.Cell.{Address}
use Rattle.act_entry.specs.declared.reference.Ref.{Ref}
use Rattle.act_entry.specs.declared.entry.Entry.TheVariants as entry
use Rattle.act_super.specs.declared.entry.State.{State}
use Rattle.act_super.specs.declared.entry.Zone.{Zone}
use Rattle.act_super.specs.Grounds.{same_cell}
use Rattle.act_super.specs.Nodes.{IsNode, count_at, entry_cell, first_leaf, is_parted, list_rows, list_start, node_children, node_leaves, pack_of, start_of}
use Rattle.act_super.specs.Packs.{empty_pack, list_words}
use Rattle.act_super.specs.Sizes.{refs_of}
use Rattle.act_super.specs.Stands.{Layout, entry_at, entry_for, leaf_entry, refs_in, start_in, words_of}
use Rattle.act_probe.proofs.NodeFacts.{Among}
use Rattle.act_image.specs.declared.lists.Fill.{Fill}
use Rattle.act_image.specs.declared.lists.ListWord.{ListWord}
use Rattle.act_image.specs.declared.lists.ListWord.TheVariants as list
use Rattle.act_image.specs.Words.{Numbers, placed_ref, placed_word}
use Rattle.act_image.specs.Plans.{behind_last, filled, lists_of, no_fill, put_list, put_lists, refs_on, words_in}
use Rattle.act_image.proofs.BindFacts.{placed_words}
use Rattle.act_image.proofs.FillFacts.{child_among, child_parted, first_inside, first_is, leaf_among}
use Rattle.act_image.proofs.Leaves.{each_among, each_mono}
use Rattle.act_image.proofs.PackFacts.{refs_length}

-- ---- lists
-- lists of words put to rows as lists of references are
abbrev behind : List (List ℕ) → List ℕ → List (List ℕ)
behind [] words = []
behind (row ∷ []) words = (row ++ words) ∷ []
behind (row ∷ next ∷ rows) words = row ∷ behind (next ∷ rows) words

abbrev put_words : Fill → List (List ℕ) → List (List Ref) → List (List ℕ)
put_words s rows [] = rows
put_words s rows (refs ∷ more) =
    put_words (filled s (length refs)) (cond (nat_lt (length refs) 3) rows (cond (nat_lt 256 (s.at + list_words (length refs))) (rows ++ words_of refs ∷ []) (behind rows (words_of refs)))) more

module _ (n : Numbers) where
  behind_words : (rows : List (List ListWord)) (words : List ListWord) → map (map (placed_word n)) (behind_last rows words) ≡ behind (map (map (placed_word n)) rows) (map (placed_word n) words)
  behind_words [] words = refl
  behind_words (row ∷ []) words = ap (λ v. v ∷ []) (map-append (placed_word n) row words)
  behind_words (row ∷ (next ∷ rows)) words = ap (λ v. map (placed_word n) row ∷ v) (behind_words (next ∷ rows) words)

  one_list : (b d : Bool) (rows : List (List ListWord)) (refs : List Ref)
      → map (map (placed_word n)) (cond b rows (cond d (rows ++ words_in refs ∷ []) (behind_last rows (words_in refs))))
      ≡ cond b (map (map (placed_word n)) rows) (cond d (map (map (placed_word n)) rows ++ words_of (map (placed_ref n) refs) ∷ []) (behind (map (map (placed_word n)) rows) (words_of (map (placed_ref n) refs))))
  one_list true d rows refs = refl
  one_list false true rows refs = map-append (map (placed_word n)) rows (words_in refs ∷ []) ∙ ap (λ v. map (map (placed_word n)) rows ++ v ∷ []) (placed_words n refs)
  one_list false false rows refs = behind_words rows (words_in refs) ∙ ap (behind (map (map (placed_word n)) rows)) (placed_words n refs)

  lists_words : (zones : List Zone) (leaves : List Address) (s : Fill) (rows : List (List ListWord))
      → map (map (placed_word n)) (put_lists zones s rows leaves) ≡ put_words s (map (map (placed_word n)) rows) (map (λ leaf. map (placed_ref n) (refs_on zones leaf)) leaves)
  lists_words zones [] s rows = refl
  lists_words zones (leaf ∷ leaves) s rows =
      let refs = refs_on zones leaf in
      let long : length (refs_of zones leaf) ≡ length (map (placed_ref n) refs) = sym (length-map refs (placed_ref n) ∙ refs_length zones leaf) in
      lists_words zones leaves (filled s (length (refs_of zones leaf))) (put_list s (length (refs_of zones leaf)) rows refs)
      ∙ ap (λ v. put_words (filled s (length (refs_of zones leaf))) v (map (λ leaf. map (placed_ref n) (refs_on zones leaf)) leaves))
      (one_list (nat_lt (length (refs_of zones leaf)) 3) (nat_lt 256 (s.at + list_words (length (refs_of zones leaf)))) rows refs)
      ∙ ap (λ k. put_words (filled s k) (cond (nat_lt k 3) (map (map (placed_word n)) rows)
      (cond (nat_lt 256 (s.at + list_words k)) (map (map (placed_word n)) rows ++ words_of (map (placed_ref n) refs) ∷ []) (behind (map (map (placed_word n)) rows) (words_of (map (placed_ref n) refs)))))
      (map (λ leaf. map (placed_ref n) (refs_on zones leaf)) leaves)) long

  row_word : (row : List ListWord) (place : ℕ) → get_or (map (placed_word n) row) place 0 ≡ placed_word n (get_or row place (list.Count 0))
  row_word [] place = refl
  row_word (w ∷ row) zero = refl
  row_word (w ∷ row) (suc place) = row_word row place

  list_row_word : (rows : List (List ListWord)) (i place : ℕ) → get_or (get_or (map (map (placed_word n)) rows) i []) place 0 ≡ placed_word n (get_or (get_or rows i []) place (list.Count 0))
  list_row_word [] i place = refl
  list_row_word (row ∷ rows) zero place = row_word row place
  list_row_word (row ∷ rows) (suc i) place = list_row_word rows i place

same_map : {X Y : Type 0} (f g : X → Y) (xs : List X) → Each (λ x. f x ≡ g x) xs → map f xs ≡ map g xs
same_map f g [] h = refl
same_map f g (x ∷ xs) h = λ i. h.0 i ∷ same_map f g xs h.1 i

-- the words of the lists of a node whose leaves have the same references
pub lists_stay : (n m : Numbers) (settings : Settings) (old new : State) (c : Address) → node_leaves settings old c ≡ node_leaves settings new c
    → Each (λ leaf. map (placed_ref n) (refs_on old.zones leaf) ≡ map (placed_ref m) (refs_on new.zones leaf)) (node_leaves settings new c)
    → (i place : ℕ) → placed_word n (get_or (get_or (lists_of settings old c) i []) place (list.Count 0)) ≡ placed_word m (get_or (get_or (lists_of settings new c) i []) place (list.Count 0))
unfolding lists_of
lists_stay n m settings old new c leaves refs i place =
    let same : map (map (placed_word n)) (put_lists old.zones no_fill [] (node_leaves settings old c)) ≡ map (map (placed_word m)) (put_lists new.zones no_fill [] (node_leaves settings new c)) =
    ap (λ v. map (map (placed_word n)) (put_lists old.zones no_fill [] v)) leaves ∙ lists_words n old.zones (node_leaves settings new c) no_fill []
    ∙ ap (put_words no_fill []) (same_map (λ leaf. map (placed_ref n) (refs_on old.zones leaf)) (λ leaf. map (placed_ref m) (refs_on new.zones leaf)) (node_leaves settings new c) refs)
    ∙ sym (lists_words m new.zones (node_leaves settings new c) no_fill []) in
    sym (list_row_word n (put_lists old.zones no_fill [] (node_leaves settings old c)) i place) ∙ ap (λ v. get_or (get_or v i []) place 0) same
    ∙ list_row_word m (put_lists new.zones no_fill [] (node_leaves settings new c)) i place

-- ---- entries
starts_stay : (old new : State) (leaf : Address) (leaves : List Address) (s : Fill) → Each (λ l. count_at old l ≡ count_at new l) leaves
    → list_start old (record { rows = s.rows; at = s.at }) leaves leaf ≡ list_start new (record { rows = s.rows; at = s.at }) leaves leaf
starts_stay old new leaf [] s h = refl
starts_stay old new leaf (d ∷ leaves) s h =
    let rest = starts_stay old new leaf leaves (filled s (count_at old d)) h.1 ∙ ap (λ k. list_start new (record { rows = (filled s k).rows; at = (filled s k).at }) leaves leaf) h.0 in
    λ i. cond (same_cell d leaf) (start_of (record { rows = s.rows; at = s.at }) (h.0 i)) (rest i)

packs_stay : (old new : State) (leaves : List Address) (s : Fill) → Each (λ l. count_at old l ≡ count_at new l) leaves
    → (pack_of old (record { rows = s.rows; at = s.at }) leaves).rows ≡ (pack_of new (record { rows = s.rows; at = s.at }) leaves).rows
packs_stay old new [] s h = refl
packs_stay old new (d ∷ leaves) s h =
    packs_stay old new leaves (filled s (count_at old d)) h.1 ∙ ap (λ k. (pack_of new (record { rows = (filled s k).rows; at = (filled s k).at }) leaves).rows) h.0

-- a node whose leaves have the same references has as many list rows
pub list_rows_stay : (settings : Settings) (old new : State) (c : Address) → node_leaves settings old c ≡ node_leaves settings new c → Each (λ leaf. refs_of old.zones leaf ≡ refs_of new.zones leaf) (node_leaves settings new c)
    → list_rows settings old c ≡ list_rows settings new c
list_rows_stay settings old new c leaves refs =
    ap (λ v. (pack_of old empty_pack v).rows) leaves
    ∙ packs_stay old new (node_leaves settings new c) no_fill (each_mono (λ l. refs_of old.zones l ≡ refs_of new.zones l) (λ l. count_at old l ≡ count_at new l) (node_leaves settings new c) (λ l h. ap length h) refs)

module _ (settings : Settings) (old new : State) (c : Address) (was : IsNode settings old c) (is : IsNode settings new c) (leaves : node_leaves settings old c ≡ node_leaves settings new c)
    (children : node_children settings old c ≡ node_children settings new c) (i : ℕ) (small : i < 256) where
  abbrev e : Address
  e = entry_cell c i

  parted_old : is_parted settings new e ≡ true → is_parted settings old e ≡ true
  parted_old parted = child_parted settings old c was i small (subst (λ v. Among v e) (sym children) (child_among settings new c is i small parted))

  whole_old : is_parted settings new e ≡ false → is_parted settings old e ≡ false
  whole_old whole = by (is_parted settings old e) refl
    where
      by : (b : Bool) → is_parted settings old e ≡ b → is_parted settings old e ≡ false
      by false h = h
      by true h =
          let yes = child_parted settings new c is i small (subst (λ v. Among v e) children (child_among settings old c was i small h)) in
          let no = sym whole ∙ yes in
          absurd (cc)

  first_old : is_parted settings new e ≡ false → first_leaf settings old e ≡ first_leaf settings new e
  first_old whole = first_is settings old c was i small (first_leaf settings new e) (subst (λ v. Among v (first_leaf settings new e)) (sym leaves) (leaf_among settings new c is i small whole)) (first_inside settings new c is i small)

  -- the entry is the same where the rows that it names are
  module _ (y z : Layout) (nodes : (d : Address) → Among (node_children settings new c) d → y.node d ≡ z.node d) (lists : y.lists c ≡ z.lists c)
      (refs : Each (λ leaf. refs_of old.zones leaf ≡ refs_of new.zones leaf) (node_leaves settings new c))
      (rows : Each (λ leaf. refs_in y (refs_of new.zones leaf) ≡ refs_in z (refs_of new.zones leaf)) (node_leaves settings new c)) where
    leaf_stays : is_parted settings new e ≡ false → leaf_entry y settings old c (first_leaf settings old e) ≡ leaf_entry z settings new c (first_leaf settings new e)
    leaf_stays whole =
        let leaf = first_leaf settings new e in
        let among = leaf_among settings new c is i small whole in
        let same = each_among (λ leaf. refs_of old.zones leaf ≡ refs_of new.zones leaf) (node_leaves settings new c) leaf refs among in
        let own = each_among (λ leaf. refs_in y (refs_of new.zones leaf) ≡ refs_in z (refs_of new.zones leaf)) (node_leaves settings new c) leaf rows among in
        let start : start_in settings old c leaf ≡ start_in settings new c leaf =
        ap (λ v. list_start old empty_pack v leaf) leaves
        ∙ starts_stay old new leaf (node_leaves settings new c) no_fill (each_mono (λ l. refs_of old.zones l ≡ refs_of new.zones l) (λ l. count_at old l ≡ count_at new l) (node_leaves settings new c) (λ l h. ap length h) refs) in
        ap (leaf_entry y settings old c) (first_old whole)
        ∙ (λ t. entry_for ((ap (refs_in y) same ∙ own) t) (get_or (lists t) (start t).row 0) (start t).place)

    pub entry_stays : entry_at y settings old c i ≡ entry_at z settings new c i
    entry_stays = by (is_parted settings new e) refl
      where
        by : (b : Bool) → is_parted settings new e ≡ b
            → cond (is_parted settings old e) (entry.Child (y.node e)) (leaf_entry y settings old c (first_leaf settings old e))
            ≡ cond b (entry.Child (z.node e)) (leaf_entry z settings new c (first_leaf settings new e))
        by true h = ap (λ b. cond b (entry.Child (y.node e)) (leaf_entry y settings old c (first_leaf settings old e))) (parted_old h) ∙ ap entry.Child (nodes e (child_among settings new c is i small h))
        by false h = ap (λ b. cond b (entry.Child (y.node e)) (leaf_entry y settings old c (first_leaf settings old e))) (whole_old h) ∙ leaf_stays h
