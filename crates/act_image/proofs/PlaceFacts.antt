-- Where nodes, lists and chains stand among the rows.
use Rattle.std.proofs.Common.{◌≡◌, ◌≢◌, ℕ, zero, suc, ◌+◌, ◌-◌, ◌*◌, ◌/◌, ◌%◌, ◌^◌, ◌<◌, ◌≤◌, ◌⊎◌, inl, inr, Bool, true, false, cond, refl, sym, ap, ◌∙◌, subst, arith, List, [], ◌∷◌, ◌++◌, nat_lt, ◌&&◌, ◌==◌, eqb, length, get_or, map, take, drop}
use Rattle.std.specs.List.{AllByRecursion as Each, flat_map, sum_by}
use Rattle.std.proofs.lemmas.Bool.{ne_eqb}
use Rattle.std.proofs.lemmas.List.{append_assoc, append-nil, length-append, length-map, length-drop, length-take-le, get_or_past, get_or-take, get_or-drop, get_or_append_left, get_or-append-add, drop-drop, drop_more}
use Rattle.std.proofs.lemmas.List.Sums.{sum_by-cons}
use Rattle.act_grid.specs.declared.Settings.{Settings}
use Rattle.act_grid.specs.Cell.{Address, root_cell}
use Rattle.act_base.specs.Counting.{times}
use Rattle.act_base.proofs.Times.{times-append, times_here, times_else}
use Rattle.act_geom.specs.Body.{body_of}
use Rattle.act_super.specs.declared.entry.State.{State}
use Rattle.act_super.specs.declared.entry.Zone.{Zone}
use Rattle.act_super.specs.Grounds.{same_cell}
use Rattle.act_super.specs.Nodes.{node_children}
use Rattle.act_super.specs.Sizes.{chain_rows}
use Rattle.act_probe.proofs.NodeFacts.{Among}
use Rattle.act_image.specs.declared.chains.ChainPlace.{ChainPlace}
use Rattle.act_image.specs.declared.nodes.NodePlace.{NodePlace}
use Rattle.act_image.specs.Words.{no_chain, no_row}
use Rattle.act_image.specs.Plans.{bodies_of, chain_first, chain_rows_from, chains_from, lists_of, places_from, rows_from, spots_from, spots_of}
use Rattle.act_image.specs.Pics.{HaveOwnKeys, chain_of, no_node, node_at, node_of, part_of}
use Rattle.act_image.proofs.FillFacts.{other_is, same_is, same_self}
use Rattle.act_image.proofs.PackFacts.{NoTwice}

-- ---- cells in lists
pub among_at : (cells : List Address) (c : Address) → Among cells c → (j : ℕ) × (j < length cells) × (get_or cells j root_cell ≡ c)
among_at [] c h = absurd h
among_at (x ∷ cells) c (inl same) = (0, omega arith, same)
among_at (x ∷ cells) c (inr more) = let t = among_at cells c more in (suc t.0, (let low = t.1 in omega arith), t.2)

pub at_among : (cells : List Address) (j : ℕ) → j < length cells → Among cells (get_or cells j root_cell)
at_among [] j h = absurd (omega (arith, h))
at_among (x ∷ cells) zero h = inl refl
at_among (x ∷ cells) (suc j) h = inr (at_among cells j (omega (arith, h)))

-- no cell stands at two places
pub one_place : (cells : List Address) (i j : ℕ) → NoTwice cells → i < length cells → j < length cells → get_or cells i root_cell ≡ get_or cells j root_cell → i ≡ j
one_place [] i j once h k e = absurd (omega (arith, h))
one_place (x ∷ cells) zero zero once h k e = refl
one_place (x ∷ cells) zero (suc j) once h k e = absurd (once.0 (subst (Among cells) (sym e) (at_among cells j (omega (arith, k)))))
one_place (x ∷ cells) (suc i) zero once h k e = absurd (once.0 (subst (Among cells) e (at_among cells i (omega (arith, h)))))
one_place (x ∷ cells) (suc i) (suc j) once h k e = ap suc (one_place cells i j once.1 (omega (arith, h)) (omega (arith, k)) e)

-- how often a cell stands in a list
abbrev pub is_cell : Address → Address → ℕ
is_cell c d = cond (same_cell d c) 1 0

pub count_some : (cells : List Address) (c : Address) → Among cells c → 0 < sum_by (is_cell c) cells
count_some [] c h = absurd h
count_some (x ∷ cells) c (inl same) = let one : is_cell c x ≡ 1 = ap (λ b. cond b 1 0) (same_self x c same) in omega (arith, sum_by-cons (is_cell c) x cells, one)
count_some (x ∷ cells) c (inr more) = omega (arith, sum_by-cons (is_cell c) x cells, count_some cells c more)

pub some_count : (cells : List Address) (c : Address) → 0 < sum_by (is_cell c) cells → Among cells c
some_count [] c h = absurd (omega (arith, h))
some_count (x ∷ cells) c h = by (same_cell x c) refl (sum_by-cons (is_cell c) x cells) (λ more. some_count cells c more)
  where
    by : (b : Bool) → same_cell x c ≡ b → sum_by (is_cell c) (x ∷ cells) ≡ is_cell c x + sum_by (is_cell c) cells → (0 < sum_by (is_cell c) cells → Among cells c) → Among (x ∷ cells) c
    by true e sum more = inl (same_is x c e)
    by false e sum more = let none : is_cell c x ≡ 0 = ap (λ b. cond b 1 0) e in inr (more (omega (arith, h, sum, none)))

count_none : (cells : List Address) (c : Address) → (Among cells c → ⊥) → sum_by (is_cell c) cells ≡ 0
count_none [] c h = refl
count_none (x ∷ cells) c h =
    let no : is_cell c x ≡ 0 = by (same_cell x c) refl in
    omega (arith, sum_by-cons (is_cell c) x cells, no, count_none cells c (λ more. h (inr more)))
  where
    by : (b : Bool) → same_cell x c ≡ b → ◌≡◌ {A = ℕ} (cond b 1 0) 0
    by true e = absurd (h (inl (same_is x c e)))
    by false e = refl

pub count_once : (cells : List Address) → NoTwice cells → (c : Address) → sum_by (is_cell c) cells ≤ 1
count_once [] h c = omega arith
count_once (x ∷ cells) h c = by (same_cell x c) refl (count_once cells h.1 c)
  where
    by : (b : Bool) → same_cell x c ≡ b → sum_by (is_cell c) cells ≤ 1 → sum_by (is_cell c) (x ∷ cells) ≤ 1
    by true e rest =
        let none = count_none cells c (λ among. h.0 (subst (Among cells) (sym (same_is x c e)) among)) in
        let one : is_cell c x ≡ 1 = ap (λ b. cond b 1 0) e in
        omega (arith, sum_by-cons (is_cell c) x cells, none, one)
    by false e rest = let one : is_cell c x ≡ 0 = ap (λ b. cond b 1 0) e in omega (arith, sum_by-cons (is_cell c) x cells, one, rest)

pub once_count : (cells : List Address) → ((c : Address) → sum_by (is_cell c) cells ≤ 1) → NoTwice cells
once_count [] h = tt
once_count (x ∷ cells) h = (
  λ among.
      let one : is_cell x x ≡ 1 = ap (λ b. cond b 1 0) (same_self x x refl) in
      omega (arith, h x, sum_by-cons (is_cell x) x cells, one, count_some cells x among),
  once_count cells (λ c. omega (arith, h c, sum_by-cons (is_cell c) x cells)),
)

-- ---- the places of nodes
module _ (settings : Settings) (state : State) where
  pub places_length : (base : ℕ) (cells : List Address) → length (places_from settings state base cells) ≡ length cells
  places_length base [] = refl
  places_length base (c ∷ cells) = ap suc (places_length (base + length (lists_of settings state c)) cells)

  pub spots_length : (base slot : ℕ) (cells : List Address) → length (spots_from settings state base slot cells) ≡ length cells
  spots_length base slot [] = refl
  spots_length base slot (c ∷ cells) = ap suc (spots_length (base + length (lists_of settings state c)) (slot + length (node_children settings state c)) cells)

  pub place_at : (base : ℕ) (cells : List Address) (j : ℕ) → j < length cells
      → get_or (places_from settings state base cells) j no_node
      ≡ record { cell = get_or cells j root_cell; first = base + length (flat_map (lists_of settings state) (take j cells)); count = length (lists_of settings state (get_or cells j root_cell)) }
  place_at base [] j h = absurd (omega (arith, h))
  place_at base (c ∷ cells) zero h = let e : base ≡ base + 0 = omega arith in ap (λ n. record { cell = c; first = n; count = length (lists_of settings state c) }) e
  place_at base (c ∷ cells) (suc j) h =
      let both = length-append (lists_of settings state c) (flat_map (lists_of settings state) (take j cells)) in
      let e : base + length (lists_of settings state c) + length (flat_map (lists_of settings state) (take j cells)) ≡ base + length (lists_of settings state c ++ flat_map (lists_of settings state) (take j cells)) = omega (arith, both) in
      place_at (base + length (lists_of settings state c)) cells j (omega (arith, h))
      ∙ ap (λ n. record { cell = get_or cells j root_cell; first = n; count = length (lists_of settings state (get_or cells j root_cell)) }) e

  pub spots_at : (base slot : ℕ) (cells : List Address) (j : ℕ) → j < length cells
      → get_or (spots_from settings state base slot cells) j []
      ≡ spots_of settings state (base + length (flat_map (lists_of settings state) (take j cells))) (slot + length (flat_map (node_children settings state) (take j cells))) (get_or cells j root_cell)
  spots_at base slot [] j h = absurd (omega (arith, h))
  spots_at base slot (c ∷ cells) zero h =
      let e : base ≡ base + 0 = omega arith in
      let f : slot ≡ slot + 0 = omega arith in
      λ i. spots_of settings state (e i) (f i) c
  spots_at base slot (c ∷ cells) (suc j) h =
      let both = length-append (lists_of settings state c) (flat_map (lists_of settings state) (take j cells)) in
      let others = length-append (node_children settings state c) (flat_map (node_children settings state) (take j cells)) in
      let e : base + length (lists_of settings state c) + length (flat_map (lists_of settings state) (take j cells)) ≡ base + length (lists_of settings state c ++ flat_map (lists_of settings state) (take j cells)) = omega (arith, both) in
      let f : slot + length (node_children settings state c) + length (flat_map (node_children settings state) (take j cells)) ≡ slot + length (node_children settings state c ++ flat_map (node_children settings state) (take j cells)) = omega (arith, others) in
      spots_at (base + length (lists_of settings state c)) (slot + length (node_children settings state c)) cells j (omega (arith, h))
      ∙ (λ i. spots_of settings state (e i) (f i) (get_or cells j root_cell))

  -- the node of a cell is looked up
  pub record Found (base : ℕ) (cells : List Address) (c : Address) : Type 0 where
    pub within : node_at (places_from settings state base cells) c < length cells
    pub cell : get_or cells (node_at (places_from settings state base cells) c) root_cell ≡ c
    pub node : node_of (places_from settings state base cells) c ≡ get_or (places_from settings state base cells) (node_at (places_from settings state base cells) c) no_node

  pub found : (base : ℕ) (cells : List Address) (c : Address) → Among cells c → Found base cells c
  found base [] c among = absurd among
  found base (x ∷ cells) c among = by (same_cell x c) refl among (λ more. found (base + length (lists_of settings state x)) cells c more)
    where
      Rest : List NodePlace
      Rest = places_from settings state (base + length (lists_of settings state x)) cells

      first : NodePlace
      first = record { cell = x; first = base; count = length (lists_of settings state x) }

      both : (b : Bool) → same_cell x c ≡ b → cond b 0 (suc (node_at (places_from settings state (base + length (lists_of settings state x)) cells) c)) < suc (length cells)
          → get_or (x ∷ cells) (cond b 0 (suc (node_at (places_from settings state (base + length (lists_of settings state x)) cells) c))) root_cell ≡ c
          → cond b (record { cell = x; first = base; count = length (lists_of settings state x) }) (node_of (places_from settings state (base + length (lists_of settings state x)) cells) c)
          ≡ get_or (places_from settings state base (x ∷ cells)) (cond b 0 (suc (node_at (places_from settings state (base + length (lists_of settings state x)) cells) c))) no_node
          → Found base (x ∷ cells) c
      both b e within cell node =
          let is = sym e in
          record {
            within = subst (λ b. cond b 0 (suc (node_at (places_from settings state (base + length (lists_of settings state x)) cells) c)) < suc (length cells)) is within;
            cell = subst (λ b. get_or (x ∷ cells) (cond b 0 (suc (node_at (places_from settings state (base + length (lists_of settings state x)) cells) c))) root_cell ≡ c) is cell;
            node = subst (λ b. cond b (record { cell = x; first = base; count = length (lists_of settings state x) }) (node_of (places_from settings state (base + length (lists_of settings state x)) cells) c)
                ≡ get_or (places_from settings state base (x ∷ cells)) (cond b 0 (suc (node_at (places_from settings state (base + length (lists_of settings state x)) cells) c))) no_node) is node;
          }

      by : (b : Bool) → same_cell x c ≡ b → Among (x ∷ cells) c → (Among cells c → Found (base + length (lists_of settings state x)) cells c) → Found base (x ∷ cells) c
      by true e among more = both true e (omega arith) (same_is x c e) refl
      by false e (inl same) more = absurd (other_is x c e same)
      by false e (inr among) more = let f = more among in both false e (omega (arith, f.within)) f.cell f.node

-- ---- pieces of lists
pub flat_within : {X Y : Type 0} (f : X → List Y) (xs : List X) (j : ℕ) (e : X) → j < length xs → length (flat_map f (take j xs)) + length (f (get_or xs j e)) ≤ length (flat_map f xs)
flat_within f [] j e h = absurd (omega (arith, h))
flat_within f (x ∷ xs) zero e h = omega (arith, length-append (f x) (flat_map f xs))
flat_within f (x ∷ xs) (suc j) e h = omega (arith, length-append (f x) (flat_map f xs), length-append (f x) (flat_map f (take j xs)), flat_within f xs j e (omega (arith, h)))

pub part_get : (rows : List ℕ) (first count i : ℕ) → i < count → get_or (part_of rows first count) i 0 ≡ get_or rows (first + i) 0
part_get rows first count i h = get_or-take count (drop first rows) i 0 h ∙ get_or-drop first rows i 0

pub part_length : (rows : List ℕ) (first count : ℕ) → first + count ≤ length rows → length (part_of rows first count) ≡ count
part_length rows first count h = length-take-le count (drop first rows) (omega (arith, length-drop first rows, h))

pub part_past : (rows : List ℕ) (first count i : ℕ) → first + count ≤ length rows → count ≤ i → get_or (part_of rows first count) i 0 ≡ 0
part_past rows first count i h k = get_or_past (part_of rows first count) i 0 (omega (arith, part_length rows first count h, k))

take_plus : (n m : ℕ) (xs : List ℕ) → take (n + m) xs ≡ take n xs ++ take m (drop n xs)
take_plus zero m xs = let e : 0 + m ≡ m = omega arith in ap (λ k. take k xs) e
take_plus (suc n) m [] = let e : suc n + m ≡ suc (n + m) = omega arith in ap (λ k. take k []) e ∙ sym (Rattle.std.proofs.lemmas.List.take_all m [] (omega arith))
take_plus (suc n) m (x ∷ xs) = let e : suc n + m ≡ suc (n + m) = omega arith in ap (λ k. take k (x ∷ xs)) e ∙ ap (λ v. x ∷ v) (take_plus n m xs)

pub part_plus : (rows : List ℕ) (first n m : ℕ) → part_of rows first (n + m) ≡ part_of rows first n ++ part_of rows (first + n) m
part_plus rows first n m = take_plus n m (drop first rows) ∙ ap (λ v. take n (drop first rows) ++ take m v) (drop-drop n first rows)

pub part_first : (rows : List ℕ) (first n : ℕ) → first < length rows → part_of rows first (suc n) ≡ get_or rows first 0 ∷ part_of rows (first + 1) n
part_first rows first n h = ap (take (suc n)) (drop_more rows first 0 h)

-- ---- chains
-- each key is that of one zone
abbrev pub OwnKeys : List Zone → Type 0
OwnKeys [] = Unit {0}
OwnKeys (zone ∷ zones) = Each (λ (other : Zone). zone.key ≢ other.key) zones × OwnKeys zones

none_there : (key : ℕ) (zones : List Zone) → times (map (λ (zone : Zone). zone.key) zones) key ≡ 0 → Each (λ (other : Zone). key ≢ other.key) zones
none_there key [] h = tt
none_there key (zone ∷ zones) h = (
  λ same. let here = times_here zone.key (map (λ (other : Zone). other.key) zones) in
      let there : times (zone.key ∷ map (λ (other : Zone). other.key) zones) zone.key ≡ 0 = subst (λ k. times (zone.key ∷ map (λ (other : Zone). other.key) zones) k ≡ 0) same h in
      omega (arith, here, there),
  none_there key zones (omega (arith, h, Rattle.act_base.proofs.Times.times_there zone.key key (map (λ (other : Zone). other.key) zones))),
)

pub own_keys : (zones : List Zone) → HaveOwnKeys zones → OwnKeys zones
own_keys [] h = tt
own_keys (zone ∷ zones) h = (
  none_there zone.key zones (omega (arith, h zone.key, times_here zone.key (map (λ (other : Zone). other.key) zones))),
  own_keys zones (λ key. omega (arith, h key, Rattle.act_base.proofs.Times.times_there zone.key key (map (λ (other : Zone). other.key) zones))),
)

pub rows_length : (chain row n : ℕ) → length (rows_from chain row n) ≡ n
rows_length chain row zero = refl
rows_length chain row (suc n) = ap suc (rows_length chain (row + 1) n)

rows_at : (chain row n i : ℕ) → i < n → get_or (rows_from chain row n) i no_row ≡ record { chain = chain; body = chain; row = row + i }
rows_at chain row zero i h = absurd (omega (arith, h))
rows_at chain row (suc n) zero h = let e : row ≡ row + 0 = omega arith in ap (λ m. record { chain = chain; body = chain; row = m }) e
rows_at chain row (suc n) (suc i) h = let e : row + 1 + i ≡ row + suc i = omega arith in rows_at chain (row + 1) n i (omega (arith, h)) ∙ ap (λ m. record { chain = chain; body = chain; row = m }) e

-- the chain of a zone among those of all zones
pub record ChainAt (first chain : ℕ) (zones : List Zone) (zone : Zone) : Type 0 where
  pub index : ℕ
  pub looked_up : chain_of (chains_from first zones) zone.key ≡ record { key = zone.key; first = first + chain_first zones zone.key; count = chain_rows zone.shape }
  pub place : get_or (chains_from first zones) index no_chain ≡ record { key = zone.key; first = first + chain_first zones zone.key; count = chain_rows zone.shape }
  pub body : get_or (bodies_of zones) index [] ≡ body_of zone.shape
  pub rows : (i : ℕ) → i < chain_rows zone.shape → get_or (chain_rows_from chain zones) (chain_first zones zone.key + i) no_row ≡ record { chain = chain + index; body = chain + index; row = i }
  pub within : chain_first zones zone.key + chain_rows zone.shape ≤ length (chain_rows_from chain zones)

pub chains_at : (first chain : ℕ) (zones : List Zone) → OwnKeys zones → Each (ChainAt first chain zones) zones
chains_at first chain [] own = tt
chains_at first chain (zone ∷ zones) own = (here, there zones own.0 (chains_at (first + chain_rows zone.shape) (chain + 1) zones own.1))
  where
    self : (zone.key == zone.key) ≡ true
    self = Rattle.std.proofs.Common.eq-eqb zone.key zone.key refl

    long : length (chain_rows_from chain (zone ∷ zones)) ≡ chain_rows zone.shape + length (chain_rows_from (chain + 1) zones)
    long = length-append (rows_from chain 0 (chain_rows zone.shape)) (chain_rows_from (chain + 1) zones) ∙ ap (λ n. n + length (chain_rows_from (chain + 1) zones)) (rows_length chain 0 (chain_rows zone.shape))

    zero_first : chain_first (zone ∷ zones) zone.key ≡ 0
    zero_first = ap (λ b. cond b 0 (chain_rows zone.shape + chain_first zones zone.key)) self

    here_place : ◌≡◌ {A = ChainPlace} (record { key = zone.key; first = first; count = chain_rows zone.shape }) (record { key = zone.key; first = first + chain_first (zone ∷ zones) zone.key; count = chain_rows zone.shape })
    here_place = let e : first ≡ first + chain_first (zone ∷ zones) zone.key = omega (arith, zero_first) in ap (λ n. record { key = zone.key; first = n; count = chain_rows zone.shape }) e

    here : ChainAt first chain (zone ∷ zones) zone
    here = record {
      index = 0;
      looked_up = ap (λ b. cond b (record { key = zone.key; first = first; count = chain_rows zone.shape }) (chain_of (chains_from (first + chain_rows zone.shape) zones) zone.key)) self ∙ here_place;
      place = here_place;
      body = refl;
      rows = λ i low. (
          let n = rows_length chain 0 (chain_rows zone.shape) in
          let at : chain_first (zone ∷ zones) zone.key + i ≡ i = omega (arith, zero_first) in
          let c : chain ≡ chain + 0 = omega arith in
          let r : 0 + i ≡ i = omega arith in
          ap (λ k. get_or (chain_rows_from chain (zone ∷ zones)) k no_row) at
          ∙ get_or_append_left (rows_from chain 0 (chain_rows zone.shape)) (chain_rows_from (chain + 1) zones) no_row i (omega (arith, n, low))
          ∙ rows_at chain 0 (chain_rows zone.shape) i low ∙ (λ t. record { chain = c t; body = c t; row = r t }));
      within = omega (arith, zero_first, long);
    }

    down : (other : Zone) → zone.key ≢ other.key → ChainAt (first + chain_rows zone.shape) (chain + 1) zones other → ChainAt first chain (zone ∷ zones) other
    down other ne at =
        let no : (zone.key == other.key) ≡ false = ne_eqb zone.key other.key ne in
        let further : chain_first (zone ∷ zones) other.key ≡ chain_rows zone.shape + chain_first zones other.key = ap (λ b. cond b 0 (chain_rows zone.shape + chain_first zones other.key)) no in
        let e : first + chain_rows zone.shape + chain_first zones other.key ≡ first + chain_first (zone ∷ zones) other.key = omega (arith, further) in
        let same : ◌≡◌ {A = ChainPlace} (record { key = other.key; first = first + chain_rows zone.shape + chain_first zones other.key; count = chain_rows other.shape })
        (record { key = other.key; first = first + chain_first (zone ∷ zones) other.key; count = chain_rows other.shape }) = ap (λ n. record { key = other.key; first = n; count = chain_rows other.shape }) e in
        record {
          index = suc at.index;
          looked_up = ap (λ b. cond b (record { key = zone.key; first = first; count = chain_rows zone.shape }) (chain_of (chains_from (first + chain_rows zone.shape) zones) other.key)) no ∙ at.looked_up ∙ same;
          place = at.place ∙ same;
          body = at.body;
          rows = λ i low. (
              let n = rows_length chain 0 (chain_rows zone.shape) in
              let k : chain_first (zone ∷ zones) other.key + i ≡ length (rows_from chain 0 (chain_rows zone.shape)) + (chain_first zones other.key + i) = omega (arith, further, n) in
              let c : chain + 1 + at.index ≡ chain + suc at.index = omega arith in
              ap (λ k. get_or (chain_rows_from chain (zone ∷ zones)) k no_row) k
              ∙ get_or-append-add (rows_from chain 0 (chain_rows zone.shape)) (chain_rows_from (chain + 1) zones) (chain_first zones other.key + i) no_row
              ∙ at.rows i low ∙ ap (λ m. record { chain = m; body = m; row = i }) c);
          within = omega (arith, further, long, at.within);
        }

    there : (others : List Zone) → Each (λ (other : Zone). zone.key ≢ other.key) others → Each (ChainAt (first + chain_rows zone.shape) (chain + 1) zones) others → Each (ChainAt first chain (zone ∷ zones)) others
    there [] ne at = tt
    there (other ∷ others) ne at = (down other ne.0 at.0, there others ne.1 at.1)
