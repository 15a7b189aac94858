-- What an entry tells of references.
use Rattle.std.proofs.Common.{◌≡◌, ℕ, ◌+◌, ◌<◌, ◌≤◌, Bool, refl, sym, ap, ◌∙◌, arith, List, [], ◌∷◌, length, map, subst}
use Rattle.std.proofs.lemmas.Bool.{lt-ltb}
use Rattle.std.proofs.lemmas.List.{length-map}
use Rattle.act_grid.specs.declared.layers.Layers.{Layers}
use Rattle.act_grid.specs.declared.Point.{Point}
use Rattle.act_grid.specs.declared.Settings.{Settings}
use Rattle.act_base.specs.Counting.{times}
use Rattle.act_base.specs.Sight.{Sight}
use Rattle.act_entry.specs.declared.reference.Ref.{Ref}
use Rattle.act_entry.specs.declared.entry.Entry.{Entry}
use Rattle.act_entry.specs.declared.entry.Entry.TheVariants as entry
use Rattle.act_super.specs.declared.entry.State.{State}
use Rattle.act_super.specs.declared.entry.Zone.{Zone}
use Rattle.act_super.specs.Joins.{zones_at}
use Rattle.act_super.specs.Nodes.{count_at}
use Rattle.act_super.specs.Sizes.{refs_of}
use Rattle.act_super.specs.Stands.{HasList, HasWords, Stands, entry_for, list_row, ref_in, refs_in, start_in, words_of}
use Rattle.act_probe.specs.Chains.{RefsOf, Tells, found_keys, found_reads}
use Rattle.act_probe.specs.Reads.{list_reads, reads_of}
use Rattle.act_probe.specs.Ways.{IsReached, leaf_of}
use Rattle.act_probe.proofs.FoundFacts.{found_is, reads_are}
use Rattle.act_probe.proofs.ListFacts.{length-pairs, pairs_enough}
use Rattle.act_probe.proofs.StandFacts.{held_list, hit_on, refs_at, zones_on}

-- the entry of a list tells three references or more
many : (refs : List Ref) (row place r q : ℕ) → entry.Table r q ≡ entry_for refs row place → 2 < length refs
many [] row place r q is = cc
many (a ∷ []) row place r q is = cc
many (a ∷ (b ∷ [])) row place r q is = cc
many (a ∷ (b ∷ (c ∷ refs))) row place r q is = omega arith

long_list : (refs : List Ref) → 2 < length refs → length (words_of refs) ≡ list_reads (length refs)
long_list refs some = rw (lt-ltb 2 (length refs) some) (omega (arith, length-pairs refs, pairs_enough refs))

pub table_long : (x : Sight) (hit : Zone → Bool) (zones : List Zone) (refs : List Ref) (found : Entry) (row place : ℕ) → Tells x hit zones refs found → found ≡ entry.Table row place
    → length (words_of refs) ≡ list_reads (length refs)
table_long x hit zones refs found row place tells is = long_list refs (many refs tells.row tells.place row place (sym is ∙ tells.is))

pub list_few : (x : Sight) (hit : Zone → Bool) (zones : List Zone) (refs : List Ref) (found : Entry) (layers : Layers) (row place n : ℕ) → Tells x hit zones refs found → found ≡ entry.Table row place
    → n ≤ length (words_of refs) + found_reads layers hit zones → n ≤ list_reads (length refs) + found_reads layers hit zones
list_few x hit zones refs found layers row place n tells is few = omega (arith, few, long_list refs (many refs tells.row tells.place row place (sym is ∙ tells.is)))

pub no_keys : (x : Sight) (hit : Zone → Bool) (zones : List Zone) (refs : List Ref) (layers : Layers) (p : Point) (row place : ℕ) → RefsOf x hit zones refs
    → entry.Empty ≡ entry_for refs row place → [] ≡ found_keys layers p hit zones
no_keys x hit [] [] layers p row place are is = refl
no_keys x hit (z ∷ zones) [] layers p row place are is = absurd are
no_keys x hit zones (a ∷ []) layers p row place are is = cc
no_keys x hit zones (a ∷ (b ∷ [])) layers p row place are is = cc
no_keys x hit zones (a ∷ (b ∷ (c ∷ refs))) layers p row place are is = cc

pub refs_one : (refs : List Ref) (row place : ℕ) (a : Ref) → entry.One a ≡ entry_for refs row place → refs ≡ a ∷ []
refs_one [] row place a is = cc
refs_one (r ∷ []) row place a is = cc
refs_one (r ∷ (q ∷ [])) row place a is = cc
refs_one (r ∷ (q ∷ (t ∷ refs))) row place a is = cc

pub refs_two : (refs : List Ref) (row place : ℕ) (a b : Ref) → entry.Two a b ≡ entry_for refs row place → refs ≡ a ∷ b ∷ []
refs_two [] row place a b is = cc
refs_two (r ∷ []) row place a b is = cc
refs_two (r ∷ (q ∷ [])) row place a b is = cc
refs_two (r ∷ (q ∷ (t ∷ refs))) row place a b is = cc

pub refs_none : (refs : List Ref) (row place : ℕ) → entry.Empty ≡ entry_for refs row place → refs ≡ []
refs_none [] row place is = refl
refs_none (r ∷ []) row place is = cc
refs_none (r ∷ (q ∷ [])) row place is = cc
refs_none (r ∷ (q ∷ (t ∷ refs))) row place is = cc

row_in : Entry → ℕ
row_in (entry.Table row place) = row
row_in entry.Empty = 0
row_in (entry.Child row) = 0
row_in (entry.One a) = 0
row_in (entry.Two a b) = 0

place_in : Entry → ℕ
place_in (entry.Table row place) = place
place_in entry.Empty = 0
place_in (entry.Child row) = 0
place_in (entry.One a) = 0
place_in (entry.Two a b) = 0

table_of : (refs : List Ref) (row place : ℕ) → 2 < length refs → entry_for refs row place ≡ entry.Table row place
table_of [] row place some = absurd (omega (arith, some))
table_of (a ∷ []) row place some = absurd (omega (arith, some))
table_of (a ∷ (b ∷ [])) row place some = absurd (omega (arith, some))
table_of (a ∷ (b ∷ (c ∷ refs))) row place some = refl

-- where the list stands
pub list_there : (x : Sight) (hit : Zone → Bool) (zones : List Zone) (refs : List Ref) (found : Entry) (row place : ℕ) → Tells x hit zones refs found → found ≡ entry.Table row place
    → HasWords x row place (words_of refs)
unfolding row_in place_in
list_there x hit zones refs found row place tells is =
    let some = many refs tells.row tells.place row place (sym is ∙ tells.is) in
    let same : entry.Table row place ≡ entry.Table tells.row tells.place = sym is ∙ tells.is ∙ table_of refs tells.row tells.place some in
    let row_is : row ≡ tells.row = ap row_in same in
    let place_is : place ≡ tells.place = ap place_in same in
    rw (row_is, place_is) (tells.list some)

pub list_held : (x : Sight) (hit : Zone → Bool) (zones : List Zone) (refs : List Ref) (found : Entry) (row place : ℕ) → Tells x hit zones refs found → found ≡ entry.Table row place
    → 0 < times x.rows row
unfolding row_in place_in
list_held x hit zones refs found row place tells is =
    let some = many refs tells.row tells.place row place (sym is ∙ tells.is) in
    let same : entry.Table row place ≡ entry.Table tells.row tells.place = sym is ∙ tells.is ∙ table_of refs tells.row tells.place some in
    let row_is : row ≡ tells.row = ap row_in same in
    rw row_is (tells.held some)

pub never_child : (refs : List Ref) (row place child : ℕ) → entry.Child child ≡ entry_for refs row place → ⊥
never_child [] row place child is = cc
never_child (a ∷ []) row place child is = cc
never_child (a ∷ (b ∷ [])) row place child is = cc
never_child (a ∷ (b ∷ (c ∷ refs))) row place child is = cc

-- ---- the leaf that was reached
module _ {settings : Settings} {x : Sight} {root : ℕ} {state : State} (s : Stands settings x root state) (p : Point) (found : Entry) (nodes : ℕ) (reached : IsReached settings state s.layout p found nodes) where
  pub tells : Tells x (hit_on (leaf_of settings state p)) (zones_on (leaf_of settings state p) state.zones) (refs_in s.layout (refs_of state.zones (leaf_of settings state p))) found
  tells =
      let long = length-map (refs_of state.zones (leaf_of settings state p)) (ref_in s.layout) in
      record {
        are = refs_at settings x root state s.served s.layout s.by_rows (leaf_of settings state p);
        few = omega (arith, long, s.served.few p);
        row = list_row s.layout settings state reached.node (leaf_of settings state p);
        place = (start_in settings state reached.node (leaf_of settings state p)).place;
        is = reached.is;
        list = λ some. (list_on (omega (arith, long, some))).words;
        held = λ some. held_list settings x root state s.served s.layout s.by_rows reached.node _ reached.is_node (list_on (omega (arith, long, some))).row;
      }
    where
      list_on : 2 < count_at state (leaf_of settings state p) → HasList x s.layout settings state reached.node (leaf_of settings state p)
      list_on some =
          subst (HasList x s.layout settings state reached.node) reached.leaf
          (s.by_rows.lists reached.node reached.place reached.is_node reached.within reached.whole (rw reached.leaf some))

  -- the references of the leaf, with their zones, are those of the zones that aren't Outside on it
  long : count_at state (leaf_of settings state p) ≡ length (zones_on (leaf_of settings state p) state.zones)
  long = length-map (zones_on (leaf_of settings state p) state.zones) _

  pub keys_are : (layers : Layers) (keys : List ℕ)
      → ((hit : Zone → Bool) (zones : List Zone) (refs : List Ref) → Tells x hit zones refs found → keys ≡ found_keys layers p hit zones)
      → keys ≡ map (λ (zone : Zone). zone.key) (zones_at layers state.zones p)
  keys_are layers keys step =
      step (hit_on (leaf_of settings state p)) (zones_on (leaf_of settings state p) state.zones) (refs_in s.layout (refs_of state.zones (leaf_of settings state p))) tells
      ∙ found_is layers p (leaf_of settings state p) reached.inside state.zones

  pub reads_few : (layers : Layers) (n : ℕ)
      → ((hit : Zone → Bool) (zones : List Zone) (refs : List Ref) → Tells x hit zones refs found → n ≤ list_reads (length refs) + found_reads layers hit zones)
      → nodes + n ≤ reads_of settings state p layers
  unfolding reads_of
  reads_few layers n step =
      let refs = refs_in s.layout (refs_of state.zones (leaf_of settings state p)) in
      let same : length refs ≡ count_at state (leaf_of settings state p) = length-map (refs_of state.zones (leaf_of settings state p)) (ref_in s.layout) in
      let few = step (hit_on (leaf_of settings state p)) (zones_on (leaf_of settings state p) state.zones) refs tells in
      omega (arith, few, ap list_reads same, long, reads_are layers (leaf_of settings state p) state.zones, reached.count)
