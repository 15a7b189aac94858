-- The copy of the image of no zones.
use Rattle.std.proofs.Common.{◌≡◌, ℕ, zero, suc, ◌+◌, ◌<◌, ◌≤◌, ◌⊎◌, inl, inr, false, true, refl, sym, ap, ◌∙◌, subst, arith, List, [], ◌∷◌, cond, Bool, nat_lt, ◌++◌, ◌≢◌, eqb, length}
use Rattle.std.specs.List.{flat_map, sum_by}
use Rattle.std.proofs.lemmas.Bool.{le-ltb}
use Rattle.std.proofs.lemmas.Bool.Decides.{eqb_tells}
use Rattle.act_grid.specs.declared.Point.{Point}
use Rattle.act_grid.specs.declared.Settings.{Settings}
use Rattle.act_grid.specs.Cell.{Address, root_cell}
use Rattle.act_base.specs.Counting.{times}
use Rattle.act_base.specs.Sight.{Sight}
use Rattle.act_entry.specs.declared.entry.Entry.TheVariants as entry
use Rattle.act_entry.specs.Entries.{entry_word}
use Rattle.act_super.specs.Grounds.{Ground, leaf_at, leaf_within}
use Rattle.act_super.specs.Nodes.{IsNode, entry_cell, first_leaf, ground_of, is_parted, node_leaves, nodes_of, pack_of}
use Rattle.act_super.specs.Packs.{empty_pack}
use Rattle.act_super.specs.States.{nothing}
use Rattle.act_super.specs.Stands.{IsBlank, StandsBy, rows_in as rows_of}
use Rattle.act_super.specs.NodeParts.{splits_near}
use Rattle.act_probe.proofs.WayFacts.{root_is}
use Rattle.act_image.specs.Plans.{lists_of, no_fill, put_lists}
use Rattle.act_image.specs.Pics.{IsCopy, Opens, Pic, firsts_in, layout_in, rows_in}

no_leaf : {X : Type 0} (g : Ground X) (n : ℕ) (c : Address) (p : Point) → leaf_within g n [] c p ≡ c
unfolding leaf_within
no_leaf g zero c p = refl
no_leaf g (suc n) c p = refl

root_leaf : (settings : Settings) (c : Address) → first_leaf settings nothing c ≡ root_cell
unfolding leaf_at
root_leaf settings c = no_leaf (ground_of settings nothing) 28 root_cell _

not_parted : (settings : Settings) (c : Address) → is_parted settings nothing c ≡ false
not_parted settings c = ap (λ (leaf : Address). nat_lt c.level leaf.level) (root_leaf settings c) ∙ le-ltb c.level 0 (omega arith)

only_root : (settings : Settings) (c : Address) → IsNode settings nothing c → c ≡ root_cell
only_root settings c node = by node.split
  where
    by : (c ≡ root_cell) ⊎ (is_parted settings nothing c ≡ true) → c ≡ root_cell
    by (inl same) = same
    by (inr parted) = let no = sym parted ∙ not_parted settings c in absurd (cc)

no_rows : (settings : Settings) (leaves : List Address) → (pack_of nothing empty_pack leaves).rows ≡ 0
no_rows settings [] = refl
no_rows settings (c ∷ leaves) = no_rows settings leaves

one_node : (settings : Settings) → nodes_of settings nothing ≡ root_cell ∷ []
unfolding nodes_of
one_node settings = refl

only_one : (r : ℕ) → times (1 ∷ []) r ≤ 1
only_one r = by (eqb 1 r)
  where
    by : (b : Bool) → cond b 1 0 + 0 ≤ 1
    by true = omega arith
    by false = omega arith

is_one : (r : ℕ) → 0 < times (1 ∷ []) r → r ≡ 1
is_one r some = by (eqb_tells 1 r) some
  where
    by : ((eqb 1 r ≡ true) × (1 ≡ r)) ⊎ ((eqb 1 r ≡ false) × (1 ≢ r)) → 0 < cond (eqb 1 r) 1 0 + 0 → r ≡ 1
    by (inl same) some = sym same.1
    by (inr other) some = let none : 0 < 0 + 0 = rw other.0 at some in absurd (omega (arith, none))

-- the copy with the root node alone
first_pic : Pic
first_pic = record { root = 1; nodes = record { cell = root_cell; first = 0; count = 0 } ∷ []; under = 0 ∷ []; lists = 0; chains = []; rows = 1 ∷ [] }

first_node : (settings : Settings) (c : Address) → IsNode settings nothing c → (layout_in first_pic).node c ≡ 1
unfolding first_pic layout_in
first_node settings c node = ap (layout_in first_pic).node (only_root settings c node)

first_lists : (settings : Settings) (c : Address) → IsNode settings nothing c → (layout_in first_pic).lists c ≡ []
unfolding first_pic layout_in
first_lists settings c node = ap (layout_in first_pic).lists (only_root settings c node)

first_rows : (settings : Settings) (r : ℕ) → times (1 ∷ []) r ≡ times (rows_of (layout_in first_pic) settings nothing) r
unfolding first_pic layout_in
first_rows settings r =
    ap (λ cells. times (flat_map (λ (c : Address). (layout_in first_pic).node c ∷ (layout_in first_pic).lists c) cells ++ []) r) (sym (one_node settings))

first_stands : (settings : Settings) (x : Sight) → IsBlank x → StandsBy settings x 1 nothing (layout_in first_pic)
unfolding first_pic layout_in
first_stands settings x blank = record {
  top = refl;
  entries = λ c i node within.
      ap (λ row. x.word row i) (first_node settings c node) ∙ blank.word i within
      ∙ sym (ap (λ b. entry_word (cond b (entry.Child ((layout_in first_pic).node (entry_cell c i))) entry.Empty)) (not_parted settings (entry_cell c i)));
  lists = λ c i node within whole many. absurd (omega (arith, many));
  list_rows = λ c node. ap length (first_lists settings c node) ∙ sym (no_rows settings (node_leaves settings nothing c));
  rest = λ c i place node within place_within is_rest. let none = ap length (first_lists settings c node) in absurd (omega (arith, within, none));
  chains = λ k d h. absurd (omega (arith, h));
  firsts = blank.firsts;
  rows = λ r. ap (λ rows. times rows r) blank.rows ∙ first_rows settings r;
  once = λ r. rw blank.rows (only_one r);
  low = λ r some. let one = is_one r (rw blank.rows at some) in rw one (omega arith, omega arith);
}

no_lists : (leaves : List Address) → put_lists [] no_fill [] leaves ≡ []
no_lists [] = refl
no_lists (leaf ∷ leaves) = no_lists leaves

none_listed : (settings : Settings) (c : Address) → lists_of settings nothing c ≡ []
unfolding lists_of
none_listed settings c = no_lists (node_leaves settings nothing c)

first_copy : (settings : Settings) → IsCopy settings first_pic nothing (root_cell ∷ [])
unfolding first_pic splits_near
first_copy settings = record {
  same = λ f. ap (sum_by f) (sym (one_node settings));
  are = (record { cell = root_is; step = refl; split = inl refl }, tt);
  queue = refl;
  nodes = ap (λ n. record { cell = root_cell; first = 0; count = n } ∷ []) (sym (ap length (none_listed settings root_cell)));
  under = refl;
  lists = sym (ap (λ v. length (v ++ [])) (none_listed settings root_cell));
  chains = refl;
  all = refl;
}

first_opens : Opens first_pic
unfolding first_pic rows_in firsts_in
first_opens = (
  refl,
  refl,
  λ settings x blank. record {
    served = record {
      few = λ p. omega arith;
      full = λ k d h. absurd (omega (arith, h));
      small = λ k d h. absurd (omega (arith, h));
      keys = λ k d h. absurd (omega (arith, h));
    };
    cells = root_cell ∷ [];
    copy = first_copy settings;
    lists = λ c i place node within small. let none = ap length (first_lists settings c node) in absurd (omega (arith, within, none));
    rows = blank.rows;
    firsts = blank.firsts;
    by_rows = first_stands settings x blank;
  },
)

pub opens : (p : Pic) → p.root ≡ 1 → p.nodes ≡ record { cell = root_cell; first = 0; count = 0 } ∷ [] → p.under ≡ 0 ∷ [] → p.lists ≡ 0 → p.chains ≡ [] → p.rows ≡ 1 ∷ [] → Opens p
unfolding first_pic
opens p root nodes under lists chains rows =
    let same : first_pic ≡ p = λ i. record { root = sym root i; nodes = sym nodes i; under = sym under i; lists = sym lists i; chains = sym chains i; rows = sym rows i } in
    subst Opens same first_opens
