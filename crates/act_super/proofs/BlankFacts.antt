-- The image of no zones.
use Rattle.std.proofs.Common.{◌≡◌, ℕ, zero, suc, ◌+◌, ◌<◌, ◌≤◌, ◌⊎◌, inl, inr, false, true, refl, sym, ap, ◌∙◌, arith, List, [], ◌∷◌, cond, Bool, nat_lt, ◌++◌, ◌≢◌, eqb}
use Rattle.std.specs.List.{flat_map}
use Rattle.std.proofs.lemmas.Bool.{le-ltb}
use Rattle.std.proofs.lemmas.Bool.Decides.{eqb_tells}
use Rattle.act_grid.specs.declared.Point.{Point}
use Rattle.act_grid.specs.declared.Settings.{Settings}
use Rattle.act_grid.specs.Cell.{Address, root_cell}
use Rattle.act_base.specs.Counting.{times}
use Rattle.act_entry.specs.declared.entry.Entry.TheVariants as entry
use Rattle.act_entry.specs.Entries.{entry_word}
use Rattle.act_super.specs.declared.pack.Pack.{Pack}
use Rattle.act_super.specs.Grounds.{Ground, leaf_at, leaf_within}
use Rattle.act_super.specs.Nodes.{entry_cell, first_leaf, ground_of, is_parted, node_leaves, nodes_of, pack_of}
use Rattle.act_super.specs.Packs.{empty_pack}
use Rattle.act_super.specs.States.{nothing}
use Rattle.act_super.specs.Stands.{BlankStands, Layout}

-- one row for the root node
one_row : Layout
one_row = record { node = λ c. 1; lists = λ c. []; chain = λ key. [] }

no_leaf : {X : Type 0} (g : Ground X) (n : ℕ) (c : Address) (p : Point) → leaf_within g n [] c p ≡ c
unfolding leaf_within
no_leaf g zero c p = refl
no_leaf g (suc n) c p = refl

root_leaf : (settings : Settings) (c : Address) → first_leaf settings nothing c ≡ root_cell
unfolding leaf_at
root_leaf settings c = no_leaf (ground_of settings nothing) 28 root_cell _

not_parted : (settings : Settings) (c : Address) → is_parted settings nothing c ≡ false
not_parted settings c = ap (λ (leaf : Address). nat_lt c.level leaf.level) (root_leaf settings c) ∙ le-ltb c.level 0 (omega arith)

no_lists : (s : Pack) (leaves : List Address) → pack_of nothing s leaves ≡ s
no_lists s [] = refl
no_lists s (c ∷ leaves) = no_lists s leaves

one_node : (settings : Settings) → nodes_of settings nothing ≡ root_cell ∷ []
unfolding nodes_of
one_node settings = refl

only_one : (r : ℕ) → times (1 ∷ []) r ≤ 1
only_one r = by (eqb 1 r)
  where
    by : (b : Bool) → cond b 1 0 + 0 ≤ 1
    by true = omega arith
    by false = omega arith

is_one : (r : ℕ) → 0 < times (1 ∷ []) r → r ≡ 1
is_one r some = by (eqb_tells 1 r) some
  where
    by : ((eqb 1 r ≡ true) × (1 ≡ r)) ⊎ ((eqb 1 r ≡ false) × (1 ≢ r)) → 0 < cond (eqb 1 r) 1 0 + 0 → r ≡ 1
    by (inl same) some = sym same.1
    by (inr other) some = let none : 0 < 0 + 0 = rw other.0 at some in absurd (omega (arith, none))

pub blank_stands : BlankStands
unfolding one_row
blank_stands settings x blank = record {
  served = record {
    few = λ p. omega arith;
    full = λ k d h. absurd (omega (arith, h));
    small = λ k d h. absurd (omega (arith, h));
    keys = λ k d h. absurd (omega (arith, h));
  };
  layout = one_row;
  by_rows = record {
    top = refl;
    entries = λ c i node within.
        blank.word i within
        ∙ sym (ap (λ b. entry_word (cond b (entry.Child 1) entry.Empty)) (not_parted settings (entry_cell c i)));
    lists = λ c i node within whole many. absurd (omega (arith, many));
    list_rows = λ c node. sym (ap (λ (s : Pack). s.rows) (no_lists empty_pack (node_leaves settings nothing c)));
    rest = λ c i place node within place_within is_rest. absurd (omega (arith, within));
    chains = λ k d h. absurd (omega (arith, h));
    firsts = blank.firsts;
    rows = λ r. ap (λ rows. times rows r) (blank.rows ∙ sym (ap (λ cells. flat_map (λ (c : Address). 1 ∷ []) cells ++ []) (one_node settings)));
    once = λ r. rw blank.rows (only_one r);
    low = λ r some. let one = is_one r (rw blank.rows at some) in rw one (omega arith, omega arith);
  };
}
