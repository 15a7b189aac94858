-- The nodes of the image before a change, by where they stand.
use Rattle.std.proofs.Common.{◌≡◌, ℕ, zero, suc, ◌+◌, ◌-◌, ◌<◌, ◌≤◌, Bool, true, false, cond, ◌||◌, ◌==◌, ◌≢◌, ◌⊎◌, inl, inr, eqb, set, take, refl, sym, ap, ◌∙◌, subst, arith, List, [], ◌∷◌, ◌++◌, Option, Some, None, length, get_or}
use Rattle.std.proofs.lemmas.Bool.{ne_eqb}
use Rattle.std.proofs.lemmas.Bool.Decides.{eqb_tells}
use Rattle.std.proofs.lemmas.List.{append_assoc, get_or-set_other, get_or-set_same, length-set, take_more}
use Rattle.act_grid.specs.Cell.{Address}
use Rattle.act_super.specs.Grounds.{same_cell}
use Rattle.act_image.specs.declared.nodes.NodePlace.{NodePlace}
use Rattle.act_image.specs.declared.slots.Slot.{Slot}
use Rattle.act_image.specs.declared.slots.Slot.TheVariants as slot
use Rattle.act_image.specs.Kept.{new_slots}
use Rattle.act_image.specs.Paths.{HaveOwnCells, StaysIn, has_source, places_on}
use Rattle.act_image.specs.Pics.{no_node, node_at}
use Rattle.act_image.proofs.FillFacts.{same_is, same_self}

record FoundNode (nodes : List NodePlace) (c : Address) : Type 0 where
  pub within : node_at nodes c < length nodes
  pub cell : (get_or nodes (node_at nodes c) no_node).cell ≡ c

module _ (n : NodePlace) (nodes : List NodePlace) (c : Address) where
  both : (b : Bool) → same_cell n.cell c ≡ b → cond b 0 (suc (node_at nodes c)) < suc (length nodes) → (get_or (n ∷ nodes) (cond b 0 (suc (node_at nodes c))) no_node).cell ≡ c → FoundNode (n ∷ nodes) c
  both b is within cell = record {
    within = subst (λ b. cond b 0 (suc (node_at nodes c)) < suc (length nodes)) (sym is) within;
    cell = subst (λ b. (get_or (n ∷ nodes) (cond b 0 (suc (node_at nodes c))) no_node).cell ≡ c) (sym is) cell;
  }

  here : n.cell ≡ c → FoundNode (n ∷ nodes) c
  here e = both true (same_self n.cell c e) (omega arith) e

  further : (b : Bool) → same_cell n.cell c ≡ b → FoundNode nodes c → FoundNode (n ∷ nodes) c
  further true is f = both true is (omega arith) (same_is n.cell c is)
  further false is f = both false is (omega (arith, f.within)) f.cell

found_node : (nodes : List NodePlace) (c : Address) (i : ℕ) → i < length nodes → (get_or nodes i no_node).cell ≡ c → FoundNode nodes c
found_node [] c i low e = absurd (omega (arith, low))
found_node (n ∷ nodes) c zero low e = here n nodes c e
found_node (n ∷ nodes) c (suc j) low e = further n nodes c (same_cell n.cell c) refl (found_node nodes c j (omega (arith, low)) e)

-- a node with the cell stands nowhere else
pub node_is_at : (nodes : List NodePlace) (c : Address) (i : ℕ) → HaveOwnCells nodes → i < length nodes → (get_or nodes i no_node).cell ≡ c → i ≡ node_at nodes c
node_is_at nodes c i own low e = let f = found_node nodes c i low e in own i (node_at nodes c) low f.within (e ∙ sym f.cell)

-- ---- steps of loops
pub places_step : (sources more : List (Option ℕ)) (first i count : ℕ) → i < count → more ≡ sources ++ Some (first + i) ∷ [] → sources ++ places_on (first + i) (count - i) ≡ more ++ places_on (first + (i + 1)) (count - (i + 1))
places_step sources more first i count low is =
    let left : count - i ≡ suc (count - (i + 1)) = omega (arith, low) in
    let next : first + i + 1 ≡ first + (i + 1) = omega arith in
    ap (λ n. sources ++ places_on (first + i) n) left ∙ ap (λ n. sources ++ Some (first + i) ∷ places_on n (count - (i + 1))) next
    ∙ sym (ap (λ v. v ++ places_on (first + (i + 1)) (count - (i + 1))) is ∙ append_assoc sources (Some (first + i) ∷ []) (places_on (first + (i + 1)) (count - (i + 1))))

pub new_step : (slots more : List Slot) (i count : ℕ) → i < count → more ≡ slots ++ slot.New ∷ [] → slots ++ new_slots (count - i) ≡ more ++ new_slots (count - (i + 1))
new_step slots more i count low is =
    let left : count - i ≡ suc (count - (i + 1)) = omega (arith, low) in
    ap (λ n. slots ++ new_slots n) left ∙ sym (ap (λ v. v ++ new_slots (count - (i + 1))) is ∙ append_assoc slots (slot.New ∷ []) (new_slots (count - (i + 1))))

-- ---- places marked one by one
has_push : (xs : List (Option ℕ)) (s : Option ℕ) (j : ℕ) → has_source (xs ++ s ∷ []) j ≡ (has_source xs j || has_source (s ∷ []) j)
has_push [] s j = refl
has_push (None ∷ xs) s j = has_push xs s j
has_push (Some i ∷ xs) s j = ap (λ b. (i == j) || b) (has_push xs s j) ∙ three (i == j) (has_source xs j) (has_source (s ∷ []) j)
  where
    three : (a b d : Bool) → (a || (b || d)) ≡ ((a || b) || d)
    three true b d = refl
    three false b d = refl

or_false : (b : Bool) → (b || false) ≡ b
or_false true = refl
or_false false = refl

or_true : (b : Bool) → (b || true) ≡ true
or_true true = refl
or_true false = refl

module _ (sources : List (Option ℕ)) (i count : ℕ) (stays : List Bool) (h : StaysIn (take i sources) count stays) (low : i < length sources) where
  has_more : (s : Option ℕ) → get_or sources i None ≡ s → (j : ℕ) → has_source (take (i + 1) sources) j ≡ (has_source (take i sources) j || has_source (s ∷ []) j)
  has_more s is j = ap (λ v. has_source v j) (take_more sources i None low ∙ ap (λ v. take i sources ++ v ∷ []) is) ∙ has_push (take i sources) s j

  as_before : (s : Option ℕ) → get_or sources i None ≡ s → ((j : ℕ) → j < count → has_source (s ∷ []) j ≡ false) → StaysIn (take (i + 1) sources) count stays
  as_before s is none = record {
    count_is = h.count_is;
    each = λ j small. h.each j small ∙ sym (has_more s is j ∙ ap (λ b. has_source (take i sources) j || b) (none j small) ∙ or_false (has_source (take i sources) j));
  }

  pub stays_none : get_or sources i None ≡ None → StaysIn (take (i + 1) sources) count stays
  stays_none is = as_before None is (λ j small. refl)

  pub stays_far : (at : ℕ) → get_or sources i None ≡ Some at → count ≤ at → StaysIn (take (i + 1) sources) count stays
  stays_far at is far = as_before (Some at) is (λ j small. ap (λ b. b || false) (ne_eqb at j (λ same. omega (arith, same, small, far))))

  pub stays_set : (at : ℕ) → get_or sources i None ≡ Some at → at < count → StaysIn (take (i + 1) sources) count (set stays at true)
  stays_set at is near = record {
    count_is = length-set stays at true ∙ h.count_is;
    each = λ j small. by j small (eqb_tells at j);
  }
    where
      by : (j : ℕ) → j < count → ((eqb at j ≡ true) × (at ≡ j)) ⊎ ((eqb at j ≡ false) × (at ≢ j)) → get_or (set stays at true) j false ≡ has_source (take (i + 1) sources) j
      by j small (inl same) =
          ap (λ m. get_or (set stays at true) m false) (sym same.1) ∙ get_or-set_same stays at true false (omega (arith, near, h.count_is))
          ∙ sym (has_more (Some at) is j ∙ ap (λ b. has_source (take i sources) j || (b || false)) same.0 ∙ or_true (has_source (take i sources) j))
      by j small (inr other) =
          get_or-set_other stays at j true false (λ e. other.1 (sym e)) ∙ h.each j small
          ∙ sym (has_more (Some at) is j ∙ ap (λ b. has_source (take i sources) j || (b || false)) other.0 ∙ or_false (has_source (take i sources) j))
