-- The super covering with one more trained cell.
use Rattle.std.proofs.Common.{◌≡◌, ℕ, zero, suc, ◌+◌, ◌-◌, ◌/◌, ◌^◌, ◌<◌, ◌≤◌, refl, ap, ◌∙◌, arith, Bool, true, false, ◌&&◌, ◌||◌, List, [], ◌∷◌}
use Rattle.std.specs.Prelude.{nat_lt}
use Rattle.std.proofs.lemmas.List.Folds.{list_any-append}
use Rattle.act_grid.specs.Cell.{Address, IsPart, child_of, root_cell}
use Rattle.act_super.specs.declared.grow.Growth.{Growth}
use Rattle.act_super.specs.declared.pack.Pack.{Pack}
use Rattle.act_super.specs.declared.standing.Standing.{Standing}
use Rattle.act_super.specs.Grounds.{asks, is_among, is_mixed, is_split, on, same_cell, some_asks}
use Rattle.act_super.specs.Growths.{IsGrowth}
use Rattle.act_super.specs.Packs.{empty_pack, inner, node_rows, put_tree}
use Rattle.act_super.specs.Shifts.{added}
use Rattle.act_super.specs.Standings.{standing_ground, standing_rows}
use Rattle.act_super.specs.Trees.{tree_of, under}
use Rattle.act_super.proofs.CountFacts.{power}
use Rattle.act_super.proofs.MarkFacts.{same_then_all}
use Rattle.act_super.proofs.RoomFacts.{parted_rows}
use Rattle.act_super.proofs.TopFacts.{top_under}
use Rattle.act_super.proofs.TrainFacts.{asks_more}

-- nothing changes
pub growth_none : (rows : ℕ) → IsGrowth rows rows (record { less = 0; more = 0 })
growth_none rows = record { rows = refl; fewer = omega arith; newer = omega arith }

-- a leaf becomes another part
pub growth_leaf : (more : ℕ) → IsGrowth 0 more (record { less = 0; more = more })
growth_leaf more = record { rows = omega arith; fewer = omega arith; newer = omega arith }

-- a node, with the rows of its own
pub growth_node : (old new p p' : ℕ) (s : Growth) → IsGrowth old new s → IsGrowth (1 + p + old) (1 + p' + new) (record { less = p + s.less; more = p' + s.more })
growth_node old new p p' s h = record { rows = omega (arith, h.rows); fewer = omega (arith, h.fewer); newer = omega (arith, h.newer) }

pub growth_four : (o1 o2 o3 o4 n1 n2 n3 n4 : ℕ) (a b c d : Growth) → IsGrowth o1 n1 a → IsGrowth o2 n2 b → IsGrowth o3 n3 c → IsGrowth o4 n4 d
    → IsGrowth (o1 + o2 + o3 + o4) (n1 + n2 + n3 + n4) (record { less = a.less + b.less + c.less + d.less; more = a.more + b.more + c.more + d.more })
growth_four o1 o2 o3 o4 n1 n2 n3 n4 a b c d h k l m = record {
  rows = omega (arith, h.rows, k.rows, l.rows, m.rows);
  fewer = omega (arith, h.fewer, k.fewer, l.fewer, m.fewer);
  newer = omega (arith, h.newer, k.newer, l.newer, m.newer);
}

-- the same growth between equal numbers
pub growth_is : (old new old' new' : ℕ) (s : Growth) → old ≡ old' → new ≡ new' → IsGrowth old' new' s → IsGrowth old new s
growth_is old new old' new' s a b h = record { rows = omega (arith, a, b, h.rows); fewer = omega (arith, a, h.fewer); newer = omega (arith, b, h.newer) }

-- a part of a child is one of its parent
part_up : (c d : Address) (q : ℕ) → q < 4 → IsPart (child_of c q) d → IsPart c d
part_up c d q four h =
    let k = d.level - (c.level + 1) in
    let e : d.level - c.level ≡ suc k = omega (arith, h.below) in
    record {
      below = omega (arith, h.below);
      begins = ap (λ n. d.path / 4 ^ n) e ∙ power k d.path ∙ ap (λ n. n / 4) h.begins ∙ omega arith;
    }

part_itself : (c d : Address) → d.level ≡ c.level → d.path ≡ c.path → IsPart c d
part_itself c d l p =
    let none : d.level - c.level ≡ 0 = omega (arith, l) in
    record { below = omega (arith, l); begins = ap (λ n. d.path / 4 ^ n) none ∙ omega (arith, p) }

-- a cell in which the new one doesn't lie is trained as before
among_apart : (old : List Address) (t c : Address) → (IsPart c t → ⊥) → is_among (added old t) c ≡ is_among old c
among_apart old t c apart = list_any-append (λ d. same_cell d c) old (t ∷ []) ∙ ap (λ b. is_among old c || (b || false)) (by (same_cell t c) refl) ∙ ends (is_among old c)
  where
    ends : (b : Bool) → (b || (false || false)) ≡ b
    ends true = refl
    ends false = refl

    by : (b : Bool) → same_cell t c ≡ b → b ≡ false
    by false e = refl
    by true e = let same = same_then_all c t e in absurd (apart (part_itself c t same.0 same.1))

among_still : (old : List Address) (t c : Address) → is_among old c ≡ true → is_among (added old t) c ≡ true
among_still old t c e = list_any-append (λ d. same_cell d c) old (t ∷ []) ∙ ap (λ b. b || is_among (t ∷ []) c) e

asked_alike : (some all : List Address) (c : Address) (items : List Standing) → is_among all c ≡ is_among some c → some_asks (standing_ground all) c items ≡ some_asks (standing_ground some) c items
asked_alike some all c [] e = refl
asked_alike some all c (x ∷ items) e =
    ap (λ b. asks (standing_ground all) c x || b) (asked_alike some all c items e)
    ∙ ap (λ b. (is_mixed ((standing_ground some).class x c) && (nat_lt c.level x.level || b)) || some_asks (standing_ground some) c items) e

tree_apart : (old : List Address) (t : Address) (n : ℕ) (items : List Standing) (c : Address) → (IsPart c t → ⊥)
    → tree_of (standing_ground (added old t)) n items c ≡ tree_of (standing_ground old) n items c
unfolding tree_of
tree_apart old t zero items c apart = refl
tree_apart old t (suc n) items c apart =
    let ih : (q : ℕ) → q < 4 → tree_of (standing_ground (added old t)) n items (child_of c q) ≡ tree_of (standing_ground old) n items (child_of c q) =
    λ q four. tree_apart old t n items (child_of c q) (λ part. apart (part_up c t q four part)) in
    rw (asked_alike old (added old t) c items (among_apart old t c apart), ih 0 (omega arith), ih 1 (omega arith), ih 2 (omega arith), ih 3 (omega arith)) refl

pub under_apart : (old new : List Address) (t : Address) (items : List Standing) (c : Address) → new ≡ added old t → (IsPart c t → ⊥)
    → under (standing_ground new) items c ≡ under (standing_ground old) items c
unfolding under
under_apart old new t items c e apart = ap (λ cells. tree_of (standing_ground cells) (28 - c.level) items c) e ∙ tree_apart old t (28 - c.level) items c apart

pub split_kept : (old new : List Address) (t : Address) (items : List Standing) (c : Address) → new ≡ added old t
    → is_split (standing_ground old) items c ≡ true → is_split (standing_ground new) items c ≡ true
split_kept old new t items c e h =
    ap (λ cells. is_split (standing_ground cells) items c) e
    ∙ one (nat_lt c.level 28) (some_asks (standing_ground old) c items) (some_asks (standing_ground (added old t)) c items)
    (λ asked. asks_more (standing_ground []) (is_among old) (is_among (added old t)) (λ d. among_still old t d) c items asked) h
  where
    one : (a b d : Bool) → (b ≡ true → d ≡ true) → (a && b) ≡ true → (a && d) ≡ true
    one a b d k e = grind arith

-- the rows, from what a descent from the root tells
pub grown_rows : (old new : List Address) (zones here : List Standing) (root : Address) (first last first' last' : Pack) (s : Growth) (rows : ℕ)
    → root ≡ root_cell → here ≡ on (standing_ground old) zones root → first ≡ empty_pack → first' ≡ empty_pack
    → last ≡ put_tree 4 first (under (standing_ground old) here root) → last' ≡ put_tree 4 first' (under (standing_ground new) here root)
    → IsGrowth (inner 4 (under (standing_ground old) here root)) (inner 4 (under (standing_ground new) here root)) s
    → rows ≡ standing_rows old zones
    → (standing_rows new zones + (last.rows + s.less) ≡ rows + (last'.rows + s.more)) × (last.rows + s.less ≤ rows)
grown_rows old new zones here root first last first' last' s rows r h e e' put put' growth is =
    let under_old = top_under old zones here root r h in
    let under_new = top_under new zones here root r h in
    let a : last ≡ put_tree 4 empty_pack (under (standing_ground old) zones root_cell) = put ∙ ap (λ p. put_tree 4 p (under (standing_ground old) here root)) e ∙ ap (put_tree 4 empty_pack) under_old in
    let b : last' ≡ put_tree 4 empty_pack (under (standing_ground new) zones root_cell) = put' ∙ ap (λ p. put_tree 4 p (under (standing_ground new) here root)) e' ∙ ap (put_tree 4 empty_pack) under_new in
    let c : node_rows (under (standing_ground old) zones root_cell) ≡ 1 + last.rows + inner 4 (under (standing_ground old) here root) = omega (arith, ap (λ (p : Pack). p.rows) a, ap (inner 4) under_old) in
    let d : node_rows (under (standing_ground new) zones root_cell) ≡ 1 + last'.rows + inner 4 (under (standing_ground new) here root) = omega (arith, ap (λ (p : Pack). p.rows) b, ap (inner 4) under_new) in
    (omega (arith, c, d, growth.rows, is, parted_rows old zones, parted_rows new zones), omega (arith, c, growth.fewer, is, parted_rows old zones))
