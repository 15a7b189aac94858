-- Standings in a box, and cells apart from it or around it.
use Rattle.std.proofs.Common.{◌≡◌, ℕ, zero, suc, ◌+◌, ◌<◌, refl, sym, ap, ◌∙◌, arith, subst, Bool, true, false, cond, ◌&&◌, List, [], ◌∷◌, ◌++◌, length, take, get_or}
use Rattle.std.specs.Prelude.{All, nat_lt}
use Rattle.std.specs.Borrow.{Bor}
use Rattle.std.specs.List.{list_any}
use Rattle.std.proofs.lemmas.List.{take_more}
use Rattle.std.proofs.lemmas.List.Elements.{All-append, All-cons, All-filter, All-head, All-nil, All-tail, All-weaker, filter_passes}
use Rattle.std.proofs.lemmas.List.Folds.{list_any_at}
use Rattle.std.proofs.lemmas.List.Sums.{sum_by-cons}
use Rattle.act_grid.specs.declared.Point.{Point}
use Rattle.act_grid.specs.declared.Hull.{Hull}
use Rattle.act_grid.specs.Cell.{Address, hull_of}
use Rattle.act_geom.specs.declared.class.Class.TheVariants.{Inside, Outside, Mixed}
use Rattle.act_geom.specs.Edges.{edges_of}
use Rattle.act_geom.specs.Inside.{counts, is_odd_by}
use Rattle.act_geom.specs.Rings.{vertices_of}
use Rattle.act_geom.specs.Touch.{touches_hull}
use Rattle.act_cover.specs.Covering.{class_at, is_on}
use Rattle.act_super.specs.declared.standing.Standing.{Standing}
use Rattle.act_super.specs.Boxes.{AreBoxed, AreFramed, AreMixed}
use Rattle.act_super.specs.Frames.{IsFrame, IsWider, is_apart, is_around}
use Rattle.act_super.specs.Grounds.{asks, is_split, on, some_asks}
use Rattle.act_super.specs.Standings.{standing_ground, values}
use Rattle.act_super.proofs.AroundFacts.{around_mixed}
use Rattle.act_super.proofs.FrameFacts.{frame_outside}
use Rattle.act_super.proofs.ListingFacts.{frame_wider}
use Rattle.act_super.proofs.NarrowFacts.{length-values, value_at}
use Rattle.act_super.proofs.TreeFacts.{split_on}

no_edges : (rings : List (List Point)) → vertices_of rings ≡ 0 → edges_of rings ≡ []
no_edges [] h = refl
no_edges ([] ∷ rings) h = no_edges rings h
no_edges ((a ∷ rest) ∷ rings) h =
    let some : vertices_of ((a ∷ rest) ∷ rings) ≡ suc (length rest) + vertices_of rings = sum_by-cons length (a ∷ rest) rings in
    absurd (omega (arith, h, some))

no_vertex : (rings : List (List Point)) (c : Address) → vertices_of rings ≡ 0 → class_at rings c ≡ Outside
unfolding class_at
no_vertex rings c h = ap (λ edges. cond (list_any (touches_hull (hull_of c)) edges) Mixed (cond (is_odd_by (counts (hull_of c).lo) edges) Inside Outside)) (no_edges rings h)

-- a shape on a cell has a vertex
has_vertex : (rings : List (List Point)) (c : Address) → is_on (class_at rings c) ≡ true → 0 < vertices_of rings
has_vertex rings c h = by (vertices_of rings) refl
  where
    by : (n : ℕ) → vertices_of rings ≡ n → 0 < vertices_of rings
    by zero e =
        let off : is_on (class_at rings c) ≡ false = ap is_on (no_vertex rings c e) in
        absurd (cc)
    by (suc n) e = omega (arith, e)

-- one zone more in a wider box
pub framed_next : (f g : Hull) (refs : List (Bor Standing)) (i : ℕ) (r : Bor Standing) → i < length refs → r ≡ get_or refs i r → IsWider f g → IsFrame g r.now.shape
    → AreFramed f (take i (values refs)) → AreFramed g (take (i + 1) (values refs))
framed_next f g refs i r less at wider one so =
    let P : Hull → Standing → Type 0 = λ h s. IsFrame h s.shape in
    let before : AreFramed g (take i (values refs)) = All-weaker (P f) (P g) (λ s framed. frame_wider f g s.shape wider framed) (take i (values refs)) so in
    subst (AreFramed g) (sym (take_more (values refs) i r.now (length-values refs i less) ∙ ap (λ s. take i (values refs) ++ s ∷ []) (value_at refs i r less at)))
    (All-append (P g) (take i (values refs)) (r.now ∷ []) before (All-cons (P g) r.now [] one (All-nil (P g))))

-- the zones on a cell have vertices
pub boxed_on : (trained : List Address) (frame : Hull) (standings : List Standing) (c : Address) → AreFramed frame standings
    → on (standing_ground trained) standings c ≡ standings → AreBoxed frame standings
boxed_on trained frame standings c framed here n d less =
    let are_on = subst (λ ss. All (λ (s : Standing). is_on (class_at s.shape c) ≡ true) ss) here (filter_passes (λ (s : Standing). is_on (class_at s.shape c)) standings) in
    (framed n d less, has_vertex _ c (are_on n d less))

pub boxed_below : (trained : List Address) (frame : Hull) (standings : List Standing) (c : Address) → AreBoxed frame standings → AreBoxed frame (on (standing_ground trained) standings c)
boxed_below trained frame standings c boxed =
    All-filter (λ (s : Standing). is_on (class_at s.shape c)) (λ (s : Standing). IsFrame frame s.shape × (0 < vertices_of s.shape)) standings boxed

-- no zone is on a cell apart from the box
pub none_apart : (trained : List Address) (frame : Hull) (standings : List Standing) (c : Address) → AreBoxed frame standings → is_apart frame (hull_of c) ≡ true
    → on (standing_ground trained) standings c ≡ []
none_apart trained frame [] c boxed apart = refl
none_apart trained frame (s ∷ standings) c boxed apart =
    let P : Standing → Type 0 = λ s. IsFrame frame s.shape × (0 < vertices_of s.shape) in
    let off : is_on (class_at s.shape c) ≡ false = ap is_on (frame_outside frame s.shape c (All-head P s standings boxed).0 apart) in
    rw off (none_apart trained frame standings c (All-tail P s standings boxed) apart)

pub whole_apart : (trained : List Address) (frame : Hull) (standings : List Standing) (c : Address) → AreBoxed frame standings → is_apart frame (hull_of c) ≡ true
    → is_split (standing_ground trained) standings c ≡ false
whole_apart trained frame standings c boxed apart =
    sym (split_on (standing_ground trained) standings c) ∙ ap (λ ss. is_split (standing_ground trained) ss c) (none_apart trained frame standings c boxed apart) ∙ and_false (nat_lt c.level 28)
  where
    and_false : (b : Bool) → (b && false) ≡ false
    and_false true = refl
    and_false false = refl

-- each zone is Mixed on a cell around the box
pub mixed_around : (frame : Hull) (standings : List Standing) (c : Address) → AreBoxed frame standings → is_around (hull_of c) frame ≡ true → AreMixed c standings
mixed_around frame standings c boxed around n d less = around_mixed frame _ c (boxed n d less).0 around (boxed n d less).1

pub all_mixed : (trained : List Address) (standings : List Standing) (c : Address) → AreMixed c standings → on (standing_ground trained) standings c ≡ standings
all_mixed trained [] c mixed = refl
all_mixed trained (s ∷ standings) c mixed =
    let P : Standing → Type 0 = λ s. class_at s.shape c ≡ Mixed in
    let here : is_on (class_at s.shape c) ≡ true = ap is_on (All-head P s standings mixed) in
    rw here (ap (λ ss. s ∷ ss) (all_mixed trained standings c (All-tail P s standings mixed)))

-- what is so of each zone is so of the one at a place
pub mixed_at : (refs : List (Bor Standing)) (c : Address) (i : ℕ) (r : Bor Standing) → i < length refs → r ≡ get_or refs i r → AreMixed c (values refs) → class_at r.now.shape c ≡ Mixed
mixed_at refs c i r less at mixed = subst (λ (s : Standing). class_at s.shape c ≡ Mixed) (value_at refs i r less at) (mixed i r.now (length-values refs i less))

pub asked_at : (trained : List Address) (refs : List (Bor Standing)) (c : Address) (i : ℕ) (r : Bor Standing) → i < length refs → r ≡ get_or refs i r
    → asks (standing_ground trained) c r.now ≡ true → some_asks (standing_ground trained) c (values refs) ≡ true
asked_at trained refs c i r less at asked =
    list_any_at (asks (standing_ground trained) c) (values refs) i r.now (length-values refs i less) (ap (asks (standing_ground trained) c) (value_at refs i r less at) ∙ asked)
