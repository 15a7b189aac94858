-- Standings with the keys of their zones, one after the other.
use Rattle.std.proofs.Common.{◌≡◌, ℕ, ◌+◌, ◌<◌, refl, sym, subst, ap, ◌∙◌, Bool, true, false, ◌||◌, ◌&&◌, List, [], ◌∷◌, ◌++◌, length, map, take, get_or}
use Rattle.std.specs.Prelude.{All, nat_lt}
use Rattle.std.proofs.lemmas.List.{take_more}
use Rattle.std.proofs.lemmas.List.Elements.{All-append, All-cons, All-head, All-nil, All-tail, All-weaker}
use Rattle.act_grid.specs.declared.Hull.{Hull}
use Rattle.act_grid.specs.declared.Point.{Point}
use Rattle.act_grid.specs.Hull.{IsIn}
use Rattle.act_grid.specs.Cell.{Address, IsCell, hull_of}
use Rattle.act_cover.specs.Covering.{class_at, is_on, is_within}
use Rattle.act_super.specs.declared.listed.Listed.{Listed}
use Rattle.act_super.specs.declared.standing.Standing.{Standing}
use Rattle.act_super.specs.Frames.{IsFrame, IsWider, is_apart}
use Rattle.act_super.specs.Grounds.{asks, is_split, on, some_asks}
use Rattle.act_super.specs.Listings.{AreFramed, keys_in, listed_ground, refs_here, standings_in}
use Rattle.act_super.specs.NodeParts.{leaves_near, splits_near}
use Rattle.act_super.specs.Places.{zones_with}
use Rattle.act_super.specs.Sizes.{refs_of}
use Rattle.act_super.specs.Standings.{shapes_in, standing_ground}
use Rattle.act_super.proofs.FrameFacts.{frame_outside, wider_in}
use Rattle.act_super.proofs.NodeFacts.{leaves_same, narrow_equal, splits_same}
use Rattle.act_super.proofs.StandingFacts.{outside_below}
use Rattle.act_super.proofs.TreeFacts.{GoesDown, split_on}

-- the references by the zones themselves
refs_here_are : (zones : List Listed) (c : Address) → refs_here zones c ≡ refs_of (zones_with (keys_in zones) (shapes_in (standings_in zones))) c
refs_here_are [] c = refl
refs_here_are (z ∷ zones) c = by (is_on (class_at z.zone.now.shape c)) refl (refs_here_are zones c)
  where
    by : (b : Bool) → is_on (class_at z.zone.now.shape c) ≡ b → refs_here zones c ≡ refs_of (zones_with (keys_in zones) (shapes_in (standings_in zones))) c
        → refs_here (z ∷ zones) c ≡ refs_of (zones_with (keys_in (z ∷ zones)) (shapes_in (standings_in (z ∷ zones)))) c
    by true e rest = rw e (ap (λ xs. record { key = z.key; hit = is_within (class_at z.zone.now.shape c) } ∷ xs) rest)
    by false e rest = rw e rest

-- and by their keys and standings
pub refs_here_by : (zones : List Listed) (keys : List ℕ) (standings : List Standing) → keys_in zones ≡ keys → standings_in zones ≡ standings → (c : Address) → refs_here zones c ≡ refs_of (zones_with keys (shapes_in standings)) c
refs_here_by zones keys standings e f c =
    refs_here_are zones c ∙ ap (λ ks. refs_of (zones_with ks (shapes_in (standings_in zones))) c) e ∙ ap (λ ss. refs_of (zones_with keys (shapes_in ss)) c) f

pub map_same : {X Y : Type 0} (f g : X → Y) → ((x : X) → f x ≡ g x) → (xs : List X) → map f xs ≡ map g xs
map_same f g e [] = refl
map_same f g e (x ∷ xs) = ap (λ y. y ∷ map f xs) (e x) ∙ ap (λ ys. g x ∷ ys) (map_same f g e xs)

pub listed_go_down : (trained : List Address) → GoesDown (listed_ground trained)
listed_go_down trained z c q cell low four e = outside_below z.zone.now.shape c q cell low four e

-- the zones on a cell are enough for the references of the leaves in it
pub narrow_refs : (trained : List Address) (k : ℕ) (zones : List Listed) (c : Address) → IsCell c
    → map (refs_here (on (listed_ground trained) zones c)) (leaves_near (listed_ground trained) k zones c) ≡ map (refs_here zones) (leaves_near (listed_ground trained) k zones c)
narrow_refs trained k zones c cell =
    narrow_equal (listed_ground trained) (listed_go_down trained) refs_here (λ items others c e. ap (map (λ (z : Listed). record { key = z.key; hit = is_within (class_at z.zone.now.shape c) })) e) k zones c cell

asked_here : (trained : List Address) (zones : List Listed) (c : Address) → some_asks (listed_ground trained) c zones ≡ some_asks (standing_ground trained) c (standings_in zones)
asked_here trained [] c = refl
asked_here trained (z ∷ zones) c = ap (λ b. asks (listed_ground trained) c z || b) (asked_here trained zones c)

-- the node of the zones is that of their standings
pub leaves_here : (trained : List Address) (k : ℕ) (zones : List Listed) (c : Address) → leaves_near (listed_ground trained) k zones c ≡ leaves_near (standing_ground trained) k (standings_in zones) c
leaves_here trained k zones c = leaves_same (listed_ground trained) (standing_ground trained) zones (standings_in zones) (asked_here trained zones) k c

pub splits_here : (trained : List Address) (k : ℕ) (zones : List Listed) (c : Address) → splits_near (listed_ground trained) k zones c ≡ splits_near (standing_ground trained) k (standings_in zones) c
splits_here trained k zones c = splits_same (listed_ground trained) (standing_ground trained) zones (standings_in zones) (asked_here trained zones) k c

pub frame_wider : (f g : Hull) (rings : List (List Point)) → IsWider f g → IsFrame f rings → IsFrame g rings
frame_wider f g rings wider framed =
    All-weaker (λ ring. All (IsIn f) ring) (λ ring. All (IsIn g) ring) (λ ring. All-weaker (IsIn f) (IsIn g) (λ p. wider_in f g p wider) ring) rings framed

-- one zone more in a wider box
pub framed_more : (f g : Hull) (zones : List Listed) (i : ℕ) (z : Listed) → i < length zones → z ≡ get_or zones i z → IsWider f g → IsFrame g z.zone.now.shape
    → AreFramed f (take i zones) → AreFramed g (take (i + 1) zones)
framed_more f g zones i z less at wider one so =
    let P : Hull → Listed → Type 0 = λ h z. IsFrame h z.zone.now.shape in
    let before : AreFramed g (take i zones) = All-weaker (P f) (P g) (λ z framed. frame_wider f g z.zone.now.shape wider framed) (take i zones) so in
    subst (λ zs. AreFramed g zs) (sym (take_more zones i z less ∙ ap (λ x. take i zones ++ x ∷ []) (sym at)))
    (All-append (P g) (take i zones) (z ∷ []) before (All-cons (P g) z [] one (All-nil (P g))))

-- no zone is on a cell apart from the box
apart_none : (trained : List Address) (frame : Hull) (zones : List Listed) (c : Address) → AreFramed frame zones → is_apart frame (hull_of c) ≡ true
    → on (listed_ground trained) zones c ≡ []
apart_none trained frame [] c framed apart = refl
apart_none trained frame (z ∷ zones) c framed apart =
    let P : Listed → Type 0 = λ z. IsFrame frame z.zone.now.shape in
    let off : is_on (class_at z.zone.now.shape c) ≡ false = ap is_on (frame_outside frame z.zone.now.shape c (All-head P z zones framed) apart) in
    rw off (apart_none trained frame zones c (All-tail P z zones framed) apart)

pub apart_whole : (trained : List Address) (frame : Hull) (zones : List Listed) (c : Address) → AreFramed frame zones → is_apart frame (hull_of c) ≡ true
    → is_split (listed_ground trained) zones c ≡ false
apart_whole trained frame zones c framed apart =
    sym (split_on (listed_ground trained) zones c) ∙ ap (λ zs. is_split (listed_ground trained) zs c) (apart_none trained frame zones c framed apart) ∙ and_false (nat_lt c.level 28)
  where
    and_false : (b : Bool) → (b && false) ≡ false
    and_false true = refl
    and_false false = refl

pub apart_refs : (trained : List Address) (frame : Hull) (zones : List Listed) (c : Address) → AreFramed frame zones → is_apart frame (hull_of c) ≡ true → refs_here zones c ≡ []
apart_refs trained frame zones c framed apart =
    ap (map (λ (z : Listed). record { key = z.key; hit = is_within (class_at z.zone.now.shape c) })) (apart_none trained frame zones c framed apart)
