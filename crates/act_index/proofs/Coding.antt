-- Entries as numbers tell the entries and the settings.
use Rattle.std.proofs.Common.{◌≡◌, ℕ, pos, negsuc, zero, suc, ◌<◌, ◌≤◌, List, [], ◌∷◌, ◌++◌, length, take, drop, filter, get_or, sym, refl, ap, ◌∙◌, subst, arith, append_assoc}
use Rattle.std.specs.List.{flat_map}
use Rattle.std.proofs.lemmas.List.{append-nil}
use denote.Struct.Props.{props}
use mathlib.Core.HLevel.{is_prop→PathP}
use Rattle.act_grid.specs.declared.Point.{Point}
use Rattle.act_grid.specs.declared.Settings.{Settings}
use Rattle.act_grid.specs.Cell.{Address}
use Rattle.act_super.specs.declared.entry.Entry.{Entry}
use Rattle.act_super.specs.declared.entry.Entry.TheVariants as entry
use Rattle.act_super.specs.declared.entry.State.{State}
use Rattle.act_super.specs.Histories.{IsLegalFrom, is_update}
use Rattle.act_super.specs.States.{after, nothing}
use Rattle.act_rows.specs.History.{History, Begins}
use Rattle.act_index.specs.Codes.{IsTold, cell_code, cells_code, code, codes, coordinate_code, point_code, ring_code, settings_code, shape_code, updates_in}

head_is : (x y : ℕ) (xs ys : List ℕ) → x ∷ xs ≡ y ∷ ys → x ≡ y
head_is x y xs ys e = ap (λ z. get_or z 0 0) e

tail_is : (x y : ℕ) (xs ys : List ℕ) → x ∷ xs ≡ y ∷ ys → xs ≡ ys
tail_is x y xs ys e = ap (drop 1) e

-- numbers that tell what they are of, whatever follows them
abbrev Tells : {A : Type 0} → (A → List ℕ) → Type 0
Tells {A} f = (a b : A) (xs ys : List ℕ) → f a ++ xs ≡ f b ++ ys → (a ≡ b) × (xs ≡ ys)

coordinates_tell : Tells coordinate_code
coordinates_tell (pos n) (pos m) xs ys e = let t = tail_is 0 0 (n ∷ xs) (m ∷ ys) e in (ap pos (head_is n m xs ys t), tail_is n m xs ys t)
coordinates_tell (negsuc n) (negsuc m) xs ys e = let t = tail_is 1 1 (n ∷ xs) (m ∷ ys) e in (ap negsuc (head_is n m xs ys t), tail_is n m xs ys t)
coordinates_tell (pos n) (negsuc m) xs ys e = let h = head_is 0 1 (n ∷ xs) (m ∷ ys) e in absurd (omega arith)
coordinates_tell (negsuc n) (pos m) xs ys e = let h = head_is 1 0 (n ∷ xs) (m ∷ ys) e in absurd (omega arith)

points_tell : Tells point_code
points_tell p q xs ys e =
    let x = coordinates_tell p.x q.x (coordinate_code p.y ++ xs) (coordinate_code q.y ++ ys) (sym (append_assoc (coordinate_code p.x) (coordinate_code p.y) xs) ∙ (e ∙ append_assoc (coordinate_code q.x) (coordinate_code q.y) ys)) in
    let y = coordinates_tell p.y q.y xs ys x.1 in
    (λ i. record { x = x.0 i; y = y.0 i }, y.1)

cells_tell : Tells cell_code
cells_tell c d xs ys e =
    let l = head_is c.level d.level (c.path ∷ xs) (d.path ∷ ys) e in
    let t = tail_is c.level d.level (c.path ∷ xs) (d.path ∷ ys) e in
    (λ i. record { level = l i; path = head_is c.path d.path xs ys t i }, tail_is c.path d.path xs ys t)

-- so do lists, after their lengths
module _ {A : Type 0} (f : A → List ℕ) (tells : Tells f) where
  items_tell : (vs ws : List A) (xs ys : List ℕ) → length vs ≡ length ws → flat_map f vs ++ xs ≡ flat_map f ws ++ ys → (vs ≡ ws) × (xs ≡ ys)
  items_tell [] [] xs ys n e = (refl, e)
  items_tell [] (b ∷ ws) xs ys n e = absurd (omega arith)
  items_tell (a ∷ vs) [] xs ys n e = absurd (omega arith)
  items_tell (a ∷ vs) (b ∷ ws) xs ys n e =
      let h = tells a b (flat_map f vs ++ xs) (flat_map f ws ++ ys) (sym (append_assoc (f a) (flat_map f vs) xs) ∙ (e ∙ append_assoc (f b) (flat_map f ws) ys)) in
      let t = items_tell vs ws xs ys (omega arith) h.1 in
      (λ i. h.0 i ∷ t.0 i, t.1)

  pub lists_tell : (vs ws : List A) (xs ys : List ℕ) → length vs ∷ flat_map f vs ++ xs ≡ length ws ∷ flat_map f ws ++ ys → (vs ≡ ws) × (xs ≡ ys)
  lists_tell vs ws xs ys e =
      items_tell vs ws xs ys (head_is (length vs) (length ws) (flat_map f vs ++ xs) (flat_map f ws ++ ys) e) (tail_is (length vs) (length ws) (flat_map f vs ++ xs) (flat_map f ws ++ ys) e)

rings_tell : Tells ring_code
rings_tell r s xs ys e = lists_tell point_code points_tell r s xs ys e

shapes_tell : Tells shape_code
shapes_tell s t xs ys e = lists_tell ring_code rings_tell s t xs ys e

shape_is : (s t : List (List Point)) → shape_code s ≡ shape_code t → s ≡ t
shape_is s t e = (shapes_tell s t [] [] (append-nil (shape_code s) ∙ (e ∙ sym (append-nil (shape_code t))))).0

trained_are : (c d : List Address) → cells_code c ≡ cells_code d → c ≡ d
trained_are c d e = (lists_tell cell_code cells_tell c d [] [] (append-nil (cells_code c) ∙ (e ∙ sym (append-nil (cells_code d))))).0

-- settings with the same numbers
settings_are : (k j : Settings) → k.digits ≡ j.digits → k.rows ≡ j.rows → k.cells ≡ j.cells → k.workers ≡ j.workers → k ≡ j
settings_are k j d r c w = λ i. record {
  digits = d i;
  rows = r i;
  cells = c i;
  workers = w i;
  in_limits = is_prop→PathP (λ n. (d n ≤ 9) × (1 ≤ r n) × (r n ≤ 262144) × (1 ≤ c n) × (c n ≤ 1024) × (1 ≤ w n) × (w n ≤ 64)) (λ n. hlevel props) k.in_limits j.in_limits i;
}

-- what stands behind the kind
settings_tell : (k j : Settings) (xs ys : List ℕ) → settings_code k ++ xs ≡ settings_code j ++ ys → (k ≡ j) × (xs ≡ ys)
settings_tell k j xs ys e =
    let f = ap (drop 1) e in
    let g = ap (drop 2) e in
    let h = ap (drop 3) e in
    (settings_are k j (ap (λ z. get_or z 0 0) e) (ap (λ z. get_or z 0 0) f) (ap (λ z. get_or z 0 0) g) (ap (λ z. get_or z 0 0) h), ap (drop 4) e)

keyed_tell : (key other : ℕ) (xs ys : List ℕ) → key ∷ xs ≡ other ∷ ys → (key ≡ other) × (xs ≡ ys)
keyed_tell key other xs ys e = (head_is key other xs ys e, tail_is key other xs ys e)

-- an entry's numbers tell the settings and the entry
code_tells : (k j : Settings) (e f : Entry) → code k e ≡ code j f → (k ≡ j) × (e ≡ f)
code_tells k j (entry.Add key shape) (entry.Add other shape') e =
    let s = settings_tell k j (key ∷ shape_code shape) (other ∷ shape_code shape') (ap (drop 1) e) in
    let t = keyed_tell key other (shape_code shape) (shape_code shape') s.1 in
    (s.0, λ i. entry.Add (t.0 i) (shape_is shape shape' t.1 i))
code_tells k j (entry.DropZone key) (entry.DropZone other) e =
    let s = settings_tell k j (key ∷ []) (other ∷ []) (ap (drop 1) e) in
    (s.0, ap entry.DropZone (head_is key other [] [] s.1))
code_tells k j (entry.Replace key shape) (entry.Replace other shape') e =
    let s = settings_tell k j (key ∷ shape_code shape) (other ∷ shape_code shape') (ap (drop 1) e) in
    let t = keyed_tell key other (shape_code shape) (shape_code shape') s.1 in
    (s.0, λ i. entry.Replace (t.0 i) (shape_is shape shape' t.1 i))
code_tells k j (entry.Train cells) (entry.Train others) e =
    let s = settings_tell k j (cells_code cells) (cells_code others) (ap (drop 1) e) in
    (s.0, ap entry.Train (trained_are cells others s.1))
code_tells k j (entry.Add key shape) (entry.DropZone other) e = let h : ◌≡◌ {A = ℕ} 0 1 = ap (λ z. get_or z 0 0) e in absurd (omega arith)
code_tells k j (entry.Add key shape) (entry.Replace other shape') e = let h : ◌≡◌ {A = ℕ} 0 3 = ap (λ z. get_or z 0 0) e in absurd (omega arith)
code_tells k j (entry.Add key shape) (entry.Train others) e = let h : ◌≡◌ {A = ℕ} 0 2 = ap (λ z. get_or z 0 0) e in absurd (omega arith)
code_tells k j (entry.DropZone key) (entry.Add other shape') e = let h : ◌≡◌ {A = ℕ} 1 0 = ap (λ z. get_or z 0 0) e in absurd (omega arith)
code_tells k j (entry.DropZone key) (entry.Replace other shape') e = let h : ◌≡◌ {A = ℕ} 1 3 = ap (λ z. get_or z 0 0) e in absurd (omega arith)
code_tells k j (entry.DropZone key) (entry.Train others) e = let h : ◌≡◌ {A = ℕ} 1 2 = ap (λ z. get_or z 0 0) e in absurd (omega arith)
code_tells k j (entry.Replace key shape) (entry.Add other shape') e = let h : ◌≡◌ {A = ℕ} 3 0 = ap (λ z. get_or z 0 0) e in absurd (omega arith)
code_tells k j (entry.Replace key shape) (entry.DropZone other) e = let h : ◌≡◌ {A = ℕ} 3 1 = ap (λ z. get_or z 0 0) e in absurd (omega arith)
code_tells k j (entry.Replace key shape) (entry.Train others) e = let h : ◌≡◌ {A = ℕ} 3 2 = ap (λ z. get_or z 0 0) e in absurd (omega arith)
code_tells k j (entry.Train cells) (entry.Add other shape') e = let h : ◌≡◌ {A = ℕ} 2 0 = ap (λ z. get_or z 0 0) e in absurd (omega arith)
code_tells k j (entry.Train cells) (entry.DropZone other) e = let h : ◌≡◌ {A = ℕ} 2 1 = ap (λ z. get_or z 0 0) e in absurd (omega arith)
code_tells k j (entry.Train cells) (entry.Replace other shape') e = let h : ◌≡◌ {A = ℕ} 2 3 = ap (λ z. get_or z 0 0) e in absurd (omega arith)

history_head : (x y : List ℕ) (xs ys : History) → x ∷ xs ≡ y ∷ ys → x ≡ y
history_head x y xs ys e = ap (λ z. get_or z 0 []) e

codes_tell : (k j : Settings) (es fs : List Entry) → codes k es ≡ codes j fs → es ≡ fs
codes_tell k j [] [] e = refl
codes_tell k j [] (f ∷ fs) e = let n = ap length e in absurd (omega arith)
codes_tell k j (x ∷ es) [] e = let n = ap length e in absurd (omega arith)
codes_tell k j (x ∷ es) (f ∷ fs) e =
    let h = code_tells k j x f (history_head (code k x) (code j f) (codes k es) (codes j fs) e) in
    let t = codes_tell k j es fs (ap (drop 1) e) in
    λ i. h.1 i ∷ t i

codes_settings : (k j : Settings) (es fs : List Entry) → codes k es ≡ codes j fs → 0 < length (codes k es) → k ≡ j
codes_settings k j [] fs e low = absurd (omega arith)
codes_settings k j (x ∷ es) [] e low = let n = ap length e in absurd (omega arith)
codes_settings k j (x ∷ es) (f ∷ fs) e low = (code_tells k j x f (history_head (code k x) (code j f) (codes k es) (codes j fs) e)).0

pub told_one : (h : History) (k j : Settings) (es fs : List Entry) → IsTold h k es → IsTold h j fs → es ≡ fs
told_one h k j es fs a b = codes_tell k j es fs (sym a.coded ∙ b.coded)

pub told_settings : (h : History) (k j : Settings) (es fs : List Entry) → IsTold h k es → IsTold h j fs → 0 < length h → k ≡ j
told_settings h k j es fs a b low = codes_settings k j es fs (sym a.coded ∙ b.coded) (subst (λ z. 0 < length z) a.coded low)

codes_take : (k : Settings) (n : ℕ) (es : List Entry) → take n (codes k es) ≡ codes k (take n es)
codes_take k zero es = refl
codes_take k (suc n) [] = refl
codes_take k (suc n) (e ∷ es) = ap (λ z. code k e ∷ z) (codes_take k n es)

legal_take : (k : Settings) (s : State) (n : ℕ) (es : List Entry) → IsLegalFrom k s es → IsLegalFrom k s (take n es)
legal_take k s zero es l = tt
legal_take k s (suc n) [] l = tt
legal_take k s (suc n) (e ∷ es) l = (l.0, legal_take k (after k s e) n es l.1)

pub told_begins : (g h : History) (k : Settings) (es : List Entry) → Begins g h → IsTold h k es → IsTold g k (take (length g) es)
told_begins g h k es b t = record { coded = b.same ∙ (ap (take (length g)) t.coded ∙ codes_take k (length g) es); legal = legal_take k nothing (length g) es t.legal }

codes_updates : (k : Settings) (es : List Entry) → updates_in (codes k es) ≡ length (filter is_update es)
codes_updates k [] = refl
codes_updates k (entry.Add key shape ∷ es) = let h = codes_updates k es in omega arith
codes_updates k (entry.DropZone key ∷ es) = let h = codes_updates k es in omega arith
codes_updates k (entry.Replace key shape ∷ es) = let h = codes_updates k es in omega arith
codes_updates k (entry.Train cells ∷ es) = let h = codes_updates k es in omega arith

pub told_updates : (h : History) (k : Settings) (es : List Entry) → IsTold h k es → updates_in h ≡ length (filter is_update es)
told_updates h k es t = ap updates_in t.coded ∙ codes_updates k es
