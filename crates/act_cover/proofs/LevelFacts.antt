-- The greatest level that fits.
use Rattle.std.proofs.Common.{◌≡◌, ℕ, zero, suc, ◌+◌, ◌<◌, ◌≤◌, ◌⊎◌, inl, inr, refl, sym, ap, ◌∙◌, arith, Bool, true, false, cond, ◌&&◌, leb, List, [], ◌∷◌, length}
use Rattle.std.specs.List.{All, flat_map, filter}
use Rattle.std.proofs.lemmas.List.Elements.{All-head, All-tail}
use Rattle.std.proofs.lemmas.List.{length-map}
use Rattle.std.proofs.lemmas.Bool.Decides.{nat_tests}
use Rattle.act_grid.specs.declared.Point.{Point}
use Rattle.act_grid.specs.Cell.{Address}
use Rattle.act_cover.specs.declared.held.Held.{Held}
use Rattle.act_cover.specs.Covering.{class_at, is_within, refined, cells_at}
use Rattle.act_cover.specs.Level.{fits_to, greatest, level_of, covering_of, interior_of}
use Rattle.act_cover.specs.Held.{IsTrueOf, IsPut, IsReached, cells_of}
use Rattle.act_cover.proofs.PutFacts.{root_small, next_reached}

greatest_at : (test : ℕ → Bool) (n level : ℕ) → level ≤ n → test level ≡ true → ((m : ℕ) → level < m → m ≤ n → test m ≡ false) → greatest test n ≡ level
unfolding greatest
greatest_at test zero level l t none = omega arith
greatest_at test (suc n) level l t none = elim (split level n l) [
  | inl e ↦ ap (λ b. cond b (suc n) (greatest test n)) (ap test (sym e) ∙ t) ∙ sym e
  | inr k ↦ ap (λ b. cond b (suc n) (greatest test n)) (none (suc n) (omega (arith, k)) (omega arith)) ∙ greatest_at test n level k t (λ m h i. none m h (omega (arith, i)))
]
  where
    split : (a b : ℕ) → a ≤ suc b → (a ≡ suc b) ⊎ (a ≤ b)
    split a b h = grind arith

-- what doesn't fit at a level fits at none below it
none_deeper : (rings : List (List Point)) (most level m : ℕ) → fits_to rings most (suc level) ≡ false → level < m → fits_to rings most m ≡ false
unfolding fits_to
none_deeper rings most level zero e h = absurd (omega arith)
none_deeper rings most level (suc m) e h = elim (split level m h) [
  | inl k ↦ ap (λ b. b && leb (length (cells_at rings (suc m))) most) (none_deeper rings most level m e k)
  | inr k ↦ ap (λ n. fits_to rings most n && leb (length (cells_at rings (suc n))) most) (sym k) ∙ e
]
  where
    split : (a b : ℕ) → a < suc b → (a < b) ⊎ (a ≡ b)
    split a b h = grind arith

pub level_is : (rings : List (List Point)) (most level : ℕ) → level ≤ 28 → fits_to rings most level ≡ true → fits_to rings most (suc level) ≡ false → level_of rings most ≡ level
unfolding level_of
level_is rings most level l t e = greatest_at (fits_to rings most) 28 level l t (λ m h i. none_deeper rings most level m e h)

pub level_is_last : (rings : List (List Point)) (most : ℕ) → fits_to rings most 28 ≡ true → level_of rings most ≡ 28
unfolding level_of
level_is_last rings most t = greatest_at (fits_to rings most) 28 28 (omega arith) t (λ m h i. absurd (omega (arith, h, i)))

-- what a held level says
length_reached : (rings : List (List Point)) (level : ℕ) (held : List Held) → IsReached rings level held → length (cells_at rings level) ≡ length held
length_reached rings level held r = sym (ap length r.cells) ∙ length-map held (λ (h : Held). h.cell)

within : (n most : ℕ) → n ≤ most → leb n most ≡ true
within n most h = grind (arith, nat_tests)

beyond : (n most : ℕ) → most < n → leb n most ≡ false
beyond n most h = grind (arith, nat_tests)

both : (a b : Bool) → a ≡ true → b ≡ true → (a && b) ≡ true
both a b h k = cc

not_second : (a b : Bool) → b ≡ false → (a && b) ≡ false
not_second true b h = h
not_second false b h = refl

pub root_fits : (rings : List (List Point)) (most : ℕ) → 1 ≤ most → fits_to rings most 0 ≡ true
unfolding fits_to cells_at
root_fits rings most h = within (length (cells_at rings 0)) most (omega (arith, root_small rings))

pub next_fits : (rings : List (List Point)) (most level : ℕ) (held new : List Held) → IsReached rings level held → fits_to rings most level ≡ true
    → IsPut rings most [] new (flat_map (refined rings) (cells_of held)) → fits_to rings most (suc level) ≡ true
unfolding fits_to
next_fits rings most level held new r t p =
    let n : length new ≤ most = p.fits (omega arith) in
    both _ _ t (within _ most (omega (arith, length_reached rings (suc level) new (next_reached rings most level held new r p))))

pub next_exceeds : (rings : List (List Point)) (most level : ℕ) (held : List Held) → IsReached rings level held
    → most < 0 + length (flat_map (refined rings) (cells_of held)) → fits_to rings most (suc level) ≡ false
unfolding fits_to cells_at
next_exceeds rings most level held r h =
    not_second _ _ (beyond _ most (omega (arith, h, ap (λ (xs : List Address). length (flat_map (refined rings) xs)) r.cells)))

-- ---- what a held level gives

held_within : (rings : List (List Point)) (held : List Held) → All (IsTrueOf rings) held
    → cells_of (filter (λ (h : Held). is_within h.class) held) ≡ filter (λ (c : Address). is_within (class_at rings c)) (cells_of held)
held_within rings [] t = refl
held_within rings (h ∷ held) t =
    by_case (is_within h.class) (is_within (class_at rings h.cell)) _ _ (ap is_within (sym (All-head (IsTrueOf rings) h held t)))
    (held_within rings held (All-tail (IsTrueOf rings) h held t))
  where
    by_case : (a b : Bool) (xs : List Held) (ys : List Address) → a ≡ b → cells_of xs ≡ ys → cells_of (cond a (h ∷ xs) xs) ≡ cond b (h.cell ∷ ys) ys
    by_case true true xs ys e f = ap (λ (zs : List Address). h.cell ∷ zs) f
    by_case false false xs ys e f = f
    by_case true false xs ys e f = absurd (cc)
    by_case false true xs ys e f = absurd (cc)

pub covering_held : (rings : List (List Point)) (most level : ℕ) (held : List Held) → level ≡ level_of rings most → IsReached rings level held
    → cells_of held ≡ covering_of rings most
unfolding covering_of
covering_held rings most level held e r = r.cells ∙ ap (cells_at rings) e

pub interior_held : (rings : List (List Point)) (most level : ℕ) (held : List Held) → level ≡ level_of rings most → IsReached rings level held
    → cells_of (filter (λ (h : Held). is_within h.class) held) ≡ interior_of rings most
unfolding interior_of
interior_held rings most level held e r =
    held_within rings held r.true_of ∙ ap (filter (λ (c : Address). is_within (class_at rings c))) (covering_held rings most level held e r)
