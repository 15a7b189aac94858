-- A sum over some of the cells of a list is at most the sum over all of them.
use Rattle.std.proofs.Common.{◌≡◌, ◌≢◌, ℕ, ◌+◌, ◌<◌, ◌≤◌, ◌⊎◌, inl, inr, Bool, true, false, cond, refl, sym, ap, ◌∙◌, subst, arith, List, [], ◌∷◌}
use Rattle.std.specs.List.{sum_by}
use Rattle.std.proofs.lemmas.List.Sums.{sum_by-cons}
use Rattle.act_grid.specs.Cell.{Address}
use Rattle.act_super.specs.Grounds.{same_cell}
use Rattle.act_probe.proofs.NodeFacts.{Among}
use Rattle.act_image.proofs.FillFacts.{other_is, same_is}
use Rattle.act_image.proofs.PackFacts.{NoTwice}

-- the list without the first one of a cell
abbrev without : Address → List Address → List Address
without c [] = []
without c (d ∷ cells) = cond (same_cell d c) cells (d ∷ without c cells)

sum_without : (f : Address → ℕ) (c : Address) (cells : List Address) → Among cells c → sum_by f cells ≡ f c + sum_by f (without c cells)
sum_without f c [] among = absurd among
sum_without f c (d ∷ cells) among = by (same_cell d c) refl among (sum_without f c cells)
  where
    by : (b : Bool) → same_cell d c ≡ b → Among (d ∷ cells) c → (Among cells c → sum_by f cells ≡ f c + sum_by f (without c cells)) → sum_by f (d ∷ cells) ≡ f c + sum_by f (cond b cells (d ∷ without c cells))
    by true e among more = sum_by-cons f d cells ∙ ap (λ v. f v + sum_by f cells) (same_is d c e)
    by false e (inl same) more = absurd (other_is d c e same)
    by false e (inr rest) more = omega (arith, sum_by-cons f d cells, sum_by-cons f d (without c cells), more rest)

among_without : (c d : Address) (cells : List Address) → d ≢ c → Among cells d → Among (without c cells) d
among_without c d [] ne among = absurd among
among_without c d (x ∷ cells) ne among = by (same_cell x c) refl among (among_without c d cells ne)
  where
    by : (b : Bool) → same_cell x c ≡ b → Among (x ∷ cells) d → (Among cells d → Among (without c cells) d) → Among (cond b cells (x ∷ without c cells)) d
    by true e (inl same) more = absurd (ne (sym same ∙ same_is x c e))
    by true e (inr rest) more = rest
    by false e (inl same) more = inl same
    by false e (inr rest) more = inr (more rest)

pub sub_sum : (f g : Address → ℕ) (xs ys : List Address) → NoTwice xs → ((c : Address) → Among xs c → 0 < g c → Among ys c × (g c ≤ f c)) → sum_by g xs ≤ sum_by f ys
sub_sum f g [] ys once h = omega arith
sub_sum f g (c ∷ xs) ys once h = by (some_or_none (g c)) (sub_sum f g xs ys once.1 (λ d a s. h d (inr a) s)) (λ among. sub_sum f g xs (without c ys) once.1 (rest among))
  where
    some_or_none : (n : ℕ) → (0 < n) ⊎ (n ≡ 0)
    some_or_none n = grind arith

    rest : Among ys c → (d : Address) → Among xs d → 0 < g d → Among (without c ys) d × (g d ≤ f d)
    rest among d a s = let t = h d (inr a) s in (among_without c d ys (λ same. once.0 (subst (Among xs) same a)) t.0, t.1)

    by : (0 < g c) ⊎ (g c ≡ 0) → sum_by g xs ≤ sum_by f ys → (Among ys c → sum_by g xs ≤ sum_by f (without c ys)) → sum_by g (c ∷ xs) ≤ sum_by f ys
    by (inl some) plain more = let t = h c (inl refl) some in omega (arith, sum_by-cons g c xs, sum_without f c ys t.0, t.1, more t.0)
    by (inr none) plain more = omega (arith, sum_by-cons g c xs, none, plain)
