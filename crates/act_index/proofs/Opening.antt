-- A writer at version 0.
use Rattle.std.proofs.Common.{◌≡◌, ◌≢◌, ℕ, zero, suc, ◌+◌, ◌-◌, ◌*◌, ◌<◌, ◌≤◌, [], ◌∷◌, length, get_or, replicate, sym, refl, ap, ◌∙◌, subst, ⊎_elim, arith}
use Rattle.std.proofs.lemmas.Bool.{cases_lt}
use mathlib.Core.Logic.{dite}
use mathlib.Core.Option.{some, some-injective, some-ne-none}
use native.Mathlib.Decide.{ℕ_discrete}
use lib.ListN.{get_elem?}
use Rattle.act_grid.specs.declared.Settings.{Settings}
use Rattle.act_base.specs.Counting.{times, from}
use Rattle.act_base.proofs.Times.{from_once, from_ranged, length-from, times_here, times_else}
use Rattle.act_super.specs.declared.entry.State.{State}
use Rattle.act_super.specs.Sizes.{size_of}
use Rattle.act_super.specs.Stands.{IsBlank}
use Rattle.act_super.specs.States.{Plain, nothing}
use Rattle.act_super.proofs.LinkFacts.{rows_of_none}
use Rattle.act_rows.specs.declared.views.Version.{Version}
use Rattle.act_rows.specs.declared.views.Desk.{Desk}
use Rattle.act_rows.specs.First.{first_image, first_version, first_desk}
use Rattle.act_rows.specs.Images.{place_in, sight_of}
use Rattle.act_rows.specs.Tokens.{Mastered}
use Rattle.act_pool.specs.Pooled.{Pooled, first_free}
use Rattle.act_image.specs.Pics.{Pic, rows_in, Shows, Opens}
use Rattle.act_index.specs.Meanings.{Means}
use Rattle.act_index.specs.Whole.{IsWhole, parts}
use Rattle.act_index.proofs.Carrying.{stands_from}

blank : (rows : ℕ) → IsBlank (sight_of (first_image rows))
blank rows = record { rows = refl; firsts = refl; word = λ place small. zeros (512 * rows) (place_in 1 place) }
  where
    zeros : (n i : ℕ) → let z : ℕ = 0 in get_or (replicate n z) i 0 ≡ z
    zeros zero i = refl
    zeros (suc n) zero = refl
    zeros (suc n) (suc i) = zeros n i

-- a row of zeros means no entries
pub means_first : (k : Settings) (pic : Pic) (rows : ℕ) → Opens pic → Means [] 1 (first_image rows)
means_first k pic rows o = record { settings = k; entries = []; told = record { coded = refl; legal = tt }; stands = stands_from k pic (sight_of (first_image rows)) 1 nothing nothing (o.2 k _ (blank rows)) o.0 refl }

only_one : (r : ℕ) → 1 ≢ r → times (1 ∷ []) r ≡ 0
only_one r ne = times_else 1 r [] ne

pub whole_first : (m : Mastered) (k : Settings) (pins : ℕ) (plain : Plain) (pic : Pic) (pool : Pooled) → Opens pic → m.desk ≡ first_desk (record { rows = k.rows; pins = pins }) → plain.settings ≡ k → plain.state ≡ nothing
    → pool ≡ record { rows = 2 * k.rows; free = first_free (2 * k.rows); retired = [] } → IsWhole (parts m plain pic pool)
whole_first m k pins plain pic pool o desk settings state is =
    let d : Desk = first_desk (record { rows = k.rows; pins = pins }) in
    let some_rows = k.in_limits.1 in
    let few_rows = k.in_limits.2 in
    let sized : length (rows_in pic) ≡ 1 = ap length o.1 in
    let one : size_of k nothing ≡ 1 = rows_of_none k in
    let rows_one : (r : ℕ) → times (rows_in pic) r ≡ times (1 ∷ []) r = λ r. ap (λ z. times z r) o.1 in
    subst (λ (z : Desk × Settings × State × Pooled). IsWhole (record { table = m.table; desk = z.0; settings = z.1; state = z.2; pic = pic; pool = z.3 })) (λ i. (sym desk i, sym settings i, sym state i, sym is i))
    (record {
      entries = [];
      told = record { coded = refl; legal = tt };
      state = refl;
      current = λ x at. let same : first_version k.rows ≡ x = some-injective _ _ at in
          subst (λ (z : Version). Shows k pic (sight_of z.image) nothing × (pic.root ≡ z.root)) same (o.2 k _ (blank k.rows), o.0);
      sized = sized ∙ sym one;
      fits = omega arith;
      rows = (refl, refl, omega arith);
      housed = record {
        once = λ r. let f = from_once 2 (2 * k.rows - 1) r in let e = rows_one r in dite (ℕ_discrete 1 r)
            (λ q. let n : times (from 2 (2 * k.rows - 1)) r ≤ 0 = ⊎_elim (λ (t : 0 < times (from 2 (2 * k.rows - 1)) r). let g = from_ranged 2 (2 * k.rows - 1) r t in let a = g.0 in absurd (omega arith)) (λ (t : times (from 2 (2 * k.rows - 1)) r ≤ 0). t) (cases_lt 0 (times (from 2 (2 * k.rows - 1)) r)) in
            let h = times_here 1 [] in let h' : times (1 ∷ []) r ≡ 1 = subst (λ z. times (1 ∷ []) z ≡ 1) q (omega arith) in omega arith)
            (λ ne. let h = only_one r ne in omega arith);
        all = let l = length-from 2 (2 * k.rows - 1) in omega arith;
        free = λ r has v x kept. let g = from_ranged 2 (2 * k.rows - 1) r has in let a = g.0 in let ne : 1 ≢ r = omega arith in version_rows v x r kept.is (only_one r ne);
        late = tt;
        owed = λ v. omega arith;
        recent = λ w has. absurd (omega arith);
      };
    })
  where
    version_rows : (v : ℕ) (x : Version) (r : ℕ) → get_elem? (first_version k.rows ∷ []) v ≡ some x → times (1 ∷ []) r ≡ 0 → times x.image.rows r ≡ 0
    version_rows zero x r at e = let same : first_version k.rows ≡ x = some-injective _ _ at in subst (λ (z : Version). times z.image.rows r ≡ 0) same e
    version_rows (suc v) x r at e = absurd (some-ne-none x (sym at))
