-- The bound of a reader never falls while it is lent.
use Rattle.std.proofs.Common.{◌≡◌, ◌≢◌, ℕ, ◌<◌, ◌≤◌, List, length, sym, ap, ◌∙◌, subst, arith, Option, Some, None}
use mathlib.Core.Logic.{dite}
use mathlib.Core.Option.{some}
use native.Mathlib.Decide.{ℕ_discrete}
use lib.ListN.{get_elem?}
use Rattle.atomic_table.proofs.Lists.{set_here, set_else}
use Rattle.act_rows.specs.declared.views.Snapshot.{Snapshot}
use Rattle.act_rows.specs.History.{History}
use Rattle.act_rows.specs.Bounds.{raised, bound_at, lowest, BoundsRise}
use Rattle.act_rows.specs.Versions.{newest}
use Rattle.act_rows.specs.Updates.{looked}
use Rattle.act_rows.specs.Rising.{LookRaises, LendRaises, GiveBackRaises, StoreRaises, PublishRaises}
use Rattle.act_rows.proofs.Lists.{within}
use Rattle.act_rows.proofs.Bounds.{bound_is, lowest_free, raised_most}

pub rise_self : (bs : List (Option ℕ)) → BoundsRise bs bs
rise_self bs j c e = (c, e, omega arith)

pub rise_more : (a b c : List (Option ℕ)) → BoundsRise a b → BoundsRise b c → BoundsRise a c
rise_more a b c f g j x e =
    let one = f j x e in
    let two = g j one.0 one.1 in
    let p = one.2 in
    let q = two.2 in
    (two.0, two.1, omega arith)

pub look_raises : (fact : History → ℕ → Snapshot → Type 0) → LookRaises fact
look_raises fact d j c p kept at i b e =
    let after : ℕ = raised (newest d) p (bound_at d.bounds j) in
    dite (ℕ_discrete i j)
    (λ q. let is : some (Some b) ≡ some (Some c) = sym (ap (λ z. get_elem? d.bounds z) (sym q) ∙ e) ∙ at in
    let same : b ≡ c = cc in
    let low = kept.bounded j c at in
    let up : b ≤ after = raised_most (newest d) p (bound_at d.bounds j) b (omega arith) (let k = bound_is d.bounds j c at in omega arith) in
    (after, ap (λ z. get_elem? (looked d j p).bounds z) q ∙ set_here d.bounds j (Some after) (within d.bounds j (Some c) at), up))
    (λ ne. (b, set_else d.bounds j i (Some after) ne ∙ e, omega arith))

pub lend_raises : LendRaises
lend_raises d i b e =
    let low = within d.bounds i (Some b) e in
    let ne : i ≢ lowest d.bounds = λ q. let room : lowest d.bounds < length d.bounds = omega arith in let none : get_elem? d.bounds i ≡ some None = subst (λ z. get_elem? d.bounds z ≡ some None) (sym q) (lowest_free d.bounds room) in absurd (cc) in
    (b, set_else d.bounds (lowest d.bounds) i (Some (newest d)) ne ∙ e, omega arith)

pub give_back_raises : GiveBackRaises
give_back_raises d t j c ne e = set_else d.bounds t.number j None ne ∙ e

pub store_raises : StoreRaises
store_raises d row place word = rise_self d.bounds

pub publish_raises : PublishRaises
publish_raises d entry root rows firsts = rise_self d.bounds
