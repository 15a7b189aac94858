-- A plan is stored word by word, and its rows are retired.
use Rattle.std.proofs.Common.{◌≡◌, ◌≢◌, ◌⊎◌, ℕ, zero, suc, ◌+◌, ◌-◌, ◌*◌, ◌<◌, ◌≤◌, List, [], ◌∷◌, ◌++◌, length, take, get_or, set, sym, refl, ap, ◌∙◌, subst, arith, length-set, length-append, get_or-set_other, get_or-set_same, append_assoc}
use Rattle.std.proofs.lemmas.List.{take_more, append-nil}
use Rattle.std.proofs.lemmas.List.Elements.{Contains-append_left, Contains-append_right}
use mathlib.Core.Logic.{dite}
use native.Mathlib.Decide.{ℕ_discrete}
use Rattle.std.specs.Prelude.{Option}
use lib.ListN.{get_elem?}
use Rattle.act_rows.specs.declared.views.Desk.{Desk}
use Rattle.act_rows.specs.Images.{place_in, InRange}
use Rattle.act_rows.specs.Bounds.{least}
use Rattle.act_rows.specs.Updates.{stored}
use Rattle.act_rows.specs.Asked.{MayStore}
use Rattle.act_base.specs.Counting.{times}
use Rattle.act_pool.specs.Retired.{rows_of, versions_of, Each, placed}
use Rattle.act_pool.specs.Pooled.{Pooled, IsUsed}
use Rattle.act_base.proofs.Times.{times_one, times_get, times-append, times_else, times_here}
use Rattle.act_pool.proofs.Waiting.{rows_of-append, each-append, placed_last}
use Rattle.act_image.specs.Pics.{Planned, planned_word}
use Rattle.act_index.specs.Written.{Written, paired}

pub written_none : (d : Desk) (p : Planned) → Written d d p 0
written_none d p = record {
  pins = refl;
  rows = refl;
  history = refl;
  versions = refl;
  bounds = refl;
  looks = refl;
  long = refl;
  drafted = λ i place h g. absurd (omega arith);
  there = λ i place h g. absurd (omega arith);
  other = λ r place h g l. refl;
}

-- a store leaves what may be stored
pub written_may : (d d' : Desk) (p : Planned) (m row : ℕ) → Written d d' p m → MayStore d row → MayStore d' row
written_may d d' p m row f may = record {
  range = subst (λ z. InRange z row) (sym f.rows) may.range;
  away = λ v x is. may.away v x record {
    is = ap (λ z. get_elem? z v) (sym f.versions) ∙ is.is;
    high = subst (λ (z : List (List ℕ) × List (Option ℕ)). least (length z.0) z.1 ≤ v) (λ i. (f.history i, f.bounds i)) is.high;
  };
}

pub written_more : (d d' : Desk) (p : Planned) (i place m word : ℕ) → Written d d' p m → m ≡ 256 * i + place → place < 256 → i < length p.rows → ((r : ℕ) → times p.rows r ≤ 1) → ((j : ℕ) → j < length p.rows → InRange d.rows (get_or p.rows j 0))
    → length d.words ≡ 512 * d.rows → word ≡ planned_word p i place → Written d (stored d' (get_or p.rows i 0) place word) p (256 * i + (place + 1))
written_more d d' p i place m word f at small low once range deep is =
    let row : ℕ = get_or p.rows i 0 in
    let here = range i low in
    let above = here.above in
    let below = here.below in
    let long = f.long in
    let k : ℕ = place_in row place in
    let fits : k < length d'.words = omega arith in
    let apart : (j q : ℕ) → q < 256 → 256 * j + q < m → place_in (get_or p.rows j 0) q ≢ k = λ j q s h. dite (ℕ_discrete j i)
    (λ e. λ bad. let same : get_or p.rows j 0 ≡ row = ap (λ z. get_or p.rows z 0) e in let qn : q < place = omega arith in omega arith)
    (λ ne. let jl : j < length p.rows = omega arith in let rj = range j jl in let a = rj.above in
    λ bad. let same : get_or p.rows j 0 ≡ row = omega arith in ne (times_one p.rows j i 0 once jl low same)) in
    record {
      pins = f.pins;
      rows = f.rows;
      history = f.history;
      versions = f.versions;
      bounds = f.bounds;
      looks = f.looks;
      long = length-set d'.words k word ∙ f.long;
      drafted = λ j q s h. dite (ℕ_discrete (256 * j + q) m)
          (λ e. let ij : j ≡ i = omega arith in let qp : q ≡ place = omega arith in
          Contains-append_right d'.draft ((row, place) ∷ []) (get_or p.rows j 0, q) (0, omega arith, λ t. (get_or p.rows (sym ij t) 0, sym qp t)))
          (λ ne. Contains-append_left d'.draft ((row, place) ∷ []) (get_or p.rows j 0, q) (f.drafted j q s (omega arith)));
      there = λ j q s h. dite (ℕ_discrete (256 * j + q) m)
          (λ e. let ij : j ≡ i = omega arith in let qp : q ≡ place = omega arith in
          (λ t. get_or (set d'.words k word) (place_in (get_or p.rows (ij t) 0) (qp t)) 0) ∙ (get_or-set_same d'.words k word 0 fits ∙ (is ∙ (λ t. planned_word p (sym ij t) (sym qp t)))))
          (λ ne. let old : 256 * j + q < m = omega arith in get_or-set_other d'.words k (place_in (get_or p.rows j 0) q) word 0 (apart j q s old) ∙ f.there j q s old);
      other = λ r q pos none s.
          let has = times_get p.rows i 0 low in
          let ne : place_in r q ≢ k = λ bad. let same : r ≡ row = omega arith in let n : times p.rows row ≡ 0 = subst (λ z. times p.rows z ≡ 0) same none in absurd (omega arith) in
          get_or-set_other d'.words k (place_in r q) word 0 ne ∙ f.other r q pos none s;
    }

-- rows with one version
pub rows_of-paired : (rs : List ℕ) (w : ℕ) → rows_of (paired rs w) ≡ rs
rows_of-paired [] w = refl
rows_of-paired (r ∷ rs) w = ap (λ z. r ∷ z) (rows_of-paired rs w)

pub length-paired : (rs : List ℕ) (w : ℕ) → length (paired rs w) ≡ length rs
length-paired [] w = refl
length-paired (r ∷ rs) w = ap suc (length-paired rs w)

pub paired-append : (rs ss : List ℕ) (w : ℕ) → paired (rs ++ ss) w ≡ paired rs w ++ paired ss w
paired-append [] ss w = refl
paired-append (r ∷ rs) ss w = ap (λ z. (r, w) ∷ z) (paired-append rs ss w)

pub versions-paired : (rs : List ℕ) (w : ℕ) → times (versions_of (paired rs w)) w ≡ length rs
versions-paired [] w = refl
versions-paired (r ∷ rs) w = let h = versions-paired rs w in let g = times_here w (versions_of (paired rs w)) in omega arith

pub versions-paired_else : (rs : List ℕ) (w v : ℕ) → w ≢ v → times (versions_of (paired rs w)) v ≡ 0
versions-paired_else [] w v ne = refl
versions-paired_else (r ∷ rs) w v ne = let h = versions-paired_else rs w v ne in let g = times_else w v (versions_of (paired rs w)) ne in omega arith

pub each-paired : (P : ℕ → ℕ → Type 0) (rs : List ℕ) (w : ℕ) → ((r : ℕ) → 0 < times rs r → P r w) → Each P (paired rs w)
each-paired P [] w h = tt
each-paired P (r ∷ rs) w h = (h r (let g = times_here r rs in omega arith), each-paired P rs w (λ s g. h s (omega arith)))

-- one row more is retired
pub retire_used : (p : Pooled) (gone : List ℕ) (i w : ℕ) → ((r : ℕ) → times gone r + (times p.free r + times (rows_of p.retired) r) ≤ 1) → ((r : ℕ) → 0 < times gone r → (0 < r) × (r ≤ p.rows)) → i < length gone
    → IsUsed (record p { retired = p.retired ++ paired (take i gone) w }) (get_or gone i 0)
retire_used p gone i w once range low =
    let r : ℕ = get_or gone i 0 in
    let has = times_get gone i 0 low in
    let o = once r in
    let g = range r has in
    let more = take_more gone i 0 low in
    let part : times (take (i + 1) gone) r ≡ times (take i gone) r + times (r ∷ []) r = ap (λ z. times z r) more ∙ times-append (take i gone) (r ∷ []) r in
    let self = times_here r [] in
    let whole : times gone r ≡ times (take (i + 1) gone) r + times (Rattle.std.proofs.Common.drop (i + 1) gone) r = ap (λ z. times z r) (sym (Rattle.std.proofs.lemmas.List.take-append-drop (i + 1) gone)) ∙ times-append (take (i + 1) gone) (Rattle.std.proofs.Common.drop (i + 1) gone) r in
    let split : times (rows_of (p.retired ++ paired (take i gone) w)) r ≡ times (rows_of p.retired) r + times (take i gone) r = ap (λ z. times z r) (rows_of-append p.retired (paired (take i gone) w) ∙ ap (λ z. rows_of p.retired ++ z) (rows_of-paired (take i gone) w)) ∙ times-append (rows_of p.retired) (take i gone) r in
    record { above = g.0; below = g.1; not_free = omega arith; not_retired = omega arith }

pub retired_more : (p : Pooled) (gone : List ℕ) (i w : ℕ) → Each (λ _ v. v ≤ w) p.retired → i < length gone → placed (get_or gone i 0) w (p.retired ++ paired (take i gone) w) ≡ p.retired ++ paired (take (i + 1) gone) w
retired_more p gone i w last low =
    placed_last (get_or gone i 0) w (p.retired ++ paired (take i gone) w) (each-append (λ _ v. v ≤ w) p.retired (paired (take i gone) w) last (each-paired (λ _ v. v ≤ w) (take i gone) w (λ r h. omega arith)))
    ∙ (append_assoc p.retired (paired (take i gone) w) ((get_or gone i 0, w) ∷ []) ∙ ap (λ z. p.retired ++ z) (sym (ap (λ z. paired z w) (take_more gone i 0 low) ∙ paired-append (take i gone) (get_or gone i 0 ∷ []) w)))
