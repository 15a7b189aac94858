-- A row that no version has, stored word by word and published alone.
use Rattle.std.proofs.Common.{◌≡◌, ℕ, zero, suc, ◌+◌, ◌*◌, ◌^◌, ◌<◌, List, [], ◌∷◌, ◌++◌, length, get_or, set, sym, refl, ap, ◌∙◌, subst, inr, ⊎_elim, arith, length-set, get_or-set_other, get_or-set_same}
use Rattle.std.proofs.lemmas.List.Elements.{Contains-append_left, Contains-append_right}
use mathlib.Core.Logic.{dite}
use mathlib.Core.Option.{some}
use native.Mathlib.Decide.{ℕ_discrete}
use lib.ListN.{get_elem?}
use Rattle.std.specs.Prelude.{Contains, slice_index}
use Rattle.act_rows.specs.declared.views.Snapshot.{Snapshot}
use Rattle.act_rows.specs.declared.views.Version.{Version}
use Rattle.act_rows.specs.declared.views.Desk.{Desk}
use Rattle.act_rows.specs.History.{History}
use Rattle.act_rows.specs.Images.{InRange, place_in}
use Rattle.act_rows.specs.Versions.{newest}
use Rattle.act_rows.specs.Updates.{stored, new_image, new_version, published}
use Rattle.act_rows.specs.Asked.{MayStore, MayPublish}
use Rattle.act_rows.proofs.Lists.{at_more}

-- the first n words of the row are stored, each as this word, and nothing else has changed
pub record Filled (d d' : Desk) (row n word : ℕ) : Type 0 where
  pub pins : d'.pins ≡ d.pins
  pub rows : d'.rows ≡ d.rows
  pub history : d'.history ≡ d.history
  pub versions : d'.versions ≡ d.versions
  pub bounds : d'.bounds ≡ d.bounds
  pub long : length d'.words ≡ length d.words
  pub drafted : (place : ℕ) → place < n → Contains d'.draft (row, place)
  pub there : (place : ℕ) → place < n → slice_index d'.words (place_in row place) ≡ word

pub filled_none : (d : Desk) (row word : ℕ) → Filled d d row 0 word
filled_none d row word = record { pins = refl; rows = refl; history = refl; versions = refl; bounds = refl; long = refl; drafted = λ place h. absurd (omega arith); there = λ place h. absurd (omega arith) }

pub filled_more : (d d' : Desk) (row n word : ℕ) → Filled d d' row n word → n < 256 → InRange d.rows row → length d.words ≡ 512 * d.rows → Filled d (stored d' row n word) row (n + 1) word
filled_more d d' row n word f small range deep =
    let above = range.above in
    let below = range.below in
    let long = f.long in
    record {
      pins = f.pins;
      rows = f.rows;
      history = f.history;
      versions = f.versions;
      bounds = f.bounds;
      long = length-set d'.words (place_in row n) word ∙ f.long;
      drafted = λ place h. dite (ℕ_discrete place n) (λ e. Contains-append_right d'.draft ((row, n) ∷ []) (row, place) (0, omega arith, λ i. (row, sym e i)))
          (λ ne. Contains-append_left d'.draft ((row, n) ∷ []) (row, place) (f.drafted place (omega arith)));
      there = λ place h. dite (ℕ_discrete place n)
          (λ e. ap (λ z. get_or (set d'.words (place_in row n) word) (place_in row z) 0) e ∙ get_or-set_same d'.words (place_in row n) word 0 (omega arith))
          (λ ne. get_or-set_other d'.words (place_in row n) (place_in row place) word 0 (λ q. ne (omega arith)) ∙ f.there place (omega arith));
    }

-- no version has a row from this one on
abbrev pub IsFresh : List Version → ℕ → Type 0
IsFresh versions row = (v : ℕ) (x : Version) (r : ℕ) → get_elem? versions v ≡ some x → Contains x.image.rows r → r < row

pub fresh_store : (d d' : Desk) (row n word : ℕ) → Filled d d' row n word → InRange d.rows row → IsFresh d.versions row → MayStore d' row
fresh_store d d' row n word f range fresh = record {
  range = subst (λ z. InRange z row) (sym f.rows) range;
  away = λ v x is has. let low = fresh v x row (ap (λ z. get_elem? z v) (sym f.versions) ∙ is.is) has in omega arith;
}

one_row : (row r : ℕ) → Contains (row ∷ []) r → row ≡ r
one_row row r (zero, h, e) = e
one_row row r (suc i, h, e) = absurd (omega arith)

pub fresh_more : (d d' : Desk) (row n word : ℕ) (entry rows : List ℕ) (firsts : List (ℕ × ℕ)) → Filled d d' row n word → rows ≡ row ∷ [] → IsFresh d.versions row → IsFresh (published d' entry row rows firsts).versions (row + 1)
fresh_more d d' row n word entry rows firsts f is fresh v x r at has = ⊎_elim
    (λ (h : (v < length d'.versions) × (get_elem? d'.versions v ≡ some x)). let low = fresh v x r (ap (λ z. get_elem? z v) (sym f.versions) ∙ h.1) has in omega arith)
    (λ (h : (v ≡ length d'.versions) × (new_version d' row rows firsts ≡ x)). let e = one_row row r (subst (λ z. Contains z r) is (subst (λ z. Contains z.image.rows r) (sym h.1) has)) in omega arith)
    (at_more d'.versions (new_version d' row rows firsts) x v at)

pub filled_publish : (fact : History → ℕ → Snapshot → Type 0) (d d' : Desk) (row word : ℕ) (entry rows : List ℕ) (firsts : List (ℕ × ℕ)) → Filled d d' row 256 word → newest d + 1 < 2 ^ 40 → rows ≡ row ∷ []
    → fact (d'.history ++ entry ∷ []) row (new_image d' rows firsts) → MayPublish fact d' entry row rows firsts
filled_publish fact d d' row word entry rows firsts f few is fits = record {
  few = subst (λ z. length z + 1 < 2 ^ 40) (sym f.history) few;
  rooted = subst (λ z. Contains z row) (sym is) (0, omega arith, refl);
  ready = λ r has. inr (λ place h. subst (λ z. Contains d'.draft (z, place)) (one_row row r (subst (λ z. Contains z r) is has)) (f.drafted place h));
  fits = fits;
}
