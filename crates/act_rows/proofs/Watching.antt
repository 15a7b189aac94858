-- Looks, and the least bound so far.
use Rattle.std.proofs.Common.{◌≡◌, ◌≢◌, ℕ, zero, suc, ◌+◌, ◌<◌, ◌≤◌, min, List, [], ◌∷◌, length, take, set, sym, refl, ap, ◌∙◌, subst, ⊎_elim, arith, Option, Some, None, length-set, ◌++◌, append_assoc}
use Rattle.std.proofs.lemmas.List.{take-set-le, append-nil}
use Rattle.std.proofs.lemmas.List.Elements.{Contains-append_left, Contains-append_right}
use mathlib.Core.Logic.{dite}
use native.Mathlib.Decide.{ℕ_discrete}
use mathlib.Core.Option.{some, some-injective, some-ne-none}
use lib.ListN.{get_elem?}
use Rattle.atomic_table.proofs.Lists.{at_set, set_here, set_else}
use Rattle.act_rows.specs.declared.views.Desk.{Desk}
use Rattle.act_rows.specs.Bounds.{least, raised, bound_at}
use Rattle.act_rows.specs.Versions.{newest}
use Rattle.act_rows.specs.Updates.{looked}
use Rattle.act_rows.proofs.Lists.{within}
use Rattle.act_rows.proofs.Bounds.{least_le, least_bound, least_most, bound_is, raised_most}
use Rattle.act_rows.specs.Watched.{Watched, Found}

pub watched_none : (d : Desk) → Watched d d
watched_none d = record { pins = refl; rows = refl; history = refl; versions = refl; words = refl; draft = refl; as_many = refl; rises = omega arith }

pub watched_more : (d d' : Desk) (j p c : ℕ) → Watched d d' → get_elem? d'.bounds j ≡ some (Some c) → Watched d (looked d' j p)
watched_more d d' j p c w at =
    let n : ℕ = newest d' in
    let m : ℕ = least n d'.bounds in
    let after : ℕ = raised n p (bound_at d'.bounds j) in
    let up : m ≤ least n (set d'.bounds j (Some after)) = least_most m n (set d'.bounds j (Some after)) (least_le n d'.bounds)
    (λ i b e. ⊎_elim (λ (h : (i ≡ j) × (Some after ≡ Some b)). let q = h.1 in let r : after ≡ b = cc in
    let g = raised_most n p (bound_at d'.bounds j) m (least_le n d'.bounds) (let k = bound_is d'.bounds j c at in let l = least_bound n d'.bounds j c at in omega arith) in omega arith)
    (λ (h : (i ≢ j) × (get_elem? d'.bounds i ≡ some (Some b))). least_bound n d'.bounds i b h.1) (at_set d'.bounds j i (Some after) (Some b) e)) in
    let before = w.rises in
    record {
      pins = w.pins;
      rows = w.rows;
      history = w.history;
      versions = w.versions;
      words = w.words;
      draft = w.draft;
      as_many = length-set d'.bounds j (Some after) ∙ w.as_many;
      rises = omega arith;
    }

-- one reader more
pub least_lent : (n : ℕ) (bs : List (Option ℕ)) (j c : ℕ) → get_elem? bs j ≡ some (Some c) → least n (take (j + 1) bs) ≡ min (least n (take j bs)) c
least_lent n bs j c e = subst (λ k. least n (take k bs) ≡ min (least n (take j bs)) c) (let q : suc j ≡ j + 1 = omega arith in q) (go bs j e)
  where
    go : (bs : List (Option ℕ)) (j : ℕ) → get_elem? bs j ≡ some (Some c) → least n (take (suc j) bs) ≡ min (least n (take j bs)) c
    go [] j e = absurd (some-ne-none (Some c) (sym e))
    go (None ∷ bs) zero e = let q : None ≡ Some c = some-injective _ _ e in absurd (cc)
    go (Some b ∷ bs) zero e = let q : Some b ≡ Some c = some-injective _ _ e in let r : b ≡ c = cc in omega arith
    go (None ∷ bs) (suc j) e = go bs j e
    go (Some b ∷ bs) (suc j) e = let r = go bs j e in omega arith

pub least_free : (n : ℕ) (bs : List (Option ℕ)) (j : ℕ) → get_elem? bs j ≡ some None → least n (take (j + 1) bs) ≡ least n (take j bs)
least_free n bs j e = subst (λ k. least n (take k bs) ≡ least n (take j bs)) (let q : suc j ≡ j + 1 = omega arith in q) (go bs j e)
  where
    go : (bs : List (Option ℕ)) (j : ℕ) → get_elem? bs j ≡ some None → least n (take (suc j) bs) ≡ least n (take j bs)
    go [] j e = absurd (some-ne-none None (sym e))
    go (None ∷ bs) zero e = refl
    go (Some b ∷ bs) zero e = let q : Some b ≡ None = some-injective _ _ e in absurd (cc)
    go (None ∷ bs) (suc j) e = go bs j e
    go (Some b ∷ bs) (suc j) e = let r = go bs j e in omega arith

-- the look at j makes the first j + 1 bounds known
pub least_looked : (d : Desk) (j p c m b : ℕ) → get_elem? d.bounds j ≡ some (Some c) → b ≡ raised (newest d) p c → m ≡ least (newest d) (take j d.bounds)
    → min m b ≡ least (newest d) (take (j + 1) (looked d j p).bounds)
least_looked d j p c m b at is so =
    let after : ℕ = raised (newest d) p (bound_at d.bounds j) in
    let same : b ≡ after = is ∙ ap (raised (newest d) p) (sym (bound_is d.bounds j c at)) in
    let low : j < length d.bounds = within d.bounds j (Some c) at in
    let here : get_elem? (set d.bounds j (Some after)) j ≡ some (Some after) = set_here d.bounds j (Some after) low in
    let one = least_lent (newest d) (set d.bounds j (Some after)) j after here in
    let front = ap (least (newest d)) (take-set-le j d.bounds j (Some after) (omega arith)) in
    omega arith

-- the least so far, and who has it
pub found_free : (d d' : Desk) (n bound reader word : ℕ) → get_elem? d'.bounds n ≡ some None → Found d d' n bound reader word → Found d d' (n + 1) bound reader word
found_free d d' n bound reader word none f =
    let low = f.low in
    record {
      at = f.at;
      first = λ j h e. dite (ℕ_discrete j n) (λ q. let bad : get_elem? d'.bounds n ≡ some (Some bound) = subst (λ z. get_elem? d'.bounds z ≡ some (Some bound)) q e in absurd (cc)) (λ ne. f.first j (omega arith) e);
      low = omega arith;
      more = f.more;
      looks = f.looks;
      looked = f.looked;
      above = f.above;
      below = f.below;
    }

pub looks_more : (d d' : Desk) (n p : ℕ) (more : List (ℕ × ℕ)) → d'.looks ≡ d.looks ++ more → (looked d' n p).looks ≡ d.looks ++ (more ++ (n, p) ∷ [])
looks_more d d' n p more e = ap (λ z. z ++ (n, p) ∷ []) e ∙ append_assoc d.looks more ((n, p) ∷ [])

pub found_old : (d d' : Desk) (n p c bound reader word : ℕ) → get_elem? d'.bounds n ≡ some (Some c) → bound ≤ raised (newest d') p c → Found d d' n bound reader word → Found d (looked d' n p) (n + 1) bound reader word
found_old d d' n p c bound reader word at high f =
    let low = f.low in
    let ne : reader ≢ n = omega arith in
    record {
      at = set_else d'.bounds n reader (Some (raised (newest d') p (bound_at d'.bounds n))) ne ∙ f.at;
      first = λ j h e. ⊎_elim (λ (t : (j ≡ n) × (Some (raised (newest d') p (bound_at d'.bounds n)) ≡ Some bound)). let q = t.0 in omega arith)
          (λ (t : (j ≢ n) × (get_elem? d'.bounds j ≡ some (Some bound))). let q = t.0 in f.first j (omega arith) t.1) (at_set d'.bounds n j (Some (raised (newest d') p (bound_at d'.bounds n))) (Some bound) e);
      low = omega arith;
      more = f.more ++ (n, p) ∷ [];
      looks = looks_more d d' n p f.more f.looks;
      looked = Contains-append_left f.more ((n, p) ∷ []) (reader, word) f.looked;
      above = f.above;
      below = f.below;
    }

raised_word : (n p c : ℕ) → raised n p c < n → (0 < p) × (p ≤ raised n p c + 1)
raised_word n zero c h = absurd (omega arith)
raised_word n (suc p) c h = (omega arith, omega arith)

-- the looks, whether something was found or not
pub record Looking (d d' : Desk) : Type 0 where
  pub more : List (ℕ × ℕ)
  pub looks : d'.looks ≡ d.looks ++ more

pub looking_none : (d : Desk) → Looking d d
looking_none d = record { more = []; looks = sym (append-nil d.looks) }

pub looking_more : (d d' : Desk) (n p : ℕ) → Looking d d' → Looking d (looked d' n p)
looking_more d d' n p l = record { more = l.more ++ (n, p) ∷ []; looks = looks_more d d' n p l.more l.looks }

-- a lower one is found
pub found_new : (d d' : Desk) (n p c bound b : ℕ) → Looking d d' → get_elem? d'.bounds n ≡ some (Some c) → b ≡ raised (newest d') p c → bound ≡ least (newest d') (take n d'.bounds) → b < bound → Found d (looked d' n p) (n + 1) b n p
found_new d d' n p c bound b l at is so less =
    let after : ℕ = raised (newest d') p (bound_at d'.bounds n) in
    let same : b ≡ after = is ∙ ap (raised (newest d') p) (sym (bound_is d'.bounds n c at)) in
    let here : get_elem? (set d'.bounds n (Some after)) n ≡ some (Some after) = set_here d'.bounds n (Some after) (within d'.bounds n (Some c) at) in
    let top = least_le (newest d') (take n d'.bounds) in
    let word = raised_word (newest d') p c (omega arith) in
    let below = word.1 in
    record {
      at = here ∙ ap (λ z. some (Some z)) (sym same);
      first = λ j h e. dite (ℕ_discrete j n) (λ q. omega arith)
          (λ ne. let h' : j < n = omega arith in let e' : get_elem? d'.bounds j ≡ some (Some b) = sym (set_else d'.bounds n j (Some after) ne) ∙ e in let low = least_bound (newest d') (take n d'.bounds) j b (at_take n d'.bounds j (Some b) h' e') in absurd (omega arith));
      low = omega arith;
      more = l.more ++ (n, p) ∷ [];
      looks = looks_more d d' n p l.more l.looks;
      looked = Contains-append_right l.more ((n, p) ∷ []) (n, p) (0, omega arith, refl);
      above = word.0;
      below = omega arith;
    }
  where
    at_take : (n : ℕ) (bs : List (Option ℕ)) (j : ℕ) (b : Option ℕ) → j < n → get_elem? bs j ≡ some b → get_elem? (take n bs) j ≡ some b
    at_take zero bs j b h e = absurd (omega arith)
    at_take (suc n) [] j b h e = absurd (some-ne-none b (sym e))
    at_take (suc n) (x ∷ xs) zero b h e = e
    at_take (suc n) (x ∷ xs) (suc j) b h e = at_take n xs j b (omega arith) e
