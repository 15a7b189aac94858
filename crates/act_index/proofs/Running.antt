-- Changes in a row.
use Rattle.std.proofs.Common.{◌≡◌, ℕ, zero, suc, ◌+◌, ◌-◌, ◌<◌, ◌≤◌, List, [], ◌∷◌, ◌++◌, length, take, drop, get_or, sym, refl, ap, ◌∙◌, subst, arith, append_assoc}
use Rattle.std.proofs.lemmas.List.{append-nil, map-append}
use Rattle.act_base.specs.Counting.{span}
use Rattle.act_grid.specs.declared.Settings.{Settings}
use Rattle.act_super.specs.declared.entry.Entry.{Entry}
use Rattle.act_super.specs.States.{after}
use Rattle.act_rows.specs.Bounds.{least}
use Rattle.act_rows.specs.Versions.{newest}
use Rattle.act_rows.proofs.Bounds.{least_bound}
use Rattle.act_index.specs.declared.changes.Change.{Change}
use Rattle.act_index.specs.declared.done.Refused.{Refused}
use Rattle.act_index.specs.declared.done.Refused.TheVariants as refused
use Rattle.act_index.specs.Calls.{IsGrown, IsLeft, IsRefused}
use Rattle.act_index.specs.Codes.{code, codes}
use Rattle.act_index.specs.Meanings.{size_at, sizes}
use Rattle.act_index.specs.Runs.{IsFull, IsRun, entries_of, entry_of}
use Rattle.act_index.specs.Whole.{Writing}
use Rattle.act_index.proofs.Histories.{codes_more, state_more}

pub run_none : (w : Writing) → IsRun w w []
run_none w = record { history = sym (append-nil w.desk.history); settings = refl; state = refl; table = refl; rises = omega arith }

pub run_more : (w m w' : Writing) (es : List Entry) (e : Entry) → IsRun w m es → IsGrown m w' e → IsRun w w' (es ++ e ∷ [])
run_more w m w' es e r g = record {
  history = g.history ∙ ((λ i. r.history i ++ code (r.settings i) e ∷ []) ∙ (append_assoc w.desk.history (codes w.settings es) (code w.settings e ∷ []) ∙ ap (λ z. w.desk.history ++ z) (sym (codes_more w.settings es e))));
  settings = g.settings ∙ r.settings;
  state = g.state ∙ ((λ i. after (r.settings i) (r.state i) e) ∙ sym (state_more w.settings w.state es e));
  table = g.table ∙ r.table;
  rises = let a = g.rises in let b = r.rises in omega arith;
}

pub run_left : (w m w' : Writing) (es : List Entry) → IsRun w m es → IsLeft m w' → IsRun w w' es
run_left w m w' es r l = record {
  history = l.watched.history ∙ r.history;
  settings = l.settings ∙ r.settings;
  state = l.state ∙ r.state;
  table = l.table ∙ r.table;
  rises = let a = l.watched.rises in let b = r.rises in omega arith;
}

-- the next change
pub take_one : (given rest : List Change) (n : ℕ) (c : Change) → drop n given ≡ c ∷ rest → (take (n + 1) given ≡ take n given ++ c ∷ []) × (drop (n + 1) given ≡ rest) × (n < length given)
take_one given rest n c e = subst (λ k. (take k given ≡ take n given ++ c ∷ []) × (drop k given ≡ rest) × (n < length given)) (let q : suc n ≡ n + 1 = omega arith in q) (go given n e)
  where
    go : (given : List Change) (n : ℕ) → drop n given ≡ c ∷ rest → (take (suc n) given ≡ take n given ++ c ∷ []) × (drop (suc n) given ≡ rest) × (n < length given)
    go [] zero e = absurd (cc)
    go [] (suc n) e = absurd (cc)
    go (x ∷ xs) zero e = let h : x ≡ c = ap (λ z. get_or z 0 c) e in let t : xs ≡ rest = ap (drop 1) e in (ap (λ z. z ∷ []) h, t, omega arith)
    go (x ∷ xs) (suc n) e = let r = go xs n e in let l = r.2 in (ap (λ z. x ∷ z) r.0, r.1, omega arith)

pub entries_one : (given rest : List Change) (n : ℕ) (c : Change) → drop n given ≡ c ∷ rest → entries_of (take (n + 1) given) ≡ entries_of (take n given) ++ entry_of c ∷ []
entries_one given rest n c e = ap entries_of (take_one given rest n c e).0 ∙ map-append entry_of (take n given) (c ∷ [])

-- more versions have more rows
span_longer : (f : ℕ → ℕ) (a b k : ℕ) → a ≤ b → span f b k ≤ span f a (k + (b - a))
span_longer f a b k h = go k
  where
    go : (k : ℕ) → span f b k ≤ span f a (k + (b - a))
    go zero = omega arith
    go (suc k) = let r = go k in let e : suc k + (b - a) ≡ suc (k + (b - a)) = omega arith in let g : a + (k + (b - a)) ≡ b + k = omega arith in
        let q : span f a (suc k + (b - a)) ≡ span f a (k + (b - a)) + f (b + k) = ap (span f a) e ∙ ap (λ z. span f a (k + (b - a)) + f z) g in omega arith

sizes_longer : (k : Settings) (es : List Entry) (a b n : ℕ) → a ≤ b → b ≤ n → sizes k es b n ≤ sizes k es a n
sizes_longer k es a b n h g = let r = span_longer (size_at k es) a b (n + 1 - b) h in let e : n + 1 - b + (b - a) ≡ n + 1 - a = omega arith in let q = ap (span (size_at k es) a) e in omega arith

-- where a change is held, the versions from the least bound at the call on fill the table
pub full_since : (w m w' : Writing) (es : List Entry) (e : Entry) (why : Refused) → IsRun w m es → IsLeft m w' → IsRefused m w' e why → IsFull (least (newest w.desk) w.desk.bounds) m e why
full_since w m w' es e refused.Duplicate r l f = tt
full_since w m w' es e refused.Unknown r l f = tt
full_since w m w' es e refused.Same r l f = tt
full_since w m w' es e (refused.Refs need) r l f = tt
full_since w m w' es e (refused.Rows need limit) r l f = tt
full_since w m w' es e refused.Versions r l f = tt
full_since w m w' es e refused.NoMemory r l f = tt
full_since w m w' es e (refused.Held reader version word) r l f =
    let h = f.1 in
    let a = r.rises in
    let b = l.watched.rises in
    let c = least_bound (newest w'.desk) w'.desk.bounds reader version h.bound in
    let d = h.old in
    let s = sizes_longer m.settings h.entries (least (newest w.desk) w.desk.bounds) version (newest m.desk) (omega arith) (omega arith) in
    let u = h.full in
    record { entries = h.entries; told = h.told; full = omega arith }
