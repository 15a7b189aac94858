-- Words of a row that are taken one after another.
use Rattle.std.proofs.Common.{◌≡◌, ℕ, suc, ◌+◌, ◌<◌, ◌≤◌, ◌⊎◌, inl, inr, Bool, false, List, drop, drop-cons, get_or, length, ◌∙◌, arith}
use Rattle.std.specs.Prelude.{slice_index}
use Rattle.std.specs.List.{All}
use Rattle.std.proofs.lemmas.List.{drop_all}
use Rattle.act_base.specs.Sight.{Sight}
use Rattle.act_geom.specs.Body.{body_of}
use Rattle.act_geom.specs.Inside.{is_inside}
use Rattle.act_geom.specs.Walk.{Expects}
use Rattle.act_geom.specs.declared.walk.Walk.{Walk}
use Rattle.act_geom.proofs.WalkFacts.{not_at_end}
use Rattle.act_super.specs.declared.entry.Zone.{Zone}
use Rattle.act_probe.specs.declared.buffers.Candidate.{Candidate}
use Rattle.act_probe.specs.declared.chain.Chain.{Chain}
use Rattle.act_probe.specs.declared.trace.Trace.{Trace}
use Rattle.act_probe.specs.Chains.{ChainAt, IsAt}
use Rattle.act_probe.specs.Passes.{HasTaken}
use Rattle.act_probe.specs.Sweeps.{Follows, Passes, walk_of}
use Rattle.act_probe.proofs.ChainFacts.{at_ahead, going, next_word, word_here}
use Rattle.act_probe.proofs.TraceFacts.{not_yet}

-- a walk that expects words has some before it
on_way : (walk : Walk) (body : List ℕ) (k : ℕ) (answer : Bool) → Expects walk (drop k body) answer → k < length body
on_way walk body k answer expects = by (sides k (length body))
  where
    sides : (a b : ℕ) → (a < b) ⊎ (b ≤ a)
    sides a b = grind arith

    by : (k < length body) ⊎ (length body ≤ k) → k < length body
    by (inl within) = within
    by (inr past) = absurd (not_at_end walk answer (rw (drop_all k body past) at expects))

module _ (x : Sight) (row place : ℕ) where
  pub passes_none : (t : Trace) (c : Candidate) → Passes x row place 0 t c t c
  passes_none t c = λ body k answer words e.
      let none : k ≡ k + 0 = omega arith in
      rw none at e

  pub passes_more : (n : ℕ) (t u v : Trace) (b c d : Candidate) (word : ℕ) → word ≡ x.word row (place + 1 + n) → Passes x row place n t b u c → Follows u c word false v d
      → Passes x row place (n + 1) t b v d
  passes_more n t u v b c d word is passes follows = λ body k answer words e.
      let here = passes body k answer (λ i below within. words i (omega (arith, below)) within) e in
      let within = on_way (walk_of u c) body (k + n) answer here in
      let told : word ≡ get_or body (k + n) 0 = is ∙ words n (omega arith) within in
      let one : k + n + 1 ≡ suc (k + n) = omega arith in
      let more : k + n + 1 ≡ k + (n + 1) = omega arith in
      rw (← more) (follows (drop (k + n + 1) body) answer (rw (told, one) (rw (drop-cons body (k + n) 0 within) at here))).1

-- the words that stand in the row at hand were taken for each candidate
pub on_ahead : (x : Sight) (first : ℕ) (zones : ℕ → Zone) (origin : List Candidate) (all : All (λ (c : Candidate). ChainAt x (zones c.slot) first) origin) (chain : Chain) (t u : Trace) (old new : List Candidate)
    (k n : ℕ) → chain.place + n ≤ 255 → HasTaken x first zones origin all chain t old k
    → ((j : ℕ) (d : Candidate) → j < length origin → Passes x chain.row chain.place n t (get_or old j d) u (get_or new j d))
    → HasTaken x first zones origin all (record chain { place = chain.place + n }) u new (k + n)
on_ahead x first zones origin all chain t u old new k n within on passes = λ i d inside.
    let zone = zones (get_or origin i d).slot in
    let c = all i d inside in
    let answer = is_inside zone.shape (get_or origin i d).point in
    let at = on i d inside in (
      at_ahead x zone first c chain.row chain.next chain.passed chain.place k n within at.0,
      passes i d inside (body_of zone.shape) k answer (λ m below inner.
          let e : chain.place + 1 + m ≡ chain.place + m + 1 = omega arith in
          let here = at_ahead x zone first c chain.row chain.next chain.passed chain.place k m (omega (arith, below, within)) at.0 in
          rw e (word_here x zone first c chain.row chain.next chain.passed (chain.place + m) (k + m) inner here (omega (arith, below, within)))) at.1,
    )

-- a word was taken for each candidate, and was not the last one
pub on_fed : (x : Sight) (first : ℕ) (zones : ℕ → Zone) (origin : List Candidate) (all : All (λ (c : Candidate). ChainAt x (zones c.slot) first) origin) (chain next : Chain) (t u : Trace) (old new : List Candidate)
    (k word : ℕ) (done : Bool) → done ≡ false → length old ≡ length origin → HasTaken x first zones origin all chain t old k
    → ((zone : Zone) (c : ChainAt x zone first) (m : ℕ) → m < length (body_of zone.shape) → IsAt x zone first c chain.row chain.next chain.passed chain.place m
    → (word ≡ slice_index (body_of zone.shape) m) × IsAt x zone first c next.row next.next next.passed next.place (m + 1))
    → ((j : ℕ) (d : Candidate) → j < length old → Follows t (get_or old j d) word done u (get_or new j d))
    → HasTaken x first zones origin all next u new (k + 1)
on_fed x first zones origin all chain next t u old new k word done going_on long on taken follows = λ i d inside.
    let zone = zones (get_or origin i d).slot in
    let c = all i d inside in
    let answer = is_inside zone.shape (get_or origin i d).point in
    let at = on i d inside in
    let walk = walk_of t (get_or old i d) in
    let before = going x zone first c walk k answer at.1 in
    let told = taken zone c k before at.0 in (
      told.1,
      not_yet done (walk_of u (get_or new i d)) (drop (k + 1) (body_of zone.shape)) answer going_on
          (follows i d (omega (arith, inside, long)) (drop (k + 1) (body_of zone.shape)) answer (next_word x zone first c walk k word answer before told.0 at.1)),
    )
