-- A way over the words of a zone's chain for all its candidates.
use Rattle.std.specs.Prelude.{ℕ, ◌<◌, All, List, drop, length, slice_index_or}
use Rattle.act_base.specs.Sight.{Sight}
use Rattle.act_geom.specs.Body.{body_of}
use Rattle.act_geom.specs.Inside.{is_inside}
use Rattle.act_geom.specs.Walk.{Expects}
use Rattle.act_super.specs.declared.entry.Zone.{Zone}
use Rattle.act_probe.specs.declared.buffers.Candidate.{Candidate}
use Rattle.act_probe.specs.declared.chain.Chain.{Chain}
use Rattle.act_probe.specs.declared.trace.Trace.{Trace}
use Rattle.act_probe.specs.Chains.{ChainAt, IsAt}
use Rattle.act_probe.specs.Sweeps.{walk_of}

-- the first k words were taken, and the walk of each candidate expects those after them
abbrev pub HasTaken : (x : Sight) (first : ℕ) (zones : ℕ → Zone) (origin : List Candidate) → All (λ (c : Candidate). ChainAt x (zones c.slot) first) origin → Chain → Trace → List Candidate → ℕ → Type 0
HasTaken x first zones origin all chain trace run k =
    (i : ℕ) (d : Candidate) (inside : i < length origin)
    → IsAt x (zones (slice_index_or origin i d).slot) first (all i d inside) chain.row chain.next chain.passed chain.place k
    × Expects (walk_of trace (slice_index_or run i d)) (drop k (body_of (zones (slice_index_or origin i d).slot).shape)) (is_inside (zones (slice_index_or origin i d).slot).shape (slice_index_or origin i d).point)
