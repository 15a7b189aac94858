use Rattle.std.proofs.Common.{◌≡◌, ◌+◌, ◌≤◌, drop}
use Rattle.act_geom.specs.Body.{body_of}
use Rattle.act_geom.specs.Inside.{is_inside}
use Rattle.act_geom.specs.Walk.{Expects}
use Rattle.act_super.specs.declared.entry.Zone.{Zone}
use Rattle.act_probe.specs.Chains.{ChainAt, IsAt}
use Rattle.act_probe.proofs.chain.test.Given as goal

-- the first k words were fed, and the walk expects those after them
abbrev pub invariant-loop-k : goal.invariant-loop-k
invariant-loop-k g l = record {
  same : l.words ≡ l.fn.words;
  ticks : l.steps ≡ l.fn.steps + l.k + l.chain.passed;
  few : l.chain.passed ≤ l.k;
  at : (zone : Zone) (c : ChainAt (g.W.Words.image l.fn.words) zone l.fn.row)
      → IsAt (g.W.Words.image l.fn.words) zone l.fn.row c l.chain.row l.chain.next l.chain.passed l.chain.place l.k
      × Expects l.walk (drop l.k (body_of zone.shape)) (is_inside zone.shape l.fn.p);
}
