use Rattle.std.proofs.Common.{◌≡◌, ◌++◌, All, List, filter, map, take}
use Rattle.act_base.specs.Sight.{Sight}
use Rattle.act_probe.specs.Batches.{Grows, Holds, Met, is_of}
use Rattle.act_probe.specs.Chains.{ChainAt}
use Rattle.act_probe.specs.Names.{named_of}
use Rattle.act_probe.proofs.meet.meet_all.Given as goal

-- the references before the index were taken
abbrev pub invariant-loop-n : goal.invariant-loop-n
invariant-loop-n l = record {
  reads : l.found.reads ≡ l.fn.found.reads;
  grows : Grows l.fn.found l.found l.n-index;
  at : (x : Sight) (all : List Met) (mets : List Met) → l.named ≡ map (named_of x) all → All (λ (m : Met). ChainAt x m.zone m.row) all → Holds x l.fn.found mets
      → Holds x l.found (mets ++ filter (is_of l.layers) (take l.n-index all));
}
