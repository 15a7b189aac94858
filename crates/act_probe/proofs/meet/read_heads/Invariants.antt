use Rattle.std.proofs.Common.{◌≡◌, ◌+◌, ◌++◌, drop, map, take}
use Rattle.act_probe.specs.Names.{headed}
use Rattle.act_probe.proofs.meet.read_heads.Given as goal

-- the first words of those before the index were read
abbrev pub invariant-loop-n : goal.invariant-loop-n
invariant-loop-n g l = record {
  same : l.words ≡ l.fn.words;
  ticks : l.steps ≡ l.fn.steps + l.n-index;
  out : l.named ≡ map (headed (g.W.Words.image l.fn.words)) (take l.n-index l.fn.named) ++ drop l.n-index l.fn.named;
}
