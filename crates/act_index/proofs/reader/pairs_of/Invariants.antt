use Rattle.std.proofs.Common.{◌≡◌, length, map, take}
use Rattle.std.specs.Prelude.{vec_capacity}
use Rattle.act_index.specs.Answers.{own_pair}
use Rattle.act_index.proofs.reader.pairs_of.Given as goal

-- the hits before the index have their pairs
abbrev pub invariant-loop-hit : goal.invariant-loop-hit
invariant-loop-hit l = record {
  pairs : l.pairs.items ≡ map own_pair (take l.hit-index l.hits);
  long : length l.pairs.items ≡ l.hit-index;
  room : vec_capacity l.pairs ≡ length l.hits;
}
