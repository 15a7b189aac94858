use Rattle.std.proofs.Common.{◌∙◌, List, ap, map, length, arith}
use Rattle.std.proofs.lemmas.List.{length-map}
use Rattle.act_probe.specs.declared.buffers.Hit.{Hit as Probed}
use Rattle.act_index.specs.declared.pairs.Pair.{Pair}
use Rattle.act_index.specs.Answers.{own_pair, pair_of}
use Rattle.act_index.proofs.Joining.{own_pairs}
use Rattle.act_index.proofs.reader.join_all.Goals as goal

pub returns-clause-pairs : goal.returns-clause-pairs
returns-clause-pairs g c = λ settings state s.
    c.in_ok-pairs.ensures ∙ (ap (map own_pair) c.hits.ensures ∙ (own_pairs _ ∙ ap (map pair_of) (c.in_ok-reads.ensures.hits settings state s)))

pub returns-clause-most : goal.returns-clause-most
returns-clause-most g c =
    omega (
      arith,
      ap (λ (l : List Pair). length l) c.in_ok-pairs.ensures,
      length-map c.hits.result.now own_pair,
      ap (λ (l : List Probed). length l) c.hits.ensures,
      c.in_ok-reads.ensures.room,
    )

pub returns-clause-reads : goal.returns-clause-reads
returns-clause-reads g c = λ settings state s. omega (arith, c.in_ok-reads.ensures.reads, c.in_ok-reads.ensures.few settings state s)
