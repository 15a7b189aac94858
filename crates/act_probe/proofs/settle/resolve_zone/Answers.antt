use Rattle.std.proofs.Common.{arith}
use Rattle.std.proofs.lemmas.List.Sums.{get_or-le-sum_by}
use Rattle.act_probe.specs.declared.buffers.Candidate.{Candidate}
use Rattle.act_probe.specs.Reads.{body_reads}
use Rattle.act_probe.proofs.ResolveFacts.{chains_of}
use Rattle.act_probe.proofs.SettleFacts.{no_candidate}
use Rattle.act_probe.proofs.settle.resolve_zone.Goals as goal

pub returns-clause-odd : goal.returns-clause-odd
returns-clause-odd g c = λ zones all. c.sweep.ensures.odd zones (chains_of (g.W.Words.image c.args.words.now) zones c.args.run.now c.requires.some c.requires.rows all)

pub returns-clause-few : goal.returns-clause-few
returns-clause-few g c = λ zones all.
    omega (
      arith,
      c.sweep.ensures.few zones (chains_of (g.W.Words.image c.args.words.now) zones c.args.run.now c.requires.some c.requires.rows all) 0 no_candidate c.requires.some,
      get_or-le-sum_by (λ (d : Candidate). body_reads (zones d.slot)) c.args.run.now 0 no_candidate c.requires.some,
    )
