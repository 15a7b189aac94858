use Rattle.std.proofs.Common.{◌≤◌, ◌∙◌, ℕ, ap, arith, length}
use Rattle.std.specs.Prelude.{sum_by}
use Rattle.std.proofs.lemmas.List.{take_all}
use borrow.Rule.Slice.PartMut.{same_len_mid}
use Rattle.act_probe.specs.declared.buffers.Candidate.{Candidate}
use Rattle.act_probe.specs.Reads.{body_reads}
use Rattle.act_probe.specs.Batches.{Asks, answered}
use Rattle.act_probe.proofs.ResolveFacts.{new_all, new_rest, part_all, part_ascends, part_run, part_sum}
use Rattle.act_probe.proofs.settle.resolve.Goals as goal

pub resolve_zone-requires-clause-rows : goal.resolve_zone-requires-clause-rows
resolve_zone-requires-clause-rows g c =
    let i = c.loop-start.invariant in
    part_run c.args.candidates.now c.loop-start.candidates c.loop-start.start c.run_end-end.result c.run_end-end.ensures.more (omega (arith, c.run_end-end.ensures.within, i.long)) i.long i.rest c.run_end-end.ensures.rows

pub resolve_zone-requires-clause-ascends : goal.resolve_zone-requires-clause-ascends
resolve_zone-requires-clause-ascends g c =
    let i = c.loop-start.invariant in
    part_ascends c.args.candidates.now c.loop-start.candidates c.loop-start.start c.run_end-end.result c.run_end-end.ensures.more (omega (arith, c.run_end-end.ensures.within, i.long)) i.long i.rest c.requires.ascends c.run_end-end.ensures.rows

pub loop-start-preserved : goal.loop-start-preserved
loop-start-preserved g c =
    let i = c.loop-start.invariant in
    let end : c.run_end-end.result ≤ length c.args.candidates.now = omega (arith, c.run_end-end.ensures.within, i.long) in
    record {
      same = c.resolve_zone.ensures.same ∙ i.same;
      ticks = omega (arith, c.resolve_zone.ensures.ticks, i.ticks);
      within = end;
      long = same_len_mid c.loop-start.start _ c.loop-start.candidates c.resolve_zone.new.run c.resolve_zone.auto.run ∙ i.long;
      bound = omega (arith, c.resolve_zone.ensures.bound, i.bound, c.run_end-end.ensures.more);
      rest = new_rest c.args.candidates.now c.loop-start.candidates c.loop-start.start c.run_end-end.result c.run_end-end.ensures.more end i.long i.rest c.resolve_zone.new.run c.resolve_zone.auto.run;
      at = λ zones all.
          let at = i.at zones all in
          let asks = part_all c.args.candidates.now c.loop-start.candidates c.loop-start.start c.run_end-end.result c.run_end-end.ensures.more end i.long i.rest (λ (d : Candidate). Asks (g.W.Words.image c.args.words.now) (zones d.slot) d) all in
          let odd = (rw i.same at c.resolve_zone.ensures.odd) zones asks in
          let few = (rw i.same at c.resolve_zone.ensures.few) zones asks in
          let cost : Candidate → ℕ = λ (d : Candidate). body_reads (zones d.slot) in (
            new_all c.args.candidates.now c.loop-start.candidates c.loop-start.start c.run_end-end.result c.run_end-end.ensures.more end i.long i.rest c.resolve_zone.new.run c.resolve_zone.auto.run (answered zones) at.0 odd,
            omega (arith, at.1, few, part_sum c.args.candidates.now c.loop-start.candidates c.loop-start.start c.run_end-end.result c.run_end-end.ensures.more end i.long i.rest cost),
          );
    }

pub returns-clause-few : goal.returns-clause-few
returns-clause-few g c = λ zones all.
    let at = c.loop-start.invariant.at zones all in
    let cost : Candidate → ℕ = λ (d : Candidate). body_reads (zones d.slot) in
    omega (arith, at.1, ap (sum_by cost) (take_all c.loop-start.start c.args.candidates.now (omega (arith, c.loop-start-test.false, c.loop-start.invariant.long))))
