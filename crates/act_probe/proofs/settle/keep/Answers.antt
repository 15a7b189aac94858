use Rattle.std.proofs.Common.{◌<◌, ◌∙◌, refl, arith, length, map, get_or}
use Rattle.std.proofs.Math.ListN.{length-set}
use Rattle.std.proofs.lemmas.List.{length-map}
use Rattle.act_probe.specs.declared.buffers.Candidate.{Candidate}
use Rattle.act_probe.proofs.SettleFacts.{begins, no_candidate, same_bits, slot_at, told_last, told_more}
use Rattle.act_probe.proofs.settle.keep.Goals as goal

pub loop-candidate-init : goal.loop-candidate-init
loop-candidate-init c = record { long = refl; at = λ answers s. begins c.args.kept.now answers c.args.candidates.now s }

pub loop-candidate-preserved : goal.loop-candidate-preserved
loop-candidate-preserved c =
    let within : c.loop-candidate.candidate-index < length c.args.candidates.now = omega (arith, c.loop-candidate-test.true) in
    let here : Candidate = get_or c.args.candidates.now c.loop-candidate.candidate-index no_candidate in
    record {
      long = length-set c.loop-candidate.kept here.slot here.odd ∙ c.loop-candidate.invariant.long;
      at = λ answers s i inside.
          told_more answers (map (λ (d : Candidate). d.slot) c.args.candidates.now) c.loop-candidate.candidate-index (omega (arith, within, length-map c.args.candidates.now (λ (d : Candidate). d.slot)))
          c.loop-candidate.kept here.slot here.odd (λ d. slot_at c.args.candidates.now c.loop-candidate.candidate-index d within)
          (omega (arith, c.loop-candidate.invariant.long, c.requires c.loop-candidate.candidate-index no_candidate within)) (s.told c.loop-candidate.candidate-index no_candidate within) i
          (c.loop-candidate.invariant.at answers s i inside);
    }

pub returns : goal.returns
returns c = λ answers s.
    same_bits c.loop-candidate.kept answers (c.loop-candidate.invariant.long ∙ s.long)
    (λ i inside. told_last answers c.loop-candidate.kept (map (λ (d : Candidate). d.slot) c.args.candidates.now) c.loop-candidate.candidate-index i
    (omega (arith, c.loop-candidate-test.false, length-map c.args.candidates.now (λ (d : Candidate). d.slot))) (c.loop-candidate.invariant.at answers s i inside))
