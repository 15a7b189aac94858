use Rattle.std.proofs.Common.{◌≤◌, length, arith}
use Rattle.std.specs.List.{All}
use Rattle.std.proofs.lemmas.List.Elements.{AllWithin-upto, All-from_all_within}
use Rattle.act_grid.specs.Hull.{IsIn}
use Rattle.act_super.proofs.FrameFacts.{ring_more}
use Rattle.act_super.proofs.frame.frame_of.Goals as goal

pub loop-k-init : goal.loop-k-init
loop-k-init c = λ k d low high. absurd (omega arith)

pub loop-k-preserved : goal.loop-k-preserved
loop-k-preserved c =
    ring_more c.loop-k.frame c.with_ring-frame.result c.args.shape.now c.loop-k.k _ c.ring.ensures.item c.with_ring-frame.ensures.wider c.loop-k.invariant c.with_ring-frame.ensures.holds

pub returns : goal.returns
returns c =
    let done : length c.args.shape.now ≤ c.loop-k.k = omega arith in
    All-from_all_within (λ ring. All (IsIn c.loop-k.frame) ring) c.args.shape.now (AllWithin-upto (λ ring. All (IsIn c.loop-k.frame) ring) c.args.shape.now 0 c.loop-k.k _ done c.loop-k.invariant)
