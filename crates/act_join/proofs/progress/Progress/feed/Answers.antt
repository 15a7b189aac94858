use Rattle.std.proofs.Common.{◌≡◌, ◌≤◌, ◌+◌, ◌-◌, ◌++◌, ℕ, List, [], drop, length, length-drop, take, refl, sym, ap, subst, ◌∙◌, append_assoc, arith}
use Rattle.std.proofs.lemmas.List.{take-append-drop}
use Rattle.act_io.specs.Streams.{Stream, stream}
use Rattle.act_script.specs.Cutting.{turns}
use Rattle.act_join.specs.Feeds.{Stops, content_from}
use Rattle.act_join.proofs.PieceFacts.{fed_stopped, feeds_more, feeds_none}
use Rattle.act_join.proofs.progress.Progress.feed.Goals as goal

pub loop-rest-init : goal.loop-rest-init
loop-rest-init g c = record {
  within = c.requires.within;
  later = omega arith;
  turns = omega arith;
  feeds = ([], refl, feeds_none c.args.digits c.args.self.now (g.K.Sink.written c.args.out.now));
}

turns_on : (new used mid all first left next : ℕ) → new + used ≤ mid → mid + all ≤ first + left → used ≤ left → next ≡ left - used → new + all ≤ first + next
turns_on new used mid all first left next h k within e = omega arith

left_after : (rest next : List ℕ) (used : ℕ) → next ≡ drop used rest → length next ≡ length rest - used
left_after rest next used k = ap length k ∙ length-drop used rest

taken_on : (piece taken rest next : List ℕ) (used : ℕ) → piece ≡ taken ++ rest → next ≡ drop used rest → piece ≡ (taken ++ take used rest) ++ next
taken_on piece taken rest next used e k =
    e ∙ ap (λ (l : List ℕ). taken ++ l) (sym (take-append-drop used rest)) ∙ sym (append_assoc taken (take used rest) (drop used rest))
    ∙ ap (λ (l : List ℕ). (taken ++ take used rest) ++ l) (sym k)

pub loop-rest-preserved : goal.loop-rest-preserved
loop-rest-preserved g c =
    let inv = c.loop-rest.invariant in
    let rest = c.loop-rest.rest.now in
    let used = c.in-Ok.used in
    let written = g.K.Sink.written in
    let taken = inv.feeds.0 in
    let left : length c.after-rest.result.now ≡ length rest - used = left_after rest c.after-rest.result.now used c.after-rest.ensures in
    record {
      within = c.in-Ok.ensures.within;
      later = omega (arith, inv.later, c.in-Ok.ensures.later);
      turns = turns_on (turns c.feed_part.new.self.cutter) used (turns c.loop-rest.self.cutter) (length c.args.piece.now) (turns c.args.self.now.cutter) (length rest) (length c.after-rest.result.now) c.in-Ok.ensures.turns inv.turns c.in-Ok.ensures.used.1 left;
      feeds = (taken ++ take used rest, taken_on c.args.piece.now taken rest c.after-rest.result.now used inv.feeds.1 c.after-rest.ensures, feeds_more c.args.digits c.args.self.now c.loop-rest.self c.feed_part.new.self taken (take used rest) (written c.args.out.now) (written c.loop-rest.out) (written c.feed_part.new.out) inv.feeds.2 c.in-Ok.ensures.feeds);
    }

pub returns-in-Err-clause-feeds : goal.returns-in-Err-clause-feeds
returns-in-Err-clause-feeds g c more =
    let inv = c.loop-rest.invariant in
    let rest = c.loop-rest.rest.now in
    let written = g.K.Sink.written in
    let faults = g.K.Sink.faults in
    let out : Stream = stream g.K.Sink.written g.K.Sink.faults c.args.out.now c.feed_part.new.out in
    subst (λ (l : List ℕ). Stops (content_from c.args.digits c.args.self.now.cutter (l ++ more)) c.args.self.now out c.in-Err.end) (sym inv.feeds.1)
    (fed_stopped c.in-Err.end c.args.digits c.args.self.now c.loop-rest.self inv.feeds.0 rest (written c.args.out.now) (written c.loop-rest.out) (written c.feed_part.new.out) (faults c.args.out.now) (faults c.loop-rest.out) (faults c.feed_part.new.out)
    inv.feeds.2 inv.later c.in-Err.ensures.feeds more)
