use Rattle.std.proofs.Common.{◌≡◌, ◌≤◌, ◌*◌, ◌/◌, ◌∙◌, Some, None, ap, subst, sym, refl, arith}
use Rattle.std.proofs.lemmas.Option.{same_Some}
use Rattle.act_super.specs.Nodes.{IsNode}
use Rattle.act_super.specs.Stands.{entry_at}
use Rattle.act_probe.specs.Ways.{child_in, over}
use Rattle.act_probe.proofs.EntryFacts.{goes_down, is_there, no_eighth, read_entry, root_node, root_over}
use Rattle.act_probe.proofs.StandFacts.{held_node}
use Rattle.act_probe.proofs.WayFacts.{entry_on}
use Rattle.act_probe.proofs.descent.descend.Goals as goal

pub loop-depth-init : goal.loop-depth-init
loop-depth-init g c = record {
  same = refl;
  ticks = omega arith;
  at = λ settings state s.
      let root = root_over c.args.p c.top-id.result c.top-id.ensures in
      (subst (IsNode settings state) (sym root) (root_node settings state), sym s.by_rows.top ∙ ap s.layout.node (sym root));
}

pub word-word-requires : goal.word-word-requires
word-word-requires g c =
    let r = c.requires in
    let at = c.loop-depth.invariant.at r.0 r.1 r.2 in
    rw (c.loop-depth.invariant.same, at.1) (held_node r.0 (g.W.Words.image c.args.words.now) c.args.root r.1 r.2.served r.2.layout r.2.by_rows (over (c.top-id.result / 2) (4 * c.loop-depth.depth)) at.0)

pub returns-in_default-clause-reached : goal.returns-in_default-clause-reached
returns-in_default-clause-reached g c = λ settings state s.
    let at = c.loop-depth.invariant.at settings state s in
    let word = rw c.loop-depth.invariant.same at c.word-word.ensures.word in
    let read = read_entry s c.args.p c.top-id.result c.loop-depth.depth c.loop-depth.row c.entry_place.result c.word-word.result c.top-id.ensures (omega arith) at.0 at.1 c.entry_place.ensures word in
    absurd (c.in_default.not-Some _ (c.decode.ensures ∙ read))

pub returns-in-None-clause-reached : goal.returns-in-None-clause-reached
returns-in-None-clause-reached g c = λ settings state s.
    let at = c.loop-depth.invariant.at settings state s in
    let word = rw c.loop-depth.invariant.same at c.word-word.ensures.word in
    let few : c.loop-depth.depth ≤ 6 = omega (arith, c.loop-depth-test.true) in
    let read = read_entry s c.args.p c.top-id.result c.loop-depth.depth c.loop-depth.row c.entry_place.result c.word-word.result c.top-id.ensures few at.0 at.1 c.entry_place.ensures word in
    let same = same_Some _ _ (sym c.in-Some.is ∙ c.decode.ensures ∙ read) in
    let none : child_in (entry_at s.layout settings state (over (c.top-id.result / 2) (4 * c.loop-depth.depth)) (entry_on (c.top-id.result / 2) (4 * c.loop-depth.depth))) ≡ None = sym (ap child_in same) ∙ sym c.child.ensures ∙ c.in-None.is in
    let there = is_there settings _ c.args.root state s.served s.layout s.by_rows c.args.p c.top-id.result c.top-id.ensures c.loop-depth.depth few at.0 none in
    rw (same, c.from-nodes.ensures) there

pub loop-depth-preserved : goal.loop-depth-preserved
loop-depth-preserved g c = record {
  same = c.word-word.ensures.same ∙ c.loop-depth.invariant.same;
  ticks = omega (arith, c.word-word.ensures.ticks, c.loop-depth.invariant.ticks);
  at = λ settings state s.
      let at = c.loop-depth.invariant.at settings state s in
      let word = rw c.loop-depth.invariant.same at c.word-word.ensures.word in
      let few : c.loop-depth.depth ≤ 6 = omega (arith, c.loop-depth-test.true) in
      let read = read_entry s c.args.p c.top-id.result c.loop-depth.depth c.loop-depth.row c.entry_place.result c.word-word.result c.top-id.ensures few at.0 at.1 c.entry_place.ensures word in
      let same = same_Some _ _ (sym c.in-Some.is ∙ c.decode.ensures ∙ read) in
      let some : child_in (entry_at s.layout settings state (over (c.top-id.result / 2) (4 * c.loop-depth.depth)) (entry_on (c.top-id.result / 2) (4 * c.loop-depth.depth))) ≡ Some c.in-Some-child.below = sym (ap child_in same) ∙ sym c.child.ensures ∙ c.in-Some-child.is in
      goes_down settings _ c.args.root state s.served s.layout s.by_rows c.args.p c.top-id.result c.top-id.ensures c.loop-depth.depth few at.0 c.in-Some-child.below some;
}

pub returns-clause-reached : goal.returns-clause-reached
returns-clause-reached g c = λ settings state s.
    let at = c.loop-depth.invariant.at settings state s in
    let eighth : 4 * c.loop-depth.depth ≡ 28 = omega (arith, c.loop-depth-test.false, c.loop-depth.auto.depth-end) in
    absurd (no_eighth settings state (c.top-id.result / 2) (rw eighth at at.0))
