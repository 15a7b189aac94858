use Rattle.std.proofs.Common.{◌∙◌, ap, sym, refl, arith, get_or}
use Rattle.act_probe.specs.Groups.{led}
use Rattle.act_probe.specs.Ways.{child_in}
use Rattle.act_probe.proofs.GroupFacts.{gone, held_ahead, no_way, outset, root_fits}
use Rattle.act_probe.proofs.group.go_together.Goals as goal

pub encode-requires : goal.encode-requires
encode-requires g c = root_fits c.requires.stands.2

pub loop-trunk-init : goal.loop-trunk-init
loop-trunk-init g c = record {
  same = refl;
  ticks = omega arith;
  count = omega arith;
  few = omega arith;
  goes = λ settings state s k d within. rw c.encode.ensures (outset s (get_or c.args.ways.now k d).point (get_or c.args.ways.now k d).id (c.requires.tops k d within));
}

pub word-requires : goal.word-requires
word-requires g c =
    let r = c.requires.stands in
    let goes = c.loop-trunk.invariant.goes r.0 r.1 r.2 0 no_way (omega (arith, c.if-ways-eq0.false)) in
    let is = sym (ap child_in (c.entry_in.ensures goes.entry goes.word)) ∙ sym c.child.ensures ∙ c.in-Some.is in
    rw c.loop-trunk.invariant.same (held_ahead r.2 c.loop-trunk.trunk.nodes (led c.loop-trunk.trunk (get_or c.args.ways.now 0 no_way)) c.in-Some.row goes is).0

pub loop-trunk-preserved : goal.loop-trunk-preserved
loop-trunk-preserved g c = record {
  same = c.word.ensures.same ∙ c.loop-trunk.invariant.same;
  ticks = omega (arith, c.word.ensures.ticks, c.loop-trunk.invariant.ticks);
  count = omega (arith, c.loop-trunk.invariant.count);
  few = omega (arith, c.loop-trunk-test.true);
  goes = λ settings state s k d within.
      let goes = c.loop-trunk.invariant.goes settings state s k d within in
      let is = sym (ap child_in (c.entry_in.ensures goes.entry goes.word)) ∙ sym c.child.ensures ∙ c.in-Some.is in
      gone s c.loop-trunk.trunk.nodes (led c.loop-trunk.trunk (get_or c.args.ways.now k d)) c.in-Some.row c.entry_place-place.result c.word.result (omega (arith, c.loop-trunk-test.true)) goes is
      (c.is_shared.ensures c.if-not-is_shared.false k d within) (rw c.loop-trunk.invariant.same at c.word.ensures.word);
}
