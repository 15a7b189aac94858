use Rattle.std.proofs.Common.{ap, arith, sym, ◌∙◌}
use Rattle.act_probe.specs.Ways.{child_in}
use Rattle.act_probe.proofs.GroupFacts.{gone, held_ahead, waits}
use Rattle.act_probe.proofs.group.go.Goals as goal

pub word-way-requires : goal.word-way-requires
word-way-requires g c =
    let r = c.requires.goes in
    let is = sym (ap child_in (c.entry_in.ensures r.4.entry r.4.word)) ∙ sym c.child.ensures ∙ c.in-Some.is in
    (held_ahead r.3 c.args.depth c.args.way.now c.in-Some.row r.4 is).0

pub overflow_add-way : goal.overflow_add-way
overflow_add-way g c =
    let r = c.requires.goes in
    let is = sym (ap child_in (c.entry_in.ensures r.4.entry r.4.word)) ∙ sym c.child.ensures ∙ c.in-Some.is in
    omega (arith, (held_ahead r.3 c.args.depth c.args.way.now c.in-Some.row r.4 is).1)

pub returns-in-Some-clause-goes : goal.returns-in-Some-clause-goes
returns-in-Some-clause-goes g c = λ root settings state s goes.
    let is = sym (ap child_in (c.entry_in.ensures goes.entry goes.word)) ∙ sym c.child.ensures ∙ c.in-Some.is in
    gone s c.args.depth c.args.way.now c.in-Some.row c.entry_place.result c.word-way.result c.requires.depth goes is c.entry_place.ensures c.word-way.ensures.word

pub returns-in-None-clause-goes : goal.returns-in-None-clause-goes
returns-in-None-clause-goes g c = λ root settings state s goes.
    waits s c.args.depth c.args.way.now goes (sym (ap child_in (c.entry_in.ensures goes.entry goes.word)) ∙ sym c.child.ensures ∙ c.in-None.is)
