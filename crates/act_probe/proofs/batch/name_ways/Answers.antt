use Rattle.std.proofs.Common.{◌<◌, ◌∙◌, append-nil, arith, length, refl, sym}
use Rattle.std.proofs.lemmas.List.{take_all}
use Rattle.act_probe.proofs.GroupFacts.{no_way}
use Rattle.act_probe.proofs.NameFacts.{few_more, names_more}
use Rattle.act_probe.proofs.batch.name_ways.Goals as goal

pub loop-i-init : goal.loop-i-init
loop-i-init g c = record {
  same = refl;
  ticks = omega arith;
  space = refl;
  long = omega arith;
  bound = omega arith;
  few = λ root settings state s all. omega arith;
  at = λ root settings state s all. sym (append-nil c.args.named.now.items);
}

pub name_way-requires-clause-down : goal.name_way-requires-clause-down
name_way-requires-clause-down g c =
    let r = c.requires.down in
    let within : c.loop-i.i < length c.args.ways.now = omega (arith, c.loop-i-test.true) in
    rw c.loop-i.invariant.same (r.0, r.1, r.2, r.3, r.4 c.loop-i.i no_way within)

pub name_way-requires-clause-space : goal.name_way-requires-clause-space
name_way-requires-clause-space g c = omega (arith, c.loop-i-test.true, c.requires.space, c.loop-i.invariant.space, c.loop-i.invariant.long)

pub loop-i-preserved : goal.loop-i-preserved
loop-i-preserved g c =
    let within : c.loop-i.i < length c.args.ways.now = omega (arith, c.loop-i-test.true) in
    record {
      same = c.name_way.ensures.same ∙ c.loop-i.invariant.same;
      ticks = omega (arith, c.name_way.ensures.ticks, c.loop-i.invariant.ticks);
      space = c.name_way.ensures.space ∙ c.loop-i.invariant.space;
      long = omega (arith, c.name_way.ensures.long, c.loop-i.invariant.long);
      bound = omega (arith, c.name_way.ensures.bound, c.loop-i.invariant.bound);
      few = λ root settings state s all.
          few_more s.layout settings state c.args.ways.now c.loop-i.i c.args.reads.now c.loop-i.reads c.name_way.new.reads within (c.loop-i.invariant.few root settings state s all)
          ((rw c.loop-i.invariant.same at c.name_way.ensures.few) root settings state s (all c.loop-i.i no_way within));
      at = λ root settings state s all.
          names_more s.layout settings state c.args.first c.args.ways.now c.loop-i.i c.args.named.now.items c.loop-i.named.items c.name_way.new.named.items within (c.loop-i.invariant.at root settings state s all)
          ((rw c.loop-i.invariant.same at c.name_way.ensures.named) root settings state s (all c.loop-i.i no_way within));
    }

pub returns-clause-named : goal.returns-clause-named
returns-clause-named g c = λ root settings state s all.
    let end = take_all c.loop-i.i c.args.ways.now (omega (arith, c.loop-i-test.false)) in
    rw end at (c.loop-i.invariant.at root settings state s all)

pub returns-clause-few : goal.returns-clause-few
returns-clause-few g c = λ root settings state s all.
    let end = take_all c.loop-i.i c.args.ways.now (omega (arith, c.loop-i-test.false)) in
    rw end at (c.loop-i.invariant.few root settings state s all)
