use Rattle.std.proofs.Common.{◌≡◌, ◌+◌, arith, get_or}
use Rattle.act_geom.specs.Inside.{is_inside}
use Rattle.act_probe.specs.Sweeps.{walk_of}
use Rattle.act_probe.proofs.ChainFacts.{going, held_here}
use Rattle.act_probe.proofs.PassFacts.{on_ahead}
use Rattle.act_probe.proofs.SettleFacts.{no_candidate}
use Rattle.act_probe.proofs.zones.pass.Goals as goal

pub returns-then-count-eq0-clause-on : goal.returns-then-count-eq0-clause-on
returns-then-count-eq0-clause-on g c = λ zones origin all k long on.
    let none : k ≡ k + 0 = omega arith in
    rw none at on

pub pass_row-requires-clause-held : goal.pass_row-requires-clause-held
pass_row-requires-clause-held g c =
    let r = c.requires.on in
    let zone = r.0 (get_or r.1 0 no_candidate).slot in
    let chain = r.2 0 no_candidate r.4 in
    let on = r.5 0 no_candidate r.4 in
    let before = going (g.W.Words.image c.args.words.now) zone c.args.first chain (walk_of c.args.trace.now (get_or c.args.run.now 0 no_candidate)) r.3 (is_inside zone.shape (get_or r.1 0 no_candidate).point) on.1 in
    held_here (g.W.Words.image c.args.words.now) zone c.args.first chain c.args.chain.now.row c.args.chain.now.next c.args.chain.now.passed c.args.chain.now.place r.3 before on.0
    (omega (arith, c.if-count-eq0.false, c.min-count.ensures, c.from.ensures))

pub returns-clause-on : goal.returns-clause-on
returns-clause-on g c = λ zones origin all k long on.
    let same : k + c.min-count.result ≡ k + c.from-2.result = omega (arith, c.from-2.ensures) in
    let told = on_ahead (g.W.Words.image c.args.words.now) c.args.first zones origin all c.args.chain.now c.args.trace.now c.pass_row.new.trace c.args.run.now c.pass_row.new.run k c.min-count.result
    (omega (arith, c.min-count.ensures, c.from.ensures)) on (λ j d within. c.pass_row.ensures.passes j d (omega (arith, within, long))) in
    rw same at told
