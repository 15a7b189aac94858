use Rattle.std.proofs.Common.{arith, length-drop, ◌+◌}
use Rattle.act_script.proofs.ScanFacts.{slice_rest, split_found, split_none}
use Rattle.act_script.proofs.fields.cut.Goals as goal

pub returns-in-Some : goal.returns-in-Some
returns-in-Some c =
    let within = c.in-Some.ensures.0.high in
    rw (slice_rest) (split_found c.args.byte c.args.text.now c.in-Some.at c.in-Some.ensures, omega (arith, length-drop (c.in-Some.at + 1) c.args.text.now))

pub returns-in-None : goal.returns-in-None
returns-in-None c = split_none c.args.byte c.args.text.now c.in-None.ensures
