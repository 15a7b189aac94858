use Rattle.std.proofs.Common.{◌≡◌, ◌+◌, drop}
use Rattle.act_wkt.specs.Tokens.{run_of}
use Rattle.act_wkt.proofs.token.run_len.Given as goal

abbrev pub invariant-loop-i : goal.invariant-loop-i
invariant-loop-i l = l.i + run_of l.class (drop l.i l.text) ≡ run_of l.class l.text
