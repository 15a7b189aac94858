use Rattle.std.proofs.Common.{◌≤◌}
use Rattle.act_script.specs.Cutting.{turns}
use Rattle.act_join.specs.Feeds.{HasRead, IsWithin}
use Rattle.act_join.proofs.driver.read_pieces.Given as goal

abbrev pub invariant-pieces : goal.invariant-pieces
invariant-pieces g l = record {
  within : IsWithin l.progress;
  read : g.S.Source.faults l.fn.input ≤ g.S.Source.faults l.input;
  later : g.K.Sink.faults l.fn.out ≤ g.K.Sink.faults l.out;
  feeds : HasRead l.settings.digits l.fn.progress l.progress (g.S.Source.left l.fn.input) (g.S.Source.left l.input) (g.K.Sink.written l.fn.out) (g.K.Sink.written l.out);
}

abbrev pub decreases-pieces : goal.decreases-pieces
decreases-pieces g l = turns l.progress.cutter
