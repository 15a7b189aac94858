use Rattle.std.proofs.Common.{refl, arith}
use Rattle.act_grid.specs.declared.Settings.{Settings}
use Rattle.act_super.specs.States.{nothing}
use Rattle.act_super.proofs.BlankFacts.{blank_stands}
use Rattle.act_probe.proofs.tests.joined.Goals as goal

some_settings : Settings
some_settings = record {
  digits = 0;
  rows = 1;
  cells = 1;
  workers = 1;
  in_limits = (omega arith, omega arith, omega arith, omega arith, omega arith, omega arith, omega arith);
}

pub probe_batch-requires-clause-stands : goal.probe_batch-requires-clause-stands
probe_batch-requires-clause-stands g c = (some_settings, nothing, blank_stands some_settings _ (record { rows = refl; firsts = refl; word = λ place within. refl }))
