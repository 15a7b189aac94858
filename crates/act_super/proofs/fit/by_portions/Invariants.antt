use Rattle.std.specs.Prelude.{◌≡◌, ◌≤◌, ◌+◌, ℕ, take}
use Rattle.act_super.specs.Standings.{standing_rows, values}
use Rattle.act_super.proofs.fit.by_portions.Given as goal

abbrev pub invariant-loop-round : goal.invariant-loop-round
invariant-loop-round l = record {
  marks : l.fitted.marks ≡ take l.count l.cells;
  rows : l.fitted.rows ≡ standing_rows (take l.count l.cells) (values l.zones);
  each : (n : ℕ) → n ≤ l.count → standing_rows (take n l.cells) (values l.zones) ≤ l.limit;
  from : l.sure ≤ l.count;
  within : l.count + l.portion ≤ l.last;
}
