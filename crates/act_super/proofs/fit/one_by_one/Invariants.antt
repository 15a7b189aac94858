use Rattle.std.specs.Prelude.{◌≡◌, ◌≤◌, ℕ, take}
use Rattle.act_super.specs.Standings.{standing_rows, values}
use Rattle.act_super.proofs.fit.one_by_one.Given as goal

abbrev pub invariant-loop-count : goal.invariant-loop-count
invariant-loop-count l = record {
  marks : l.marks ≡ take l.count l.cells;
  more : l.more ≡ take l.count l.cells;
  rows : l.rows ≡ standing_rows (take l.count l.cells) (values l.zones);
  each : (n : ℕ) → n ≤ l.count → standing_rows (take n l.cells) (values l.zones) ≤ l.limit;
}
