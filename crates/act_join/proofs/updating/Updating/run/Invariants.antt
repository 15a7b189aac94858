use Rattle.std.proofs.Common.{◌≡◌, ◌≤◌, List, length}
use Rattle.std.specs.List.{AllByRecursion}
use Rattle.act_grid.specs.declared.Point.{Point}
use Rattle.act_index.specs.Whole.{Writing}
use Rattle.act_rows.specs.History.{Begins}
use Rattle.act_script.specs.Segments.{HasThreshold}
use Rattle.act_script.specs.declared.segment.Update.{Update}
use Rattle.act_join.specs.Working.{IsAlong}
use Rattle.act_join.proofs.updating.Updating.run.Given as goal

abbrev pub invariant-loop : goal.invariant-loop
invariant-loop g l = record {
  along : (start : Writing) (points : List Point) (updates : List Update) → IsAlong start points updates l.fn.self → IsAlong start points updates l.self;
  thresholds : AllByRecursion HasThreshold l.self.waiting.items;
  grows : Begins l.fn.self.writer.desk.history l.self.writer.desk.history;
  few : length l.self.points.items ≤ 65536;
  table : l.self.writer.table ≡ l.fn.self.writer.table;
}
