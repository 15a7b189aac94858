-- What workers have answered.
use Rattle.std.specs.Prelude.{◌≡◌, false, List, [], ◌∷◌, Option, Some, All, IfSome, length, slice_get}
use Rattle.atomic_table.specs.Seated.{TableId}
use Rattle.act_rows.specs.History.{Begins, History}
use Rattle.act_index.specs.Answers.{Answered}
use Rattle.act_script.specs.declared.segment.Batch.{Batch}
use Rattle.act_join.specs.Working.{IsFound}
use Rattle.act_join.specs.declared.worker.Found.{Found}
use Rattle.act_join.specs.declared.worker.Worker.{Worker}

-- the batch at the place has this answer
pub record IsFoundAt (before now : History) (batches : List Batch) (one : Found) : Type 0 where
  pub batch : Batch
  pub at : slice_get batches one.place ≡ Some batch
  pub found : IsFound before now batch one.answer

-- the reader of a worker is of this table, and each of its answers is of a version between these histories
pub record IsWorking (table : TableId) (before : History) (batches : List Batch) (w : Worker) : Type 0 where
  pub same_table : w.reader.table ≡ table
  pub low : Begins before w.reader.ticket.seen
  pub answers : All (IsFoundAt before w.reader.ticket.seen batches) w.found.items

-- a worker may draw
pub record MayDraw (batches : List Batch) (w : Worker) : Type 0 where
  pub open_yet : w.claimer.drawer.ended ≡ false
  pub all_pieces : w.claimer.drawer.pieces ≡ length batches

-- the answers that are there are those to their batches
abbrev pub AreSettled : History → History → List Batch → List (Option Answered) → Type 0
AreSettled before now [] [] = Unit {0}
AreSettled before now (batch ∷ batches) (slot ∷ slots) = IfSome slot (IsFound before now batch) × AreSettled before now batches slots
AreSettled before now [] (slot ∷ slots) = ⊥
AreSettled before now (batch ∷ batches) [] = ⊥
