-- Answers of workers, and the places of their batches.
use Rattle.std.proofs.Common.{◌≡◌, ℕ, suc, zero, ◌+◌, ◌<◌, List, [], ◌∷◌, ◌++◌, drop, set, take, length, get_or, arith, ap, sym, ◌∙◌, subst, append-nil, Option, Some, None, replicate, Bool, true, false}
use Rattle.std.specs.Prelude.{All, IfSome, if◌then◌else◌, slice_get, unwrap_or}
use Rattle.std.proofs.lemmas.List.{drop_all, take_all}
use Rattle.std.proofs.lemmas.List.Elements.{All-nil, All-push, All-weaker}
use Rattle.atomic_table.specs.Seated.{TableId}
use Rattle.act_rows.specs.History.{Begins, History}
use Rattle.act_rows.specs.Updates.{newcomer}
use Rattle.act_rows.specs.declared.views.Ticket.{Ticket}
use Rattle.act_tally.specs.Steps.{newcomer as handed}
use Rattle.act_tally.specs.declared.views.Drawer.{Drawer}
use Rattle.act_tally.specs.declared.views.Keeper.{Keeper}
use Rattle.act_index.specs.Answers.{Answered}
use Rattle.act_index.specs.Whole.{Writing}
use Rattle.act_script.specs.declared.segment.Batch.{Batch}
use Rattle.act_join.specs.Working.{AreFound, IsFound, Makes}
use Rattle.act_join.specs.Workers.{AreSettled, IsFoundAt, IsWorking, MayDraw}
use Rattle.act_join.specs.declared.worker.Found.{Found}
use Rattle.act_join.specs.declared.worker.Worker.{Worker}
use Rattle.act_join.proofs.FoundFacts.{all_later, begins_on, begins_same, found_later}

-- ---- slots

pub settled_none : (before now : History) (batches : List Batch) → AreSettled before now batches (replicate (length batches) None)
settled_none before now [] = tt
settled_none before now (batch ∷ batches) = (tt, settled_none before now batches)

pub settled_empty : (before now : History) (batches : List Batch) (count : ℕ) (slots : List (Option Answered)) → slots ≡ replicate count None → length batches ≡ count
    → AreSettled before now batches slots
settled_empty before now batches count slots is same =
    subst (λ (z : List (Option Answered)). AreSettled before now batches z) (sym is)
    (subst (λ (n : ℕ). AreSettled before now batches (replicate n None)) same (settled_none before now batches))

pub settled_set : (before now : History) (batches : List Batch) (slots : List (Option Answered)) (k : ℕ) (batch : Batch) (answer : Answered)
    → slice_get batches k ≡ Some batch → IsFound before now batch answer → AreSettled before now batches slots → AreSettled before now batches (set slots k (Some answer))
settled_set before now [] slots k batch answer at f s = absurd (cc)
settled_set before now (x ∷ batches) [] k batch answer at f s = absurd s
settled_set before now (x ∷ batches) (slot ∷ slots) zero batch answer at f s =
    let same : batch ≡ x = ap (λ z. unwrap_or z x) (sym at) in
    (subst (λ (z : Batch). IsFound before now z answer) same f, s.1)
settled_set before now (x ∷ batches) (slot ∷ slots) (suc k) batch answer at f s = (s.0, settled_set before now batches slots k batch answer at f s.1)

slot_later : (before now later : History) (batch : Batch) (slot : Option Answered) → Begins now later → IfSome slot (IsFound before now batch) → IfSome slot (IsFound before later batch)
slot_later before now later batch None b f = tt
slot_later before now later batch (Some answer) b f = found_later before now later batch answer b f

pub settled_later : (before now later : History) (batches : List Batch) (slots : List (Option Answered)) → Begins now later → AreSettled before now batches slots → AreSettled before later batches slots
settled_later before now later [] [] b s = tt
settled_later before now later [] (slot ∷ slots) b s = absurd s
settled_later before now later (batch ∷ batches) [] b s = absurd s
settled_later before now later (batch ∷ batches) (slot ∷ slots) b s = (slot_later before now later batch slot b s.0, settled_later before now later batches slots b s.1)

-- the answer that is there at a place
pub settled_at : (before now : History) (batches : List Batch) (slots : List (Option Answered)) (k : ℕ) (d : Batch) (slot : Option Answered) (rest : List (Option Answered))
    → k < length batches → AreSettled before now batches slots → drop k slots ≡ slot ∷ rest → IfSome slot (IsFound before now (get_or batches k d))
settled_at before now [] slots k d slot rest within s at = absurd (omega (arith, within))
settled_at before now (batch ∷ batches) [] k d slot rest within s at = absurd s
settled_at before now (batch ∷ batches) (first ∷ slots) zero d slot rest within s at =
    let same : first ≡ slot = ap (λ (z : List (Option Answered)). get_or z 0 first) at in
    subst (λ (z : Option Answered). IfSome z (IsFound before now batch)) same s.0
settled_at before now (batch ∷ batches) (first ∷ slots) (suc k) d slot rest within s at = settled_at before now batches slots k d slot rest (omega (arith, within)) s.1 at

pub settled_here : (before first seen : History) (batches : List Batch) (slots : List (Option Answered)) (k : ℕ) (item : Batch) (slot : Option Answered) (rest : List (Option Answered))
    → k < length batches → item ≡ get_or batches k item → AreSettled before first batches slots → Begins first seen → drop k slots ≡ slot ∷ rest → IfSome slot (IsFound before seen item)
settled_here before first seen batches slots k item slot rest within is s later at =
    slot_later before first seen item slot later
    (subst (λ (z : Batch). IfSome slot (IsFound before first z)) (sym is) (settled_at before first batches slots k item slot rest within s at))

pub rest_after : {A : Type 0} (xs : List A) (k : ℕ) (x : A) (rest : List A) → drop k xs ≡ x ∷ rest → rest ≡ drop (k + 1) xs
rest_after [] zero x rest at = absurd (cc)
rest_after [] (suc k) x rest at = absurd (cc)
rest_after (y ∷ xs) zero x rest at = sym (ap (drop 1) at)
rest_after (y ∷ xs) (suc k) x rest at = let one : suc k + 1 ≡ suc (k + 1) = omega arith in rw one (rest_after xs k x rest at)

-- an answer is put at its place
pub settled_found : (before now : History) (batches : List Batch) (slots : List (Option Answered)) (one : Found) → IsFoundAt before now batches one
    → AreSettled before now batches slots → AreSettled before now batches (set slots one.place (Some one.answer))
settled_found before now batches slots one f s = settled_set before now batches slots one.place f.batch one.answer f.at f.found s

-- ---- workers

found_at_later : (before now later : History) (batches : List Batch) (one : Found) → Begins now later → IsFoundAt before now batches one → IsFoundAt before later batches one
found_at_later before now later batches one b f = record { batch = f.batch; at = f.at; found = found_later before now later f.batch one.answer b f.found }

pub found_all_later : (before now later : History) (batches : List Batch) (found : List Found) → Begins now later → All (IsFoundAt before now batches) found → All (IsFoundAt before later batches) found
found_all_later before now later batches found b all =
    All-weaker (IsFoundAt before now batches) (IsFoundAt before later batches) (λ one f. found_at_later before now later batches one b f) found all

-- a worker that has answered one batch more, and one that has not
pub work_more : (table : TableId) (before : History) (batches : List Batch) (w w' : Worker) (one : Found) (batch : Batch)
    → IsWorking table before batches w → w'.reader.table ≡ w.reader.table → Begins w.reader.ticket.seen w'.reader.ticket.seen
    → w'.found.items ≡ w.found.items ++ one ∷ [] → slice_get batches one.place ≡ Some batch → IsFound before w'.reader.ticket.seen batch one.answer → IsWorking table before batches w'
work_more table before batches w w' one batch is same later more at f = record {
  same_table = same ∙ is.same_table;
  low = begins_on before w.reader.ticket.seen w'.reader.ticket.seen is.low later;
  answers = subst (All (IsFoundAt before w'.reader.ticket.seen batches)) (sym more)
      (All-push (IsFoundAt before w'.reader.ticket.seen batches) w.found.items one
      (found_all_later before w.reader.ticket.seen w'.reader.ticket.seen batches w.found.items later is.answers)
      (record { batch = batch; at = at; found = f }));
}

pub work_same : (table : TableId) (before : History) (batches : List Batch) (w w' : Worker)
    → IsWorking table before batches w → w'.reader.table ≡ w.reader.table → Begins w.reader.ticket.seen w'.reader.ticket.seen → w'.found.items ≡ w.found.items → IsWorking table before batches w'
work_same table before batches w w' is same later none = record {
  same_table = same ∙ is.same_table;
  low = begins_on before w.reader.ticket.seen w'.reader.ticket.seen is.low later;
  answers = subst (All (IsFoundAt before w'.reader.ticket.seen batches)) (sym none)
      (found_all_later before w.reader.ticket.seen w'.reader.ticket.seen batches w.found.items later is.answers);
}

-- the history stays where nothing is made
pub same_history : (w w' : Writing) → Makes w w' [] → w'.desk.history ≡ w.desk.history
same_history w w' m = m.history ∙ append-nil w.desk.history

pub work_kept : (table : TableId) (before : History) (batches : List Batch) (w w' : Worker) (one : Found) (batch : Batch) (kept : Bool)
    → IsWorking table before batches w → w'.reader.table ≡ w.reader.table → Begins w.reader.ticket.seen w'.reader.ticket.seen
    → w'.found.items ≡ (if kept then w.found.items ++ one ∷ [] else w.found.items) → slice_get batches one.place ≡ Some batch → IsFound before w'.reader.ticket.seen batch one.answer
    → IsWorking table before batches w'
work_kept table before batches w w' one batch true is same later more at f = work_more table before batches w w' one batch is same later more at f
work_kept table before batches w w' one batch false is same later more at f = work_same table before batches w w' is same later more

pub read_at : {A : Type 0} (xs : List A) (i : ℕ) (x : A) → i < length xs → x ≡ get_or xs i x → slice_get xs i ≡ Some x
read_at [] i x within is = absurd (omega (arith, within))
read_at (y ∷ xs) zero x within is = ap Some (sym is)
read_at (y ∷ xs) (suc i) x within is = read_at xs i x (omega (arith, within)) is

-- ---- a team

-- a vector whose elements were lent and written
pub written_back : {A : Type 0} (xs ys : List A) (n : ℕ) → length ys ≡ length xs → n ≡ length xs → take n (ys ++ drop (length ys) xs) ≡ ys
written_back xs ys n same all =
    ap (λ z. take n (ys ++ z)) (drop_all (length ys) xs (omega (arith, same))) ∙ ap (take n) (append-nil ys) ∙ take_all n ys (omega (arith, same, all))

-- a worker that is hired
pub hired : (w : Writing) (batches : List Batch) (keeper : Keeper) (one : Worker) → one.reader.table ≡ w.table → one.reader.ticket ≡ newcomer w.desk → one.found.items ≡ []
    → one.claimer.drawer ≡ handed keeper → length batches ≡ keeper.pieces → IsWorking w.table w.desk.history batches one × MayDraw batches one
hired w batches keeper one table ticket found drawer pieces = (
  record {
    same_table = table;
    low = subst (λ (z : Ticket). Begins w.desk.history z.seen) (sym ticket) (begins_same w.desk.history);
    answers = subst (All (IsFoundAt w.desk.history one.reader.ticket.seen batches)) (sym found) (All-nil (IsFoundAt w.desk.history one.reader.ticket.seen batches));
  },
  record { open_yet = ap (λ (z : Drawer). z.ended) drawer; all_pieces = ap (λ (z : Drawer). z.pieces) drawer ∙ sym pieces },
)

abbrev Team : Writing → List Batch → List Worker → Type 0
Team w batches team = All (IsWorking w.table w.desk.history batches) team × All (MayDraw batches) team

pub hired_none : (w : Writing) (batches : List Batch) (team : List Worker) → team ≡ [] → Team w batches team
hired_none w batches team none = subst (Team w batches) (sym none) (All-nil (IsWorking w.table w.desk.history batches), All-nil (MayDraw batches))

pub hired_more : (first now : Writing) (batches : List Batch) (team new : List Worker) (one : Worker) → Makes first now [] → Team first batches team
    → IsWorking now.table now.desk.history batches one × MayDraw batches one → new ≡ team ++ one ∷ [] → Team first batches new
hired_more first now batches team new one made all is more =
    let works : IsWorking first.table first.desk.history batches one =
    subst (λ (z : TableId × History). IsWorking z.0 z.1 batches one) (λ i. (made.table i, same_history first now made i)) is.0 in
    subst (Team first batches) (sym more)
    (All-push (IsWorking first.table first.desk.history batches) team one all.0 works, All-push (MayDraw batches) team one all.1 is.1)

-- what a worker that is taken back has answered
pub dismissed : (old new : Writing) (table : TableId) (before : History) (batches : List Batch) (one : Worker) (slots slots' : List (Option Answered)) → Makes old new []
    → Begins one.reader.ticket.seen old.desk.history → IsWorking table before batches one
    → ((before now : History) (batches : List Batch) → All (IsFoundAt before now batches) one.found.items → AreSettled before now batches slots → AreSettled before now batches slots')
    → AreSettled before old.desk.history batches slots → AreSettled before new.desk.history batches slots'
dismissed old new table before batches one slots slots' made begins is put s =
    subst (λ (z : History). AreSettled before z batches slots') (sym (same_history old new made))
    (put before old.desk.history batches (found_all_later before one.reader.ticket.seen old.desk.history batches one.found.items begins is.answers) s)

-- the readers of a team are of the writer's table
pub team_tables : (t table : TableId) (before : History) (batches : List Batch) (team : List Worker) → t ≡ table → All (IsWorking table before batches) team
    → All (λ (worker : Worker). worker.reader.table ≡ t) team
team_tables t table before batches team is all =
    All-weaker (IsWorking table before batches) (λ (worker : Worker). worker.reader.table ≡ t) (λ worker w. w.same_table ∙ sym is) team all

-- what is answered in the end
pub collected : (before : History) (mid lent back : Writing) (seen now : History) (batches : List Batch) (slots : List (Option Answered)) (answers : List Answered)
    → seen ≡ mid.desk.history → Begins before mid.desk.history → AreSettled before mid.desk.history batches slots
    → (Begins before seen → AreSettled before seen batches slots → AreFound before now batches answers) → Begins now lent.desk.history → Makes lent back []
    → AreFound before back.desk.history batches answers
collected before mid lent back seen now batches slots answers is low s answer begins made =
    let found : AreFound before now batches answers = answer (subst (Begins before) (sym is) low) (subst (λ (z : History). AreSettled before z batches slots) (sym is) s) in
    subst (λ (z : History). AreFound before z batches answers) (sym (same_history lent back made)) (all_later before now lent.desk.history batches answers begins found)

-- a history that begins with another goes on
pub begins_through : (old hired now : Writing) → Makes old hired [] → Begins hired.desk.history now.desk.history → Begins old.desk.history now.desk.history
begins_through old hired now made on = subst (λ (z : History). Begins z now.desk.history) (same_history old hired made) on
