-- Batches that are answered one after another.
use Rattle.std.proofs.Common.{◌≡◌, ℕ, suc, zero, ◌+◌, ◌<◌, ◌≤◌, List, [], ◌∷◌, ◌++◌, take, length, get_or, refl, arith, ap, sym, ◌∙◌, subst, length-append}
use Rattle.std.proofs.lemmas.List.{take_all, take_more}
use lib.Seq.{take-append_seam}
use Rattle.act_grid.specs.declared.Point.{Point}
use Rattle.act_rows.specs.History.{Begins, History}
use Rattle.act_index.specs.Answers.{Answered}
use Rattle.act_script.specs.declared.segment.Batch.{Batch}
use Rattle.act_super.specs.declared.entry.Entry.{Entry}
use Rattle.act_index.specs.Codes.{codes}
use Rattle.act_index.specs.Whole.{Writing}
use Rattle.act_script.specs.History.{made_by}
use Rattle.act_script.specs.Turns.Turn.{Asks}
use Rattle.act_script.specs.declared.segment.Update.{Update}
use Rattle.act_join.specs.declared.decide.Stepped.{Stepped}
use Rattle.act_join.specs.declared.decide.Stepped.TheVariants as stepped
use Rattle.act_join.specs.Working.{AreFound, IsFound, Makes, Steps}

pub take_short : {A : Type 0} (n k : ℕ) (ys : List A) → n ≤ k → take n (take k ys) ≡ take n ys
take_short zero k ys h = refl
take_short (suc n) zero ys h = absurd (omega (arith, h))
take_short (suc n) (suc k) [] h = refl
take_short (suc n) (suc k) (y ∷ ys) h = ap (λ l. y ∷ l) (take_short n k ys (omega (arith, h)))

pub begins_same : (h : History) → Begins h h
begins_same h = record { short = omega arith; same = sym (take_all (length h) h (omega arith)) }

pub begins_on : (f g h : History) → Begins f g → Begins g h → Begins f h
begins_on f g h a b = record {
  short = omega (arith, a.short, b.short);
  same = a.same ∙ ap (take (length f)) b.same ∙ take_short (length f) (length g) h a.short;
}

pub found_later : (before now later : History) (batch : Batch) (answer : Answered) → Begins now later → IsFound before now batch answer → IsFound before later batch answer
found_later before now later batch answer b f = record { seen = f.seen; version = f.version; low = f.low; high = begins_on f.seen now later f.high b; join = f.join }

pub all_later : (before now later : History) (batches : List Batch) (answers : List Answered) → Begins now later → AreFound before now batches answers → AreFound before later batches answers
all_later before now later [] [] b f = tt
all_later before now later [] (a ∷ answers) b f = absurd f
all_later before now later (x ∷ batches) [] b f = absurd f
all_later before now later (x ∷ batches) (a ∷ answers) b f = (found_later before now later x a b f.0, all_later before now later batches answers b f.1)

one_more : (before now : History) (batches : List Batch) (answers : List Answered) (batch : Batch) (answer : Answered) → AreFound before now batches answers → IsFound before now batch answer
    → AreFound before now (batches ++ batch ∷ []) (answers ++ answer ∷ [])
one_more before now [] [] batch answer f one = (one, tt)
one_more before now [] (a ∷ answers) batch answer f one = absurd f
one_more before now (x ∷ batches) [] batch answer f one = absurd f
one_more before now (x ∷ batches) (a ∷ answers) batch answer f one = (f.0, one_more before now batches answers batch answer f.1 one)

-- the next batch is answered
pub found_more : (before now later : History) (batches : List Batch) (i : ℕ) (d : Batch) (answers : List Answered) (answer : Answered) → i < length batches
    → AreFound before now (take i batches) answers → Begins now later → IsFound before later (get_or batches i d) answer
    → AreFound before later (take (i + 1) batches) (answers ++ answer ∷ [])
found_more before now later batches i d answers answer within f b one =
    subst (λ (z : List Batch). AreFound before later z (answers ++ answer ∷ [])) (sym (take_more batches i d within))
    (one_more before later (take i batches) answers (get_or batches i d) answer (all_later before now later (take i batches) answers b f) one)

-- a history goes on
pub begins_more : (h g : History) → Begins h (h ++ g)
begins_more h g = record { short = omega (arith, length-append h g); same = sym (take-append_seam h g) }

pub makes_grow : (w w' : Writing) (es : List Entry) → Makes w w' es → Begins w.desk.history w'.desk.history
makes_grow w w' es m = subst (Begins w.desk.history) (sym m.history) (begins_more w.desk.history (codes w.settings es))

pub steps_grow : (w w' : Writing) (points left : List Point) (asked : Update) (says : Stepped) → Steps w w' points left asked says → Begins w.desk.history w'.desk.history
steps_grow w w' points left asked (stepped.Done says) s = makes_grow w w' (made_by w.settings w.state (Asks points asked)) s.2
steps_grow w w' points left asked (stepped.Held back) s = makes_grow w w' [] s.1
