-- An answer of a version is that over the zones after the first entries of the segment.
use Rattle.std.proofs.Common.{◌≡◌, ℕ, suc, zero, ◌+◌, ◌-◌, ◌≤◌, List, [], ◌∷◌, ◌++◌, map, sum_by, take, length, refl, arith, ap, sym, ◌∙◌, subst, length-append}
use Rattle.std.proofs.Math.Seq.{take-append-add}
use Rattle.std.proofs.lemmas.List.Sums.{sum_by-cons}
use Rattle.act_grid.specs.declared.Layers.{Layers}
use Rattle.act_grid.specs.declared.Point.{Point}
use Rattle.act_grid.specs.declared.Settings.{Settings}
use Rattle.act_grid.specs.Cell.{Address, root_cell}
use Rattle.act_super.specs.declared.entry.Entry.{Entry}
use Rattle.act_super.specs.declared.entry.State.{State}
use Rattle.act_super.specs.declared.entry.Zone.{Zone}
use Rattle.act_super.specs.Grounds.{Ground, leaf_at, leaf_within}
use Rattle.act_super.specs.Histories.{IsLegalFrom, state_from, state_of, zones_of}
use Rattle.act_super.specs.Joins.{join}
use Rattle.act_super.specs.Nodes.{count_at, ground_of}
use Rattle.act_super.specs.States.{nothing}
use Rattle.act_super.proofs.HistoryFacts.{state_has_zones}
use Rattle.act_probe.specs.Reads.{list_reads, nodes_above, reads_of, test_reads}
use Rattle.act_rows.specs.History.{History}
use Rattle.act_index.specs.Answers.{Answered, pair_of}
use Rattle.act_index.specs.Codes.{IsTold, codes}
use Rattle.act_index.specs.Whole.{IsWhole, Writing}
use Rattle.act_index.proofs.Coding.{told_begins, told_one, told_settings}
use Rattle.act_script.specs.History.{updates_of}
use Rattle.act_script.specs.declared.segment.Batch.{Batch}
use Rattle.act_join.specs.Merging.{AreAnswered, count_of}
use Rattle.act_join.specs.Solved.{IsAnswered}
use Rattle.act_join.specs.Working.{AreFound, IsFound, Makes, held_by}
use Rattle.act_join.proofs.HeldFacts.{state_more}
use Rattle.act_join.proofs.UpdatingFacts.{codes_both, legal_both, length-codes}

-- where no zone stands, the leaf is the root
leaf_none : (g : Ground Zone) (n : ℕ) (p : Point) → leaf_within g n [] root_cell p ≡ root_cell
unfolding leaf_within
leaf_none g zero p = refl
leaf_none g (suc n) p = refl

leaf_is : (g : Ground Zone) (p : Point) → leaf_at g [] p ≡ root_cell
unfolding leaf_at
leaf_is g p = leaf_none g 28 p

-- and as many words are read under any settings
reads_none : (k j : Settings) (p : Point) (layers : Layers) → reads_of k nothing p layers ≡ reads_of j nothing p layers
unfolding reads_of
reads_none k j p layers =
    ap (λ (leaf : Address). nodes_above leaf + list_reads (count_at nothing leaf) + count_at nothing leaf + sum_by (test_reads layers leaf) [])
    (leaf_is (ground_of k nothing) p ∙ sym (leaf_is (ground_of j nothing) p))

reads_all : (k j : Settings) (points : List Point) (layers : Layers) → sum_by (λ p. reads_of k nothing p layers) points ≡ sum_by (λ p. reads_of j nothing p layers) points
reads_all k j [] layers = refl
reads_all k j (p ∷ points) layers =
    sum_by-cons (λ q. reads_of k nothing q layers) p points
    ∙ (λ i. reads_none k j p layers i + reads_all k j points layers i)
    ∙ sym (sum_by-cons (λ q. reads_of j nothing q layers) p points)

-- the state after the entries of a history, under the settings of another telling of it
reads_same : (h : History) (k j : Settings) (es fs : List Entry) (points : List Point) (layers : Layers) → IsTold h k es → IsTold h j fs → es ≡ fs
    → sum_by (λ p. reads_of k (state_of k es) p layers) points ≡ sum_by (λ p. reads_of j (state_of j fs) p layers) points
reads_same [] k j [] [] points layers a b same = reads_all k j points layers
reads_same [] k j (e ∷ es) fs points layers a b same = let n = ap length a.coded in absurd (omega (arith, n))
reads_same [] k j [] (f ∷ fs) points layers a b same = let n = ap length b.coded in absurd (omega (arith, n))
reads_same (x ∷ h) k j es fs points layers a b same =
    let settings : k ≡ j = told_settings (x ∷ h) k j es fs a b (omega arith) in
    λ i. sum_by (λ p. reads_of (settings i) (state_of (settings i) (same i)) p layers) points

pub is_answered : (start w : Writing) (made : List Entry) (batch : Batch) (answer : Answered) → IsWhole start → Makes start w made
    → IsFound start.desk.history w.desk.history batch answer → IsAnswered (held_by start) made batch (count_of (held_by start) made answer.version) answer
is_answered start w made batch answer whole m f =
    let s = start.settings in
    let es = whole.entries in
    let k = length f.seen - length start.desk.history in
    let legal : IsLegalFrom s (state_of s es) made = subst (λ (z : State). IsLegalFrom s z made) whole.state m.legal in
    let all : IsTold w.desk.history s (es ++ made) = record {
      coded = m.history ∙ ap (λ z. z ++ codes s made) whole.told.coded ∙ sym (codes_both s es made);
      legal = legal_both s nothing es made whole.told.legal legal;
    } in
    let long : length start.desk.history ≡ length es = ap length whole.told.coded ∙ length-codes s es in
    let ends : length w.desk.history ≡ length es + length made = ap length all.coded ∙ length-codes s (es ++ made) ∙ length-append es made in
    let split : length f.seen ≡ length es + k = omega (arith, f.low.short, long) in
    let within : k ≤ length made = omega (arith, f.high.short, ends, split) in
    let taken : take (length f.seen) (es ++ made) ≡ es ++ take k made = ap (λ n. take n (es ++ made)) split ∙ take-append-add es made k in
    let part : IsTold f.seen s (es ++ take k made) = subst (IsTold f.seen s) taken (told_begins f.seen w.desk.history s (es ++ made) f.high all) in
    let same : f.join.entries ≡ es ++ take k made = told_one f.seen f.join.settings s f.join.entries (es ++ take k made) f.join.told part in
    let state : state_of s (es ++ take k made) ≡ state_from s start.state (take k made) =
    state_more s nothing es (take k made) ∙ ap (λ (z : State). state_from s z (take k made)) (sym whole.state) in
    let zones : (state_of f.join.settings f.join.entries).zones ≡ (state_from s start.state (take k made)).zones =
    state_has_zones f.join.settings f.join.entries ∙ ap zones_of same ∙ sym (state_has_zones s (es ++ take k made)) ∙ ap (λ (z : State). z.zones) state in
    let steps : answer.version - length start.desk.history ≡ k = ap (λ n. n - length start.desk.history) f.version in
    let reads = reads_same f.seen f.join.settings s f.join.entries (es ++ take k made) batch.points batch.layers f.join.told part same in
    let few : answer.reads ≤ sum_by (λ p. reads_of s (state_of s (es ++ take k made)) p batch.layers) batch.points = omega (arith, reads, f.join.few) in
    record {
      count = k;
      within = within;
      version = f.version ∙ (omega (arith, split, long));
      updates = ap (λ n. (held_by start).updates + updates_of (take n made)) steps;
      pairs = f.join.found ∙ ap (λ (z : List Zone). map pair_of (join batch.layers z batch.points)) zones;
      few = subst (λ (z : State). answer.reads ≤ sum_by (λ p. reads_of s z p batch.layers) batch.points) state few;
    }

pub all_answered : (start w : Writing) (made : List Entry) (batches : List Batch) (answers : List Answered) → IsWhole start → Makes start w made
    → AreFound start.desk.history w.desk.history batches answers → AreAnswered (held_by start) made batches answers
all_answered start w made [] [] whole m f = tt
all_answered start w made [] (a ∷ answers) whole m f = absurd f
all_answered start w made (b ∷ batches) [] whole m f = absurd f
all_answered start w made (b ∷ batches) (a ∷ answers) whole m f = (is_answered start w made b a whole m f.0, all_answered start w made batches answers whole m f.1)
