-- Cells that are taken one after the other.
use Rattle.std.proofs.Common.{◌≡◌, ℕ, ◌+◌, ◌*◌, ◌++◌, [], ◌<◌, ◌≤◌, ◌⊎◌, inl, inr, refl, sym, ap, subst, ◌∙◌, arith, List, length, take, drop}
use Rattle.std.specs.Prelude.{max, min}
use Rattle.std.proofs.lemmas.Bool.{cases_lt}
use Rattle.std.proofs.lemmas.List.{length-take, length-take-le, take-append-le, take_all}
use Rattle.act_grid.specs.declared.Settings.{Settings}
use Rattle.act_grid.specs.Cell.{Address}
use Rattle.act_super.specs.declared.entry.Entry.{Entry}
use Rattle.act_super.specs.declared.entry.Entry.TheVariants as entry
use Rattle.act_super.specs.declared.entry.State.{State}
use Rattle.act_super.specs.declared.entry.Zone.{Zone}
use Rattle.act_super.specs.Sizes.{rows_with}
use Rattle.act_super.specs.States.{IsFor}
use Rattle.act_super.specs.declared.standing.Standing.{Standing}
use Rattle.act_super.specs.Losses.{AreAmong}
use Rattle.act_super.specs.Sound.{IsFit, IsStart}
use Rattle.act_super.specs.Standings.{standing_rows}
use Rattle.act_super.specs.Training.{fit, most_trained}
use Rattle.act_super.proofs.CountFacts.{rows_bound}
use Rattle.act_super.proofs.FitFacts.{kept_steps}
use Rattle.act_super.proofs.LossFacts.{all_taken, each_taken}
use Rattle.act_super.proofs.StateFacts.{IsHeld, held_fit, held_rows, longer_list, prepared_training}

pub length_taken : (cells taken : List Address) (n : ℕ) → taken ≡ take n cells → n ≤ length cells → length taken ≡ n
length_taken cells taken n e within = ap (λ xs. length xs) e ∙ length-take-le n cells within

pub rows_taken : (standings : List Standing) (cells taken : List Address) (n rows : ℕ) → taken ≡ take n cells → rows ≡ standing_rows (take n cells) standings → rows ≡ standing_rows taken standings
rows_taken standings cells taken n rows e f = f ∙ ap (λ xs. standing_rows xs standings) (sym e)

pub fits_more : (limit : ℕ) (standings : List Standing) (cells : List Address) (count : ℕ) → ((n : ℕ) → n ≤ count → standing_rows (take n cells) standings ≤ limit)
    → standing_rows (take (count + 1) cells) standings ≤ limit → (n : ℕ) → n ≤ count + 1 → standing_rows (take n cells) standings ≤ limit
fits_more limit standings cells count each one n most = by (cases_lt count n)
  where
    by : (count < n) ⊎ (n ≤ count) → standing_rows (take n cells) standings ≤ limit
    by (inr low) = each n low
    by (inl high) = let e : n ≡ count + 1 = omega arith in rw e one

pub fit_found : (limit : ℕ) (standings : List Standing) (cells taken : List Address) (n : ℕ) → taken ≡ take n cells → n ≤ length cells → n ≤ most_trained
    → ((m : ℕ) → m ≤ n → standing_rows (take m cells) standings ≤ limit)
    → (n ≡ length cells) ⊎ ((n ≡ most_trained) ⊎ (limit < standing_rows (take (n + 1) cells) standings)) → IsFit limit standings cells taken
fit_found limit standings cells taken n e within few each last =
    let l = length_taken cells taken n e within in
    record {
      first = e ∙ ap (λ k. take k cells) (sym l);
      within = omega (arith, l, within);
      few = omega (arith, l, few);
      each = λ m most. each m (omega (arith, l, most));
      last = subst (λ k. (k ≡ length cells) ⊎ ((k ≡ most_trained) ⊎ (limit < standing_rows (take (k + 1) cells) standings))) (sym l) last;
    }

-- at the end of the cells, or of those that may be trained
pub ends : (count last most over limit : ℕ) → last ≡ min count 65536 → most ≤ last → last ≤ most → (most ≡ count) ⊎ ((most ≡ 65536) ⊎ (limit < over))
ends count last most over limit e h k = by (cases_lt count 65536)
  where
    by : (count < 65536) ⊎ (65536 ≤ count) → (most ≡ count) ⊎ ((most ≡ 65536) ⊎ (limit < over))
    by (inl low) = inl (omega arith)
    by (inr high) = inr (inl (omega arith))

-- so many cells fit in any case that there is room for all that they may add
pub bound_steps : (limit : ℕ) (standings : List Standing) (cells : List Address) (plain sure : ℕ) → plain ≡ standing_rows [] standings → plain + 5 * sure ≤ limit
    → (n : ℕ) → n ≤ sure → standing_rows (take n cells) standings ≤ limit
bound_steps limit standings cells plain sure is room n low = omega (arith, rows_bound (take n cells) standings, length-take n cells, is, room)

-- all the cells, where they fit in any case
pub fit_whole : (limit : ℕ) (standings : List Standing) (cells taken : List Address) (plain sure : ℕ) → plain ≡ standing_rows [] standings → plain + 5 * sure ≤ limit → sure ≤ most_trained
    → sure ≡ length cells → taken ≡ cells → IsFit limit standings cells taken
fit_whole limit standings cells taken plain sure is room few whole same =
    fit_found limit standings cells taken (length cells) (same ∙ sym (take_all (length cells) cells (omega arith))) (omega arith) (omega (arith, whole, few))
    (λ m most. bound_steps limit standings cells plain sure is room m (omega (arith, whole, most))) (inl refl)

-- all the cells, where each list of the first of them fits
pub fit_all : (limit : ℕ) (standings : List Standing) (none cells : List Address) → none ≡ [] → length cells ≤ most_trained
    → ((some : List Address) → AreAmong none some → AreAmong some cells → standing_rows some standings ≤ limit) → IsFit limit standings cells cells
fit_all limit standings none cells e few more =
    fit_found limit standings cells cells (length cells) (sym (take_all (length cells) cells (omega arith))) (omega arith) few (λ m most. each_taken limit standings none cells e more m) (inl refl)

-- the same for the list that was taken
pub fit_same : (limit : ℕ) (standings zones : List Standing) (cells taken : List Address) → zones ≡ standings → taken ≡ cells → IsFit limit zones cells cells → IsFit limit standings cells taken
fit_same limit standings zones cells taken z t f = rw t (subst (λ zs. IsFit limit zs cells cells) z f)

-- the first cells, with what is known of them
pub start_of : (limit : ℕ) (standings : List Standing) (cells taken : List Address) (n : ℕ) → taken ≡ take n cells → n ≤ length cells → n ≤ most_trained
    → ((m : ℕ) → m ≤ n → standing_rows (take m cells) standings ≤ limit) → IsStart limit standings cells taken
start_of limit standings cells taken n e within few each =
    let l = length_taken cells taken n e within in
    record {
      first = e ∙ ap (λ k. take k cells) (sym l);
      within = omega (arith, l, within);
      few = omega (arith, l, few);
      each = λ m most. each m (omega (arith, l, most));
    }

-- what surely fits: the cells that did so, and so many that there is room for all that they may add
pub sure_steps : (settings : Settings) (zones : List Zone) (keys : List ℕ) (standings : List Standing) (old more : List Address) (count sure : ℕ) → IsHeld settings zones keys standings
    → fit settings zones old ≡ old → standing_rows [] standings + 5 * count ≤ settings.rows → sure ≤ max count (length old)
    → (n : ℕ) → n ≤ sure → standing_rows (take n (old ++ more)) standings ≤ settings.rows
sure_steps settings zones keys standings old more count sure h kept room most n low = by (cases_lt count n)
  where
    by : (count < n) ⊎ (n ≤ count) → standing_rows (take n (old ++ more)) standings ≤ settings.rows
    by (inr few) = omega (arith, rows_bound (take n (old ++ more)) standings, length-take n (old ++ more), room)
    by (inl many) =
        let within : n ≤ length old = omega arith in
        omega (
          arith,
          kept_steps settings zones old kept n (omega arith) within,
          held_rows settings zones keys standings (take n old) h,
          ap (λ xs. standing_rows xs standings) (take-append-le n old more within),
        )

-- a training, by what the code found of it
pub trained_by_code : (settings : Settings) (state : State) (keys : List ℕ) (standings : List Standing) (cells taken : List Address) (known size plain : ℕ)
    → IsHeld settings state.zones keys standings → IsFit settings.rows standings (state.trained ++ cells) taken → known ≡ length state.trained → known ≤ length taken
    → size ≡ standing_rows taken standings → plain ≡ rows_with settings state.zones []
    → ◌≡◌ {A = Entry} (entry.Train (drop known taken)) (entry.Train (drop (length state.trained) (fit settings state.zones (state.trained ++ cells))))
    × IsFor settings state (record { entry = entry.Train (drop known taken); trained = taken; size = size; plain = plain; cells = settings.cells })
trained_by_code settings state keys standings cells taken known size plain h f k least is plainly =
    let same : fit settings state.zones (state.trained ++ cells) ≡ taken = held_fit settings state.zones keys standings (state.trained ++ cells) taken h f in
    let longer : taken ≡ state.trained ++ drop (length state.trained) taken =
    f.first ∙ longer_list state.trained cells (length taken) (omega (arith, k, least)) ∙ ap (λ xs. state.trained ++ drop (length state.trained) xs) (sym f.first) in
    let done = prepared_training settings state cells taken size plain same longer f.few (is ∙ held_rows settings state.zones keys standings taken h)
    (omega (arith, is, f.each (length taken) (omega arith), ap (λ xs. standing_rows xs standings) f.first)) plainly in (
      ap (λ n. entry.Train (drop n taken)) k ∙ ap (λ xs. entry.Train (drop (length state.trained) xs)) (sym same),
      subst (λ n. IsFor settings state (record { entry = entry.Train (drop n taken); trained = taken; size = size; plain = plain; cells = settings.cells })) (sym k) done,
    )

-- one portion more, each list on the way to which fits
pub portion_fits : (limit : ℕ) (standings : List Standing) (cells old : List Address) (count next : ℕ) → count ≤ next → old ≡ take count cells
    → ((n : ℕ) → n ≤ count → standing_rows (take n cells) standings ≤ limit)
    → ((some : List Address) → AreAmong old some → AreAmong some (take next cells) → standing_rows some standings ≤ limit)
    → (n : ℕ) → n ≤ next → standing_rows (take n cells) standings ≤ limit
portion_fits limit standings cells old count next order e each more =
    all_taken limit standings cells count next order each (subst (λ xs. (some : List Address) → AreAmong xs some → AreAmong some (take next cells) → standing_rows some standings ≤ limit) e more)
