-- Changed zones and their standings.
use Rattle.std.proofs.Common.{◌≡◌, ◌&&◌, zero, suc, ℕ, ◌+◌, ◌<◌, ◌≤◌, ◌⊎◌, inl, inr, refl, sym, subst, ap, ◌∙◌, arith, append_assoc, add-one, length-set, Bool, true, false, List, [], ◌∷◌, ◌++◌, Option, Some, None, length, map, take, drop, set, get_or}
use Rattle.std.specs.Prelude.{insert, remove, nat_le, nat_lt, slice_index_or, if◌then◌else◌}
use Rattle.std.proofs.lemmas.Bool.{cases_lt}
use Rattle.std.proofs.lemmas.Bool.Decides.{nat_tests}
use Rattle.std.proofs.lemmas.List.{drop-map, get_or-map, length-map, length-take, map-append, set_split, take-map}
use Rattle.std.proofs.lemmas.List.Edits.{length-insert, length-remove}
use Rattle.std.proofs.lemmas.List.Elements.{All-append, All-cons, All-drop, All-nil, All-take}
use Rattle.act_grid.specs.declared.Point.{Point}
use Rattle.act_grid.specs.declared.Settings.{Settings}
use Rattle.act_grid.specs.Cell.{Address}
use Rattle.act_cover.specs.Level.{level_of}
use Rattle.act_super.specs.declared.entry.Entry.{Entry}
use Rattle.act_super.specs.declared.entry.Entry.TheVariants as entry
use Rattle.act_super.specs.declared.entry.State.{State}
use Rattle.act_super.specs.declared.entry.Zone.{Zone}
use Rattle.act_super.specs.declared.standing.Standing.{Standing}
use Rattle.act_super.specs.declared.verdict.Verdict.{Verdict}
use Rattle.act_super.specs.declared.verdict.Verdict.TheVariants as verdict
use Rattle.act_super.specs.Packs.{reference_limit}
use Rattle.act_super.specs.Places.{IsRisingFrom, zones_with}
use Rattle.act_super.specs.Sizes.{most_references, rows_with}
use Rattle.act_super.specs.Sound.{IsFit, IsSound}
use Rattle.act_super.specs.Standings.{AreLevelled, shapes_in, standing_most, standing_rows}
use Rattle.act_super.specs.States.{IsFor, Prepared, after, changed, first_cause, key_verdict, reshaped, room_of, room_verdict, trained_after, verdict_of, with_zone, without_key}
use Rattle.act_super.specs.Training.{fit, fits, most_trained}
use Rattle.act_super.proofs.FitFacts.{fit_is, fit_kept, fit_none}
use Rattle.act_super.proofs.Keyed.{same_state, put_is, remove_is, reshape_is, shapes_are}
use Rattle.act_super.proofs.LinkFacts.{most_of_none, rows_of_none, same_most, same_rows}

abbrev shape_of : Standing → List (List Point)
shape_of s = s.shape

pub length_shapes : (standings : List Standing) → length (shapes_in standings) ≡ length standings
length_shapes standings = length-map standings shape_of

-- standings before a place, some more, and those from a place on
abbrev pub joined : List Standing → ℕ → List Standing → ℕ → List Standing
joined standings i more j = take i standings ++ more ++ drop j standings

-- the shapes of a list that is put together
shapes_joined : (standings : List Standing) (i j : ℕ) (more : List Standing)
    → shapes_in (joined standings i more j) ≡ take i (shapes_in standings) ++ shapes_in more ++ drop j (shapes_in standings)
shapes_joined standings i j more =
    map-append shape_of (take i standings ++ more) (drop j standings)
    ∙ ap (λ xs. xs ++ shapes_in (drop j standings)) (map-append shape_of (take i standings) more)
    ∙ ap (λ xs. (xs ++ shapes_in more) ++ shapes_in (drop j standings)) (sym (take-map shape_of i standings))
    ∙ ap (λ xs. (take i (shapes_in standings) ++ shapes_in more) ++ xs) (sym (drop-map shape_of j standings))

levels_joined : (cells : ℕ) (standings : List Standing) (i j : ℕ) (more : List Standing) → AreLevelled cells standings → AreLevelled cells more
    → AreLevelled cells (joined standings i more j)
levels_joined cells standings i j more all one =
    let P : Standing → Type 0 = λ s. s.level ≡ level_of s.shape cells in
    All-append P (take i standings ++ more) (drop j standings) (All-append P (take i standings) more (All-take P i standings all) one) (All-drop P j standings all)

level_one : (cells : ℕ) (z : Standing) → z.level ≡ level_of z.shape cells → AreLevelled cells (z ∷ [])
level_one cells z e = All-cons (λ (s : Standing). s.level ≡ level_of s.shape cells) z [] e (All-nil (λ (s : Standing). s.level ≡ level_of s.shape cells))

level_none : (cells : ℕ) → AreLevelled cells []
level_none cells = All-nil (λ (s : Standing). s.level ≡ level_of s.shape cells)

-- standings with these keys are those of the zones
pub record IsHeld (settings : Settings) (zones : List Zone) (keys : List ℕ) (standings : List Standing) : Type 0 where
  pub zones_are : zones ≡ zones_with keys (shapes_in standings)
  pub lengths : length standings ≡ length keys
  pub levels : AreLevelled settings.cells standings

pub held_rows : (settings : Settings) (zones : List Zone) (keys : List ℕ) (standings : List Standing) (trained : List Address) → IsHeld settings zones keys standings
    → standing_rows trained standings ≡ rows_with settings zones trained
held_rows settings zones keys standings trained h =
    same_rows settings trained zones standings
    (ap (λ zs. map (λ (z : Zone). z.shape) zs) h.zones_are ∙ shapes_are keys (shapes_in standings) (length_shapes standings ∙ h.lengths)) h.levels

pub held_most : (settings : Settings) (zones : List Zone) (keys : List ℕ) (standings : List Standing) → IsHeld settings zones keys standings
    → standing_most standings ≡ most_references settings zones
held_most settings zones keys standings h =
    same_most settings zones standings
    (ap (λ zs. map (λ (z : Zone). z.shape) zs) h.zones_are ∙ shapes_are keys (shapes_in standings) (length_shapes standings ∙ h.lengths)) h.levels

-- the place at which a key would stand
abbrev pub IsFree : ℕ → List ℕ → ℕ → Type 0
IsFree key keys i = (i ≤ length keys) × ((k : ℕ) → k < i → get_or keys k 0 < key) × ((k : ℕ) → i ≤ k → k < length keys → key < get_or keys k 0)

-- the place at which it stands
abbrev pub IsAt : ℕ → List ℕ → ℕ → Type 0
IsAt key keys i = (i < length keys) × (get_or keys i 0 ≡ key)

append_nil : {X : Type 0} (xs : List X) → xs ++ [] ≡ xs
append_nil [] = refl
append_nil (x ∷ xs) = ap (λ r. x ∷ r) (append_nil xs)

pub joined_insert : (standings : List Standing) (i : ℕ) (z : Standing) → joined standings i (z ∷ []) i ≡ insert standings i z
joined_insert standings i z = append_assoc (take i standings) (z ∷ []) (drop i standings)

pub joined_remove : (standings : List Standing) (i : ℕ) → joined standings i [] (i + 1) ≡ remove standings i
joined_remove standings i = ap (λ xs. xs ++ drop (i + 1) standings) (append_nil (take i standings)) ∙ ap (λ j. take i standings ++ drop j standings) (add-one i)

pub joined_set : (standings : List Standing) (i : ℕ) (z : Standing) → i < length standings → joined standings i (z ∷ []) (i + 1) ≡ set standings i z
joined_set standings i z within =
    append_assoc (take i standings) (z ∷ []) (drop (i + 1) standings) ∙ ap (λ j. take i standings ++ z ∷ drop j standings) (add-one i) ∙ sym (set_split standings i z within)

module _ (settings : Settings) (zones : List Zone) (keys : List ℕ) (standings : List Standing) (held : IsHeld settings zones keys standings) (rising : IsRisingFrom 0 keys) where
  shapes_length : length (shapes_in standings) ≡ length keys
  shapes_length = length_shapes standings ∙ held.lengths

  -- one zone more
  pub held_added : (key : ℕ) (shape : List (List Point)) (z : Standing) (i : ℕ) → z.shape ≡ shape → z.level ≡ level_of shape settings.cells → IsFree key keys i
      → IsHeld settings (with_zone (record { key = key; shape = shape }) zones) (insert keys i key) (joined standings i (z ∷ []) i)
  held_added key shape z i e level free =
      let shapes : shapes_in (joined standings i (z ∷ []) i) ≡ insert (shapes_in standings) i shape =
      shapes_joined standings i i (z ∷ []) ∙ append_assoc (take i (shapes_in standings)) (z.shape ∷ []) (drop i (shapes_in standings)) ∙ ap (insert (shapes_in standings) i) e in
      record {
        zones_are =
            ap (with_zone (record { key = key; shape = shape })) held.zones_are
            ∙ sym (put_is key shape keys (shapes_in standings) i shapes_length free.0 free.1 free.2)
            ∙ ap (zones_with (insert keys i key)) (sym shapes);
        lengths =
            omega (arith, ap (λ xs. length xs) (joined_insert standings i z), length-insert standings i z (omega (arith, held.lengths, free.0)), length-insert keys i key free.0, held.lengths);
        levels = levels_joined settings.cells standings i i (z ∷ []) held.levels (level_one settings.cells z (level ∙ ap (λ r. level_of r settings.cells) (sym e)));
      }

  -- one zone less
  pub held_dropped : (key i : ℕ) → IsAt key keys i → IsHeld settings (without_key key zones) (remove keys i) (joined standings i [] (i + 1))
  held_dropped key i at =
      let shapes : shapes_in (joined standings i [] (i + 1)) ≡ remove (shapes_in standings) i =
      shapes_joined standings i (i + 1) [] ∙ ap (λ xs. xs ++ drop (i + 1) (shapes_in standings)) (append_nil (take i (shapes_in standings)))
      ∙ ap (λ j. take i (shapes_in standings) ++ drop j (shapes_in standings)) (add-one i) in
      record {
        zones_are =
            ap (without_key key) held.zones_are
            ∙ sym (remove_is key 0 keys (shapes_in standings) i rising shapes_length at.0 at.1)
            ∙ ap (zones_with (remove keys i)) (sym shapes);
        lengths =
            omega (arith, ap (λ xs. length xs) (joined_remove standings i), length-remove standings i (omega (arith, held.lengths, at.0)), length-remove keys i at.0, held.lengths);
        levels = levels_joined settings.cells standings i (i + 1) [] held.levels (level_none settings.cells);
      }

  -- another shape for one zone
  pub held_reshaped : (key : ℕ) (shape : List (List Point)) (z : Standing) (i : ℕ) → z.shape ≡ shape → z.level ≡ level_of shape settings.cells → IsAt key keys i
      → IsHeld settings (reshaped key shape zones) keys (joined standings i (z ∷ []) (i + 1))
  held_reshaped key shape z i e level at =
      let same : joined standings i (z ∷ []) (i + 1) ≡ set standings i z = joined_set standings i z (omega (arith, held.lengths, at.0)) in
      let shapes : shapes_in (joined standings i (z ∷ []) (i + 1)) ≡ set (shapes_in standings) i shape =
      shapes_joined standings i (i + 1) (z ∷ []) ∙ append_assoc (take i (shapes_in standings)) (z.shape ∷ []) (drop (i + 1) (shapes_in standings))
      ∙ ap (λ j. take i (shapes_in standings) ++ z.shape ∷ drop j (shapes_in standings)) (add-one i)
      ∙ sym (set_split (shapes_in standings) i z.shape (omega (arith, shapes_length, at.0)))
      ∙ ap (set (shapes_in standings) i) e in
      record {
        zones_are =
            ap (reshaped key shape) held.zones_are
            ∙ sym (reshape_is key 0 shape keys (shapes_in standings) i rising shapes_length at.0 at.1)
            ∙ ap (zones_with keys) (sym shapes);
        lengths = omega (arith, ap (λ xs. length xs) same, length-set standings i z, held.lengths);
        levels = levels_joined settings.cells standings i (i + 1) (z ∷ []) held.levels (level_one settings.cells z (level ∙ ap (λ r. level_of r settings.cells) (sym e)));
      }

-- the verdict of the standings is that of the zones
pub held_accepted : (settings : Settings) (zones : List Zone) (keys : List ℕ) (standings : List Standing) (rows : ℕ) → IsHeld settings zones keys standings
    → rows ≡ standing_rows [] standings → room_of settings.rows (standing_most standings) rows ≡ None → room_verdict settings zones ≡ None
unfolding room_verdict
held_accepted settings zones keys standings rows h e v =
    ap (room_of settings.rows (most_references settings zones)) (sym (e ∙ held_rows settings zones keys standings [] h))
    ∙ ap (λ most. room_of settings.rows most rows) (sym (held_most settings zones keys standings h)) ∙ v

pub held_refused : (settings : Settings) (zones : List Zone) (keys : List ℕ) (standings : List Standing) (why : Verdict) → IsHeld settings zones keys standings
    → room_of settings.rows (standing_most standings) (standing_rows [] standings) ≡ Some why → room_verdict settings zones ≡ Some why
unfolding room_verdict
held_refused settings zones keys standings why h v =
    ap (room_of settings.rows (most_references settings zones)) (sym (held_rows settings zones keys standings [] h))
    ∙ ap (λ most. room_of settings.rows most (standing_rows [] standings)) (sym (held_most settings zones keys standings h)) ∙ v

pub within_limit : (limit most rows : ℕ) → room_of limit most rows ≡ None → rows ≤ limit
within_limit limit most rows v = by (nat_lt reference_limit most) (nat_lt limit rows) refl v
  where
    by : (a b : Bool) → nat_lt limit rows ≡ b
        → ◌≡◌ {A = Option Verdict} (if a then Some (verdict.Refs most) else if b then Some (verdict.Rows rows limit) else None) None → rows ≤ limit
    by true b e v = absurd (cc)
    by false true e v = absurd (cc)
    by false false e v = grind (arith, nat_tests)

most_within_limit : (limit most rows : ℕ) → room_of limit most rows ≡ None → most ≤ reference_limit
most_within_limit limit most rows v = by (nat_lt reference_limit most) refl v
  where
    by : (a : Bool) → nat_lt reference_limit most ≡ a
        → ◌≡◌ {A = Option Verdict} (if a then Some (verdict.Refs most) else if nat_lt limit rows then Some (verdict.Rows rows limit) else None) None → most ≤ reference_limit
    by true e v = absurd (cc)
    by false e v = grind (arith, nat_tests)

-- zones for which there is room keep both limits
room_kept : (settings : Settings) (zones : List Zone) → room_verdict settings zones ≡ None → (most_references settings zones ≤ reference_limit) × (rows_with settings zones [] ≤ settings.rows)
unfolding room_verdict
room_kept settings zones v =
    (most_within_limit settings.rows (most_references settings zones) (rows_with settings zones []) v, within_limit settings.rows (most_references settings zones) (rows_with settings zones []) v)

second_none : (first second : Option Verdict) → first_cause first second ≡ None → second ≡ None
second_none None second e = e
second_none (Some why) second e = absurd (cc)

-- a change of the zones, by what was found of the state after it
pub prepared : (settings : Settings) (state : State) (entry : Entry) (trained : List Address) (size plain : ℕ)
    → verdict_of settings state entry ≡ first_cause (key_verdict state.zones entry) (room_verdict settings (changed state.zones entry))
    → trained_after settings state entry ≡ fit settings (changed state.zones entry) state.trained
    → key_verdict state.zones entry ≡ None → room_verdict settings (changed state.zones entry) ≡ None
    → fit settings (changed state.zones entry) state.trained ≡ trained → length trained ≤ most_trained
    → size ≡ rows_with settings (changed state.zones entry) trained → size ≤ settings.rows → plain ≡ rows_with settings (changed state.zones entry) []
    → IsFor settings state (record { entry = entry; trained = trained; size = size; plain = plain; cells = settings.cells })
prepared settings state entry trained size plain v t key room taken few is fits plainly =
    let here : trained ≡ trained_after settings state entry = sym (t ∙ taken) in
    let sized : size ≡ rows_with settings (changed state.zones entry) (trained_after settings state entry) = is ∙ ap (rows_with settings (changed state.zones entry)) here in
    record {
      accepted = v ∙ ap (λ x. first_cause x (room_verdict settings (changed state.zones entry))) key ∙ room;
      trained = here;
      kept = ap (fit settings (changed state.zones entry)) (sym taken) ∙ fit_kept settings (changed state.zones entry) state.trained ∙ taken;
      sized = sized;
      plainly = plainly;
      budget = refl;
      within = record { rows = omega (arith, sized, fits); trained = omega (arith, few, ap (λ xs. length xs) here) };
    }

-- a training, by what was found of the state after it
pub prepared_training : (settings : Settings) (state : State) (cells trained : List Address) (size plain : ℕ)
    → fit settings state.zones (state.trained ++ cells) ≡ trained → trained ≡ state.trained ++ drop (length state.trained) trained → length trained ≤ most_trained
    → size ≡ rows_with settings state.zones trained → size ≤ settings.rows → plain ≡ rows_with settings state.zones []
    → IsFor settings state (record { entry = entry.Train (drop (length state.trained) trained); trained = trained; size = size; plain = plain; cells = settings.cells })
prepared_training settings state cells trained size plain taken longer few is fits plainly = record {
  accepted = refl;
  trained = longer;
  kept = ap (fit settings state.zones) (sym taken) ∙ fit_kept settings state.zones (state.trained ++ cells) ∙ taken;
  sized = is ∙ ap (rows_with settings state.zones) longer;
  plainly = plainly;
  budget = refl;
  within = record { rows = omega (arith, is ∙ ap (rows_with settings state.zones) longer, fits); trained = omega (arith, few, ap (λ xs. length xs) longer) };
}

-- the cells that the code takes are the Fit
pub held_fit : (settings : Settings) (zones : List Zone) (keys : List ℕ) (standings : List Standing) (cells taken : List Address) → IsHeld settings zones keys standings
    → IsFit settings.rows standings cells taken → fit settings zones cells ≡ taken
held_fit settings zones keys standings cells taken h f = fit_is settings zones cells (length taken) f.within each (last f.last) ∙ sym f.first
  where
    rows : (m : ℕ) → standing_rows (take m cells) standings ≡ rows_with settings zones (take m cells)
    rows m = held_rows settings zones keys standings (take m cells) h

    test : (a b p q : ℕ) → a ≤ p → b ≤ q → (nat_le a p && nat_le b q) ≡ true
    test a b p q h k = grind (arith, nat_tests)

    many : (a b p q : ℕ) → p < a → (nat_le a p && nat_le b q) ≡ false
    many a b p q h = grind (arith, nat_tests)

    big : (a b p q : ℕ) → q < b → (nat_le a p && nat_le b q) ≡ false
    big a b p q h = grind (arith, nat_tests)

    each : (m : ℕ) → 1 ≤ m → m ≤ length taken → fits settings zones (take m cells) ≡ true
    each m least most =
        test (length (take m cells)) (rows_with settings zones (take m cells)) most_trained settings.rows
        (omega (arith, length-take m cells, f.few)) (omega (arith, rows m, f.each m most))

    last : (length taken ≡ length cells) ⊎ ((length taken ≡ most_trained) ⊎ (settings.rows < standing_rows (take (length taken + 1) cells) standings))
        → (length taken ≡ length cells) ⊎ (fits settings zones (take (suc (length taken)) cells) ≡ false)
    last (inl all) = inl all
    last (inr (inl most)) = by (cases_lt (length taken) (length cells))
      where
        by : (length taken < length cells) ⊎ (length cells ≤ length taken) → (length taken ≡ length cells) ⊎ (fits settings zones (take (suc (length taken)) cells) ≡ false)
        by (inl less) = inr (many (length (take (suc (length taken)) cells)) (rows_with settings zones (take (suc (length taken)) cells)) most_trained settings.rows (omega (arith, length-take (suc (length taken)) cells, most)))
        by (inr all) = inl (omega (arith, f.within))
    last (inr (inr over)) =
        inr (big (length (take (suc (length taken)) cells)) (rows_with settings zones (take (suc (length taken)) cells)) most_trained settings.rows
        (omega (arith, rows (suc (length taken)), ap (λ n. standing_rows (take n cells) standings) (add-one (length taken)), over)))

-- a change of the zones, by what the code found of it
pub prepared_by : (settings : Settings) (state : State) (entry : Entry) (keys : List ℕ) (standings now : List Standing) (cells taken : List Address) (size plain : ℕ)
    → IsHeld settings (changed state.zones entry) keys standings
    → verdict_of settings state entry ≡ first_cause (key_verdict state.zones entry) (room_verdict settings (changed state.zones entry))
    → trained_after settings state entry ≡ fit settings (changed state.zones entry) state.trained
    → key_verdict state.zones entry ≡ None → room_verdict settings (changed state.zones entry) ≡ None
    → now ≡ standings → cells ≡ state.trained → IsFit settings.rows now cells taken → size ≡ standing_rows taken now → plain ≡ rows_with settings (changed state.zones entry) []
    → IsFor settings state (record { entry = entry; trained = taken; size = size; plain = plain; cells = settings.cells })
prepared_by settings state entry keys standings now cells taken size plain h v t key room same same_cells f is plainly =
    let g : IsFit settings.rows standings cells taken = subst (λ ss. IsFit settings.rows ss cells taken) same f in
    let here : size ≡ standing_rows taken standings = is ∙ ap (standing_rows taken) same in
    prepared settings state entry taken size plain v t key room
    (ap (fit settings (changed state.zones entry)) (sym same_cells) ∙ held_fit settings (changed state.zones entry) keys standings cells taken h g)
    f.few (here ∙ held_rows settings (changed state.zones entry) keys standings taken h)
    (omega (arith, here, g.each (length taken) (omega arith), ap (λ cells. standing_rows cells standings) g.first)) plainly

-- the first of some cells and more, where these are at least as many
pub longer_list : (cells more : List Address) (n : ℕ) → length cells ≤ n → take n (cells ++ more) ≡ cells ++ drop (length cells) (take n (cells ++ more))
longer_list [] more n least = refl
longer_list (c ∷ cells) more zero least = absurd (omega arith)
longer_list (c ∷ cells) more (suc n) least = ap (λ r. c ∷ r) (longer_list cells more n (omega arith))

-- an update that is turned away by its standings
pub turned : (settings : Settings) (zones : List Zone) (keys : List ℕ) (standings here : List Standing) (key_cause : Option Verdict) (why : Verdict) → IsHeld settings zones keys standings
    → here ≡ standings → key_cause ≡ None
    → (why ≡ verdict.NoMemory) ⊎ (room_of settings.rows (standing_most here) (standing_rows [] here) ≡ Some why)
    → (why ≡ verdict.NoMemory) ⊎ (first_cause key_cause (room_verdict settings zones) ≡ Some why)
turned settings zones keys standings here key_cause why h e none (inl unfed) = inl unfed
turned settings zones keys standings here key_cause why h e none (inr v) =
    inr (
    ap (λ x. first_cause x (room_verdict settings zones)) none
    ∙ held_refused settings zones keys standings why h (ap (λ ss. room_of settings.rows (standing_most ss) (standing_rows [] ss)) (sym e) ∙ v)
    )

-- a change that was prepared on a state, and what is kept of the state after it
module _ (settings : Settings) (state : State) (change : Prepared) (keys : List ℕ) (standings : List Standing)
    (h : IsHeld settings (changed state.zones change.entry) keys standings) (p : IsFor settings state change) where
  pub sound_by : rows_with settings (changed state.zones change.entry) [] ≤ settings.rows → most_references settings (changed state.zones change.entry) ≤ reference_limit
      → IsRisingFrom 0 keys → length keys ≤ 4294967295 → IsSound settings keys standings change.trained change.size change.plain
  sound_by room referenced rising few = record {
    lengths = h.lengths;
    rising = rising;
    few = few;
    levels = h.levels;
    sized = p.sized ∙ ap (rows_with settings (changed state.zones change.entry)) (sym p.trained) ∙ ap (λ zs. rows_with settings zs change.trained) h.zones_are;
    plainly = p.plainly ∙ ap (λ zs. rows_with settings zs []) h.zones_are;
    fits = omega (arith, p.sized, p.within.rows);
    plain_fits = omega (arith, p.plainly, room);
    referenced = omega (arith, referenced, ap (most_references settings) h.zones_are);
    kept = ap (λ zs. fit settings zs change.trained) (sym h.zones_are) ∙ p.kept;
    few_trained = omega (arith, p.within.trained, ap (λ cells. length cells) p.trained);
  }

  pub sound_after : verdict_of settings state change.entry ≡ first_cause (key_verdict state.zones change.entry) (room_verdict settings (changed state.zones change.entry))
      → IsRisingFrom 0 keys → length keys ≤ 4294967295 → IsSound settings keys standings change.trained change.size change.plain
  sound_after v rising few =
      let kept = room_kept settings (changed state.zones change.entry) (second_none (key_verdict state.zones change.entry) (room_verdict settings (changed state.zones change.entry)) (sym v ∙ p.accepted)) in
      sound_by kept.1 kept.0 rising few

  pub state_after : ◌≡◌ {A = State} (record { zones = zones_with keys (shapes_in standings); trained = change.trained }) (after settings state change.entry)
  state_after = same_state _ _ _ _ (sym h.zones_are) p.trained

-- the shape at a place
pub shape_at_place : (standings : List Standing) (i : ℕ) (z : Standing) → z ≡ get_or standings i z → i < length standings → z.shape ≡ slice_index_or (shapes_in standings) i []
shape_at_place standings i z e within = ap shape_of e ∙ sym (get_or-map shape_of standings i z [] within)

-- what is kept of no zones
pub sound_nothing : (settings : Settings) → 1 ≤ settings.rows → IsSound settings [] [] [] 1 1
sound_nothing settings least = record {
  lengths = refl;
  rising = tt;
  few = omega arith;
  levels = All-nil (λ (s : Standing). s.level ≡ level_of s.shape settings.cells);
  sized = sym (rows_of_none settings);
  plainly = sym (rows_of_none settings);
  fits = least;
  plain_fits = least;
  referenced = omega (arith, most_of_none settings);
  kept = fit_none settings [];
  few_trained = omega arith;
}
