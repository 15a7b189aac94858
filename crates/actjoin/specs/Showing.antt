-- What the demo has between two of its items.
use Rattle.std.specs.Prelude.{◌≡◌, ◌⊎◌, ◌++◌, ℕ, true, List, [], ◌∷◌, Option}
use Rattle.std.specs.List.{AllByRecursion}
use Rattle.std.specs.Option.{option_to_list}
use Rattle.act_grid.specs.declared.Settings.{Settings}
use Rattle.act_script.specs.Segments.{is_batch, is_update, nothing_pending, segments_from}
use Rattle.act_script.specs.Turns.{turns_from}
use Rattle.act_script.specs.declared.item.Item.{Item}
use Rattle.act_script.specs.declared.segment.Step.{Step}
use Rattle.act_join.specs.Kept.{Kept, nothing_kept}
use Rattle.act_join.specs.declared.reply.Reply.{Reply}
use Rattle.act_join.specs.declared.reply.Reply.TheVariants as reply
use Rattle.actjoin.specs.Demo.{demo_items, no_sums, with_added, with_pairs, with_turns}
use Rattle.actjoin.specs.declared.demo.Showing.{Showing}
use Rattle.actjoin.specs.declared.sums.Sums.{Sums}

-- with replies one after another
abbrev pub with_reply : Reply → Sums → Sums
with_reply (reply.Update added line) sums = with_added added sums
with_reply (reply.Batch batch after answer) sums = with_pairs batch answer.pairs sums

abbrev pub with_replies : List Reply → Sums → Sums
with_replies [] sums = sums
with_replies (first ∷ replies) sums = with_replies replies (with_reply first sums)

-- a segment has no updates or no batches
abbrev pub AreBatches : List Step → Type 0
AreBatches = AllByRecursion (λ step. is_batch step ≡ true)

abbrev pub AreUpdates : List Step → Type 0
AreUpdates = AllByRecursion (λ step. is_update step ≡ true)

abbrev pub IsApart : List Step → Type 0
IsApart steps = AreBatches steps ⊎ AreUpdates steps

abbrev pub AreApart : List (List Step) → Type 0
AreApart = AllByRecursion IsApart

-- the sums once segments are solved
abbrev pub sums_with : Kept → List (List Step) → Sums → Sums
sums_with kept segments sums = with_turns kept.held.settings kept.held.state (turns_from kept.points segments) sums

-- before the first item
pub record IsFirst (settings : Settings) (s : Showing) : Type 0 where
  pub segmenter : s.segmenter ≡ nothing_pending
  pub run : s.run ≡ nothing_kept settings
  pub sums : s.sums ≡ no_sums

-- The segment that was given was solved: where it is apart, the sums once segments after it are solved too stay.
abbrev pub Solves : Showing → Option (List Step) → Showing → Type 0
Solves old given new = (more : List (List Step)) → AreApart (option_to_list given)
    → sums_with old.run (option_to_list given ++ more) old.sums ≡ sums_with new.run more new.sums

-- Items were taken: whatever items follow, where the segments are apart, those that are left are too, and the sums once
-- all are solved stay.
abbrev pub Leads : Showing → List Item → Showing → Type 0
Leads old items new = (more : List Item) → AreApart (segments_from old.segmenter (items ++ more))
    → AreApart (segments_from new.segmenter more)
    × (sums_with old.run (segments_from old.segmenter (items ++ more)) old.sums ≡ sums_with new.run (segments_from new.segmenter more) new.sums)

-- what was left was solved
abbrev pub Finishes : Showing → Showing → Type 0
Finishes old new = AreApart (segments_from old.segmenter []) → sums_with old.run (segments_from old.segmenter []) old.sums ≡ new.sums

-- all items of the demo were taken, and the end
abbrev pub ShowsAll : ℕ → Showing → Showing → Type 0
ShowsAll side old new =
    AreApart (segments_from old.segmenter (demo_items side)) → sums_with old.run (segments_from old.segmenter (demo_items side)) old.sums ≡ new.sums
