-- What a training that was made answers.
use Rattle.std.proofs.Common.{◌≡◌, ℕ, ◌<◌, List, [], ◌∷◌, length, refl, ap, arith}
use Rattle.act_grid.specs.Cell.{Address}
use Rattle.act_super.specs.declared.entry.Entry.TheVariants.{Train}
use Rattle.act_rows.specs.Versions.{newest}
use Rattle.act_index.specs.declared.done.Done.{Done}
use Rattle.act_index.specs.Calls.{IsGrown, IsTrained}
use Rattle.act_index.specs.Codes.{code, updates_in}
use Rattle.act_index.specs.Whole.{Writing}
use Rattle.act_index.proofs.Histories.{updates_more}

-- a training counts as no update
pub counted_same : (w w' : Writing) (cells : List Address) (n : ℕ) → IsGrown w w' (Train cells) → n ≡ updates_in w.desk.history → n ≡ updates_in w'.desk.history
counted_same w w' cells n g same =
    let more = updates_more w.desk.history (code w.settings (Train cells)) in
    let one : updates_in (code w.settings (Train cells) ∷ []) ≡ 0 = refl in
    let long = ap updates_in g.history in
    omega arith

-- the answer of a training with cells
pub trained_made : (w w' : Writing) (cells : List Address) (done : Done) → IsGrown w w' (Train cells) → done.version ≡ newest w'.desk → done.updates ≡ updates_in w.desk.history
    → done.split ≡ length cells → 0 < done.split → IsTrained w w' cells done
trained_made w w' cells done grown version updates split some = record {
  answered = record { version = version; updates = counted_same w w' cells done.updates grown updates; trained = split };
  grown = λ more. grown;
  left = λ none. absurd (omega (arith, split, some, none));
}
