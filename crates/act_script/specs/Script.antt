-- What a script says: its items up to the first bad line, and its segments.
use Rattle.std.specs.Prelude.{◌==◌, ◌+◌, ◌++◌, ◌⊎◌, if◌then◌else◌, ℕ, List, [], ◌∷◌, Option, Some, None, Ok, Err, min}
use Rattle.std.proofs.Common.{inl, inr}
use Rattle.std.specs.Option.{option_map, option_map_or}
use Rattle.act_script.specs.Lines.{Cut, Line, script_lines}
use Rattle.act_script.specs.Answers.{Said}
use Rattle.act_script.specs.Items.{item_of}
use Rattle.act_script.specs.Segments.{closed_segments, nothing_pending, segments_from}
use Rattle.act_script.specs.declared.cutter.CutFault.{CutFault}
use Rattle.act_script.specs.declared.cutter.TheConstants.{MOST_LINES}
use Rattle.act_script.specs.declared.fault.LineFault.{LineFault}
use Rattle.act_script.specs.declared.item.Item.{Item}
use Rattle.act_script.specs.declared.segment.Step.{Step}

-- the number of a bad line, and its fault: that of the line, or why it was not cut
pub record BadLine : Type 0 where
  pub number : ℕ
  pub fault : LineFault ⊎ CutFault

-- the items of lines up to the first bad one, and that line where there is one
pub record Content : Type 0 where
  pub items : List Item
  pub bad : Option BadLine

-- the items before these
abbrev pub with_items : List Item → Content → Content
with_items items content = record { items = items ++ content.items; bad = content.bad }

-- what the first of some lines says, and then the others
abbrev pub said_then : ℕ → Said (Option Item) → Content → Content
said_then n (Ok None) more = more
said_then n (Ok (Some item)) more = with_items (item ∷ []) more
said_then n (Err why) more = record { items = []; bad = Some (record { number = n; fault = inl why }) }

-- what lines say from number n on, where the one behind them was not cut for this fault. A line too many has the
-- number of the last that a script may have
abbrev pub lines_content : ℕ → ℕ → List Line → Option CutFault → Content
lines_content digits n [] fault = record { items = []; bad = option_map (λ why. record { number = min n MOST_LINES; fault = inr why }) fault }
lines_content digits n (line ∷ lines) fault = said_then n (item_of digits line) (lines_content digits (n + 1) lines fault)

abbrev pub cut_content : ℕ → Cut → Content
cut_content digits cut = lines_content digits 1 cut.lines cut.fault

-- what a script says
abbrev pub script_content : ℕ → List ℕ → Content
script_content digits script = cut_content digits (script_lines script)

-- the first bad line of a script
abbrev pub bad_line : ℕ → List ℕ → Option BadLine
bad_line digits script = (script_content digits script).bad

-- the segments of a script: all, where no line is bad, and else those that are closed before it
abbrev pub content_segments : Content → List (List Step)
content_segments content = option_map_or (λ bad. closed_segments nothing_pending content.items) content.bad (segments_from nothing_pending content.items)

abbrev pub script_segments : ℕ → List ℕ → List (List Step)
script_segments digits script = content_segments (script_content digits script)

-- the bytes up to the last line feed, and with it
abbrev pub onto_ended : ℕ → List ℕ → List ℕ
onto_ended b [] = []
onto_ended b (a ∷ bytes) = b ∷ a ∷ bytes

abbrev pub ended_part : List ℕ → List ℕ
ended_part [] = []
ended_part (b ∷ bytes) = if b == 10 then b ∷ ended_part bytes else onto_ended b (ended_part bytes)

-- the segments that are closed by the lines that end with a line feed
abbrev pub ended_segments : ℕ → List ℕ → List (List Step)
ended_segments digits bytes = closed_segments nothing_pending (script_content digits (ended_part bytes)).items
