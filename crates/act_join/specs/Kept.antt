-- What a run keeps between segments.
use Rattle.std.specs.Prelude.{List, []}
use Rattle.act_grid.specs.declared.Point.{Point}
use Rattle.act_grid.specs.declared.Settings.{Settings}
use Rattle.act_script.specs.declared.segment.Step.{Step}
use Rattle.act_script.specs.Turns.{points_after, points_from, turns_from, turns_of}
use Rattle.act_join.specs.Held.{Held, after_turns, nothing_held}

-- what contracts see of a run: what is held, and the points that are there for a sample in the next segment
pub record Kept : Type 0 where
  pub held : Held
  pub points : List Point

-- before the first segment
abbrev pub nothing_kept : Settings → Kept
nothing_kept settings = record { held = nothing_held settings; points = [] }

-- after a segment, and after some
abbrev pub after_segment : Kept → List Step → Kept
after_segment kept steps = record { held = after_turns kept.held (turns_of kept.points steps); points = points_after kept.points steps }

abbrev pub after_segments : Kept → List (List Step) → Kept
after_segments kept segments = record { held = after_turns kept.held (turns_from kept.points segments); points = points_from kept.points segments }
