-- Fair counts.
use Rattle.std.proofs.Common.{◌≤◌, ◌<◌, ◌+◌, ◌++◌, ℕ, List, [], ◌∷◌, length, length-append, refl, arith}
use Rattle.std.specs.Prelude.{replicate}
use Rattle.std.proofs.lemmas.List.{drop_at, get_or-replicate, length-replicate, take_at}
use Rattle.act_grid.specs.declared.Point.{Point}
use Rattle.act_grid.specs.declared.Settings.{Settings}
use Rattle.act_super.specs.declared.entry.State.{State}
use Rattle.act_super.specs.States.{nothing}
use Rattle.act_script.specs.History.{accepted_from, state_decided, updates_of}
use Rattle.act_script.specs.Script.{script_segments}
use Rattle.act_script.specs.Segments.{batches_in}
use Rattle.act_script.specs.Turns.{points_after, turns_of}
use Rattle.act_script.specs.declared.segment.Step.{Step}
use Rattle.act_script.specs.Text.{AreFair, IsFairFrom, LeastCountsAreFair, least_counts}

same-fair : (n before more : ℕ) → AreFair before (before + more) (replicate n before)
same-fair n before more k d h =
    let within : k < n = omega (arith, length-replicate n before) in
    rw (get_or-replicate n k before d within) (omega arith, omega arith)

least-fair : (settings : Settings) (state : State) (points : List Point) (before : ℕ) (segments : List (List Step))
    → IsFairFrom settings state points before segments (least_counts settings state points before segments)
least-fair settings state points before [] = refl
least-fair settings state points before (segment ∷ segments) =
    let n = batches_in segment in
    let turns = turns_of points segment in
    let more = updates_of (accepted_from settings state turns) in
    let rest = least_counts settings (state_decided settings state turns) (points_after points segment) (before + more) segments in
    let enough : n ≤ length (replicate n before ++ rest) = omega (arith, length-append (replicate n before) rest, length-replicate n before) in (
      enough,
      rw (take_at (replicate n before) rest n (length-replicate n before)) (same-fair n before more),
      rw (drop_at (replicate n before) rest n (length-replicate n before)) (least-fair settings (state_decided settings state turns) (points_after points segment) (before + more) segments),
    )

pub least_counts_are_fair : LeastCountsAreFair
least_counts_are_fair settings script = least-fair settings nothing [] 0 (script_segments settings.digits script)
