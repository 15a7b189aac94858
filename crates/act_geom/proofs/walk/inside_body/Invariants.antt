use Rattle.std.proofs.Common.{◌≡◌, ◌≤◌, List, length, drop}
use Rattle.std.specs.List.{All}
use Rattle.act_grid.specs.declared.Point.{Point}
use Rattle.act_geom.specs.Inside.{is_inside}
use Rattle.act_geom.specs.Body.{body_of}
use Rattle.act_geom.specs.Walk.{Expects}
use Rattle.act_geom.proofs.walk.inside_body.Given as goal

abbrev pub invariant-loop-word : goal.invariant-loop-word
invariant-loop-word l =
    (rings : List (List Point)) → All (λ ring. 3 ≤ length ring) rings → l.words ≡ body_of rings → Expects l.walk (drop l.word-index l.words) (is_inside rings l.fn.p)
