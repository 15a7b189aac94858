use Rattle.std.specs.Prelude.{◌≡◌, ◌*◌, ◌^◌, ◌≤◌, sum_by, take}
use Rattle.act_super.specs.declared.standing.Standing.{Standing}
use Rattle.act_super.specs.Sizes.{chain_rows}
use Rattle.act_super.specs.Standings.{values}
use Rattle.act_super.proofs.room.chains.Given as goal

abbrev pub invariant-loop-zone : goal.invariant-loop-zone
invariant-loop-zone l = (l.rows ≡ sum_by (λ (s : Standing). chain_rows s.shape) (take l.zone-index (values l.zones))) × (l.rows ≤ l.zone-index * 2 ^ 26)
