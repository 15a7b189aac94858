-- What is pending, by the fields that keep it.
use Rattle.std.specs.Prelude.{◌≡◌, ◌<◌, ◌≤◌, ◌^◌, length}
use Rattle.act_script.specs.Segments.{HaveThresholds, Pending, batches_in, updates_in, vertices_in}
use Rattle.act_script.specs.declared.pending.Pending.TheInside.{Inside}

abbrev pub pending_of : Inside → Pending
pending_of p = record { steps = p.steps.items; ids = p.ids.items; points = p.points.items; layers = p.layers; number = p.number }

-- the counts are those of the steps, and no training has the threshold 0
pub record IsPending (p : Inside) : Type 0 where
  pub ids : length p.ids.items ≡ length p.points.items
  pub batches : p.batches ≡ batches_in p.steps.items
  pub updates : p.updates ≡ updates_in p.steps.items
  pub vertices : p.vertices ≡ vertices_in p.steps.items
  pub thresholds : HaveThresholds p.steps.items
  pub number : p.number ≤ 2 ^ 32
  pub next : 0 < length p.points.items → p.number < 2 ^ 32
