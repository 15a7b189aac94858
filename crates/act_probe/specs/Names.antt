-- The references of the leaves of points.
use Rattle.std.specs.Prelude.{ℕ, ◌+◌, ◌++◌, [], ◌∷◌, List, map}
use Rattle.act_grid.specs.declared.Point.{Point}
use Rattle.act_grid.specs.declared.Settings.{Settings}
use Rattle.act_base.specs.Sight.{Sight}
use Rattle.act_entry.specs.declared.reference.Ref.{Ref}
use Rattle.act_super.specs.declared.entry.State.{State}
use Rattle.act_super.specs.Nodes.{count_at}
use Rattle.act_super.specs.Sizes.{refs_of}
use Rattle.act_super.specs.Stands.{Layout, refs_in}
use Rattle.act_probe.specs.declared.buffers.Named.{Named}
use Rattle.act_probe.specs.Batches.{Met}
use Rattle.act_probe.specs.Reads.{list_reads, nodes_above}
use Rattle.act_probe.specs.Ways.{leaf_of}

-- a reference of the leaf of a point, before the first word of its zone's chain was read
abbrev pub named_by : ℕ → Point → Ref → Named
named_by place p r = record { r = r; head = 0; place = place; point = p }

-- and when it was read
abbrev pub headed : Sight → Named → Named
headed x n = record n { head = x.word n.r.row 0 }

-- the references of the leaf of the point that has a place in its batch
abbrev pub named_at : Layout → Settings → State → ℕ → Point → List Named
named_at layout settings state place p = map (named_by place p) (refs_in layout (refs_of state.zones (leaf_of settings state p)))

-- those of the leaves of points, the first of which has a place
abbrev pub named_from : Layout → Settings → State → ℕ → List Point → List Named
named_from layout settings state i [] = []
named_from layout settings state i (p ∷ points) = named_at layout settings state i p ++ named_from layout settings state (i + 1) points

-- the words that tell the references of a point's leaf
abbrev pub leaf_reads : Settings → State → Point → ℕ
leaf_reads settings state p = nodes_above (leaf_of settings state p) + list_reads (count_at state (leaf_of settings state p))

-- the reference to a zone that meets the leaf of a point, with the first word of its chain
abbrev pub named_of : Sight → Met → Named
named_of x m = record { r = record { row = m.row; hit = m.hit }; head = x.word m.row 0; place = m.place; point = m.point }
