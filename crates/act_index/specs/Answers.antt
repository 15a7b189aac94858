-- What readers answer.
use Rattle.std.specs.Prelude.{◌≡◌, ℕ, ◌≤◌, List, [], ◌∷◌, ◌++◌, length, map, sum_by, Option, Some, None}
use Rattle.act_grid.specs.declared.Point.{Point}
use Rattle.act_grid.specs.declared.Layers.{Layers}
use Rattle.act_grid.specs.declared.Settings.{Settings}
use Rattle.act_super.specs.declared.entry.Entry.{Entry}
use Rattle.act_super.specs.Histories.{state_of}
use Rattle.act_super.specs.Joins.{Hit, zones_at, join}
use Rattle.act_rows.specs.History.{History, Begins}
use Rattle.act_rows.specs.Tokens.{Guested, no_ticket}
use Rattle.act_probe.specs.declared.buffers.Hit.{Hit as Probed}
use Rattle.act_probe.specs.Reads.{reads_of}
use Rattle.act_index.specs.declared.pairs.Pair.{Pair}
use Rattle.act_index.specs.Codes.{IsTold}

-- the keys are those of the zones of the layers, after the entries of the history, that the point is inside
pub record IsAnswer (h : History) (layers : Layers) (p : Point) (keys : List ℕ) (reads : ℕ) : Type 0 where
  pub settings : Settings
  pub entries : List Entry
  pub told : IsTold h settings entries
  pub found : keys ≡ map (λ zone. zone.key) (zones_at layers (state_of settings entries).zones p)
  pub few : reads ≤ reads_of settings (state_of settings entries) p layers

abbrev pub pair_of : Hit → Pair
pair_of hit = record { point = hit.point; key = hit.key }

-- a pair as a batch of probes has it
abbrev pub own_pair : Probed → Pair
own_pair hit = record { point = hit.point; key = hit.key }

-- the pairs are the join of the points with the zones after the entries of the history
pub record IsJoin (h : History) (layers : Layers) (points : List Point) (pairs : List Pair) (reads : ℕ) : Type 0 where
  pub settings : Settings
  pub entries : List Entry
  pub told : IsTold h settings entries
  pub found : pairs ≡ map pair_of (join layers (state_of settings entries).zones points)
  pub few : reads ≤ sum_by (λ p. reads_of settings (state_of settings entries) p layers) points

-- one version more was seen, and its history is what has been seen then
pub record IsSeen (r r' : Guested) : Type 0 where
  pub table : r'.table ≡ r.table
  pub number : r'.ticket.number ≡ r.ticket.number
  pub later : Begins r.ticket.seen r'.ticket.seen
  pub mine : r'.ticket.mine ≡ r.ticket.mine ++ length r'.ticket.seen ∷ []

-- a stand-in where there is no guest
abbrev pub no_guest : Guested
no_guest = record { table = record { words = 0; slots = 0; views_name = 0; atom = 0; block = 0; offset = 0; slot_names = [] }; ticket = no_ticket }

abbrev pub guest_of : Option Guested → Guested
guest_of (Some g) = g
guest_of None = no_guest

-- what contracts see of an answer
pub record Answered : Type 0 where
  pub version : ℕ
  pub reads : ℕ
  pub pairs : List Pair
