-- What a plan is made of.
use Rattle.std.specs.Prelude.{◌≡◌, ℕ, List, ◌++◌, length}
use Rattle.act_image.specs.declared.chains.Chains.{Chains}
use Rattle.act_image.specs.declared.kept.KeptChains.{KeptChains}
use Rattle.act_image.specs.declared.path.Path.{Path}
use Rattle.act_image.specs.declared.slots.Slot.{Slot}
use Rattle.act_image.specs.declared.walk.Nodes.{Nodes}
use Rattle.act_image.specs.Slots.{new_places}
use Rattle.act_image.specs.Pics.{Planned}

-- the plan has these nodes and chains and so many list rows, and its rows stay or come as the slots say
pub record IsMade (walked : Nodes) (many : ℕ) (own : Chains) (kinds : List Slot) (left : List ℕ) (plan : Planned) : Type 0 where
  pub need : plan.need ≡ length (new_places 0 kinds)
  pub nodes : plan.nodes ≡ walked.places.items
  pub under : plan.under ≡ walked.under.items
  pub list_rows : plan.list_rows ≡ many
  pub spots : plan.spots ≡ walked.spots.items
  pub lists : plan.lists ≡ walked.lists.items
  pub chains : plan.chains ≡ own.places.items
  pub bodies : plan.bodies ≡ own.bodies.items
  pub chain_rows : plan.chain_rows ≡ own.rows.items
  pub slots : plan.slots ≡ kinds
  pub gone : plan.gone ≡ left

-- the plan has what a path keeps and makes
pub record IsKeptMade (walked : Path) (own : KeptChains) (bodies : List (List ℕ)) (left : List ℕ) (plan : Planned) : Type 0 where
  pub nodes : plan.nodes ≡ walked.places.items
  pub under : plan.under ≡ walked.under.items
  pub list_rows : plan.list_rows ≡ length walked.list_slots.items
  pub spots : plan.spots ≡ walked.spots.items
  pub lists : plan.lists ≡ walked.lists.items
  pub chains : plan.chains ≡ own.places.items
  pub bodies_are : plan.bodies ≡ bodies
  pub chain_rows : plan.chain_rows ≡ own.rows.items
  pub slots : plan.slots ≡ walked.node_slots.items ++ (walked.list_slots.items ++ own.slots.items)
  pub need : plan.need ≡ length (new_places 0 plan.slots)
  pub gone : plan.gone ≡ left
