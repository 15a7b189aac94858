use Rattle.act_grid.proofs.SlotFacts.{slot_entries}
use Rattle.act_grid.proofs.laws.slot_is_its_entries.Goals as goal

pub returns : goal.returns
returns c = slot_entries
