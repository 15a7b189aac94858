use Rattle.act_index.proofs.Coding.{told_one, told_settings, told_begins, told_updates}
use Rattle.act_index.proofs.law.histories_tell_entries.Goals as goal

pub returns : goal.returns
returns c = record { one = told_one; settings = told_settings; begins = told_begins; updates = told_updates }
