use Rattle.act_entry.proofs.EntryFacts.{tells, told}
use Rattle.act_entry.proofs.law.entries_are_told_back.Goals as goal

pub returns-clause-encoded : goal.returns-clause-encoded
returns-clause-encoded c = told

pub returns-clause-decoded : goal.returns-clause-decoded
returns-clause-decoded c = tells
