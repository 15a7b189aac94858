use Rattle.act_entry.proofs.ListFacts.{tells, told}
use Rattle.act_entry.proofs.law.lists_are_told_back.Goals as goal

pub returns-clause-packed : goal.returns-clause-packed
returns-clause-packed c = told

pub returns-clause-unpacked : goal.returns-clause-unpacked
returns-clause-unpacked c = tells
