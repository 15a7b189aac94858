use Rattle.act_script.proofs.RecordFacts as facts
use Rattle.act_script.proofs.PlainFacts as plain
use Rattle.act_script.proofs.laws.lines_are_records.Goals as goal

pub returns : goal.returns
returns c = record { records = facts.lines_are_records; marks = facts.marks_are_gone; plain = plain.plain_lines_are_split }
