use Rattle.act_script.proofs.RecordFacts.{field_short}
use Rattle.act_script.proofs.line.read_record.Goals as goal

pub read_zone-requires-clause-short : goal.read_zone-requires-clause-short
read_zone-requires-clause-short g c = rw c.field-then-is_text-2-3.ensures (field_short (g.W.Row.texts c.args.row.now) 2 c.requires.short)

pub read_replace-requires-clause-short : goal.read_replace-requires-clause-short
read_replace-requires-clause-short g c = rw c.field-then-is_text-3-2.ensures (field_short (g.W.Row.texts c.args.row.now) 2 c.requires.short)
