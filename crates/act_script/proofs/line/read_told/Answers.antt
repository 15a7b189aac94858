use Rattle.std.proofs.Common.{refl, sym, ◌++◌, ◌∷◌, []}
use Rattle.csv.specs.Records.{fields_of}
use Rattle.act_script.specs.Records.{split_at_commas}
use Rattle.act_script.proofs.RecordFacts.{fields_short}
use Rattle.act_script.proofs.line.read_told.Goals as goal

pub read_record-requires-clause-short : goal.read_record-requires-clause-short
read_record-requires-clause-short c = fields_short c.args.line.now (split_at_commas c.args.line.now) c.requires.short (c.if-is_plain.ensures refl).1

pub read_record-requires-in-Some-quoted_last-clause-short : goal.read_record-requires-in-Some-quoted_last-clause-short
read_record-requires-in-Some-quoted_last-clause-short c =
    fields_short c.args.line.now (split_at_commas c.in-Some-quoted_last.row.front.now ++ c.in-Some-quoted_last.row.last.now ∷ []) c.requires.short c.in-Some-quoted_last.ensures.1

pub read_record-requires-in-Ok-Some-clause-short : goal.read_record-requires-in-Ok-Some-clause-short
read_record-requires-in-Ok-Some-clause-short c = fields_short c.args.line.now (fields_of c.in-Ok-Some.row) c.requires.short (sym (rw c.in-Ok-Some.field-0-is at c.in-Ok-Some.ensures))
