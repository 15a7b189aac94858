use Rattle.std.proofs.Common.{◌≡◌, ◌-◌}
use Rattle.act_script.specs.Fields.{field_text}
use Rattle.act_script.specs.Records.{split_at_commas}
use Rattle.act_script.proofs.row.split_field.Given as goal

-- the field is as many places behind the rest as there are steps to come
abbrev pub invariant-loop : goal.invariant-loop
invariant-loop l = field_text (split_at_commas l.rest) (l.place - l.counter) ≡ field_text (split_at_commas l.text) l.place
