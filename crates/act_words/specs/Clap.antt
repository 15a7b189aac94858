-- The command that is given to clap.
use Rattle.std.specs.Prelude.{true, List, Some, codes}
use Rattle.std.specs.Prelude.{Option}
use Rattle.clap.specs.Words.{App, Kinds, Rule, Text, fault_of, first_of, matches_of, new_app, new_rule, with_rule}
use Rattle.std.specs.Prelude.{Bool}
use Rattle.std.specs.List.{list_any}
use Rattle.std.specs.Str.{bytes_eq}
use Rattle.clap.specs.Simple.{on_top}
use Rattle.clap.specs.declared.builder.action.ArgAction.TheVariants.{Set}

-- an option with a value
abbrev pub plain_rule : Text → Rule
plain_rule name = record (new_rule name) { long = Some name; action = Some Set }

abbrev pub bare_app : App
bare_app = on_top (λ s. record s { no_binary_name = true; disable_help_flag = true }) (new_app (codes "join"))

abbrev pub small_app : App
small_app = with_rule (with_rule bare_app (plain_rule (codes "digits"))) (plain_rule (codes "rows"))

abbrev pub join_app : App
join_app = with_rule (with_rule small_app (plain_rule (codes "cells"))) (plain_rule (codes "workers"))

-- some word is `--`
abbrev pub has_dashes : List Text → Bool
has_dashes words = list_any (λ word. bytes_eq word (codes "--")) words

-- the faults that clap finds in the words after the command, by its own account
unfoldable pub clap_faults : List Text → Kinds
clap_faults words = fault_of join_app words

-- the value that it then holds for an option
unfoldable pub clap_value : Text → List Text → Option Text
clap_value id words = first_of id (matches_of join_app words)
