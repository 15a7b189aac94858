use Rattle.std.proofs.Common.{◌∙◌}
use Rattle.act_words.proofs.FitsFacts.{faulty_kinds, taken_free, value_is}
use Rattle.act_words.proofs.options.parse_options.Goals as goal

pub returns-in-Ok-try_get_matches_from-clause-free : goal.returns-in-Ok-try_get_matches_from-clause-free
returns-in-Ok-try_get_matches_from-clause-free c _ = taken_free _ _ c.in-Ok.ensures c.in-Ok-try_get_matches_from.ensures.kinds

pub returns-in-Ok-try_get_matches_from-clause-digits : goal.returns-in-Ok-try_get_matches_from-clause-digits
returns-in-Ok-try_get_matches_from-clause-digits c = c.get_str.ensures ∙ value_is _ _ _ _ c.in-Ok.ensures c.in-Ok-try_get_matches_from.ensures.matches

pub returns-in-Ok-try_get_matches_from-clause-rows : goal.returns-in-Ok-try_get_matches_from-clause-rows
returns-in-Ok-try_get_matches_from-clause-rows c = c.get_str-in-Ok-try_get_matches_from.ensures ∙ value_is _ _ _ _ c.in-Ok.ensures c.in-Ok-try_get_matches_from.ensures.matches

pub returns-in-Ok-try_get_matches_from-clause-cells : goal.returns-in-Ok-try_get_matches_from-clause-cells
returns-in-Ok-try_get_matches_from-clause-cells c = c.get_str-in-Ok-try_get_matches_from-2.ensures ∙ value_is _ _ _ _ c.in-Ok.ensures c.in-Ok-try_get_matches_from.ensures.matches

pub returns-in-Ok-try_get_matches_from-clause-workers : goal.returns-in-Ok-try_get_matches_from-clause-workers
returns-in-Ok-try_get_matches_from-clause-workers c = c.get_str-in-Ok-try_get_matches_from-3.ensures ∙ value_is _ _ _ _ c.in-Ok.ensures c.in-Ok-try_get_matches_from.ensures.matches

pub returns-clause-none : goal.returns-clause-none
returns-clause-none c _ = faulty_kinds _ _ c.in-Err.error c.in-Ok.ensures c.in-Err.ensures.kinds (λ q. c.in_default-kind.not-OutOfMemory (c.kind.ensures ∙ q))
