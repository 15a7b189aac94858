use Rattle.std.proofs.Common.{◌∙◌, codes, map, string_bytes, refl, sym}
use Rattle.std.specs.Str.{bytes_eq}
use Rattle.act_words.proofs.FitsFacts.{any_text, dashes_unfit, demo_fit_by, demo_unfit}
use Rattle.act_words.proofs.words.parse_demo_settings.Goals as goal

pub returns-then-is_dashed : goal.returns-then-is_dashed
returns-then-is_dashed c =
    sym (demo_unfit (map string_bytes c.args.options.now) (dashes_unfit (map string_bytes c.args.options.now)
    (sym (any_text string_bytes (λ w. bytes_eq w (codes "--")) c.args.options.now) ∙ sym c.is_dashed.ensures ∙ c.if-is_dashed.true)))

pub returns-in-Some : goal.returns-in-Some
returns-in-Some c =
    let values = rw c.in-Some.is at c.in_ok-values.ensures in
    c.demo_settings.ensures ∙ demo_fit_by (map string_bytes c.args.options.now) _ _ _ _
    (sym (any_text string_bytes (λ w. bytes_eq w (codes "--")) c.args.options.now) ∙ sym c.is_dashed.ensures ∙ c.if-is_dashed.false)
    (values.free refl) values.digits values.rows values.cells values.workers
