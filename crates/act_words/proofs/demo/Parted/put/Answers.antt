use Rattle.std.proofs.Common.{true, false, ◌≡◌, ◌∷◌, [], ◌∙◌, ap, sym, refl, append_assoc, string_bytes}
use Rattle.act_words.specs.declared.kind.WordKind.TheVariants as kind
use Rattle.act_words.specs.Words.{kind_of, option_words, plain_words}
use Rattle.act_words.proofs.demo.Parted.put.Goals as goal

pub returns-then-waits-clause-options : goal.returns-then-waits-clause-options
returns-then-waits-clause-options c = λ more. rw (c.if-waits.true, c.in_ok-push.ensures) (append_assoc _ (string_bytes c.args.word.now ∷ []) (option_words false more))

pub returns-then-waits-clause-plain : goal.returns-then-waits-clause-plain
returns-then-waits-clause-plain c = λ more. rw c.if-waits.true refl

pub returns-in_ok-push-in-Plain-clause-options : goal.returns-in_ok-push-in-Plain-clause-options
returns-in_ok-push-in-Plain-clause-options c = λ more.
    let k : kind_of (string_bytes c.args.word.now) ≡ kind.Plain = ap kind_of (sym c.as_bytes.ensures.value) ∙ (sym c.kind_of.ensures ∙ c.in-Plain.is) in
    rw (c.if-waits.false, k) refl

pub returns-in_ok-push-in-Plain-clause-plain : goal.returns-in_ok-push-in-Plain-clause-plain
returns-in_ok-push-in-Plain-clause-plain c = λ more.
    let k : kind_of (string_bytes c.args.word.now) ≡ kind.Plain = ap kind_of (sym c.as_bytes.ensures.value) ∙ (sym c.kind_of.ensures ∙ c.in-Plain.is) in
    rw (c.if-waits.false, k, c.in_ok-push-in-Plain.ensures) (append_assoc _ (string_bytes c.args.word.now ∷ []) (plain_words false more))

pub returns-in_ok-push-in-Name-clause-options : goal.returns-in_ok-push-in-Name-clause-options
returns-in_ok-push-in-Name-clause-options c = λ more.
    let k : kind_of (string_bytes c.args.word.now) ≡ kind.Name = ap kind_of (sym c.as_bytes.ensures.value) ∙ (sym c.kind_of.ensures ∙ c.in-Name.is) in
    rw (c.if-waits.false, k, c.in_ok-push-in-Name.ensures) (append_assoc _ (string_bytes c.args.word.now ∷ []) (option_words true more))

pub returns-in_ok-push-in-Name-clause-plain : goal.returns-in_ok-push-in-Name-clause-plain
returns-in_ok-push-in-Name-clause-plain c = λ more.
    let k : kind_of (string_bytes c.args.word.now) ≡ kind.Name = ap kind_of (sym c.as_bytes.ensures.value) ∙ (sym c.kind_of.ensures ∙ c.in-Name.is) in
    rw (c.if-waits.false, k) refl

pub returns-in_ok-push-in-Whole-clause-options : goal.returns-in_ok-push-in-Whole-clause-options
returns-in_ok-push-in-Whole-clause-options c = λ more.
    let k : kind_of (string_bytes c.args.word.now) ≡ kind.Whole = ap kind_of (sym c.as_bytes.ensures.value) ∙ (sym c.kind_of.ensures ∙ c.in-Whole.is) in
    rw (c.if-waits.false, k, c.in_ok-push-in-Whole.ensures) (append_assoc _ (string_bytes c.args.word.now ∷ []) (option_words false more))

pub returns-in_ok-push-in-Whole-clause-plain : goal.returns-in_ok-push-in-Whole-clause-plain
returns-in_ok-push-in-Whole-clause-plain c = λ more.
    let k : kind_of (string_bytes c.args.word.now) ≡ kind.Whole = ap kind_of (sym c.as_bytes.ensures.value) ∙ (sym c.kind_of.ensures ∙ c.in-Whole.is) in
    rw (c.if-waits.false, k) refl
