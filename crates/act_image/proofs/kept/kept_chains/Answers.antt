use Rattle.std.proofs.Common.{◌≡◌, ◌∙◌, ap, sym, subst, Some}
use Rattle.std.specs.Option.{option_copied}
use Rattle.act_super.specs.States.{changed, shape_of}
use Rattle.act_image.specs.Kept.{IsKeptChains, old_chain}
use Rattle.act_image.proofs.ChainFacts.{dropped_zones, equal_key, has_none, none_changed, reshaped_zones, trained_zones, with_zones}
use Rattle.act_image.proofs.kept.kept_chains.Goals as goal

pub kept_with-requires-clause-free : goal.kept_with-requires-clause-free
kept_with-requires-clause-free c = λ i low.
    equal_key c.args.next.now.entry c.in-Some.key _ (sym c.key.ensures ∙ c.in-Some.is) ∙ has_none c.in-Some.key c.args.state.now.state.zones i (sym c.stands.ensures ∙ c.if-stands.false) low

pub keep_rest-requires-clause-free : goal.keep_rest-requires-clause-free
keep_rest-requires-clause-free c = λ i low. none_changed c.args.next.now.entry _ (sym c.key.ensures ∙ c.in_default.is)

pub returns-in_default : goal.returns-in_default
returns-in_default c = λ shape own.
    let e = c.args.next.now.entry in
    let chain = old_chain c.args.old.places.now c.args.old.rows.now c.args.old.from in
    subst (λ v. IsKeptChains chain e shape v c.keep_rest.new.self) (sym (trained_zones e c.args.state.now.state.zones (sym c.key.ensures ∙ c.in_default.is)))
    (c.in_ok-keep_rest.ensures shape _ (c.new-chains.ensures chain e shape))

pub returns-in_default-shape : goal.returns-in_default-shape
returns-in_default-shape c = λ shape own.
    let e = c.args.next.now.entry in
    let chain = old_chain c.args.old.places.now c.args.old.rows.now c.args.old.from in
    subst (λ v. IsKeptChains chain e shape v c.in_ok-chains.chains) (sym (dropped_zones e c.args.state.now.state.zones c.in-Some.key (sym c.key.ensures ∙ c.in-Some.is) (sym c.shape.ensures ∙ ap option_copied c.in_default-shape.is)))
    (c.in_ok-chains.ensures shape)

pub returns-then-stands : goal.returns-then-stands
returns-then-stands c = λ shape own.
    let e = c.args.next.now.entry in
    let chain = old_chain c.args.old.places.now c.args.old.rows.now c.args.old.from in
    let shape_is : shape_of e ≡ Some c.in-Some-shape.shape.now = sym c.shape.ensures ∙ ap option_copied c.in-Some-shape.is in
    subst (λ s. IsKeptChains chain e s (changed c.args.state.now.state.zones e) c.in_ok-chains-2.chains) (own c.in-Some-shape.shape.now shape_is)
    (subst (λ v. IsKeptChains chain e c.in-Some-shape.shape.now v c.in_ok-chains-2.chains)
    (sym (reshaped_zones c.args.state.now.settings c.args.state.now.state e c.in-Some.key c.in-Some-shape.shape.now c.requires.prepared.accepted (sym c.key.ensures ∙ c.in-Some.is) shape_is (sym c.stands.ensures ∙ c.if-stands.true))) c.in_ok-chains-2.ensures)

pub returns : goal.returns
returns c = λ shape own.
    let e = c.args.next.now.entry in
    let chain = old_chain c.args.old.places.now c.args.old.rows.now c.args.old.from in
    let shape_is : shape_of e ≡ Some c.in-Some-shape.shape.now = sym c.shape.ensures ∙ ap option_copied c.in-Some-shape.is in
    subst (λ s. IsKeptChains chain e s (changed c.args.state.now.state.zones e) c.in_ok-chains-3.chains) (own c.in-Some-shape.shape.now shape_is)
    (subst (λ v. IsKeptChains chain e c.in-Some-shape.shape.now v c.in_ok-chains-3.chains)
    (sym (with_zones c.args.state.now.settings c.args.state.now.state e c.in-Some.key c.in-Some-shape.shape.now c.requires.prepared.accepted (sym c.key.ensures ∙ c.in-Some.is) shape_is (sym c.stands.ensures ∙ c.if-stands.false))) c.in_ok-chains-3.ensures)
