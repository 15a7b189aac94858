use Rattle.std.proofs.Common.{◌≡◌, ◌≤◌, ap, arith, length, subst, sym, ◌∙◌}
use Rattle.act_base.specs.Counting.{from}
use Rattle.act_base.specs.Sight.{Sight}
use Rattle.act_base.proofs.Times.{length-from}
use Rattle.act_grid.specs.declared.Settings.{Settings}
use Rattle.act_super.specs.declared.entry.State.{State}
use Rattle.act_super.specs.States.{after}
use Rattle.act_image.specs.Pics.{IsBound, Pic, Planned, Shows, installed, with_numbers}
use Rattle.act_image.proofs.FirstFacts.{first_bound, first_settled, first_shown}
use Rattle.act_image.proofs.tests.settled.Goals as goal

pub plan_path-requires-clause-stands : goal.plan_path-requires-clause-stands
plan_path-requires-clause-stands c = first_shown c.args.state.now.settings c.in_ok-image.image c.args.state.now.state c.in_ok-image.ensures c.requires.empty

pub bind-requires : goal.bind-requires
bind-requires c = ap length (c.as_slice.ensures.value ∙ c.in_ok-rows.ensures) ∙ length-from 2 c.need-need.result ∙ c.need-need.ensures

pub install-requires : goal.install-requires
install-requires c =
    let settings = c.args.state.now.settings in
    let state : State = c.args.state.now.state in
    let new : State = after settings c.args.state.now.state c.args.next.entry in
    let few : c.in_ok-plan.plan.need ≤ 1000 = omega (arith, c.need-need.ensures, c.if-need-gt1000.false) in
    let rows = c.as_slice.ensures.value ∙ c.in_ok-rows.ensures ∙ ap (from 2) c.need-need.ensures in (
      settings,
      state,
      new,
      subst (λ (z : Planned). IsBound settings c.in_ok-image.image z state new) (sym c.bind.ensures.given)
          (first_bound settings c.in_ok-image.image c.in_ok-plan.plan state new c.as_slice.result.now c.in_ok-image.ensures c.requires.empty c.in_ok-plan.ensures.0 (ap length rows ∙ length-from 2 c.in_ok-plan.plan.need) rows few),
    )

pub returns-clause-image : goal.returns-clause-image
returns-clause-image c =
    let settings = c.args.state.now.settings in
    let state : State = c.args.state.now.state in
    let new : State = after settings c.args.state.now.state c.args.next.entry in
    let few : c.in_ok-plan.plan.need ≤ 1000 = omega (arith, c.need-need.ensures, c.if-need-gt1000.false) in
    let rows = c.as_slice.ensures.value ∙ c.in_ok-rows.ensures ∙ ap (from 2) c.need-need.ensures in
    let settled = first_settled settings c.in_ok-image.image c.in_ok-plan.plan state new c.as_slice.result.now c.in_ok-image.ensures c.requires.empty c.in_ok-plan.ensures.0 (ap length rows ∙ length-from 2 c.in_ok-plan.plan.need) rows few in
    let image = c.install.ensures ∙ ap (installed c.in_ok-image.image) c.bind.ensures.given in
    let now = c.commit.new.self in
    let stands = subst (λ (k : Settings). Shows k (installed c.in_ok-image.image (with_numbers c.in_ok-plan.plan c.as_slice.result.now)) settled.0 new) (sym c.commit.ensures.0) settled.1 in
    let shown = subst (λ (s : State). Shows now.settings (installed c.in_ok-image.image (with_numbers c.in_ok-plan.plan c.as_slice.result.now)) settled.0 s) (sym c.commit.ensures.1) stands in
    (settled.0, subst (λ (z : Pic). Shows now.settings z settled.0 now.state) (sym image) shown)
