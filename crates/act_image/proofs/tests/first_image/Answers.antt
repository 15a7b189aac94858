use Rattle.std.proofs.Common.{◌≤◌, ap, arith, length, ◌∙◌}
use Rattle.act_base.specs.Counting.{from}
use Rattle.act_base.proofs.Times.{length-from}
use Rattle.act_super.specs.States.{after}
use Rattle.act_image.proofs.FirstFacts.{first_shown, first_stands}
use Rattle.act_image.proofs.tests.first_image.Goals as goal

pub plan_whole-requires-clause-stands : goal.plan_whole-requires-clause-stands
plan_whole-requires-clause-stands c = first_shown c.args.state.now.settings c.in_ok-image.image c.args.state.now.state c.in_ok-image.ensures c.requires.empty

pub bind-requires : goal.bind-requires
bind-requires c = ap length (c.as_slice.ensures.value ∙ c.in_ok-rows.ensures) ∙ length-from 2 c.need-need.result ∙ c.need-need.ensures

pub returns : goal.returns
returns c =
    let settings = c.args.state.now.settings in
    let new = after settings c.args.state.now.state c.args.next.now.entry in
    let few : c.in_ok-plan.plan.need ≤ 1000 = omega (arith, c.need-need.ensures, c.if-need-gt1000.false) in
    let rows = c.as_slice.ensures.value ∙ c.in_ok-rows.ensures ∙ ap (from 2) c.need-need.ensures in
    first_stands settings c.in_ok-image.image c.in_ok-plan.plan c.bind.new.self c.args.state.now.state new c.as_slice.result.now c.in_ok-image.ensures c.requires.empty c.in_ok-plan.ensures.0
    c.bind.ensures.given (ap length rows ∙ length-from 2 c.in_ok-plan.plan.need) rows few
