use Rattle.std.proofs.Common.{◌≡◌, ◌+◌, ap, arith, length, subst, sym, ◌<◌, ◌∙◌}
use Rattle.act_base.specs.Counting.{times}
use Rattle.act_super.specs.declared.entry.State.{State}
use Rattle.act_super.specs.States.{after}
use Rattle.act_image.specs.Pics.{Pic, Planned, layout_in, rows_in}
use Rattle.act_image.proofs.ServedFacts.{keys_after, old_keys, served_after}
use Rattle.act_image.proofs.SizeFacts.{walked_whole, whole_plan}
use Rattle.act_image.proofs.SlotFacts.{new_all}
use Rattle.act_image.proofs.image.Image.plan_whole.Goals as goal

pub returns : goal.returns
unfolding rows_in
returns c =
    let settings = c.args.state.now.settings in
    let old : State = c.args.state.now.state in
    let entry = c.args.next.now.entry in
    let new : State = after settings old entry in
    let ok = c.requires.next.accepted in
    let shows = c.requires.stands.1 in
    let served = served_after settings old entry shows.served ok c.change_is_sound.ensures.key c.change_is_sound.ensures.shape in
    let keys = keys_after settings old entry (old_keys settings c.requires.stands.0 c.args.self.now.root old (layout_in c.args.self.now) shows.by_rows) ok in
    let nodes = c.in_ok-nodes.nodes in
    let chains = c.in_ok-chains.chains in
    let q : Planned = c.in_ok-plan.plan in
    let made = c.in_ok-plan.ensures in
    let whole = walked_whole settings new nodes chains q c.in_ok-nodes.ensures c.in_ok-chains.ensures made.nodes made.under (omega (arith, made.list_rows, c.in_ok-lists.ensures.is, c.len.ensures)) made.spots made.lists made.chains made.bodies made.chain_rows in
    let slots = made.slots ∙ c.in_ok-slots.ensures.items_if_clones_equal (λ y h. h) ∙ new_all _ in
    let gone : q.gone ≡ rows_in c.args.self.now = made.gone ∙ c.in_ok-gone.ensures.items ∙ (c.as_slice.ensures.value ∙ ap (λ (z : Pic). z.rows) c.self.view_is) in
    let all : length q.slots ≡ length q.spots + length q.lists + length q.chain_rows =
    omega (arith, ap length made.slots, c.in_ok-slots.ensures.len, c.in_ok-lists.ensures.is, c.in_ok-fits.ensures.is, c.in_ok-count.ensures.is, c.len.ensures, c.len-2.ensures, c.len-3.ensures, ap length made.spots, ap length made.lists, ap length made.chain_rows) in
    let plan = whole_plan settings c.args.self.now q _ old new nodes.cells.items whole served keys
    (λ r some. shows.by_rows.low r (subst (λ v. 0 < times v r) (sym shows.rows) some)) gone slots all (made.need ∙ ap (λ v. length (Rattle.act_image.specs.Slots.new_places 0 v)) (sym made.slots)) in
    (plan.0, plan.1 ∙ sym c.requires.next.sized)
