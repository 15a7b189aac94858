use Rattle.std.proofs.Common.{◌≡◌, ◌+◌, ap, arith, length, ◌∙◌}
use Rattle.act_super.specs.Sizes.{refs_of}
use Rattle.act_super.specs.Stands.{entry_for}
use Rattle.act_super.specs.States.{changed}
use Rattle.act_image.specs.Plans.{found_refs, put_list, refs_on, start_at}
use Rattle.act_image.proofs.BuildFacts.{refs_found}
use Rattle.act_image.proofs.PackFacts.{refs_length}
use Rattle.act_image.proofs.walk.leaf_part.Goals as goal

pub returns-clause-spot : goal.returns-clause-spot
returns-clause-spot c =
    let zones = changed c.args._state.now.state.zones c.args._next.now.entry in
    let leaf = c.args.leaf in
    let refs : c.in_ok-refs.refs.items ≡ refs_on zones leaf =
    c.in_ok-refs.ensures ∙ ap (found_refs c.args.places.now) (c.as_slice.ensures ∙ c.requires.refs) ∙ refs_found zones c.args.places.now leaf c.requires.places in
    let count : c.in_ok-count.count ≡ length (refs_of zones leaf) = omega (arith, c.in_ok-count.ensures.is, c.len.ensures, ap length refs, refs_length zones leaf) in
    let row : c.in_ok-row.row ≡ c.args.base + (start_at c.args.fill.now (length (refs_of zones leaf))).row =
    omega (arith, c.in_ok-row.ensures.is, c.start-start.ensures.row, ap (λ n. (start_at c.args.fill.now n).row) count) in
    let place : c.start-start.result.place ≡ (start_at c.args.fill.now (length (refs_of zones leaf))).place = c.start-start.ensures.place ∙ ap (λ n. (start_at c.args.fill.now n).place) count in
    let entry : c.entry_for.result ≡ entry_for (refs_on zones leaf) (c.args.base + (start_at c.args.fill.now (length (refs_of zones leaf))).row) (start_at c.args.fill.now (length (refs_of zones leaf))).place =
    c.entry_for.ensures ∙ (λ i. entry_for ((c.as_slice-3.ensures.value ∙ refs) i) (row i) (place i)) in
    λ i. record { first = c.slot-slot.ensures.first i; count = c.slot-slot.ensures.count i; entry = entry i }

pub returns-clause-rows : goal.returns-clause-rows
returns-clause-rows c =
    let zones = changed c.args._state.now.state.zones c.args._next.now.entry in
    let leaf = c.args.leaf in
    let refs : c.in_ok-refs.refs.items ≡ refs_on zones leaf =
    c.in_ok-refs.ensures ∙ ap (found_refs c.args.places.now) (c.as_slice.ensures ∙ c.requires.refs) ∙ refs_found zones c.args.places.now leaf c.requires.places in
    let count : c.in_ok-count.count ≡ length (refs_of zones leaf) = omega (arith, c.in_ok-count.ensures.is, c.len.ensures, ap length refs, refs_length zones leaf) in
    c.in_ok-put_list.ensures ∙ (λ i. put_list c.args.fill.now (count i) c.args.rows.now.items ((c.as_slice-2.ensures.value ∙ refs) i))
