use Rattle.std.proofs.Common.{◌≡◌, ◌++◌, length, sym, ap, ◌∙◌, subst, arith}
use Rattle.std.proofs.lemmas.List.{with_items_is}
use Rattle.atomic_table.specs.Seated.{TableId}
use Rattle.act_super.specs.States.{after}
use Rattle.act_rows.specs.declared.views.Desk.{Desk}
use Rattle.act_pool.specs.Pooled.{Pooled}
use Rattle.act_index.specs.Whole.{Writing, IsWhole, parts}
use Rattle.act_index.specs.Calls.{IsHeldBy}
use Rattle.act_index.specs.Written.{IsReady}
use Rattle.act_index.proofs.Carried.{stands_now, whole_looked, held_by, ready}
use Rattle.act_index.proofs.carry.carry.Goals as goal

pub plan_path-requires-clause-stands : goal.plan_path-requires-clause-stands
plan_path-requires-clause-stands g c = stands_now (parts c.args.master.now c.args.plain.now c.args.image.now c.args.pool.now) c.requires.whole c.version-version.ensures.kept

pub returns-in_default-take-clause-whole : goal.returns-in_default-take-clause-whole
returns-in_default-take-clause-whole g c =
    let w : Writing = parts c.args.master.now c.args.plain.now c.args.image.now c.args.pool.now in
    let look = c.look_at_all-lowest.ensures in
    let e = c.in_default-take.ensures.err in
    subst (λ (z : TableId × Pooled). IsWhole (record w { table = z.0; desk = c.look_at_all-lowest.new.master.desk; pool = z.1 })) (λ i. (sym look.table i, sym e.2 i))
    (whole_looked w c.look_at_all-lowest.new.master.desk c.look_at_all-lowest.result.bound c.reclaim.new.self c.requires.whole look.watched look.least c.reclaim.ensures)

pub returns-in_default-take-clause-err : goal.returns-in_default-take-clause-err
returns-in_default-take-clause-err g c =
    let w : Writing = parts c.args.master.now c.args.plain.now c.args.image.now c.args.pool.now in
    let look = c.look_at_all-lowest.ensures in
    let d : Desk = c.look_at_all-lowest.new.master.desk in
    let e = c.in_default-take.ensures.err in
    let slice = ap length c.as_mut_slice.ensures.value in
    let wide = c.in-Ok-from_elem.ensures.len in
    let need = c.need.ensures in
    let short = e.1 in
    let pinned = c.version-version.ensures.kept.pinned in
    let many = look.watched.as_many in
    let held : IsHeldBy w (record w { desk = d; pool = c.reclaim.new.self }) c.args.next.entry c.look_at_all-lowest.result.reader c.look_at_all-lowest.result.bound c.look_at_all-lowest.result.word
    = held_by w d c.look_at_all-lowest.result.bound c.reclaim.new.self c.requires.whole look.watched look.least c.reclaim.ensures
    c.look_at_all-lowest.result.reader c.look_at_all-lowest.result.word c.in-Ok.plan.need w.desk.pins c.args.next.entry look.found (omega arith) (omega arith) c.in-Ok.ensures.1.0 c.requires.next.within.rows in (
      c.requires.next.accepted,
      subst (λ (z : TableId × Pooled). IsHeldBy w (record w { table = z.0; desk = d; pool = z.1 }) c.args.next.entry c.look_at_all-lowest.result.reader c.look_at_all-lowest.result.bound c.look_at_all-lowest.result.word) (λ i. (sym look.table i, sym e.2 i)) held,
    )

pub put_through-requires-clause-ready : goal.put_through-requires-clause-ready
put_through-requires-clause-ready g c =
    let w : Writing = parts c.args.master.now c.args.plain.now c.args.image.now c.args.pool.now in
    let look = c.look_at_all-lowest.ensures in
    let d : Desk = c.look_at_all-lowest.new.master.desk in
    let ok = c.in-Ok-take.ensures.ok in
    let wide = c.as_mut_slice.ensures.len in
    let rows : c.as_slice.result.now ≡ c.take.new.out = c.as_slice.ensures.value ∙ with_items_is c.in-Ok-from_elem.rows c.take.new.out (omega arith) in
    subst (λ (z : TableId). IsReady (record w { table = z; desk = d; pool = c.take.new.self }) c.bind.new.self c.args.next.entry) (sym look.table)
    (ready w d c.look_at_all-lowest.result.bound c.reclaim.new.self c.requires.whole look.watched look.least c.reclaim.ensures
    c.take.new.self c.in-Ok.plan c.bind.new.self c.as_slice.result.now c.args.next.entry c.free-free.ensures.tidy (ok.0 ∙ ap (λ z. c.take.new.self.free ++ z) (sym rows)) ok.1 c.in-Ok-take.ensures.rows
    c.in-Ok.ensures.0 (λ p f. c.bind.ensures.bound w.settings w.pic w.state (after w.settings w.state c.args.next.entry) p f) c.bind.ensures.rows)
