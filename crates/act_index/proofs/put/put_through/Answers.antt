use Rattle.std.proofs.Common.{◌≡◌, ◌+◌, ◌++◌, sym, ap, ◌∙◌, subst, arith}
use Rattle.atomic_table.specs.Seated.{TableId}
use Rattle.act_grid.specs.declared.Settings.{Settings}
use Rattle.act_super.specs.declared.entry.State.{State}
use Rattle.act_rows.specs.declared.views.Desk.{Desk}
use Rattle.act_rows.specs.Versions.{newest}
use Rattle.act_image.specs.Pics.{Pic}
use Rattle.act_index.specs.Whole.{Writing, IsWhole, parts}
use Rattle.act_index.specs.Calls.{IsGrown}
use Rattle.act_index.specs.Written.{paired}
use Rattle.act_index.proofs.Carried.{ready_may, ready_publish, ready_retire, ready_range, ready_last, ready_whole, ready_grown}
use Rattle.act_index.proofs.put.put_through.Goals as goal

pub write_all-requires-clause-may : goal.write_all-requires-clause-may
write_all-requires-clause-may g c = ready_may (parts c.args.master.now c.args.plain.now c.args.image.now c.args.pool.now) c.args.plan c.args.next.entry c.requires.ready c.version-version.ensures.kept

pub renew-requires : goal.renew-requires
renew-requires g c =
    ready_publish (parts c.args.master.now c.args.plain.now c.args.image.now c.args.pool.now) c.args.plan c.args.next.entry c.requires.ready c.version-version.ensures.kept
    c.write_all.new.master.desk c.write_all.ensures.written c.requires.few c.requires.allowed

pub retire_all-requires-clause-once : goal.retire_all-requires-clause-once
retire_all-requires-clause-once g c = ready_retire (parts c.args.master.now c.args.plain.now c.args.image.now c.args.pool.now) c.args.plan c.args.next.entry c.requires.ready c.version-version.ensures.kept

pub retire_all-requires-clause-range : goal.retire_all-requires-clause-range
retire_all-requires-clause-range g c = ready_range (parts c.args.master.now c.args.plain.now c.args.image.now c.args.pool.now) c.args.plan c.args.next.entry c.requires.ready c.version-version.ensures.kept

pub retire_all-requires-clause-last : goal.retire_all-requires-clause-last
retire_all-requires-clause-last g c =
    let v = c.version-version.ensures.version in
    ready_last (parts c.args.master.now c.args.plain.now c.args.image.now c.args.pool.now) c.args.plan c.args.next.entry c.requires.ready c.version-version.ensures.kept (c.version-version.result + 1) (omega arith)

pub returns-clause-whole : goal.returns-clause-whole
returns-clause-whole g c =
    let w : Writing = parts c.args.master.now c.args.plain.now c.args.image.now c.args.pool.now in
    let table : c.renew.new.master.table ≡ w.table = c.renew.ensures.table ∙ c.write_all.ensures.table in
    let pool : c.retire_all.new.pool ≡ record w.pool { retired = w.pool.retired ++ paired c.args.plan.gone (newest w.desk + 1) }
    = c.retire_all.ensures ∙ ap (λ z. record w.pool { retired = w.pool.retired ++ paired c.args.plan.gone (z + 1) }) c.version-version.ensures.version in
    subst (λ (z : TableId × Desk × Settings × State × Pic). IsWhole (record { table = z.0; desk = z.1; settings = z.2; state = z.3; pic = z.4; pool = c.retire_all.new.pool }))
    (λ i. (sym table i, sym c.renew.ensures.desk i, sym c.commit.ensures.0 i, sym c.commit.ensures.1 i, sym c.install.ensures i))
    (ready_whole w c.args.plan c.args.next.entry c.requires.ready c.version-version.ensures.kept c.write_all.new.master.desk c.retire_all.new.pool c.write_all.ensures.written c.requires.allowed pool)

pub returns-clause-grown : goal.returns-clause-grown
returns-clause-grown g c =
    let w : Writing = parts c.args.master.now c.args.plain.now c.args.image.now c.args.pool.now in
    let table : c.renew.new.master.table ≡ w.table = c.renew.ensures.table ∙ c.write_all.ensures.table in
    subst (λ (z : TableId × Desk × Settings × State × Pic). IsGrown w (record { table = z.0; desk = z.1; settings = z.2; state = z.3; pic = z.4; pool = c.retire_all.new.pool }) c.args.next.entry)
    (λ i. (sym table i, sym c.renew.ensures.desk i, sym c.commit.ensures.0 i, sym c.commit.ensures.1 i, sym c.install.ensures i))
    (ready_grown w c.args.plan c.args.next.entry c.requires.ready c.version-version.ensures.kept c.write_all.new.master.desk c.retire_all.new.pool c.write_all.ensures.written c.requires.allowed)
