use Rattle.std.proofs.Common.{◌≤◌, refl, sym, ap, subst, arith}
use Rattle.act_super.specs.declared.entry.Entry.TheVariants.{DropZone}
use Rattle.act_super.specs.Histories.{is_update}
use Rattle.act_index.specs.Whole.{Writing, parts}
use Rattle.act_index.specs.Calls.{IsGrown}
use Rattle.act_index.proofs.Carried.{counted_few, counted_more, grown_prepared}
use Rattle.act_index.proofs.writer.Writer.drop_zone.Goals as goal

pub overflow_add-self : goal.overflow_add-self
overflow_add-self g c =
    let s = c.self.inside in
    let d = c.carry-carried.new in
    let few = counted_few (parts s.master c.prepare_drop.new.self s.image s.pool) (parts d.master d.plain d.image d.pool) c.in-Ok.next.entry s.updates c.in-Ok-carried.ensures.ok (ap is_update c.in-Ok.ensures.ok.0) c.self.invariant.updates (let v = c.in-Ok-carried.ensures.version in let a = v.0 in let b = v.1 in omega arith) in
    omega arith

pub invariant_of-self-2 : goal.invariant_of-self-2
invariant_of-self-2 g c =
    let s = c.self.inside in
    let d = c.carry-carried.new in
    record {
      whole = c.carry-carried.ensures.whole;
      updates = counted_more (parts s.master c.prepare_drop.new.self s.image s.pool) (parts d.master d.plain d.image d.pool) c.in-Ok.next.entry s.updates c.in-Ok-carried.ensures.ok (ap is_update c.in-Ok.ensures.ok.0) c.self.invariant.updates;
      pins = subst (λ z. z ≤ 64) (sym c.in-Ok-carried.ensures.ok.pins) c.self.invariant.pins;
    }

pub returns-clause-ok : goal.returns-clause-ok
returns-clause-ok g c =
    let s = c.self.inside in
    let d = c.carry-carried.new in
    let w' : Writing = parts d.master d.plain d.image d.pool in (
      subst (λ (z : Writing). IsGrown z w' (DropZone c.args.key)) c.self.view_is (grown_prepared (parts s.master s.plain s.image s.pool) w' _ _ _ _ c.prepare_drop.ensures.same.0 c.prepare_drop.ensures.same.1 c.in-Ok.ensures.ok.0 c.in-Ok-carried.ensures.ok),
      record {
        version = c.in-Ok-carried.ensures.version.0;
        updates = counted_more (parts s.master c.prepare_drop.new.self s.image s.pool) w' c.in-Ok.next.entry s.updates c.in-Ok-carried.ensures.ok (ap is_update c.in-Ok.ensures.ok.0) c.self.invariant.updates;
        trained = refl;
      },
    )
