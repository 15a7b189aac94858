use Rattle.std.proofs.Common.{◌+◌, ◌*◌, sym, refl, ap, ◌∙◌, subst, arith}
use Rattle.act_rows.specs.declared.views.Desk.{Desk}
use Rattle.act_rows.specs.Updates.{stored}
use Rattle.act_image.specs.Pics.{Planned}
use Rattle.act_index.specs.Written.{Written}
use Rattle.act_index.proofs.Writing.{written_more}
use Rattle.act_index.proofs.put.write_all.Goals as goal

pub loop-place-preserved : goal.loop-place-preserved
loop-place-preserved g c =
    let p : Planned = c.args.plan.now in
    let i = c.loop-place.invariant in
    let low = c.loop-i-test.true in
    let need = c.need-i-end.ensures in
    let len = c.requires.len in
    let small = c.loop-place-test.true in
    let row = c.row-row.ensures in
    let t = i.ticks in
    let u = c.store.ensures.ticks in
    let more = written_more c.args.master.now.desk c.loop-place.master.desk p c.loop-i.i c.loop-place.place _ c.word-word.result i.written refl small (omega arith) c.requires.once (λ j h. (c.requires.may j (omega arith)).range) c.version-version.ensures.kept.deep c.word-word.ensures in
    record {
      table = c.store.ensures.same.0 ∙ i.table;
      written = subst (λ (z : Desk). Written c.args.master.now.desk z p (256 * c.loop-i.i + (c.loop-place.place + 1))) (sym (c.store.ensures.same.1 ∙ ap (λ z. stored c.loop-place.master.desk z c.loop-place.place c.word-word.result) row)) more;
      ticks = omega arith;
    }
