use Rattle.std.proofs.Common.{◌≡◌, ◌≤◌, sym, subst}
use Rattle.atomic_table.specs.Seated.{TableId}
use Rattle.act_rows.specs.declared.views.Desk.{Desk}
use Rattle.act_index.specs.Codes.{updates_in}
use Rattle.act_index.specs.Whole.{Writing, IsWhole, parts}
use Rattle.act_index.proofs.Carried.{whole_watched, watched_returned}
use Rattle.act_index.proofs.writer.Writer.give_back.Goals as goal

pub invariant_of-self : goal.invariant_of-self
invariant_of-self c =
    let s = c.self.inside in
    let w : Writing = parts s.master s.plain s.image s.pool in
    let table = c.take_back-buffers.ensures.same.0 in
    let desk = c.take_back-buffers.ensures.same.1 in
    record {
      whole = subst (λ (z : TableId × Desk). IsWhole (record w { table = z.0; desk = z.1 })) (λ i. (sym table i, sym desk i)) (whole_watched w _ c.self.invariant.whole (watched_returned s.master.desk c.args.reader.ticket));
      updates = subst (λ (z : Desk). s.updates ≡ updates_in z.history) (sym desk) c.self.invariant.updates;
      pins = subst (λ (z : Desk). z.pins ≤ 64) (sym desk) c.self.invariant.pins;
    }
