use Rattle.std.proofs.Common.{◌≤◌, sym, ap, subst}
use Rattle.act_rows.specs.declared.views.Desk.{Desk}
use Rattle.act_index.specs.Codes.{updates_in}
use Rattle.act_index.proofs.Opening.{means_first, whole_first}
use Rattle.act_index.proofs.writer.Writer.new.Goals as goal

pub invariant_of-result : goal.invariant_of-result
invariant_of-result c =
    let desk = c.in_ok-master.ensures in
    record {
      whole = whole_first c.in_ok-master.master c.args.settings c.args.pins c.new-plain.result c.in_ok-image.image c.in_ok-pool.pool c.in_ok-image.ensures desk c.new-plain.ensures.0 c.new-plain.ensures.1 c.in_ok-pool.ensures;
      updates = sym (ap (λ (z : Desk). updates_in z.history) desk);
      pins = subst (λ (z : Desk). z.pins ≤ 64) (sym desk) c.requires.1;
    }

pub new-requires-3-clause-fits : goal.new-requires-3-clause-fits
new-requires-3-clause-fits c = means_first c.args.settings c.in_ok-image.image c.args.settings.rows c.in_ok-image.ensures
