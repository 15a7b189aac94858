use Rattle.std.proofs.Common.{arith, ◌≡◌, ◌+◌, length, sym, ap, ◌∙◌, subst}
use Rattle.act_rows.specs.Tokens.{Mastered}
use Rattle.act_rows.specs.Versions.{newest}
use Rattle.act_rows_uses.proofs.Filling.{IsFresh}
use Rattle.act_rows_uses.proofs.turns.write_all.Goals as goal

pub loop-row-preserved : goal.loop-row-preserved
loop-row-preserved g c =
    let i = c.loop-row.invariant in
    let a = c.advance.ensures in
    let noted : c.note.new.self ≡ c.advance.new.master = c.note.ensures.0 in
    let w = c.look_at_all-lowest.ensures.watched in
    let versions = w.versions ∙ ap (λ (z : Mastered). z.desk.versions) noted in
    let rows = w.rows ∙ ap (λ (z : Mastered). z.desk.rows) noted in
    let newer : newest c.look_at_all-lowest.new.master.desk ≡ newest c.advance.new.master.desk = ap length w.history ∙ ap (λ (z : Mastered). newest z.desk) noted in
    let version_is = a.version in
    let before = i.version in
    record {
      tables = (c.look_at_all-lowest.ensures.table ∙ (ap (λ (z : Mastered). z.table) noted ∙ (a.table ∙ i.tables.0)), c.read-number.ensures.table ∙ (ap (λ z. z.table) c.learn.ensures.same ∙ i.tables.1));
      rows = rows ∙ (a.sizes.0 ∙ i.rows);
      fresh = subst (λ z. IsFresh z (c.loop-row.row + 1)) (sym versions) a.fresh;
      version = omega arith;
    }
