use Rattle.std.proofs.Common.{◌≡◌, ◌<◌, ◌≤◌, List, length, ap, sym, ◌∙◌, subst, arith}
use Rattle.act_grid.specs.Cell.{Address}
use Rattle.act_super.specs.declared.entry.Entry.TheVariants.{Train}
use Rattle.act_super.specs.States.{split_of}
use Rattle.act_super.specs.Training.{trained_more}
use Rattle.act_index.specs.Calls.{IsTrained}
use Rattle.act_index.specs.Whole.{Writing, parts}
use Rattle.act_index.proofs.Carried.{grown_prepared}
use Rattle.act_index.proofs.Training.{counted_same, trained_made}
use Rattle.act_index.proofs.writer.Writer.train.Goals as goal

pub invariant_of-self-2 : goal.invariant_of-self-2
invariant_of-self-2 g c =
    let s = c.self.inside in
    let d = c.carry-carried.new in
    let cells : List Address = trained_more s.plain.settings s.plain.state c.args.sample.now c.args.threshold in
    let grown = grown_prepared (parts s.master s.plain s.image s.pool) (parts d.master d.plain d.image d.pool) _ _ _ (Train cells) c.in-Ok.ensures.same.0 c.in-Ok.ensures.same.1 c.in-Ok.ensures.ok.0 c.in-Ok-carried.ensures.ok in
    record {
      whole = c.carry-carried.ensures.whole;
      updates = counted_same (parts s.master s.plain s.image s.pool) (parts d.master d.plain d.image d.pool) cells s.updates grown c.self.invariant.updates;
      pins = subst (λ z. z ≤ 64) (sym c.in-Ok-carried.ensures.ok.pins) c.self.invariant.pins;
    }

pub returns-clause-ok : goal.returns-clause-ok
returns-clause-ok g c =
    let s = c.self.inside in
    let d = c.carry-carried.new in
    let w' : Writing = parts d.master d.plain d.image d.pool in
    let cells : List Address = trained_more s.plain.settings s.plain.state c.args.sample.now c.args.threshold in
    let grown = grown_prepared (parts s.master s.plain s.image s.pool) w' _ _ _ (Train cells) c.in-Ok.ensures.same.0 c.in-Ok.ensures.same.1 c.in-Ok.ensures.ok.0 c.in-Ok-carried.ensures.ok in
    let split : c.split-split.result ≡ length cells = c.split-split.ensures ∙ ap split_of c.in-Ok.ensures.ok.0 in
    let some : 0 < c.split-split.result = (let differs = c.if-split-eq0.false in omega arith) in
    subst (λ (z : Writing). IsTrained z w' (trained_more z.settings z.state c.args.sample.now c.args.threshold) (record { version = c.in-Ok-carried.version; updates = s.updates; split = c.split-split.result })) c.self.view_is
    (trained_made (parts s.master s.plain s.image s.pool) w' cells (record { version = c.in-Ok-carried.version; updates = s.updates; split = c.split-split.result }) grown c.in-Ok-carried.ensures.version.0 c.self.invariant.updates split some)
