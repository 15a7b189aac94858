use Rattle.std.proofs.Common.{◌≡◌, ◌++◌, ◌+◌, ◌∙◌, ◌<◌, ◌≤◌, None, take, drop, length, length-drop, sym, ap, arith, refl}
use Rattle.std.specs.Prelude.{slice_range}
use Rattle.act_script.specs.Cutting.{Cutting}
use Rattle.act_script.specs.Cutter.{cutting_of}
use Rattle.act_script.proofs.LineFacts.{added, long_cause, part_feed, part_taken}
use Rattle.act_script.proofs.cutter.Cutter.take.Goals as goal

pub returns-then-len-start-gt-MOST_BYTES-clause-cause :
    goal.returns-then-len-start-gt-MOST_BYTES-clause-cause
returns-then-len-start-gt-MOST_BYTES-clause-cause c =
    let none : c.self.inside.fault ≡ None = cc in
    let piece = c.args.piece.now in
    let size = c.line_len-size.result in
    let held : c.deref.result.now ≡ c.self.inside.held.items ++ take size piece =
    c.deref.ensures.value
    ∙ added c.extend_from_slice.result c.self.inside.held.items (take size piece) c.extend_from_slice.new.self.items
    (sym c.is_err.ensures.value ∙ c.if-is_err.false) c.extend_from_slice.ensures.items in
    let long : 16777216 < length (drop c.mark_len-start.result c.deref.result.now) = omega (arith, length-drop c.mark_len-start.result c.deref.result.now) in
    rw (c.stop-then-len-start-gt-MOST_BYTES.ensures.same, ← c.self.view_is)
    (long_cause (cutting_of c.self.inside) piece c.deref.result.now size c.mark_len-start.result none c.self.invariant.open_held c.if-self.false
    c.line_len-size.ensures held c.mark_len-start.ensures.rest long)

pub returns-clause-takes : goal.returns-clause-takes
returns-clause-takes c =
    let none : c.self.inside.fault ≡ None = cc in
    let piece = c.args.piece.now in
    let size = c.line_len-size.result in
    let start = c.mark_len-start.result in
    let bytes = c.extend_from_slice.new.self.items in
    let new : Cutting = record { number = c.self.inside.number + 1; held = c.clear.new.self.items; line = slice_range c.swap.new.y.items start c.line_end-self-inside.result; fault = c.self.inside.fault } in
    let held : bytes ≡ c.self.inside.held.items ++ take size piece =
    added c.extend_from_slice.result c.self.inside.held.items (take size piece) bytes
    (sym c.is_err.ensures.value ∙ c.if-is_err.false) c.extend_from_slice.ensures.items in
    let feed : size < length piece = omega (arith, c.line_len-size.ensures.within, c.if-size-piece.false) in
    let short : length (drop start bytes) ≤ 16777216 = omega (arith, length-drop start bytes) in
    let mark = rw c.deref.ensures.value at c.mark_len-start.ensures.rest in
    let line = rw c.deref-2.ensures.value at c.line_end-self-inside.ensures.line in
    let last = ap (λ v. slice_range v.items start c.line_end-self-inside.result) c.swap.ensures.y_after in (
      rw (← c.self.view_is) refl,
      omega arith,
      omega arith,
      (take size piece, part_feed piece size c.line_len-size.ensures feed),
      c.clear.ensures.items,
      rw (← c.self.view_is)
          (part_taken (cutting_of c.self.inside) new piece bytes size start c.line_end-self-inside.result none c.self.invariant.open_held c.if-self.false c.line_len-size.ensures
          feed held mark short line refl c.clear.ensures.items none last),
    )
