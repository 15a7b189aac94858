use Rattle.std.proofs.Common.{◌≡◌, ◌+◌, ◌<◌, None, length, refl, ap, arith}
use Rattle.std.specs.Prelude.{slice_range}
use Rattle.act_script.specs.Cutting.{Cutting}
use Rattle.act_script.specs.Cutter.{cutting_of}
use Rattle.act_script.proofs.LineFacts.{none_left, last_taken}
use Rattle.act_script.proofs.cutter.Cutter.finish.Goals as goal

pub returns-then-len-start-clause-takes : goal.returns-then-len-start-clause-takes
returns-then-len-start-clause-takes c =
    let none : c.self.inside.fault ≡ None = cc in
    let mark = rw c.deref.ensures.value at c.mark_len-start.ensures.rest in
    (refl, rw (← c.self.view_is) (none_left (cutting_of c.self.inside) c.mark_len-start.result none mark (omega arith)))

pub returns-clause-takes : goal.returns-clause-takes
returns-clause-takes c =
    let none : c.self.inside.fault ≡ None = cc in
    let start = c.mark_len-start.result in
    let new : Cutting = record { number = c.self.inside.number + 1; held = c.clear.new.self.items; line = slice_range c.swap.new.y.items start c.line_end-self-inside.result; fault = c.self.inside.fault } in
    let mark = rw c.deref.ensures.value at c.mark_len-start.ensures.rest in
    let line = rw c.deref-2.ensures.value at c.line_end-self-inside.ensures.line in
    let last = ap (λ v. slice_range v.items start c.line_end-self-inside.result) c.swap.ensures.y_after in
    let within = c.mark_len-start.ensures.within in
    let len = c.deref.ensures.len in
    let some : start < length c.self.inside.held.items = omega arith in
    let few : c.self.inside.number ≡ 4294967295 → ⊥ = λ e. let nothing = ap length (c.self.invariant.last e) in omega arith in (
      rw (← c.self.view_is) refl,
      rw (← c.self.view_is)
          (last_taken (cutting_of c.self.inside) new start c.line_end-self-inside.result none c.self.invariant.open_held few mark c.self.invariant.short_held some line
          c.clear.ensures.items none refl last),
    )
