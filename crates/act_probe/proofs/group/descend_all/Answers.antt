use Rattle.std.proofs.Common.{◌≡◌, ◌∙◌, List, sym, ap, arith, length}
use Rattle.std.proofs.lemmas.List.{length-map}
use Rattle.act_probe.specs.declared.group.Way.{Way}
use Rattle.act_probe.proofs.HalfFacts.{written}
use Rattle.act_probe.proofs.group.descend_all.Goals as goal

pub returns-clause-down : goal.returns-clause-down
returns-clause-down g c = λ settings state s.
    let down = c.go_all.ensures.down settings state s in
    let points = rw c.deref_mut.ensures.value at c.go_all.ensures.points in
    let long : length c.go_all.new.ways ≡ length c.begin.new.ways.items =
    sym (length-map c.go_all.new.ways (λ (way : Way). way.point)) ∙ ap length points ∙ length-map c.begin.new.ways.items (λ (way : Way). way.point) in
    rw (written c.begin.new.ways.items c.go_all.new.ways c.begin.new.ways.len long (omega (arith, c.deref_mut.ensures.len, ap (λ (l : List Way). length l) c.deref_mut.ensures.value))) down
