-- Shifts of parts, put together.
use Rattle.std.proofs.Common.{◌≡◌, ℕ, ◌+◌, ◌≤◌, refl, arith, max}
use Rattle.act_super.specs.declared.both.Shift.{Shift}
use Rattle.act_super.specs.Shifts.{IsShift}

-- nothing changes
pub shift_none : (rows most : ℕ) → IsShift rows rows most most (record { less = 0; more = 0; without = 0; with = 0 })
shift_none rows most = record {
  rows = refl;
  fewer = omega arith;
  newer = omega arith;
  without_low = omega arith;
  without_high = omega arith;
  with_low = omega arith;
  with_high = omega arith;
}

-- a leaf becomes another part
pub shift_leaf : (n more most : ℕ) → IsShift 0 more n most (record { less = 0; more = more; without = n; with = most })
shift_leaf n more most = record {
  rows = omega arith;
  fewer = omega arith;
  newer = omega arith;
  without_low = omega arith;
  without_high = omega arith;
  with_low = omega arith;
  with_high = omega arith;
}

-- a node, with the rows of its own
pub shift_node : (old new most_old most_new p p' : ℕ) (s : Shift) → IsShift old new most_old most_new s
    → IsShift (1 + p + old) (1 + p' + new) most_old most_new (record { less = p + s.less; more = p' + s.more; without = s.without; with = s.with })
shift_node old new most_old most_new p p' s h = record {
  rows = omega (arith, h.rows);
  fewer = omega (arith, h.fewer);
  newer = omega (arith, h.newer);
  without_low = h.without_low;
  without_high = h.without_high;
  with_low = h.with_low;
  with_high = h.with_high;
}

four_high : (a b c d x y z w p q r s : ℕ) → p ≤ max a x → q ≤ max b y → r ≤ max c z → s ≤ max d w → max (max p q) (max r s) ≤ max (max (max a b) (max c d)) (max (max x y) (max z w))
four_high a b c d x y z w p q r s h k l m = omega arith

pub shift_four : (o1 o2 o3 o4 n1 n2 n3 n4 p1 p2 p3 p4 q1 q2 q3 q4 : ℕ) (a b c d : Shift)
    → IsShift o1 n1 p1 q1 a → IsShift o2 n2 p2 q2 b → IsShift o3 n3 p3 q3 c → IsShift o4 n4 p4 q4 d
    → IsShift (o1 + o2 + o3 + o4) (n1 + n2 + n3 + n4) (max (max p1 p2) (max p3 p4)) (max (max q1 q2) (max q3 q4))
    (record {
      less = a.less + b.less + c.less + d.less;
      more = a.more + b.more + c.more + d.more;
      without = max (max a.without b.without) (max c.without d.without);
      with = max (max a.with b.with) (max c.with d.with);
    })
shift_four o1 o2 o3 o4 n1 n2 n3 n4 p1 p2 p3 p4 q1 q2 q3 q4 a b c d h k l m = record {
  rows = omega (arith, h.rows, k.rows, l.rows, m.rows);
  fewer = omega (arith, h.fewer, k.fewer, l.fewer, m.fewer);
  newer = omega (arith, h.newer, k.newer, l.newer, m.newer);
  without_low = omega (arith, h.without_low, k.without_low, l.without_low, m.without_low);
  without_high = four_high a.without b.without c.without d.without q1 q2 q3 q4 p1 p2 p3 p4 h.without_high k.without_high l.without_high m.without_high;
  with_low = omega (arith, h.with_low, k.with_low, l.with_low, m.with_low);
  with_high = four_high a.with b.with c.with d.with p1 p2 p3 p4 q1 q2 q3 q4 h.with_high k.with_high l.with_high m.with_high;
}

-- the same shift between equal numbers
pub shift_is : (old new most_old most_new old' new' most_old' most_new' : ℕ) (s : Shift) → old ≡ old' → new ≡ new' → most_old ≡ most_old' → most_new ≡ most_new'
    → IsShift old' new' most_old' most_new' s → IsShift old new most_old most_new s
shift_is old new most_old most_new old' new' most_old' most_new' s a b c d h = record {
  rows = omega (arith, a, b, h.rows);
  fewer = omega (arith, a, h.fewer);
  newer = omega (arith, b, h.newer);
  without_low = omega (arith, c, h.without_low);
  without_high = omega (arith, c, d, h.without_high);
  with_low = omega (arith, d, h.with_low);
  with_high = omega (arith, c, d, h.with_high);
}
