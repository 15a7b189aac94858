use Rattle.std.proofs.Common.{rules, ◌≡◌, ℕ, ◌≤◌, ◌<◌, List, [], ◌∷◌, ◌++◌, arith, length, get_or, drop, sym, ap, ◌∙◌, subst}
use Rattle.std.proofs.lemmas.List.{append-nil}
use Rattle.act_pool.specs.Retired.{freed, later}
use Rattle.act_pool.specs.Pooled.{Pooled, IsTidy}
use Rattle.act_pool.proofs.Waiting.{front_is, freed_front, later_front, none_front}
use Rattle.act_pool.proofs.Tidy.{tidy_room, tidy_popped}
use Rattle.act_pool.proofs.pool.Pool.reclaim.Goals as goal

pub push_reserved-requires : goal.push_reserved-requires
push_reserved-requires c =
    let i = c.loop-row.invariant in
    let room = tidy_room _ i.tidy in
    let wide = i.room.0 in
    let found = c.front.ensures.variant in
    let x : ℕ × ℕ = c.in-Some.field-0.now in
    let some_row : 0 < length c.loop-row.self-inside.retired.items = search rules in
    omega arith

pub loop-row-preserved : goal.loop-row-preserved
loop-row-preserved c =
    let i = c.loop-row.invariant in
    let l : List (ℕ × ℕ) = c.loop-row.self-inside.retired.items in
    let free : List ℕ = c.loop-row.self-inside.free.items in
    let x : ℕ × ℕ = c.in-Some.field-0.now in
    let some_row : 0 < length l = search rules in
    let first : x ≡ get_or l 0 x = c.in-Some.ensures.lookup in
    let version_is : c.in-Some.version ≡ x.1 = sym c.in-Some.version-is in
    let test = c.if-version-bound.false in
    let low : x.1 ≤ c.args.bound = omega arith in
    let rest : c.pop_front.new.self.items ≡ drop 1 l = c.pop_front.ensures.rest in
    let pushed : c.push_reserved.new.self.items ≡ free ++ x.0 ∷ [] = c.push_reserved.ensures.items in
    let wide = i.room.0 in
    let deep = i.room.1 in
    let wide_same = c.push_reserved.ensures.capacity in
    let deep_same = c.pop_front.ensures.capacity in
    rw (pushed, rest) (record {
      rows = i.rows;
      room = (omega arith, omega arith);
      free = freed_front c.args.bound free l x some_row first low ∙ i.free;
      late = later_front c.args.bound free l x some_row first low ∙ i.late;
      tidy = tidy_popped c.loop-row.self-inside.rows free x (drop 1 l) (subst (λ z. IsTidy (record { rows = c.loop-row.self-inside.rows; free = free; retired = z })) (front_is c.args.bound free l x some_row first) i.tidy);
    })

pub returns-then-version-bound : goal.returns-then-version-bound
returns-then-version-bound c =
    let i = c.loop-row.invariant in
    let l : List (ℕ × ℕ) = c.loop-row.self-inside.retired.items in
    let free : List ℕ = c.loop-row.self-inside.free.items in
    let x : ℕ × ℕ = c.in-Some.field-0.now in
    let some_row : 0 < length l = search rules in
    let first : x ≡ get_or l 0 x = c.in-Some.ensures.lookup in
    let version_is : c.in-Some.version ≡ x.1 = sym c.in-Some.version-is in
    let test = c.if-version-bound.true in
    let high : c.args.bound < x.1 = omega arith in
    let none = none_front c.args.bound free l x some_row first high i.tidy.ordered in
    let free_is : free ≡ c.self.inside.free.items ++ freed c.args.bound c.self.inside.retired.items = sym (append-nil free) ∙ (ap (λ z. free ++ z) (sym none.0) ∙ i.free) in
    let late_is : l ≡ later c.args.bound c.self.inside.retired.items = sym none.1 ∙ i.late in
    (λ k. record { rows = i.rows k; free = free_is k; retired = late_is k }) ∙ ap (λ (z : Pooled). record z { free = z.free ++ freed c.args.bound z.retired; retired = later c.args.bound z.retired }) c.self.view_is
