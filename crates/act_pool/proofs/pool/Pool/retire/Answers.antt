use Rattle.std.proofs.Common.{◌≡◌, ℕ, List, ◌∷◌, ◌++◌, arith, take, drop, sym, ap, ◌∙◌, subst}
use Rattle.std.proofs.lemmas.List.{take-append-drop}
use Rattle.act_pool.specs.Retired.{placed}
use Rattle.act_pool.specs.Pooled.{Pooled, IsTidy, IsUsed}
use Rattle.act_pool.proofs.Waiting.{placed_between}
use Rattle.act_pool.proofs.Tidy.{room, tidy_retired}
use Rattle.act_pool.proofs.pool.Pool.retire.Goals as goal

pub unreachable-requires : goal.unreachable-requires
unreachable-requires c =
    let i = c.self.invariant in
    let p : Pooled = record { rows = c.self.inside.rows; free = c.self.inside.free.items; retired = c.self.inside.retired.items } in
    let used : IsUsed p c.args.row = subst (λ z. IsUsed z c.args.row) (sym c.self.view_is) c.requires in
    let some_room = room p c.args.row i.tidy used in
    let deep = i.room.1 in
    let full = c.in_default.ensures.full in
    absurd (omega arith)

pub invariant_of-self : goal.invariant_of-self
invariant_of-self c =
    let i = c.self.invariant in
    let l : List (ℕ × ℕ) = c.self.inside.retired.items in
    let p : Pooled = record { rows = c.self.inside.rows; free = c.self.inside.free.items; retired = l } in
    let used : IsUsed p c.args.row = subst (λ z. IsUsed z c.args.row) (sym c.self.view_is) c.requires in
    let at : ℕ = c.place_of-at.result in
    let is : placed c.args.row c.args.version l ≡ take at l ++ (c.args.row, c.args.version) ∷ drop at l =
    ap (placed c.args.row c.args.version) (sym (take-append-drop at l)) ∙ placed_between c.args.row c.args.version (take at l) (drop at l) c.place_of-at.ensures.before c.place_of-at.ensures.behind in
    let same : c.insert.new.self.items ≡ placed c.args.row c.args.version l = c.in-Ok.ensures.items ∙ sym is in
    let deep = i.room.1 in
    let more = c.in-Ok.ensures.capacity in
    record {
      room = (i.room.0, omega arith);
      few = i.few;
      tidy = subst (λ z. IsTidy (record p { retired = z })) (sym same) (tidy_retired p c.args.row c.args.version i.tidy used);
    }

pub returns : goal.returns
returns c =
    let l : List (ℕ × ℕ) = c.self.inside.retired.items in
    let p : Pooled = record { rows = c.self.inside.rows; free = c.self.inside.free.items; retired = l } in
    let at : ℕ = c.place_of-at.result in
    let is : placed c.args.row c.args.version l ≡ take at l ++ (c.args.row, c.args.version) ∷ drop at l =
    ap (placed c.args.row c.args.version) (sym (take-append-drop at l)) ∙ placed_between c.args.row c.args.version (take at l) (drop at l) c.place_of-at.ensures.before c.place_of-at.ensures.behind in
    let same : c.insert.new.self.items ≡ placed c.args.row c.args.version l = c.in-Ok.ensures.items ∙ sym is in
    ap (λ z. record p { retired = z }) same ∙ ap (λ (z : Pooled). record z { retired = placed c.args.row c.args.version z.retired }) c.self.view_is
