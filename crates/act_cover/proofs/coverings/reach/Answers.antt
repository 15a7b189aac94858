use Rattle.std.proofs.Common.{◌≡◌, ◌+◌, ◌<◌, ℕ, suc, [], List, subst, sym, ap, ◌∙◌, arith, length}
use Rattle.std.specs.List.{All, flat_map}
use Rattle.act_cover.specs.declared.held.Held.{Held}
use Rattle.act_cover.specs.Covering.{refined}
use Rattle.act_cover.specs.Level.{fits_to}
use Rattle.act_cover.specs.Held.{IsReached, IsPut, cells_of}
use Rattle.act_cover.proofs.PutFacts.{next_reached, room_left, no_room_left}
use Rattle.act_cover.proofs.LevelFacts.{level_is, level_is_last, root_fits, next_fits, next_exceeds}
use Rattle.act_cover.proofs.Placed.{can_split}
use Rattle.act_cover.proofs.coverings.reach.Goals as goal

pub loop-level-init : goal.loop-level-init
loop-level-init g c = record { reached = c.put_root.ensures; fits = root_fits (g.S.Classes.rings c.args.shape.now) c.args.most c.requires.least }

pub put_all-requires-clause-level : goal.put_all-requires-clause-level
put_all-requires-clause-level g c =
    subst (λ (held : List Held). All (λ (h : Held). h.cell.level < 30) held) (sym c.as_slice.ensures)
    (can_split (g.S.Classes.rings c.args.shape.now) c.loop-level.level c.loop-level.cells (omega arith) c.loop-level.invariant.reached)

pub returns-then-not-put_all-clause-level : goal.returns-then-not-put_all-clause-level
returns-then-not-put_all-clause-level g c =
    sym (level_is (g.S.Classes.rings c.args.shape.now) c.args.most c.loop-level.level (omega arith) c.loop-level.invariant.fits
    (next_exceeds (g.S.Classes.rings c.args.shape.now) c.args.most c.loop-level.level c.loop-level.cells c.loop-level.invariant.reached
    (subst (λ (held : List Held). c.args.most < 0 + length (flat_map (refined (g.S.Classes.rings c.args.shape.now)) (cells_of held))) c.as_slice.ensures
    (no_room_left (g.S.Classes.rings c.args.shape.now) c.args.most [] c.put_all.new.next _ c.put_all.result c.put_all.ensures c.if-not-put_all.true))))

pub loop-level-preserved : goal.loop-level-preserved
loop-level-preserved g c =
    let p : IsPut (g.S.Classes.rings c.args.shape.now) c.args.most [] c.put_all.new.next (flat_map (refined (g.S.Classes.rings c.args.shape.now)) (cells_of c.loop-level.cells)) =
    subst (λ (held : List Held). IsPut (g.S.Classes.rings c.args.shape.now) c.args.most [] c.put_all.new.next (flat_map (refined (g.S.Classes.rings c.args.shape.now)) (cells_of held))) c.as_slice.ensures
    (room_left (g.S.Classes.rings c.args.shape.now) c.args.most [] c.put_all.new.next _ c.put_all.result c.put_all.ensures c.if-not-put_all.false) in
    let e : suc c.loop-level.level ≡ c.loop-level.level + 1 = omega arith in
    record {
      reached = subst (λ (n : ℕ). IsReached (g.S.Classes.rings c.args.shape.now) n c.put_all.new.next) e (next_reached (g.S.Classes.rings c.args.shape.now) c.args.most c.loop-level.level c.loop-level.cells c.put_all.new.next c.loop-level.invariant.reached p);
      fits = sym (ap (fits_to (g.S.Classes.rings c.args.shape.now) c.args.most) e) ∙ next_fits (g.S.Classes.rings c.args.shape.now) c.args.most c.loop-level.level c.loop-level.cells c.put_all.new.next c.loop-level.invariant.reached c.loop-level.invariant.fits p;
    }

pub returns-clause-level : goal.returns-clause-level
returns-clause-level g c =
    let e : c.loop-level.level ≡ 28 = omega arith in
    sym (level_is_last (g.S.Classes.rings c.args.shape.now) c.args.most (sym (ap (fits_to (g.S.Classes.rings c.args.shape.now) c.args.most) e) ∙ c.loop-level.invariant.fits))
