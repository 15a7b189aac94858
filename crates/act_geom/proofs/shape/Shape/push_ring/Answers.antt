use Rattle.std.proofs.Common.{◌≡◌, ◌+◌, ◌∷◌, [], ◌++◌, length, refl, arith}
use Rattle.act_geom.specs.Rings.{vertices_of}
use Rattle.act_geom.proofs.LaidFacts.{vertices_seen, pushed_laid, pushed_seen}
use Rattle.act_geom.proofs.shape.Shape.push_ring.Goals as goal

pub returns-then-ring-len-clause-many : goal.returns-then-ring-len-clause-many
returns-then-ring-len-clause-many c =
    let v : vertices_of c.args.self.now ≡ length c.self.inside.points.items = vertices_seen _ _ _ c.self.invariant c.self.view_is in
    (λ _. (omega arith, omega arith), λ _. refl)

pub returns-then-is_err-clause-many : goal.returns-then-is_err-clause-many
returns-then-is_err-clause-many c =
    let v : vertices_of c.args.self.now ≡ length c.self.inside.points.items = vertices_seen _ _ _ c.self.invariant c.self.view_is in
    (λ e. absurd (cc), λ h. absurd (omega (arith, h.1)))

pub returns-then-is_err-2-clause-many : goal.returns-then-is_err-2-clause-many
returns-then-is_err-2-clause-many c =
    let v : vertices_of c.args.self.now ≡ length c.self.inside.points.items = vertices_seen _ _ _ c.self.invariant c.self.view_is in
    (λ e. absurd (cc), λ h. absurd (omega (arith, h.1)))

pub invariant_of-self-2 : goal.invariant_of-self-2
invariant_of-self-2 c =
    let n : c.len-end.result ≡ length c.self.inside.points.items + length c.args.ring.now = grind arith in
    let points : c.extend_from_slice.new.self.items ≡ c.self.inside.points.items ++ c.args.ring.now = grind arith in
    let ends : c.push.new.self.items ≡ c.self.inside.ends.items ++ c.len-end.result ∷ [] = grind arith in
    rw (points, ends) (pushed_laid _ _ _ _ c.self.invariant n (omega arith) (omega arith))

pub returns-clause-ok : goal.returns-clause-ok
returns-clause-ok c =
    let n : c.len-end.result ≡ length c.self.inside.points.items + length c.args.ring.now = grind arith in
    let points : c.extend_from_slice.new.self.items ≡ c.self.inside.points.items ++ c.args.ring.now = grind arith in
    let ends : c.push.new.self.items ≡ c.self.inside.ends.items ++ c.len-end.result ∷ [] = grind arith in
    rw (points, ends) (pushed_seen _ _ _ _ _ c.self.invariant c.self.view_is n)

pub returns-clause-many : goal.returns-clause-many
returns-clause-many c =
    let v : vertices_of c.args.self.now ≡ length c.self.inside.points.items = vertices_seen _ _ _ c.self.invariant c.self.view_is in
    (λ e. absurd (cc), λ h. absurd (omega (arith, h.1)))
