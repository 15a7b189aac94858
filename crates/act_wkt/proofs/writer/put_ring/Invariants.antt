use Rattle.std.proofs.Common.{◌≡◌, ◌++◌, ◌∷◌, [], drop, flat_map}
use Rattle.act_wkt.specs.Spelling.{point_text}
use Rattle.act_wkt.proofs.writer.put_ring.Given as goal

abbrev pub invariant-loop-point : goal.invariant-loop-point
invariant-loop-point l =
    l.bytes.items ++ flat_map (λ point. point_text l.digits point ++ (44 ∷ [])) (drop l.point-index l.ring)
    ≡ l.fn.bytes.items ++ (40 ∷ flat_map (λ point. point_text l.digits point ++ (44 ∷ [])) l.ring)
