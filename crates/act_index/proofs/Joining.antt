-- Pairs of a batch.
use Rattle.std.proofs.Common.{◌≡◌, List, [], ◌∷◌, map, refl, ap}
use Rattle.act_probe.specs.declared.buffers.Hit.{Hit as Probed}
use Rattle.act_probe.specs.Batches.{hit_of}
use Rattle.act_index.specs.Answers.{own_pair, pair_of}

-- the pairs of the join, from those of the batch
pub own_pairs : (hits : List Probed) → map own_pair hits ≡ map pair_of (map hit_of hits)
own_pairs [] = refl
own_pairs (hit ∷ hits) = ap (λ pairs. own_pair hit ∷ pairs) (own_pairs hits)
