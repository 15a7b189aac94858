use Rattle.std.proofs.Common.{◌≡◌, ◌++◌, ◌∷◌, codes, drop, flat_map}
use Rattle.act_wkt.specs.Spelling.{ring_text, spelling}
use Rattle.act_wkt.proofs.writer.write.Given as goal

abbrev pub invariant-loop-k : goal.invariant-loop-k
invariant-loop-k l =
    l.bytes.items ++ (flat_map (λ other. 44 ∷ ring_text l.digits other) (drop l.k l.shape) ++ codes ")") ≡ spelling l.digits l.shape
