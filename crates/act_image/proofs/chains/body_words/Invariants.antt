use Rattle.std.proofs.Common.{◌≡◌, take}
use Rattle.act_geom.specs.Body.{body_of}
use Rattle.act_image.proofs.chains.body_words.Given as goal

abbrev pub invariant-loop-k : goal.invariant-loop-k
invariant-loop-k l = l.words.items ≡ take l.k (body_of l.shape)
