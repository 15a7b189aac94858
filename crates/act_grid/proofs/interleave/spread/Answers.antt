use Rattle.std.proofs.Common.{◌≡◌, arith, rules}
use Rattle.act_grid.proofs.SpacedFacts.{five_apart}
use Rattle.act_grid.proofs.interleave.spread.Goals as goal

pub returns-clause-bits : goal.returns-clause-bits
returns-clause-bits c =
    let e : c.from.result ≡ c.args.x = search rules in
    five_apart c.args.x _ _ _ _ _ (omega arith) (rw e at c.apart-pairs.ensures) c.apart-bytes.ensures c.apart-nibbles.ensures c.apart-twos.ensures c.apart.ensures
