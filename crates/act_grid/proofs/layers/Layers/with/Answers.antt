use Rattle.std.proofs.Common.{◌≡◌, length, arith, rules}
use Rattle.act_grid.proofs.LayerFacts.{one_more}
use Rattle.act_grid.proofs.layers.Layers.with.Goals as goal

pub returns-clause-each : goal.returns-clause-each
returns-clause-each c n h =
    let four : length c.args.self.words ≡ 4 = search rules in
    one_more c.args.self.words c.args.layer n four (omega arith) h
