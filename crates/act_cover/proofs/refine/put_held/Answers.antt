use Rattle.std.proofs.Common.{arith}
use Rattle.act_cover.proofs.PutFacts.{one_put}
use Rattle.act_cover.proofs.refine.put_held.Goals as goal

pub returns : goal.returns
returns g c = one_put (g.S.Classes.rings c.args.shape.now) c.args.most c.args.next.now c.push.new.self c.args.held c.push.ensures c.requires.held c.requires.is (omega arith)
