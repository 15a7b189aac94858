use Rattle.std.proofs.Common.{arith}
use Rattle.act_geom.specs.Inside.{is_above}
use Rattle.act_super.proofs.BoundFacts.{put_kept, put_left_out}
use Rattle.act_super.proofs.ends.Ends.put.Goals as goal

pub returns-then-ends_with : goal.returns-then-ends_with
returns-then-ends_with c = λ ends told all p.
    let last = c.ends_with.ensures c.if-ends_with.true in
    put_left_out (λ v. is_above v p) c.args.self.now.points c.args.self.now.len c.args.end ends last.0 (grind arith) last.1 (told all p)

pub returns-then-len-lt-MOST : goal.returns-then-len-lt-MOST
returns-then-len-lt-MOST c = λ ends told all p.
    put_kept (λ v. is_above v p) c.args.self.now.points c.args.self.now.len c.args.end ends (grind arith) (told all p)
