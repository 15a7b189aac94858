use Rattle.std.proofs.Common.{◌≡◌, ◌∙◌, List, ap}
use Rattle.act_join.specs.declared.reply.Reply.{Reply}
use Rattle.actjoin.specs.Showing.{with_replies}
use Rattle.actjoin.proofs.SumFacts.{solved}
use Rattle.actjoin.proofs.demo.Showing.solve.Goals as goal

pub returns-clause-solves : goal.returns-clause-solves
returns-clause-solves g c =
    let old = c.args.self.now in
    let sums : c.in_ok-self.field-0 ≡ with_replies c.as_slice.result.now c.args.self.now.sums = rw c.in_ok-self.ensures.ok_part at c.with_replies.ensures in
    rw c.in-Some.is (solved old (record { segmenter = old.segmenter; run = c.solve.new.self; sums = c.in_ok-self.field-0 }) c.in-Some.segment c.in_ok-solved.solved
    c.in_ok-solved.ensures.solves c.in_ok-solved.ensures.kept (sums ∙ ap (λ (replies : List Reply). with_replies replies c.args.self.now.sums) c.as_slice.ensures))
