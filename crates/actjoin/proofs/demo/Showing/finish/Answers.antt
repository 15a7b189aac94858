use Rattle.std.specs.Prelude.{OnOk}
use Rattle.act_script.specs.Segments.{closed_segment}
use Rattle.actjoin.specs.Showing.{Finishes, Solves}
use Rattle.actjoin.proofs.SumFacts.{finished, when_done}
use Rattle.actjoin.proofs.demo.Showing.finish.Goals as goal

pub returns : goal.returns
returns g c =
    let old = c.args.self.now in
    let new = c.solve.new.self in
    let solves : OnOk c.solve.result (Solves c.args.self.now (closed_segment c.args.self.now.segmenter) c.solve.new.self) = rw c.in_ok-last.ensures.given at c.solve.ensures.solves in
    when_done c.solve.result (Solves old (closed_segment old.segmenter) new) (Finishes old new) (finished old new) solves
