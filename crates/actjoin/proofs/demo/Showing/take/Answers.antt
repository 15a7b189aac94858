use Rattle.std.proofs.Common.{◌∙◌, [], ◌∷◌}
use Rattle.std.specs.Prelude.{OnOk}
use Rattle.act_script.specs.Segments.{given_by}
use Rattle.actjoin.specs.Showing.{Leads, Solves}
use Rattle.actjoin.proofs.SumFacts.{item_leads, when_done}
use Rattle.actjoin.proofs.demo.Showing.take.Goals as goal

pub returns-clause-leads : goal.returns-clause-leads
returns-clause-leads g c =
    let old = c.args.self.now in
    let new = c.solve.new.self in
    let solves : OnOk c.solve.result (Solves c.args.self.now (given_by c.args.self.now.segmenter c.args.item) c.solve.new.self) = rw c.in_ok-given.ensures.given at c.solve.ensures.solves in
    when_done c.solve.result (Solves old (given_by old.segmenter c.args.item) new) (Leads old (c.args.item ∷ []) new)
    (item_leads old new c.args.item (c.solve.ensures.segmenter ∙ c.in_ok-given.ensures.ok)) solves
