use Rattle.std.proofs.Common.{◌≡◌, ◌≤◌, ◌++◌, ◌∙◌, IfOk, drop, length, subst, List}
use Rattle.act_grid.specs.Cell.{Address}
use Rattle.act_super.specs.States.{IsFor, Prepared, needs}
use Rattle.act_super.specs.Training.{chosen_of, fit, trained_more}
use Rattle.act_super.specs.declared.entry.Entry.TheVariants.{Train}
use Rattle.act_super.proofs.state.Super.prepare_train.Goals as goal

pub returns-clause-ok : goal.returns-clause-ok
unfolding trained_more
returns-clause-ok c =
    let k = c.args.self.now.settings in
    let s = c.args.self.now.state in
    let cells : c.into_vec.result.items ≡ chosen_of k s c.args.sample.now c.args.threshold = c.into_vec.ensures ∙ c.in_ok-cells.ensures in
    subst (λ (more : List Address). IfOk c.train_with.result (λ (next : Prepared). (next.entry ≡ Train (drop (length s.trained) (fit k s.zones (s.trained ++ more)))) × IsFor k s next × (needs next.entry ≤ c.train_with.new.self.spare)))
    cells c.train_with.ensures.ok
