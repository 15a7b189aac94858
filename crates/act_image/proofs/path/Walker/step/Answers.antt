use Rattle.act_super.specs.States.{after}
use Rattle.act_image.proofs.PathTaken.{own_cells, step_at}
use Rattle.act_image.proofs.path.Walker.step.Goals as goal

pub bounds-starts-at : goal.bounds-starts-at
bounds-starts-at c =
    (step_at c.args.state.now.settings c.args.state.now.state c.args.old.nodes.now c.args.old.under.now c.args.old.rows.now c.requires.copy.0 c.requires.copy.1 (after c.args.state.now.settings c.args.state.now.state c.args.next.now.entry) c.args.next.now.entry
    c.args.k c.args.self.now c.args.starts.now c.in-Some.at c.index.result.now c.requires.walk c.requires.within c.requires.starts c.index.ensures c.in-Some.is).within

pub take-requires : goal.take-requires
take-requires c =
    (step_at c.args.state.now.settings c.args.state.now.state c.args.old.nodes.now c.args.old.under.now c.args.old.rows.now c.requires.copy.0 c.requires.copy.1 (after c.args.state.now.settings c.args.state.now.state c.args.next.now.entry) c.args.next.now.entry
    c.args.k c.args.self.now c.args.starts.now c.in-Some.at c.index.result.now c.requires.walk c.requires.within c.requires.starts c.index.ensures c.in-Some.is).there

pub ask-requires-clause-once : goal.ask-requires-clause-once
ask-requires-clause-once c = own_cells c.args.state.now.settings c.args.state.now.state c.args.old.nodes.now c.args.old.under.now c.args.old.rows.now c.requires.copy.0 c.requires.copy.1

pub returns-in_ok-take-in-Some : goal.returns-in_ok-take-in-Some
returns-in_ok-take-in-Some c =
    (step_at c.args.state.now.settings c.args.state.now.state c.args.old.nodes.now c.args.old.under.now c.args.old.rows.now c.requires.copy.0 c.requires.copy.1 (after c.args.state.now.settings c.args.state.now.state c.args.next.now.entry) c.args.next.now.entry
    c.args.k c.args.self.now c.args.starts.now c.in-Some.at c.index.result.now c.requires.walk c.requires.within c.requires.starts c.index.ensures c.in-Some.is).walks _ c.in_ok-take-in-Some.ensures
