use Rattle.act_image.proofs.PathTaken.{own_cells}
use Rattle.act_image.proofs.path.walk_path.Goals as goal

pub root-requires-clause-once : goal.root-requires-clause-once
root-requires-clause-once c = own_cells c.args.state.now.settings c.args.state.now.state c.args.old.nodes.now c.args.old.under.now c.args.old.rows.now c.requires.copy.0 c.requires.copy.1
