use Rattle.std.proofs.Common.{sym, subst}
use Rattle.act_grid.specs.declared.Settings.{Settings}
use Rattle.act_super.specs.declared.entry.State.{State}
use Rattle.act_super.specs.Stands.{Stands}
use Rattle.act_rows.specs.Images.{sight_of}
use Rattle.act_index.proofs.reader.join_held.Goals as goal

pub join_all-requires-clause-stands : goal.join_all-requires-clause-stands
join_all-requires-clause-stands g c = subst (λ z. (settings : Settings) × (state : State) × Stands settings (sight_of c.args.words.now.pin.version.image) z state) (sym c.root-root.ensures) c.requires.stands

pub returns-clause-pairs : goal.returns-clause-pairs
returns-clause-pairs g c = λ settings state st. c.in_ok-pairs.ensures.pairs settings state (subst (λ z. Stands settings (sight_of c.args.words.now.pin.version.image) z state) (sym c.root-root.ensures) st)

pub returns-clause-reads : goal.returns-clause-reads
returns-clause-reads g c = λ settings state st. c.in_ok-pairs.ensures.reads settings state (subst (λ z. Stands settings (sight_of c.args.words.now.pin.version.image) z state) (sym c.root-root.ensures) st)
