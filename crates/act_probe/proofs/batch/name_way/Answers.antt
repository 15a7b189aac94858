use Rattle.act_super.specs.Sizes.{refs_of}
use Rattle.act_super.specs.Stands.{refs_in}
use Rattle.act_probe.specs.Ways.{leaf_of}
use Rattle.act_probe.proofs.GatherFacts.{few_here}
use Rattle.act_probe.proofs.GroupFacts.{reached_at}
use Rattle.act_probe.proofs.StandFacts.{hit_on, zones_on}
use Rattle.act_probe.proofs.TellFacts.{tells}
use Rattle.act_probe.proofs.batch.name_way.Goals as goal

pub put_entry-requires-clause-tells : goal.put_entry-requires-clause-tells
put_entry-requires-clause-tells g c =
    let r = c.requires.down in
    let reached = reached_at r.1 r.2 r.3.layout c.args.way.now c.entry_in-entry.result c.entry_in-entry.ensures r.4 in
    let leaf = leaf_of r.1 r.2 c.args.way.now.point in (
      hit_on leaf,
      zones_on leaf r.2.zones,
      refs_in r.3.layout (refs_of r.2.zones leaf),
      tells r.3 c.args.way.now.point c.entry_in-entry.result c.args.way.now.nodes reached,
    )

pub returns-clause-named : goal.returns-clause-named
returns-clause-named g c = λ root settings state s down.
    let reached = reached_at settings state s.layout c.args.way.now c.entry_in-entry.result c.entry_in-entry.ensures down in
    c.put_entry.ensures.named _ _ _ (tells s c.args.way.now.point c.entry_in-entry.result c.args.way.now.nodes reached)

pub returns-clause-few : goal.returns-clause-few
returns-clause-few g c = λ root settings state s down.
    let reached = reached_at settings state s.layout c.args.way.now c.entry_in-entry.result c.entry_in-entry.ensures down in
    few_here s c.args.way.now.point c.entry_in-entry.result c.args.way.now.nodes reached c.args.reads.now c.put_entry.new.reads
    (c.put_entry.ensures.few _ _ _ (tells s c.args.way.now.point c.entry_in-entry.result c.args.way.now.nodes reached))
