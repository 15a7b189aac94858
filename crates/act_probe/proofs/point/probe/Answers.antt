use Rattle.act_super.specs.Sizes.{refs_of}
use Rattle.act_super.specs.Stands.{refs_in}
use Rattle.act_probe.specs.Ways.{leaf_of}
use Rattle.act_probe.proofs.StandFacts.{hit_on, zones_on}
use Rattle.act_probe.proofs.TellFacts.{keys_are, reads_few, tells}
use Rattle.act_probe.proofs.point.probe.Goals as goal

pub take_entry-reads-requires-clause-tells : goal.take_entry-reads-requires-clause-tells
take_entry-reads-requires-clause-tells g c =
    let r = c.requires.stands in
    let reached = c.descend-reached.ensures.reached r.0 r.1 r.2 in
    let leaf = leaf_of r.0 r.1 c.args.p in
    rw c.descend-reached.ensures.same (hit_on leaf, zones_on leaf r.1.zones, refs_in r.2.layout (refs_of r.1.zones leaf), tells r.2 c.args.p c.descend-reached.result.entry c.descend-reached.result.nodes reached)

pub returns-clause-keys : goal.returns-clause-keys
returns-clause-keys g c = λ settings state s.
    keys_are s c.args.p c.descend-reached.result.entry c.descend-reached.result.nodes (c.descend-reached.ensures.reached settings state s) c.args.layers c.take_entry-reads.new.out
    (rw c.descend-reached.ensures.same at c.take_entry-reads.ensures.keys)

pub returns-clause-few : goal.returns-clause-few
returns-clause-few g c = λ settings state s.
    reads_few s c.args.p c.descend-reached.result.entry c.descend-reached.result.nodes (c.descend-reached.ensures.reached settings state s) c.args.layers c.take_entry-reads.result
    (rw c.descend-reached.ensures.same at c.take_entry-reads.ensures.few)
