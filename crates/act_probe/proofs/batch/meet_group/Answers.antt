use Rattle.std.proofs.Common.{◌≡◌, ◌∙◌, List, ap, arith, length, map}
use Rattle.std.proofs.lemmas.List.{length-map}
use Rattle.act_probe.specs.declared.buffers.Named.{Named}
use Rattle.act_probe.specs.Names.{headed, named_of}
use Rattle.act_probe.proofs.GatherFacts.{chains_from, each_read, few_from, gathered, held_from, mets_from, names_from, read_more, regathered}
use Rattle.act_probe.proofs.HalfFacts.{written}
use Rattle.act_probe.proofs.NameFacts.{inside_all}
use Rattle.act_probe.proofs.batch.meet_group.Goals as goal

pub returns-in_err-descend_all-clause-few : goal.returns-in_err-descend_all-clause-few
returns-in_err-descend_all-clause-few g c = λ settings state s. omega (arith, c.in_err-descend_all.ensures.err, each_read settings state c.args.layers.now c.args.points.now)

pub name_ways-requires-clause-down : goal.name_ways-requires-clause-down
name_ways-requires-clause-down g c =
    let r = c.requires.stands in
    rw (c.descend_all.ensures.same, c.deref.ensures.value) (c.args.root, r.0, r.1, r.2, c.in_ok-descend_all.ensures.down r.0 r.1 r.2)

pub read_heads-requires : goal.read_heads-requires
read_heads-requires g c =
    let r = c.requires.stands in
    let named = rw (c.descend_all.ensures.same, c.deref.ensures.value) at c.name_ways.ensures.named in
    let is = rw (c.in_ok-reserve_for.ensures.named, c.in_ok-descend_all.ensures.points) at (named c.args.root r.0 r.1 r.2 (c.in_ok-descend_all.ensures.down r.0 r.1 r.2)) in
    record {
      held = rw (c.name_ways.ensures.same, c.descend_all.ensures.same, c.deref_mut.ensures.value, is) (held_from r.2 c.args.first c.args.points.now);
    }

pub returns-clause-ok : goal.returns-clause-ok
returns-clause-ok g c = λ settings state s before long gathers.
    let x = g.W.Words.image c.args.words.now in
    let layers = c.args.layers.now in
    let points = c.args.points.now in
    let down = c.in_ok-descend_all.ensures.down settings state s in
    let named = rw (c.descend_all.ensures.same, c.deref.ensures.value) at c.name_ways.ensures.named in
    let is = rw (c.in_ok-reserve_for.ensures.named, c.in_ok-descend_all.ensures.points) at (named c.args.root settings state s down) in
    let few = rw (c.descend_all.ensures.same, c.deref.ensures.value) at c.name_ways.ensures.few in
    let told = rw c.in_ok-descend_all.ensures.points at (few c.args.root settings state s down) in
    let heads = rw (c.name_ways.ensures.same, c.descend_all.ensures.same, c.deref_mut.ensures.value) at c.read_heads.ensures.heads in
    let whole : length c.read_heads.new.named ≡ length c.name_ways.new.named.items = ap (λ (l : List Named). length l) heads ∙ length-map c.name_ways.new.named.items (headed x) in
    let back = written c.name_ways.new.named.items c.read_heads.new.named c.name_ways.new.named.len whole (omega (arith, c.deref_mut.ensures.len, ap (λ (l : List Named). length l) c.deref_mut.ensures.value)) in
    let are : c.deref-2.result.now ≡ map (named_of x) (mets_from s c.args.first points) =
    c.deref-2.ensures.value ∙ back ∙ heads ∙ ap (map (headed x)) is ∙ names_from s c.args.first points in
    let held = regathered x settings state layers before c.args.buffers.now.found c.reserve_for.new.found gathers c.reserve_for.ensures.hits c.reserve_for.ensures.kept c.reserve_for.ensures.candidates c.reserve_for.ensures.reads in
    let inside = rw c.in_ok-descend_all.ensures.points at (inside_all s.layout settings state c.descend_all.new.ways.items down) in
    gathered s layers c.args.first before points c.reserve_for.new.found c.meet_all.new.found long inside held
    (c.meet_all.ensures.ok x (mets_from s c.args.first points) held.mets are (chains_from s c.args.first points) (read_more x c.reserve_for.new.found held.mets _ held.holds))
    (omega (
      arith,
      c.meet_all.ensures.reads,
      c.len.ensures,
      ap (λ (l : List Named). length l) back,
      whole,
      ap (λ (l : List Named). length l) is,
      told,
      c.in_ok-descend_all.ensures.count,
    ))

pub returns-clause-few : goal.returns-clause-few
returns-clause-few g c = λ settings state s.
    let x = g.W.Words.image c.args.words.now in
    let down = c.in_ok-descend_all.ensures.down settings state s in
    let named = rw (c.descend_all.ensures.same, c.deref.ensures.value) at c.name_ways.ensures.named in
    let is = rw (c.in_ok-reserve_for.ensures.named, c.in_ok-descend_all.ensures.points) at (named c.args.root settings state s down) in
    let few = rw (c.descend_all.ensures.same, c.deref.ensures.value) at c.name_ways.ensures.few in
    let told = rw c.in_ok-descend_all.ensures.points at (few c.args.root settings state s down) in
    let heads = rw (c.name_ways.ensures.same, c.descend_all.ensures.same, c.deref_mut.ensures.value) at c.read_heads.ensures.heads in
    let whole : length c.read_heads.new.named ≡ length c.name_ways.new.named.items = ap (λ (l : List Named). length l) heads ∙ length-map c.name_ways.new.named.items (headed x) in
    let back = written c.name_ways.new.named.items c.read_heads.new.named c.name_ways.new.named.len whole (omega (arith, c.deref_mut.ensures.len, ap (λ (l : List Named). length l) c.deref_mut.ensures.value)) in
    few_from s c.args.layers.now c.args.first c.args.points.now c.args.buffers.now.found.reads c.meet_all.new.found.reads
    (omega (
      arith,
      c.meet_all.ensures.reads,
      c.reserve_for.ensures.reads,
      c.len.ensures,
      ap (λ (l : List Named). length l) back,
      whole,
      ap (λ (l : List Named). length l) is,
      told,
      c.in_ok-descend_all.ensures.count,
    ))
