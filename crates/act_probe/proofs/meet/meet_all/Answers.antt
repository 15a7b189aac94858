use Rattle.std.proofs.Common.{◌≡◌, ◌<◌, ◌≤◌, ◌+◌, ◌++◌, ◌∙◌, List, ap, append-nil, append_assoc, arith, filter, get_or, length, refl, subst, sym, take}
use Rattle.std.proofs.lemmas.List.{get_or-map, length-map, take_all}
use Rattle.std.proofs.lemmas.List.Elements.{filter_more}
use Rattle.act_probe.specs.declared.buffers.Named.{Named}
use Rattle.act_probe.specs.Batches.{Holds, Met, is_of}
use Rattle.act_probe.specs.Names.{named_of}
use Rattle.act_probe.proofs.MetFacts.{no_met, no_name}
use Rattle.act_probe.proofs.RoomFacts.{grows_more, grows_most, grows_none, still_room}
use Rattle.act_probe.proofs.meet.meet_all.Goals as goal

pub loop-n-init : goal.loop-n-init
loop-n-init c = record {
  reads = refl;
  grows = grows_none c.args.found.now c.args.found.now.reads 0;
  at = λ x all mets are chains holds. subst (Holds x c.args.found.now) (sym (append-nil mets)) holds;
}

pub meet-requires-clause-room : goal.meet-requires-clause-room
meet-requires-clause-room c = omega (arith, c.requires.room, c.loop-n.invariant.grows.hits, c.loop-n-test.true)

pub meet-requires-clause-space : goal.meet-requires-clause-space
meet-requires-clause-space c =
    let few : c.loop-n.n-index + 1 ≤ length c.args.named.now = omega (arith, c.loop-n-test.true) in
    still_room c.args.found.now c.loop-n.found c.loop-n.found.reads c.loop-n.n-index 1 (length c.args.named.now) c.loop-n.invariant.grows c.requires.space few

pub loop-n-preserved : goal.loop-n-preserved
loop-n-preserved c = record {
  reads = c.meet.ensures.reads ∙ c.loop-n.invariant.reads;
  grows = grows_more c.args.found.now c.loop-n.found c.meet.new.found c.loop-n.found.reads c.loop-n.n-index 1 (c.loop-n.n-index + 1) c.loop-n.invariant.grows c.meet.ensures.grows (omega arith);
  at = λ x all mets are chains holds.
      let i = c.loop-n.n-index in
      let long : length c.args.named.now ≡ length all = ap (λ (l : List Named). length l) are ∙ length-map all (named_of x) in
      let within : i < length all = omega (arith, long, c.loop-n-test.true) in
      let here : get_or c.args.named.now i no_name ≡ named_of x (get_or all i no_met) = ap (λ (l : List Named). get_or l i no_name) are ∙ get_or-map (named_of x) all i no_met no_name within in
      let before : List Met = filter (is_of c.args.layers.now) (take i all) in
      subst (Holds x c.meet.new.found) (
      append_assoc mets before _ ∙ ap (λ (ms : List Met). mets ++ ms) (sym (filter_more (is_of c.args.layers.now) all i no_met within)))
      (c.meet.ensures.ok x (get_or all i no_met) (mets ++ before) here (chains i no_met within) (c.loop-n.invariant.at x all mets are chains holds));
}

pub returns-clause-ok : goal.returns-clause-ok
returns-clause-ok c = λ x all mets are chains holds.
    let long : length c.args.named.now ≡ length all = ap (λ (l : List Named). length l) are ∙ length-map all (named_of x) in
    let whole = take_all c.loop-n.n-index all (omega (arith, long, c.loop-n-test.false)) in
    rw whole at (c.loop-n.invariant.at x all mets are chains holds)

pub returns-clause-grows : goal.returns-clause-grows
returns-clause-grows c = grows_most c.args.found.now c.loop-n.found c.loop-n.n-index (length c.args.named.now) c.loop-n.invariant.grows (omega (arith, c.loop-n.auto.n-index-end))
