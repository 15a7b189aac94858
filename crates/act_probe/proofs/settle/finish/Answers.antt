use Rattle.std.proofs.Common.{◌∙◌, Bool, List, sym, ap, arith, length, map, filter}
use Rattle.std.proofs.lemmas.List.{length-map}
use Rattle.std.proofs.lemmas.Simd.{map-map}
use Rattle.act_probe.specs.declared.buffers.Candidate.{Candidate}
use Rattle.act_probe.specs.Batches.{Met, answered, chosen, hit_of, is_held, pair_of}
use Rattle.act_probe.proofs.FinishFacts.{asks, cost, few, hits_are, settles, within, zone_of}
use Rattle.act_probe.proofs.HalfFacts.{written}
use Rattle.act_probe.proofs.settle.finish.Goals as goal

pub resolve-requires-clause-asks : goal.resolve-requires-clause-asks
resolve-requires-clause-asks g c =
    let r = c.requires.gathers in
    rw c.deref_mut.ensures.value (zone_of r.4.mets, asks _ c.args.found.now r.4.mets r.4.holds c.order.new.candidates.items c.in_ok-order.ensures.permutation)

pub resolve-requires-clause-ascends : goal.resolve-requires-clause-ascends
resolve-requires-clause-ascends g c = rw c.deref_mut.ensures.value c.in_ok-order.ensures.ascends

pub resolve-requires-clause-room : goal.resolve-requires-clause-room
resolve-requires-clause-room g c =
    let r = c.requires.gathers in
    omega (arith, few _ c.args.found.now r.4.mets r.4.holds c.order.new.candidates.items c.in_ok-order.ensures.permutation, ap (λ (l : List Candidate). length l) c.deref_mut.ensures.value, c.requires.room, c.requires.few)

pub keep-requires : goal.keep-requires
keep-requires g c =
    let r = c.requires.gathers in
    let all = asks _ c.args.found.now r.4.mets r.4.holds c.order.new.candidates.items c.in_ok-order.ensures.permutation in
    let odd = (rw c.deref_mut.ensures.value at c.resolve.ensures.odd) (zone_of r.4.mets) all in
    let long = ap (λ (l : List Candidate). length l) odd ∙ length-map c.order.new.candidates.items (answered (zone_of r.4.mets)) in
    let same = c.deref.ensures.value ∙ written c.order.new.candidates.items c.resolve.new.candidates _ long (omega (arith, c.deref_mut.ensures.len, ap (λ (l : List Candidate). length l) c.deref_mut.ensures.value)) in
    rw (c.deref_mut-2.ensures.value, same) (within _ c.args.found.now r.4.mets r.4.holds c.order.new.candidates.items c.in_ok-order.ensures.permutation c.resolve.new.candidates odd)

pub returns-clause-hits : goal.returns-clause-hits
returns-clause-hits g c = λ settings state layers points h.
    let all = asks _ c.args.found.now h.mets h.holds c.order.new.candidates.items c.in_ok-order.ensures.permutation in
    let odd = (rw c.deref_mut.ensures.value at c.resolve.ensures.odd) (zone_of h.mets) all in
    let long = ap (λ (l : List Candidate). length l) odd ∙ length-map c.order.new.candidates.items (answered (zone_of h.mets)) in
    let same = c.deref.ensures.value ∙ written c.order.new.candidates.items c.resolve.new.candidates _ long (omega (arith, c.deref_mut.ensures.len, ap (λ (l : List Candidate). length l) c.deref_mut.ensures.value)) in
    let kept = (rw (c.deref_mut-2.ensures.value, same) at c.keep.ensures) (map is_held h.mets) (settles _ c.args.found.now h.mets h.holds c.order.new.candidates.items c.in_ok-order.ensures.permutation c.resolve.new.candidates odd) in
    let bits = ap (λ (l : List Bool). length l) h.holds.kept ∙ length-map h.mets (λ (m : Met). m.hit) ∙ sym (length-map h.mets is_held) in
    let whole = written c.args.found.now.kept.items c.keep.new.kept _ (ap (λ (l : List Bool). length l) kept ∙ sym bits) (omega (arith, c.deref_mut-2.ensures.len, ap (λ (l : List Bool). length l) c.deref_mut-2.ensures.value)) in
    ap (map hit_of) (c.compact.ensures.hits ∙ ap (λ (l : List Bool). chosen l c.args.found.now.hits.items) (c.deref-2.ensures.value ∙ whole ∙ kept) ∙ hits_are _ c.args.found.now h.mets h.holds)
    ∙ map-map hit_of pair_of (filter is_held h.mets) ∙ h.are

pub returns-clause-few : goal.returns-clause-few
returns-clause-few g c = λ settings state layers points h.
    let all = asks _ c.args.found.now h.mets h.holds c.order.new.candidates.items c.in_ok-order.ensures.permutation in
    let read = (rw c.deref_mut.ensures.value at c.resolve.ensures.few) (zone_of h.mets) all in
    omega (arith, read, h.few, cost _ c.args.found.now h.mets h.holds c.order.new.candidates.items c.in_ok-order.ensures.permutation)

pub returns-clause-bound : goal.returns-clause-bound
returns-clause-bound g c =
    let r = c.requires.gathers in
    omega (arith, c.resolve.ensures.bound, few _ c.args.found.now r.4.mets r.4.holds c.order.new.candidates.items c.in_ok-order.ensures.permutation, ap (λ (l : List Candidate). length l) c.deref_mut.ensures.value, c.requires.room, c.requires.few)
