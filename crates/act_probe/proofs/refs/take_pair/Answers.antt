use Rattle.act_probe.proofs.RefFacts.{head_of, two_of, one_keys, one_reads, two_keys, two_reads}
use Rattle.std.proofs.Common.{◌∷◌, []}
use Rattle.std.specs.Option.{option_to_list}
use Rattle.act_probe.specs.Chains.{RefsOf}
use Rattle.act_probe.proofs.refs.take_pair.Goals as goal

pub take_ref-first-requires-clause-chain : goal.take_ref-first-requires-clause-chain
take_ref-first-requires-clause-chain g c = head_of _ c.requires.refs.0 c.requires.refs.1 c.args.a (option_to_list c.args.b) c.requires.refs.2

pub take_ref-second-requires-clause-chain : goal.take_ref-second-requires-clause-chain
take_ref-second-requires-clause-chain g c =
    let refs : RefsOf (g.W.Words.image c.args.words.now) c.requires.refs.0 c.requires.refs.1 (c.args.a ∷ c.in-Some.b ∷ []) = rw c.in-Some.is at c.requires.refs.2 in
    let both = two_of _ c.requires.refs.0 c.requires.refs.1 c.args.a c.in-Some.b refs in
    rw c.take_ref-first.ensures.same (both.second, both.next)

pub returns-in-Some-clause-keys : goal.returns-in-Some-clause-keys
returns-in-Some-clause-keys g c = λ hit zones h.
    two_keys (g.W.Words.image c.args.words.now) c.args.layers.now c.args.p hit zones c.args.a c.in-Some.b c.args.out.now c.take_ref-first.new.out c.take_ref-second.new.out 0 0
    (rw c.in-Some.is at h) c.take_ref-first.ensures.keys (rw c.take_ref-first.ensures.same at c.take_ref-second.ensures.keys)

pub returns-in-Some-clause-few : goal.returns-in-Some-clause-few
returns-in-Some-clause-few g c = λ hit zones h.
    two_reads (g.W.Words.image c.args.words.now) c.args.layers.now c.args.p hit zones c.args.a c.in-Some.b [] [] [] c.take_ref-first.result c.take_ref-second.result
    (rw c.in-Some.is at h) c.take_ref-first.ensures.few (rw c.take_ref-first.ensures.same at c.take_ref-second.ensures.few)

pub returns-in-None-clause-keys : goal.returns-in-None-clause-keys
returns-in-None-clause-keys g c = λ hit zones h.
    one_keys (g.W.Words.image c.args.words.now) c.args.layers.now c.args.p hit zones c.args.a c.args.a c.args.out.now [] c.take_ref-first.new.out 0 0
    (rw c.in-None.is at h) c.take_ref-first.ensures.keys

pub returns-in-None-clause-few : goal.returns-in-None-clause-few
returns-in-None-clause-few g c = λ hit zones h.
    one_reads (g.W.Words.image c.args.words.now) c.args.layers.now c.args.p hit zones c.args.a c.args.a [] [] [] c.take_ref-first.result 0
    (rw c.in-None.is at h) c.take_ref-first.ensures.few
