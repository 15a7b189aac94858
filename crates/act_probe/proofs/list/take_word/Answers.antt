use Rattle.std.proofs.Common.{◌∙◌, sym}
use Rattle.act_probe.proofs.ListFacts.{front_of, never_none, word_keys, word_reads}
use Rattle.act_probe.proofs.list.take_word.Goals as goal

pub take_pair-requires-clause-refs : goal.take_pair-requires-clause-refs
take_pair-requires-clause-refs g c =
    let r = c.requires.refs in
    let f = front_of _ r.0 r.1 r.2 c.args.word c.in-Some.a c.in-Some.b r.3 r.4 (sym c.unpack.ensures ∙ c.in-Some.is) in
    (r.0, f.front, f.refs_are)

pub returns-in-Some-clause-keys : goal.returns-in-Some-clause-keys
returns-in-Some-clause-keys g c = λ hit zones refs h at.
    word_keys (g.W.Words.image c.args.words.now) c.args.layers.now c.args.p hit zones refs c.args.word c.in-Some.a c.in-Some.b h at (sym c.unpack.ensures ∙ c.in-Some.is) c.args.out.now c.take_pair.new.out c.take_pair.ensures.keys

pub returns-in-Some-clause-few : goal.returns-in-Some-clause-few
returns-in-Some-clause-few g c = λ hit zones refs h at.
    word_reads (g.W.Words.image c.args.words.now) c.args.layers.now c.args.p hit zones refs c.args.word c.in-Some.a c.in-Some.b h at (sym c.unpack.ensures ∙ c.in-Some.is) c.take_pair.result c.take_pair.ensures.few

pub returns-in-None-clause-keys : goal.returns-in-None-clause-keys
returns-in-None-clause-keys g c = λ hit zones refs h at. absurd (never_none _ hit zones refs c.args.word h at (sym c.unpack.ensures ∙ c.in-None.is))
