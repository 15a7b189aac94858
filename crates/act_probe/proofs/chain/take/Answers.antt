use Rattle.std.proofs.Common.{arith, ◌∙◌}
use Rattle.act_probe.proofs.ChainFacts.{held_here, word_here, at_here, held_next, word_next, at_next, passed_few}
use Rattle.act_probe.proofs.chain.take.Goals as goal

pub word-requires : goal.word-requires
word-requires g c =
    let r = c.requires in
    held_here (g.W.Words.image c.args.words.now) r.0 c.args.first r.1 _ _ _ _ r.2 r.3 r.4 c.if-chain-lt-LAST_PLACE.true

pub returns-then-chain-lt-LAST_PLACE-clause-word : goal.returns-then-chain-lt-LAST_PLACE-clause-word
returns-then-chain-lt-LAST_PLACE-clause-word g c = λ zone chain k before at. (
  c.word.ensures.word ∙ word_here _ zone c.args.first chain _ _ _ _ k before at c.if-chain-lt-LAST_PLACE.true,
  at_here _ zone c.args.first chain _ _ _ _ k before at c.if-chain-lt-LAST_PLACE.true,
)

pub word-requires-2 : goal.word-requires-2
word-requires-2 g c =
    let r = c.requires in
    held_next (g.W.Words.image c.args.words.now) r.0 c.args.first r.1 _ _ _ _ r.2 r.3 r.4 c.if-chain-lt-LAST_PLACE.false

pub overflow_add-chain-2 : goal.overflow_add-chain-2
overflow_add-chain-2 g c =
    let r = c.requires in
    let few = passed_few (g.W.Words.image c.args.words.now) r.0 c.args.first r.1 _ _ _ _ r.2 r.3 r.4 in
    omega (arith, few)

pub word-requires-3 : goal.word-requires-3
word-requires-3 g c =
    let r = c.requires in
    rw c.word-2.ensures.same (held_next (g.W.Words.image c.args.words.now) r.0 c.args.first r.1 _ _ _ _ r.2 r.3 r.4 c.if-chain-lt-LAST_PLACE.false)

pub returns-clause-word : goal.returns-clause-word
returns-clause-word g c = λ zone chain k before at. (
  c.word-3.ensures.word ∙ rw c.word-2.ensures.same (word_next _ zone c.args.first chain _ _ _ _ k before at c.if-chain-lt-LAST_PLACE.false),
  rw c.chain_next-chain.ensures (at_next _ zone c.args.first chain _ _ _ _ k before at c.if-chain-lt-LAST_PLACE.false _ c.word-2.ensures.word),
)
