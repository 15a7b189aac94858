use Rattle.std.proofs.Common.{◌∙◌, ◌*◌, ◌++◌, sym, ap, arith, drop, append-nil}
use Rattle.act_probe.specs.Chains.{found_keys}
use Rattle.act_probe.proofs.ListFacts.{next_of, count_is, place_within, word_at, none_left, dropped, same_length, pairs_enough}
use Rattle.act_probe.proofs.list.take_list.Goals as goal

pub overflow_cast-j : goal.overflow_cast-j
overflow_cast-j g c =
    let r = c.requires.list in
    let within = place_within _ c.args.row c.args.place r.2 r.4 c.word-count.result c.loop-j.j c.word-count.ensures.word c.loop-j-test.true in
    omega (arith, within)

pub overflow_add-place-in-loop-j : goal.overflow_add-place-in-loop-j
overflow_add-place-in-loop-j g c =
    let r = c.requires.list in
    let within = place_within _ c.args.row c.args.place r.2 r.4 c.word-count.result c.loop-j.j c.word-count.ensures.word c.loop-j-test.true in
    omega (arith, within)

pub take_word-requires-clause-refs : goal.take_word-requires-clause-refs
take_word-requires-clause-refs g c =
    let r = c.requires.list in
    let at = c.loop-j.invariant.at r.0 r.1 r.2 r.3 r.4 in
    let word = rw c.loop-j.invariant.same at c.word-word.ensures.word in
    rw (c.word-word.ensures.same, c.loop-j.invariant.same)
    (r.0, drop (2 * c.loop-j.j) r.1, drop (2 * c.loop-j.j) r.2, at.0, word_at _ c.args.row c.args.place r.2 r.4 c.word-count.result c.loop-j.j c.word-count.ensures.word c.loop-j-test.true c.word-word.result word)

pub take_word-requires-clause-room : goal.take_word-requires-clause-room
take_word-requires-clause-room g c =
    let r = c.requires.list in
    omega (arith, c.loop-j.invariant.room, count_is _ c.args.row c.args.place r.2 r.4 c.word-count.result c.word-count.ensures.word, c.loop-j-test.true, r.5)

pub overflow_add-reads-in-loop-j : goal.overflow_add-reads-in-loop-j
overflow_add-reads-in-loop-j g c =
    let r = c.requires.list in
    let within = place_within _ c.args.row c.args.place r.2 r.4 c.word-count.result c.loop-j.j c.word-count.ensures.word c.loop-j-test.true in
    omega (arith, within, c.loop-j.invariant.bound, c.take_word.ensures.bound)

pub loop-j-preserved : goal.loop-j-preserved
loop-j-preserved g c = record {
  same = c.take_word.ensures.same ∙ c.word-word.ensures.same ∙ c.loop-j.invariant.same;
  ticks = omega (arith, c.take_word.ensures.ticks, c.word-word.ensures.ticks, c.loop-j.invariant.ticks);
  room = omega (arith, c.take_word.ensures.room, c.loop-j.invariant.room);
  bound = omega (arith, c.take_word.ensures.bound, c.loop-j.invariant.bound);
  at = λ hit zones refs h w.
      let at = c.loop-j.invariant.at hit zones refs h w in
      let told = rw c.loop-j.invariant.same at c.word-word.ensures.word in
      let pair = word_at _ c.args.row c.args.place refs w c.word-count.result c.loop-j.j c.word-count.ensures.word c.loop-j-test.true c.word-word.result told in
      let keys = (rw (c.word-word.ensures.same, c.loop-j.invariant.same) at c.take_word.ensures.keys) hit (drop (2 * c.loop-j.j) zones) (drop (2 * c.loop-j.j) refs) at.0 pair in
      let few = (rw (c.word-word.ensures.same, c.loop-j.invariant.same) at c.take_word.ensures.few) hit (drop (2 * c.loop-j.j) zones) (drop (2 * c.loop-j.j) refs) at.0 pair in
      rw (dropped zones c.loop-j.j, dropped refs c.loop-j.j) (
        (next_of _ hit (drop (2 * c.loop-j.j) zones) (drop (2 * c.loop-j.j) refs) c.word-word.result at.0 pair).more,
        keys ∙ at.1,
        omega (arith, few, at.2),
      );
}

pub returns-clause-keys : goal.returns-clause-keys
returns-clause-keys g c = λ hit zones refs h w.
    let at = c.loop-j.invariant.at hit zones refs h w in
    let long = same_length _ hit zones refs h ∙ sym (count_is _ c.args.row c.args.place refs w c.word-count.result c.word-count.ensures.word) in
    let none = none_left c.word-count.result c.loop-j.j zones long c.loop-j-test.false in
    sym (append-nil c.loop-j.out) ∙ ap (λ zs. c.loop-j.out ++ found_keys c.args.layers.now c.args.p hit zs) (sym none) ∙ at.1

pub returns-clause-few : goal.returns-clause-few
returns-clause-few g c = λ hit zones refs h w.
    let at = c.loop-j.invariant.at hit zones refs h w in
    omega (arith, at.2, count_is _ c.args.row c.args.place refs w c.word-count.result c.word-count.ensures.word, pairs_enough refs, c.loop-j.auto.j-end)

pub returns-clause-bound : goal.returns-clause-bound
returns-clause-bound g c =
    let r = c.requires.list in
    omega (arith, c.loop-j.invariant.bound, count_is _ c.args.row c.args.place r.2 r.4 c.word-count.result c.word-count.ensures.word, r.5, c.loop-j.auto.j-end)
