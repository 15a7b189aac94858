use Rattle.std.proofs.Common.{◌≡◌, ◌∙◌, ◌+◌, ◌*◌, ◌++◌, List, sym, ap, arith, drop, map, take, append-nil, append_assoc}
use Rattle.std.proofs.Math.Seq.{take-add}
use Rattle.std.proofs.lemmas.List.{map-append, take_all}
use Rattle.act_entry.specs.declared.reference.Ref.{Ref}
use Rattle.act_probe.specs.declared.buffers.Named.{Named}
use Rattle.act_probe.specs.Names.{named_by}
use Rattle.act_probe.proofs.ListFacts.{next_of, count_is, place_within, word_at, dropped, pairs_enough}
use Rattle.act_probe.proofs.names.put_list.Goals as goal

pub loop-j-init : goal.loop-j-init
loop-j-init g c = record {
  same = c.word-count.ensures.same;
  ticks = omega (arith, c.word-count.ensures.ticks);
  count = omega arith;
  space = omega arith;
  long = omega arith;
  left = λ hit zones all h w. h;
  at = λ hit zones all h w. sym (append-nil c.args.named.now.items);
}

pub overflow_cast-j : goal.overflow_cast-j
overflow_cast-j g c =
    let r = c.requires.list in
    let within = place_within _ c.args.row c.args.start r.2 r.4 c.word-count.result c.loop-j.j c.word-count.ensures.word c.loop-j-test.true in
    omega (arith, within)

pub overflow_add-start-in-loop-j : goal.overflow_add-start-in-loop-j
overflow_add-start-in-loop-j g c =
    let r = c.requires.list in
    let within = place_within _ c.args.row c.args.start r.2 r.4 c.word-count.result c.loop-j.j c.word-count.ensures.word c.loop-j-test.true in
    omega (arith, within)

pub put_word-requires-clause-refs : goal.put_word-requires-clause-refs
put_word-requires-clause-refs g c =
    let r = c.requires.list in
    let at = c.loop-j.invariant.left r.0 r.1 r.2 r.3 r.4 in
    let told = rw c.loop-j.invariant.same at c.word-word.ensures.word in (
      g.W.Words.image c.args.words.now,
      r.0,
      drop (2 * c.loop-j.j) r.1,
      drop (2 * c.loop-j.j) r.2,
      at,
      word_at _ c.args.row c.args.start r.2 r.4 c.word-count.result c.loop-j.j c.word-count.ensures.word c.loop-j-test.true c.word-word.result told,
    )

pub put_word-requires-clause-space : goal.put_word-requires-clause-space
put_word-requires-clause-space g c =
    let r = c.requires.list in
    omega (arith, c.loop-j.invariant.long, c.loop-j.invariant.space, c.requires.space, count_is _ c.args.row c.args.start r.2 r.4 c.word-count.result c.word-count.ensures.word, c.loop-j-test.true, r.5)

pub loop-j-preserved : goal.loop-j-preserved
loop-j-preserved g c = record {
  same = c.word-word.ensures.same ∙ c.loop-j.invariant.same;
  ticks = omega (arith, c.word-word.ensures.ticks, c.loop-j.invariant.ticks);
  count = omega (arith, c.loop-j.invariant.count);
  space = c.put_word.ensures.space ∙ c.loop-j.invariant.space;
  long = omega (arith, c.put_word.ensures.few, c.loop-j.invariant.long);
  left = λ hit zones all h w.
      let at = c.loop-j.invariant.left hit zones all h w in
      let told = rw c.loop-j.invariant.same at c.word-word.ensures.word in
      let pair = word_at _ c.args.row c.args.start all w c.word-count.result c.loop-j.j c.word-count.ensures.word c.loop-j-test.true c.word-word.result told in
      rw (dropped zones c.loop-j.j, dropped all c.loop-j.j) (next_of _ hit (drop (2 * c.loop-j.j) zones) (drop (2 * c.loop-j.j) all) c.word-word.result at pair).more;
  at = λ hit zones all h w.
      let left = c.loop-j.invariant.left hit zones all h w in
      let told = rw c.loop-j.invariant.same at c.word-word.ensures.word in
      let pair = word_at _ c.args.row c.args.start all w c.word-count.result c.loop-j.j c.word-count.ensures.word c.loop-j-test.true c.word-word.result told in
      let f : Ref → Named = named_by c.args.place c.args.point in
      let front = take (2 * c.loop-j.j) all in
      let next = take 2 (drop (2 * c.loop-j.j) all) in
      let two : 2 * (c.loop-j.j + 1) ≡ 2 * c.loop-j.j + 2 = omega arith in
      c.put_word.ensures.named _ hit (drop (2 * c.loop-j.j) zones) (drop (2 * c.loop-j.j) all) left pair
      ∙ ap (λ (ns : List Named). ns ++ map f next) (c.loop-j.invariant.at hit zones all h w)
      ∙ append_assoc c.args.named.now.items (map f front) (map f next)
      ∙ ap (λ (ns : List Named). c.args.named.now.items ++ ns) (sym (map-append f front next))
      ∙ ap (λ (rs : List Ref). c.args.named.now.items ++ map f rs) (sym (ap (λ n. take n all) two ∙ take-add (2 * c.loop-j.j) 2 all));
}

pub returns-clause-named : goal.returns-clause-named
returns-clause-named g c = λ hit zones all h w.
    let count = count_is _ c.args.row c.args.start all w c.word-count.result c.word-count.ensures.word in
    let whole = take_all (2 * c.loop-j.j) all (omega (arith, count, c.loop-j-test.false)) in
    rw whole at (c.loop-j.invariant.at hit zones all h w)

pub returns-clause-few : goal.returns-clause-few
returns-clause-few g c = λ hit zones all h w.
    omega (arith, c.loop-j.invariant.count, count_is _ c.args.row c.args.start all w c.word-count.result c.word-count.ensures.word, pairs_enough all, c.loop-j.auto.j-end)

pub returns-clause-long : goal.returns-clause-long
returns-clause-long g c =
    let r = c.requires.list in
    omega (arith, c.loop-j.invariant.long, count_is _ c.args.row c.args.start r.2 r.4 c.word-count.result c.word-count.ensures.word, r.5, c.loop-j.auto.j-end)

pub returns-clause-bound : goal.returns-clause-bound
returns-clause-bound g c =
    let r = c.requires.list in
    omega (arith, c.loop-j.invariant.count, count_is _ c.args.row c.args.start r.2 r.4 c.word-count.result c.word-count.ensures.word, r.5, c.loop-j.auto.j-end)
