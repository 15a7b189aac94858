use Rattle.std.proofs.Common.{arith, take, drop, take_all, ◌≤◌, ◌≡◌, ◌-◌, length, length-drop}
use Rattle.act_io.proofs.ByteFacts.{appends-next}
use Rattle.act_io.proofs.sink.put_all.Goals as goal

pub loop-at-preserved : goal.loop-at-preserved
loop-at-preserved g c =
    let text = c.args.text.now in
    let at = c.loop-at.at in
    let size = length-drop at text in
    let rest : take (length text - at) (drop at text) ≡ drop at text = take_all (length text - at) (drop at text) (omega arith) in
    record {
      within = omega (arith, c.in_ok-at.ensures.taken.1);
      bytes = appends-next _ _ _ text at _ c.loop-at.invariant.bytes (rw rest at c.in_ok-at.ensures.bytes);
      later = omega (arith, c.in_ok-at.ensures.cause.later);
    }

pub returns-clause-whole : goal.returns-clause-whole
returns-clause-whole g c =
    let all : length c.args.text.now ≤ c.loop-at.at = c.loop-at-test.false in
    rw (take_all) at c.loop-at.invariant.bytes
