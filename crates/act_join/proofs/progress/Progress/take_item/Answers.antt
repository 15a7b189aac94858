use Rattle.std.proofs.Common.{◌∷◌, []}
use Rattle.act_script.specs.Script.{with_items}
use Rattle.act_join.specs.Feeds.{segments_after}
use Rattle.act_join.proofs.AnswerFacts.{nothing_front}
use Rattle.act_join.proofs.FeedFacts.{item_taken}
use Rattle.act_join.proofs.progress.Progress.take_item.Goals as goal

pub returns-in-Ok-clause-takes : goal.returns-in-Ok-clause-takes
returns-in-Ok-clause-takes g c n =
    let before = c.args.self.now in
    item_taken c.run_given.result n c.args.item before (record { cutter = before.cutter; segmenter = c.push.new.self; run = c.run_given.new.run }) _
    c.in-Ok.ensures.ok (rw c.in-Ok.ensures.given at c.run_given.ensures.runs)

pub returns-in-Err-clause-takes : goal.returns-in-Err-clause-takes
returns-in-Err-clause-takes g c n more =
    let before = c.args.self.now in
    nothing_front before.run (segments_after before.segmenter (with_items (c.args.item ∷ []) more)) _
