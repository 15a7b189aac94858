use Rattle.act_join.specs.Replies.{replies_text}
use Rattle.act_join.proofs.ReplyFacts.{flushed, later_on, stopped}
use Rattle.act_join.proofs.put.write_replies.Goals as goal

pub returns-in_err-put_replies-clause-text : goal.returns-in_err-put_replies-clause-text
returns-in_err-put_replies-clause-text g c =
    stopped (replies_text c.args.solved) _ c.clear.new.self.items c.in_err-put_replies.field-0.0 c.from_residual.result c.from_residual.ensures.1 c.clear.ensures.items
    (rw c.into_vec.ensures at c.in_err-put_replies.ensures)

pub returns-clause-text : goal.returns-clause-text
returns-clause-text g c =
    flushed _ _ _ _ _ _ (replies_text c.args.solved) c.clear.new.self.items c.put_replies.new.text.items c.flush.new.text.items c.flush.result c.clear.ensures.items
    (rw c.into_vec.ensures at c.in_ok-put_replies.ensures) c.flush.ensures.put c.flush.ensures.empty

pub returns-clause-later : goal.returns-clause-later
returns-clause-later g c = later_on _ _ _ _ _ _ _ c.put_replies.new.text.items c.flush.new.text.items c.flush.result c.in_ok-put_replies.ensures c.flush.ensures.put
