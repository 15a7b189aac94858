use Rattle.std.proofs.Common.{◌≡◌, drop}
use Rattle.actjoin.specs.Showing.{with_replies}
use Rattle.actjoin.proofs.sums.Sums.with_replies.Given as goal

abbrev pub invariant-loop-reply : goal.invariant-loop-reply
invariant-loop-reply l = with_replies (drop l.reply-index l.replies) l.sums ≡ with_replies l.replies l.fn.self
