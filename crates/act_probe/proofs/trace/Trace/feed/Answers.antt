use Rattle.std.proofs.Common.{get_or}
use Rattle.act_probe.proofs.trace.Trace.feed.Goals as goal

pub returns-in-First-clause-follows : goal.returns-in-First-clause-follows
returns-in-First-clause-follows c = λ k d within. c.feed_first.ensures.follows (get_or c.args.run.now k d)

pub returns-in-Count-clause-follows : goal.returns-in-Count-clause-follows
returns-in-Count-clause-follows c = λ k d within. c.feed_count.ensures.follows (get_or c.args.run.now k d)

pub returns-in-Rings-clause-follows : goal.returns-in-Rings-clause-follows
returns-in-Rings-clause-follows c = λ k d within. c.feed_rings.ensures.follows (get_or c.args.run.now k d) (c.requires.even c.in-Rings.is k d within)
