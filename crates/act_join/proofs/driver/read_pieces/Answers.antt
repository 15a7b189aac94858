use Rattle.std.proofs.Common.{◌≡◌, ◌++◌, ℕ, List, [], take, rules, arith, refl}
use Rattle.act_io.proofs.ByteFacts.{consumes-more, consumes-none}
use Rattle.act_io.specs.Streams.{HasFailed, stream}
use Rattle.act_join.proofs.EndFacts.{closed_there, failed_there, start_within, stopped_there}
use Rattle.act_join.proofs.PieceFacts.{feeds_more, feeds_none}
use Rattle.act_join.proofs.driver.read_pieces.Goals as goal

pub pieces-init : goal.pieces-init
pieces-init g c = record {
  within = start_within c.args.settings c.args.progress.now c.requires;
  read = omega arith;
  later = omega arith;
  feeds = record {
    read = [];
    consumed = consumes-none (g.S.Source.left c.args.input.now);
    feeds = feeds_none c.args.settings.digits c.args.progress.now (g.K.Sink.written c.args.out.now);
  };
}

pub returns-in-Err : goal.returns-in-Err
returns-in-Err g c =
    let inv = c.pieces.invariant in
    let left = g.S.Source.left in
    let written = g.K.Sink.written in
    let reads = g.S.Source.faults in
    let writes = g.K.Sink.faults in
    let failed : HasFailed (stream left g.S.Source.faults c.args.input.now c.read.new.self) = omega (arith, inv.read, c.in-Err.ensures.cause.failed) in
    failed_there c.args.settings c.args.progress.now c.pieces.progress inv.feeds.read (left c.args.input.now) (left c.pieces.input) (left c.read.new.self) (written c.args.out.now) (written c.pieces.out)
    (reads c.args.input.now) (reads c.read.new.self) (writes c.args.out.now) (writes c.pieces.out)
    c.requires inv.feeds.consumed c.in-Err.ensures.bytes inv.within.limits.open_line inv.feeds.feeds failed

pub returns-in-Ok-eq0 : goal.returns-in-Ok-eq0
returns-in-Ok-eq0 g c =
    let inv = c.pieces.invariant in
    let left = g.S.Source.left in
    let written = g.K.Sink.written in
    let reads = g.S.Source.faults in
    let writes = g.K.Sink.faults in
    let zero : c.in-Ok-eq0.field-0 ≡ 0 = search rules in
    rw c.end_by.ensures
    (closed_there c.finish.result c.args.settings c.args.progress.now c.pieces.progress inv.feeds.read (left c.args.input.now) (left c.pieces.input) (left c.read.new.self)
    (reads c.args.input.now) (reads c.read.new.self) (written c.args.out.now) (written c.pieces.out) (written c.finish.new.out) (writes c.args.out.now) (writes c.pieces.out) (writes c.finish.new.out)
    c.requires inv.feeds.consumed (rw zero at c.in-Ok-eq0.ensures.bytes.0) (c.in-Ok-eq0.ensures.bytes.1 zero (search rules))
    inv.feeds.feeds inv.later c.finish.ensures)

pub returns-in-Err-feed : goal.returns-in-Err-feed
returns-in-Err-feed g c =
    let inv = c.pieces.invariant in
    let left = g.S.Source.left in
    let written = g.K.Sink.written in
    let reads = g.S.Source.faults in
    let writes = g.K.Sink.faults in
    stopped_there c.in-Err-feed.end c.args.settings c.args.progress.now c.pieces.progress inv.feeds.read (take c.in-Ok.n c.read.new.buf) (left c.args.input.now) (left c.pieces.input) (left c.read.new.self)
    (reads c.args.input.now) (reads c.read.new.self) (written c.args.out.now) (written c.pieces.out) (written c.feed.new.out) (writes c.args.out.now) (writes c.pieces.out) (writes c.feed.new.out)
    c.requires inv.feeds.consumed c.in-Ok.ensures.bytes.0 inv.feeds.feeds inv.later c.in-Err-feed.ensures.feeds

pub pieces-preserved : goal.pieces-preserved
pieces-preserved g c =
    let inv = c.pieces.invariant in
    let left = g.S.Source.left in
    let written = g.K.Sink.written in
    let piece : List ℕ = take c.in-Ok.n c.read.new.buf in
    record {
      within = c.in-Ok-feed.ensures.within;
      read = omega (arith, inv.read, c.read.ensures.cause.later);
      later = omega (arith, inv.later, c.in-Ok-feed.ensures.later);
      feeds = record {
        read = inv.feeds.read ++ piece;
        consumed = consumes-more (left c.args.input.now) (left c.pieces.input) (left c.read.new.self) inv.feeds.read piece (inv.feeds.read ++ piece) inv.feeds.consumed c.in-Ok.ensures.bytes.0 refl;
        feeds = feeds_more c.args.settings.digits c.args.progress.now c.pieces.progress c.feed.new.self inv.feeds.read piece (written c.args.out.now) (written c.pieces.out) (written c.feed.new.out)
            inv.feeds.feeds c.in-Ok-feed.ensures.feeds;
      };
    }
