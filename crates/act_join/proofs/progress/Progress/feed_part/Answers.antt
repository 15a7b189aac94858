use Rattle.std.proofs.Common.{◌≡◌, ◌∙◌, true, false, take, take_all, refl, rules, arith}
use Rattle.act_join.proofs.PieceFacts.{cut_stopped, feeds_held, feeds_line, part_stopped}
use Rattle.act_join.proofs.progress.Progress.feed_part.Goals as goal

pub returns-in-Err-clause-feeds : goal.returns-in-Err-clause-feeds
returns-in-Err-clause-feeds g c =
    rw c.end_at_cut.ensures (cut_stopped c.in-Err.fault c.args.digits c.number.result c.args.self.now c.args.piece.now _ _ _ (c.number.ensures ∙ c.in-Err.ensures.fault.1) c.in-Err.ensures.cause)

pub returns-then-not-taken-clause-feeds : goal.returns-then-not-taken-clause-feeds
returns-then-not-taken-clause-feeds g c =
    let before = c.args.self.now in
    let piece = c.args.piece.now in
    let off : c.in-Ok.taken.line ≡ false = search rules in
    let takes = rw off at c.in-Ok.ensures.takes in
    let all : take c.in-Ok.taken.used piece ≡ piece = take_all c.in-Ok.taken.used piece (omega (arith, takes.0)) in
    rw all (feeds_held c.args.digits before (record { cutter = c.take.new.self; segmenter = before.segmenter; run = before.run }) piece (g.K.Sink.written c.args.out.now) takes.1 refl refl)

pub returns-in-Ok-take_line-clause-feeds : goal.returns-in-Ok-take_line-clause-feeds
returns-in-Ok-take_line-clause-feeds g c =
    let on : c.in-Ok.taken.line ≡ true = search rules in
    let takes = rw on at c.in-Ok.ensures.takes in
    feeds_line c.args.digits c.args.self.now c.take_line.new.self c.take.new.self (take c.in-Ok.taken.used c.args.piece.now) (g.K.Sink.written c.args.out.now) (g.K.Sink.written c.take_line.new.out)
    takes.0 takes.3 takes.4 takes.5 c.take_line.ensures.cutter c.in-Ok-take_line.ensures.takes

pub returns-in-Err-take_line-clause-feeds : goal.returns-in-Err-take_line-clause-feeds
returns-in-Err-take_line-clause-feeds g c =
    let on : c.in-Ok.taken.line ≡ true = search rules in
    let takes = rw on at c.in-Ok.ensures.takes in
    part_stopped c.in-Err-take_line.end c.args.digits c.args.self.now c.take.new.self c.args.piece.now c.in-Ok.taken.used _ takes.0 takes.5 c.in-Err-take_line.ensures.takes
