use Rattle.std.proofs.Common.{ℕ, List, ◌∙◌, ap, map, string_bytes, subst, sym}
use Rattle.act_io.specs.Streams.{GetsOrFails, stream}
use Rattle.actjoin.specs.Ends.{status_text}
use Rattle.actjoin.proofs.DemoEndFacts.{demo_at, demo_complete, demo_done, demo_ends, demo_front, demo_unread}
use Rattle.actjoin.proofs.EndFacts.{bad_at, bad_text_at, done_at, front_at, read_at, run_at, told_at}
use Rattle.actjoin.proofs.run.act_main.Goals as goal

pub returns-clause-done : goal.returns-clause-done
returns-clause-done g c settings script fit told is =
    done_at (map string_bytes c.args.words.now) (stream g.S.Source.left g.S.Source.faults c.args.input.now c.run-ending.new.input) (stream g.K.Sink.written g.K.Sink.faults c.args.out.now c.run-ending.new.out) settings script c.run-ending.result (run_at (map string_bytes c.args.words.now) (stream g.S.Source.left g.S.Source.faults c.args.input.now c.run-ending.new.input) (stream g.K.Sink.written g.K.Sink.faults c.args.out.now c.run-ending.new.out) settings script c.run-ending.result fit told c.run-ending.ensures) (cc)

pub returns-clause-bad : goal.returns-clause-bad
returns-clause-bad g c settings script fit told is =
    bad_at (map string_bytes c.args.words.now) (stream g.S.Source.left g.S.Source.faults c.args.input.now c.run-ending.new.input) (stream g.K.Sink.written g.K.Sink.faults c.args.out.now c.run-ending.new.out) settings script c.run-ending.result (run_at (map string_bytes c.args.words.now) (stream g.S.Source.left g.S.Source.faults c.args.input.now c.run-ending.new.input) (stream g.K.Sink.written g.K.Sink.faults c.args.out.now c.run-ending.new.out) settings script c.run-ending.result fit told c.run-ending.ensures) (cc)

pub returns-clause-read_text : goal.returns-clause-read_text
returns-clause-read_text g c settings script fit told is =
    read_at (map string_bytes c.args.words.now) (stream g.S.Source.left g.S.Source.faults c.args.input.now c.run-ending.new.input) (stream g.K.Sink.written g.K.Sink.faults c.args.out.now c.run-ending.new.out) settings script c.run-ending.result (run_at (map string_bytes c.args.words.now) (stream g.S.Source.left g.S.Source.faults c.args.input.now c.run-ending.new.input) (stream g.K.Sink.written g.K.Sink.faults c.args.out.now c.run-ending.new.out) settings script c.run-ending.result fit told c.run-ending.ensures) (cc)

pub returns-clause-front : goal.returns-clause-front
returns-clause-front g c settings script fit told =
    front_at (map string_bytes c.args.words.now) (stream g.S.Source.left g.S.Source.faults c.args.input.now c.run-ending.new.input) (stream g.K.Sink.written g.K.Sink.faults c.args.out.now c.run-ending.new.out) settings script c.run-ending.result (run_at (map string_bytes c.args.words.now) (stream g.S.Source.left g.S.Source.faults c.args.input.now c.run-ending.new.input) (stream g.K.Sink.written g.K.Sink.faults c.args.out.now c.run-ending.new.out) settings script c.run-ending.result fit told c.run-ending.ensures)

pub returns-clause-told_bad : goal.returns-clause-told_bad
returns-clause-told_bad g c settings script fit told is =
    rw (← bad_text_at (map string_bytes c.args.words.now) (stream g.S.Source.left g.S.Source.faults c.args.input.now c.run-ending.new.input) (stream g.K.Sink.written g.K.Sink.faults c.args.out.now c.run-ending.new.out) settings script c.run-ending.result (run_at (map string_bytes c.args.words.now) (stream g.S.Source.left g.S.Source.faults c.args.input.now c.run-ending.new.input) (stream g.K.Sink.written g.K.Sink.faults c.args.out.now c.run-ending.new.out) settings script c.run-ending.result fit told c.run-ending.ensures) (cc)) c.tell.ensures

pub returns-clause-demo_unread : goal.returns-clause-demo_unread
returns-clause-demo_unread g c side settings fit = (
  demo_unread (map string_bytes c.args.words.now) (stream g.S.Source.left g.S.Source.faults c.args.input.now c.run-ending.new.input) (stream g.K.Sink.written g.K.Sink.faults c.args.out.now c.run-ending.new.out) side settings c.run-ending.result (demo_at (map string_bytes c.args.words.now) (stream g.S.Source.left g.S.Source.faults c.args.input.now c.run-ending.new.input) (stream g.K.Sink.written g.K.Sink.faults c.args.out.now c.run-ending.new.out) side settings c.run-ending.result fit c.run-ending.ensures),
  rw c.status.ensures (demo_ends (map string_bytes c.args.words.now) (stream g.S.Source.left g.S.Source.faults c.args.input.now c.run-ending.new.input) (stream g.K.Sink.written g.K.Sink.faults c.args.out.now c.run-ending.new.out) side settings c.run-ending.result (demo_at (map string_bytes c.args.words.now) (stream g.S.Source.left g.S.Source.faults c.args.input.now c.run-ending.new.input) (stream g.K.Sink.written g.K.Sink.faults c.args.out.now c.run-ending.new.out) side settings c.run-ending.result fit c.run-ending.ensures)),
)

pub returns-clause-demo_done : goal.returns-clause-demo_done
returns-clause-demo_done g c side settings fit is =
    demo_done (map string_bytes c.args.words.now) (stream g.S.Source.left g.S.Source.faults c.args.input.now c.run-ending.new.input) (stream g.K.Sink.written g.K.Sink.faults c.args.out.now c.run-ending.new.out) side settings c.run-ending.result (demo_at (map string_bytes c.args.words.now) (stream g.S.Source.left g.S.Source.faults c.args.input.now c.run-ending.new.input) (stream g.K.Sink.written g.K.Sink.faults c.args.out.now c.run-ending.new.out) side settings c.run-ending.result fit c.run-ending.ensures) (cc)

pub returns-clause-demo_front : goal.returns-clause-demo_front
returns-clause-demo_front g c side settings fit =
    demo_front (map string_bytes c.args.words.now) (stream g.S.Source.left g.S.Source.faults c.args.input.now c.run-ending.new.input) (stream g.K.Sink.written g.K.Sink.faults c.args.out.now c.run-ending.new.out) side settings c.run-ending.result (demo_at (map string_bytes c.args.words.now) (stream g.S.Source.left g.S.Source.faults c.args.input.now c.run-ending.new.input) (stream g.K.Sink.written g.K.Sink.faults c.args.out.now c.run-ending.new.out) side settings c.run-ending.result fit c.run-ending.ensures)

pub returns-clause-demo_complete : goal.returns-clause-demo_complete
returns-clause-demo_complete g c side settings fit put =
    rw c.status.ensures (demo_complete (map string_bytes c.args.words.now) (stream g.S.Source.left g.S.Source.faults c.args.input.now c.run-ending.new.input) (stream g.K.Sink.written g.K.Sink.faults c.args.out.now c.run-ending.new.out) side settings c.run-ending.result (demo_at (map string_bytes c.args.words.now) (stream g.S.Source.left g.S.Source.faults c.args.input.now c.run-ending.new.input) (stream g.K.Sink.written g.K.Sink.faults c.args.out.now c.run-ending.new.out) side settings c.run-ending.result fit c.run-ending.ensures) put)

pub returns-clause-told : goal.returns-clause-told
returns-clause-told g c other =
    subst (λ (text : List ℕ). GetsOrFails (stream g.E.Sink.written g.E.Sink.faults c.args.err.now c.tell.new.err) text)
    (told_at c.run-ending.result (λ is. other (c.status.ensures ∙ is)) ∙ ap status_text (sym c.status.ensures)) c.tell.ensures
