use Rattle.std.proofs.Common.{◌≡◌, ◌∙◌, Some, ap, map, refl, string_bytes, sym}
use Rattle.act_io.specs.Streams.{stream}
use Rattle.act_words.specs.Words.{Asks, asks_of, fits, wanted_of}
use Rattle.act_words.specs.Words.Asks.{Joins, Shows}
use Rattle.actjoin.proofs.DemoEndFacts.{demo_run, keeps_same}
use Rattle.actjoin.proofs.run.run.Goals as goal

pub returns-in-Ok-Some-Join : goal.returns-in-Ok-Some-Join
returns-in-Ok-Some-Join g c =
    let some : Some (asks_of c.in-Ok-Some-Join.field-0-0) ≡ fits (map string_bytes c.args.words.now) = rw c.in-Ok-Some-Join.field-0-is at c.in-Ok-Some-Join.ensures.asks in
    let join : asks_of c.in-Ok-Some-Join.field-0-0 ≡ Joins (wanted_of c.in-Ok-Some-Join.settings) =
    rw c.in-Ok-Some-Join.field-0-0-is refl in
    (c.in-Ok-Some-Join.settings, sym some ∙ ap (λ (asks : Asks). Some asks) join, c.engine.ensures)

pub returns-in-Ok-Some-Demo : goal.returns-in-Ok-Some-Demo
returns-in-Ok-Some-Demo g c =
    let some : Some (asks_of c.in-Ok-Some-Demo.field-0-0) ≡ fits (map string_bytes c.args.words.now) = rw c.in-Ok-Some-Demo.field-0-is at c.in-Ok-Some-Demo.ensures.asks in
    let demo : asks_of c.in-Ok-Some-Demo.field-0-0 ≡ Shows c.in-Ok-Some-Demo.side (wanted_of c.in-Ok-Some-Demo.settings) =
    rw c.in-Ok-Some-Demo.field-0-0-is refl in
    rw c.of_demo.ensures (demo_run (map string_bytes c.args.words.now) (stream g.S.Source.left g.S.Source.faults c.args.input.now c.args.input.now)
    (stream g.K.Sink.written g.K.Sink.faults c.args.out.now c.demo.new.out) c.in-Ok-Some-Demo.side c.in-Ok-Some-Demo.settings c.demo.result
    (sym some ∙ ap (λ (asks : Asks). Some asks) demo) (keeps_same (g.S.Source.left c.args.input.now)) c.demo.ensures)
