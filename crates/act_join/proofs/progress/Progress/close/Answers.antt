use Rattle.std.specs.Option.{option_to_list}
use Rattle.act_script.specs.Segments.{closed_segment}
use Rattle.act_join.proofs.AnswerFacts.{nothing_front}
use Rattle.act_join.proofs.progress.Progress.close.Goals as goal

pub returns-in-Err-clause-runs : goal.returns-in-Err-clause-runs
returns-in-Err-clause-runs g c = nothing_front c.args.self.now.run (option_to_list (closed_segment c.args.self.now.segmenter)) _
