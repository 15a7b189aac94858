use Rattle.act_base.proofs.Times.{contains_times}
use Rattle.act_index.proofs.reader.PinnedWords.word.Goals as goal

pub word-requires : goal.word-requires
word-requires g c = contains_times c.args.self.now.pin.version.image.rows c.args.row c.requires
