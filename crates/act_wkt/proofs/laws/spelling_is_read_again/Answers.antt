use Rattle.act_wkt.specs.Spelling.{spelling}
use Rattle.act_wkt.proofs.SpellingLaws.{spelling_is}
use Rattle.act_wkt.proofs.WholeLaws.{complete}
use Rattle.act_wkt.proofs.laws.spelling_is_read_again.Goals as goal

pub returns : goal.returns
returns c = record {
  grammar = spelling_is;
  read = λ digits rings are few. complete digits (spelling digits rings) rings (spelling_is digits rings are few);
}
