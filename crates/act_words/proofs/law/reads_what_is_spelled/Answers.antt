use Rattle.act_words.proofs.SpellingFacts as lemmas
use Rattle.act_words.proofs.law.reads_what_is_spelled.Goals as goal

pub returns : goal.returns
returns c = lemmas.reads_what_is_spelled
