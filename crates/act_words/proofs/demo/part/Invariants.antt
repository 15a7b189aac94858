use Rattle.std.specs.Prelude.{◌≡◌, ◌++◌, false, drop, map, string_bytes}
use Rattle.act_words.specs.Words.{option_words, plain_words}
use Rattle.act_words.proofs.demo.part.Given as goal

-- with what the words that are left give, the words are parted as all of them are
abbrev pub invariant-loop-word : goal.invariant-loop-word
invariant-loop-word l = record {
  options : map string_bytes l.parted.options.items ++ option_words l.waits (map string_bytes (drop l.word-index l.words)) ≡ option_words false (map string_bytes l.words);
  plain : map string_bytes l.parted.plain.items ++ plain_words l.waits (map string_bytes (drop l.word-index l.words)) ≡ plain_words false (map string_bytes l.words);
}
