-- The words of a command line, as a grammar.
use Rattle.std.specs.Prelude.{◌≡◌, ◌⊎◌, true, List, [], ◌∷◌, ◌++◌, Some, None, codes}
use Rattle.std.specs.List.{list_all}
use Rattle.act_words.specs.Words.{Given, Word, given_by, is_among, option_names}

-- an option, as two words or as one
abbrev pub IsOption : Word × Word → List Word → Type 0
IsOption p words = (words ≡ (codes "--" ++ p.0) ∷ p.1 ∷ []) ⊎ (words ≡ (codes "--" ++ p.0 ++ codes "=" ++ p.1) ∷ [])

-- the words are these options, in order
abbrev pub Spells : Given → List Word → Type 0
Spells [] words = words ≡ []
Spells (p ∷ given) words = (front : List Word) × (rest : List Word) × (words ≡ front ++ rest) × IsOption p front × Spells given rest

-- each option is one of the command's
abbrev pub AreKnown : Given → Type 0
AreKnown given = list_all (λ p. is_among option_names p.0) given ≡ true

-- what the words are read as is what spells them, and nothing else is
pub record ReadsWhatIsSpelled : Type 0 where
  pub found : (words : List Word) (given : Given) → given_by option_names words None ≡ Some given → AreKnown given × Spells given words
  pub only : (words : List Word) (given : Given) → AreKnown given → Spells given words → given_by option_names words None ≡ Some given
