-- What words are read as is what spells them.
use Rattle.std.proofs.Common.{◌≡◌, ◌==◌, ℕ, Bool, true, false, List, [], ◌∷◌, ◌++◌, Option, Some, None, refl, sym, ap, ◌∙◌, codes, inl, inr, ◌⊎◌, append_assoc, arith, zero, suc, ◌≢◌, option_and_then}
use Rattle.std.proofs.lemmas.Bool.Decides.{eqb_tells}
use Rattle.clap.specs.Lexer.{long_of, long_of_rest, name_and_value, strip_byte}
use Rattle.clap.proofs.CutLemmas.{Lacks}
use Rattle.clap.proofs.LexerLemmas.{name_and_value-at, name_and_value-without}
use Rattle.act_words.specs.Words.{Given, Word, given_by, given_option, is_among, option_names}
use Rattle.act_words.specs.Spelling.{AreKnown, IsOption, ReadsWhatIsSpelled, Spells}
use Rattle.act_words.proofs.WalkFacts.{and_true, with_given_is}
use Rattle.act_words.proofs.FitsFacts.{given_among, one_of_four}

-- a text has an `=`, or it has none
data Cut (text : Word) : Type 0 where
  at : (xs ys : Word) → Lacks 61 xs → text ≡ xs ++ 61 ∷ ys → Cut text
  none : Lacks 61 text → Cut text

lacks_more : (x : ℕ) (xs : Word) → x ≢ 61 → Lacks 61 xs → Lacks 61 (x ∷ xs)
lacks_more x xs ne h zero lt = ne
lacks_more x xs ne h (suc j) lt = h j (omega arith)

cut : (text : Word) → Cut text
cut [] = none (λ i lt. absurd (omega arith))
cut (x ∷ xs) = by (eqb_tells x 61) (cut xs)
  where
    by : ((x == 61 ≡ true) × (x ≡ 61)) ⊎ ((x == 61 ≡ false) × (x ≢ 61)) → Cut xs → Cut (x ∷ xs)
    by (inl here) rest = at [] xs (λ i lt. absurd (omega arith)) (ap (λ y. y ∷ xs) here.1)
    by (inr there) (at ys zs h e) = at (x ∷ ys) zs (lacks_more x ys there.1 h) (ap (λ l. x ∷ l) e)
    by (inr there) (none h) = none (lacks_more x xs there.1 h)

-- how a word is written that reads as a name, and a value
abbrev Written : Word → Word × Option Word → Type 0
Written word (name, None) = word ≡ codes "--" ++ name
Written word (name, Some value) = word ≡ codes "--" ++ name ++ codes "=" ++ value

and_then_is : {A B : Type 0} (f : A → Option B) (o : Option A) (y : B) → option_and_then f o ≡ Some y → (x : A) × (o ≡ Some x) × (f x ≡ Some y)
and_then_is f None y h = cc
and_then_is f (Some x) y h = (x, refl, h)

stripped : (w r : Word) → strip_byte 45 w ≡ Some r → w ≡ 45 ∷ r
stripped [] r h = cc
stripped (x ∷ xs) r h = by (eqb_tells x 45)
  where
    by : ((x == 45 ≡ true) × (x ≡ 45)) ⊎ ((x == 45 ≡ false) × (x ≢ 45)) → x ∷ xs ≡ 45 ∷ r
    by (inl here) = let q = rw here.0 at h in cc (q, here.1)
    by (inr there) = let q = rw there.0 at h in cc q

written_rest : (text : Word) (p : Word × Option Word) → long_of_rest text ≡ Some p → Written (45 ∷ 45 ∷ text) p
written_rest [] p h = cc
written_rest (x ∷ xs) p h = by (cut (x ∷ xs))
  where
    by : Cut (x ∷ xs) → Written (45 ∷ 45 ∷ x ∷ xs) p
    by (at ys zs lacks e) =
        let is : p ≡ (ys, Some zs) = (let q : Some p ≡ Some (name_and_value (x ∷ xs)) = sym h in cc q) ∙ ap name_and_value e ∙ name_and_value-at ys zs lacks in
        rw is (ap (λ l. 45 ∷ 45 ∷ l) (e ∙ sym (append_assoc ys (61 ∷ []) zs)))
    by (none lacks) =
        let is : p ≡ (x ∷ xs, None) = (let q : Some p ≡ Some (name_and_value (x ∷ xs)) = sym h in cc q) ∙ name_and_value-without (x ∷ xs) lacks in
        rw is refl

written : (word : Word) (p : Word × Option Word) → long_of word ≡ Some p → Written word p
written word p e =
    let rest = and_then_is long_of_rest (option_and_then (strip_byte 45) (strip_byte 45 word)) p e in
    let second = and_then_is (strip_byte 45) (strip_byte 45 word) rest.0 rest.1 in
    let whole : word ≡ 45 ∷ 45 ∷ rest.0 = stripped word second.0 second.1 ∙ ap (λ l. 45 ∷ l) (stripped second.0 rest.0 second.2) in
    rw whole (written_rest rest.0 p rest.2)

-- the words, with the name before them that waits for its value
abbrev SpellsFrom : Option Word → Given → List Word → Type 0
SpellsFrom None given words = Spells given words
SpellsFrom (Some n) given words = Spells given ((codes "--" ++ n) ∷ words)

-- what is read is spelled so
spelled : (words : List Word) (o : Option Word) (given : Given) → given_by option_names words o ≡ Some given → SpellsFrom o given words
spelled [] None given r = let none : given ≡ [] = cc in rw none refl
spelled [] (Some n) given r = cc
spelled (word ∷ words) (Some n) given r =
    let parts = with_given_is n word (given_by option_names words None) given r in
    rw parts.2 ((codes "--" ++ n) ∷ word ∷ [], words, refl, inl refl, spelled words None parts.0 parts.1)
spelled (word ∷ words) None given r = long (long_of word) refl r (λ o more q. spelled words o more q)
  where
    More : Type 0
    More = (o : Option Word) (more : Given) → given_by option_names words o ≡ Some more → SpellsFrom o more words

    named : (name : Word) (v : Option Word) → Written word (name, v) → (b : Bool) → is_among option_names name ≡ b
        → given_option option_names (Some (name, v)) (given_by option_names words None) (λ n. given_by option_names words (Some n)) ≡ Some given → More → Spells given (word ∷ words)
    named name None w false among q more = let none : ◌≡◌ {A = Option Given} None (Some given) = rw among at q in cc
    named name (Some value) w false among q more = let none : ◌≡◌ {A = Option Given} None (Some given) = rw among at q in cc
    named name None w true among q more = rw w (more (Some name) given (rw among at q))
    named name (Some value) w true among q more =
        let parts = with_given_is name value (given_by option_names words None) given (rw among at q) in
        rw parts.2 (word ∷ [], words, refl, inr (ap (λ l. l ∷ []) w), more None parts.0 parts.1)

    long : (o : Option (Word × Option Word)) → long_of word ≡ o → given_option option_names o (given_by option_names words None) (λ n. given_by option_names words (Some n)) ≡ Some given → More
        → Spells given (word ∷ words)
    long None e q more = cc
    long (Some (name, v)) e q more = named name v (written word (name, v) e) (is_among option_names name) refl q more

reads_name : (name : Word) → is_among option_names name ≡ true → long_of (codes "--" ++ name) ≡ Some (name, None)
reads_name = one_of_four (λ n. long_of (codes "--" ++ n) ≡ Some (n, None)) refl refl refl refl

reads_both : (value name : Word) → is_among option_names name ≡ true → long_of (codes "--" ++ name ++ codes "=" ++ value) ≡ Some (name, Some value)
reads_both value = one_of_four (λ n. long_of (codes "--" ++ n ++ codes "=" ++ value) ≡ Some (n, Some value)) refl refl refl refl

-- what is spelled is read
only_spelled : (given : Given) (words : List Word) → AreKnown given → Spells given words → given_by option_names words None ≡ Some given
only_spelled [] words known s = rw s refl
only_spelled (p ∷ given) words known s =
    let all = and_true (is_among option_names p.0) _ known in
    by all.0 s.3 (only_spelled given s.1 all.1 s.4)
  where
    Goal : Type 0
    Goal = given_by option_names words None ≡ Some (p ∷ given)

    by : is_among option_names p.0 ≡ true → IsOption p s.0 → given_by option_names s.1 None ≡ Some given → Goal
    by among (inl q) more =
        let whole : words ≡ (codes "--" ++ p.0) ∷ p.1 ∷ s.1 = s.2 ∙ ap (λ l. l ++ s.1) q in
        rw (whole, reads_name p.0 among, among, more) refl
    by among (inr q) more =
        let whole : words ≡ (codes "--" ++ p.0 ++ codes "=" ++ p.1) ∷ s.1 = s.2 ∙ ap (λ l. l ++ s.1) q in
        rw (whole, reads_both p.1 p.0 among, among, more) refl

pub reads_what_is_spelled : ReadsWhatIsSpelled
reads_what_is_spelled = record {
  found = λ words given r. (given_among words option_names None given refl r, spelled words None given r);
  only = λ words given known s. only_spelled given words known s;
}
