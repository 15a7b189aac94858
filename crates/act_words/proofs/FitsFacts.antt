-- The words fit exactly where clap finds no fault in them and each value is a number within its limits.
use Rattle.std.proofs.Common.{◌≡◌, ◌&&◌, ◌||◌, ℕ, Bool, true, false, not, List, [], ◌∷◌, ◌++◌, Option, Some, None, map, option_map, refl, sym, ap, ◌∙◌, cond, option_and_then, codes, find, inl, inr}
use Rattle.std.specs.Prelude.{fold, slice_get, nat_le, IsSome}
use Rattle.std.proofs.Common.{subst}
use Rattle.std.specs.Str.Parse.{digits_value}
use Rattle.std.specs.Option.{option_map_or}
use Rattle.std.proofs.lemmas.List.Folds.{list_any-append}
use Rattle.std.specs.List.{list_all, list_any}
use Rattle.std.specs.Str.{bytes_eq}
use Rattle.std.proofs.lemmas.Slice.Eq.{bytes_eq-Decides}
use Rattle.clap.specs.Lexer.{long_of}
use Rattle.clap.specs.Kinds.{Kinds, or_else}
use Rattle.clap.specs.Faults.{defaults_fault, fault_of, settle_fault, walk_fault}
use Rattle.clap.specs.Simple.{built, matches_of}
use Rattle.clap.specs.Walk.{Row, Text, first_of, has_row, nothing_held, settled, walked, with_default}
use Rattle.clap.proofs.FaultLemmas.{leaf_fault}
use Rattle.act_words.specs.Words.{Given, Word, fits_demo_given, fits_demo_options, fits_given, given_by, given_option, is_among, is_apart, is_number, is_seen, number_in, fits_options, option_names, set_to, value_of, Wanted, wanted_by, wanted_given}
use Rattle.act_words.specs.Clap.{clap_faults, clap_value, has_dashes, join_app}
use Rattle.clap.specs.Words.{App, HasKind, HasMatchesOf, IsAmong, first_value, found_of, is_simple, kind_of}
use Rattle.clap.specs.Faults.{is_simple_and_free}
use Rattle.clap.specs.declared.error.Error.{Error}
use Rattle.clap.specs.declared.error.kind.ErrorKind.TheVariants.{OutOfMemory}
use Rattle.clap.specs.declared.parser.matches.ArgMatches.{ArgMatches}
use Rattle.clap.proofs.WalkLemmas.{first_value-rows}
use Rattle.act_words.proofs.WalkFacts.{AllNumbers, Faulty, NoDashes, and_true, behind, dashes, fault_from, gives, join_simple, no_dashes, not_true, number_plain, option_row, option_rule, or_none, rows, rows_from, rules, shape, standing, takes, walk_at, with_given_is}

-- ---- clap's words for the whole parse

default_none : (b : Bool) (values rest : Kinds) → or_else (cond (b || true) [] values) rest ≡ rest
default_none true values rest = refl
default_none false values rest = refl

same-either : {X : Type 0} (b : Bool) (x : X) → cond b x x ≡ x
same-either true x = refl
same-either false x = refl

defaults_none : (names : List Word) (held : List Row) → defaults_fault held (rules names) ≡ []
unfolding defaults_fault
defaults_none [] held = refl
defaults_none (n ∷ names) held = default_none (has_row n held) _ (defaults_fault (with_default held (option_rule n)) (rules names)) ∙ defaults_none names (with_default held (option_rule n))

finished_is : (names : List Word) (held : List Row) → fold with_default held (rules names) ≡ held
finished_is [] held = refl
finished_is (n ∷ names) held = ap (λ h. fold with_default h (rules names)) (same-either (has_row n held) held) ∙ finished_is names held

pub fault_is : (words : List Text) → fault_of join_app words ≡ fault_from option_names (walk_at [] (behind None)) words
fault_is words =
    let found = walk_fault (shape option_names) [] (standing nothing_held) words in
    let end = (fold (walked (rules option_names) []) (standing nothing_held) words).held in
    let last = settle_fault (rules option_names) false end in
    leaf_fault (built join_app) nothing_held words refl
    ∙ ap (λ k. or_else found (or_else last (or_else k []))) (defaults_none option_names (settled (rules option_names) end).rows)
    ∙ ap (λ k. or_else found k) (or_none last)

pub matches_are : (words : List Text) → matches_of join_app words ≡ rows_from option_names (walk_at [] (behind None)) words
matches_are words = finished_is option_names (rows_from option_names (walk_at [] (behind None)) words)

pub first_is : (name : Word) (given : Given) → first_of name (rows given) ≡ value_of name given
first_is name [] = refl
first_is name (p ∷ given) = by (bytes_eq p.0 name) (first_is name given)
  where
    by : (b : Bool) → first_of name (rows given) ≡ value_of name given
        → option_and_then (λ r. slice_get r.values 0) (cond b (Some (option_row p)) (find (λ r. bytes_eq r.id name) (rows given)))
        ≡ option_map (λ q. q.1) (cond b (Some p) (find (λ q. bytes_eq q.0 name) given))
    by true e = refl
    by false e = e

-- ---- settings and their values

-- an option that was given already isn't given again
or-true : (b : Bool) → (b || true) ≡ true
or-true true = refl
or-true false = refl

apart_unseen : (given seen : Given) (name : Word) → is_apart seen given ≡ true → is_seen seen name ≡ true → value_of name given ≡ None
apart_unseen [] seen name a h = refl
apart_unseen (q ∷ given) seen name a h =
    let parts = and_true (not (is_seen seen q.0)) _ a in
    by (bytes_eq q.0 name) refl (not_true _ parts.0)
    (apart_unseen given (seen ++ q ∷ []) name parts.1 (list_any-append (λ p. bytes_eq p.0 name) seen (q ∷ []) ∙ rw h refl))
  where
    by : (b : Bool) → bytes_eq q.0 name ≡ b → is_seen seen q.0 ≡ false → value_of name given ≡ None → option_map (λ p. p.1) (cond b (Some q) (find (λ p. bytes_eq p.0 name) given)) ≡ None
    by true e new rest =
        let same : is_seen seen q.0 ≡ is_seen seen name = ap (is_seen seen) ((bytes_eq-Decides q.0 name).0 e) in
        let bad : true ≡ false = sym h ∙ sym same ∙ new in cc
    by false e new rest = rest

-- the names of options that were given
pub given_among : (words names : List Word) (o : Option Word) (given : Given) → option_map_or (is_among names) o true ≡ true → given_by names words o ≡ Some given
    → list_all (λ p. is_among names p.0) given ≡ true
given_among [] names None given k r = let none : given ≡ [] = cc in rw none refl
given_among [] names (Some n) given k r = cc
given_among (word ∷ words) names (Some n) given k r =
    let parts = with_given_is n word (given_by names words None) given r in
    rw (parts.2, k) (given_among words names None parts.0 refl parts.1)
given_among (word ∷ words) names None given k r = long (long_of word) r (given_among words names)
  where
    More : Type 0
    More = (o : Option Word) (more : Given) → option_map_or (is_among names) o true ≡ true → given_by names words o ≡ Some more → list_all (λ p. is_among names p.0) more ≡ true

    named : (name : Word) (v : Option Word) (b : Bool) → is_among names name ≡ b
        → given_option names (Some (name, v)) (given_by names words None) (λ n. given_by names words (Some n)) ≡ Some given → More → list_all (λ p. is_among names p.0) given ≡ true
    named name None false among q more = let none : ◌≡◌ {A = Option Given} None (Some given) = rw among at q in cc
    named name (Some value) false among q more = let none : ◌≡◌ {A = Option Given} None (Some given) = rw among at q in cc
    named name None true among q more = more (Some name) given among (rw among at q)
    named name (Some value) true among q more =
        let parts = with_given_is name value (given_by names words None) given (rw among at q) in
        rw (parts.2, among) (more None parts.0 refl parts.1)

    long : (o : Option (Word × Option Word)) → given_option names o (given_by names words None) (λ n. given_by names words (Some n)) ≡ Some given → More → list_all (λ p. is_among names p.0) given ≡ true
    long None q more = cc
    long (Some (name, v)) q more = named name v (is_among names name) refl q more

-- where each value is a number, no word is `--`
no_dashes_given : (words names : List Word) (o : Option Word) (given : Given) → given_by names words o ≡ Some given → AllNumbers given → has_dashes words ≡ false
no_dashes_given [] names o given r numbers = refl
no_dashes_given (word ∷ words) names (Some n) given r numbers =
    let parts = with_given_is n word (given_by names words None) given r in
    let all = and_true (is_number word) _ (rw parts.2 at numbers) in
    rw (number_plain word all.0).0 (no_dashes_given words names None parts.0 parts.1 all.1)
no_dashes_given (word ∷ words) names None given r numbers = long (long_of word) refl r (no_dashes_given words names)
  where
    More : Type 0
    More = (o : Option Word) (more : Given) → given_by names words o ≡ Some more → AllNumbers more → has_dashes words ≡ false

    named : (name : Word) (v : Option Word) (b : Bool) → is_among names name ≡ b
        → given_option names (Some (name, v)) (given_by names words None) (λ n. given_by names words (Some n)) ≡ Some given → More → has_dashes words ≡ false
    named name None false among q more = let none : ◌≡◌ {A = Option Given} None (Some given) = rw among at q in cc
    named name (Some value) false among q more = let none : ◌≡◌ {A = Option Given} None (Some given) = rw among at q in cc
    named name None true among q more = more (Some name) given (rw among at q) numbers
    named name (Some value) true among q more =
        let parts = with_given_is name value (given_by names words None) given (rw among at q) in
        more None parts.0 parts.1 (and_true (is_number value) _ (rw parts.2 at numbers)).1

    long : (o : Option (Word × Option Word)) → long_of word ≡ o → given_option names o (given_by names words None) (λ n. given_by names words (Some n)) ≡ Some given → More → has_dashes (word ∷ words) ≡ false
    long None e q more = cc
    long (Some (name, v)) e q more = rw (no_dashes word (name, v) e) (named name v (is_among names name) refl q more)

-- each value that is found by its name is a number
abbrev FoundNumbers : List Word → Given → Type 0
FoundNumbers names given = (name v : Word) → is_among names name ≡ true → value_of name given ≡ Some v → is_number v ≡ true

all_numbers : (given : Given) (names : List Word) (seen : Given) → is_apart seen given ≡ true → list_all (λ p. is_among names p.0) given ≡ true → FoundNumbers names given → AllNumbers given
all_numbers [] names seen a among found = refl
all_numbers (p ∷ given) names seen a among found =
    let apart = and_true (not (is_seen seen p.0)) _ a in
    let known = and_true (is_among names p.0) _ among in
    let same = (bytes_eq-Decides p.0 p.0).1 refl in
    let first : is_number p.1 ≡ true = found p.0 p.1 known.0 (rw same refl) in
    rw first (all_numbers given names (seen ++ p ∷ []) apart.1 known.1 (λ name v k e. by name v k e (bytes_eq p.0 name) refl
    (λ h. apart_unseen given (seen ++ p ∷ []) name apart.1 (list_any-append (λ q. bytes_eq q.0 name) seen (p ∷ []) ∙ rw h (or-true (is_seen seen name))))))
  where
    by : (name v : Word) → is_among names name ≡ true → value_of name given ≡ Some v → (b : Bool) → bytes_eq p.0 name ≡ b → (bytes_eq p.0 name ≡ true → value_of name given ≡ None) → is_number v ≡ true
    by name v k e true h unseen = let bad : Some v ≡ None = sym e ∙ unseen h in cc
    by name v k e false h unseen = found name v k (rw h e)

-- what an option that is set says of its value
set_number : (least most : ℕ) (v : Word) (n : ℕ) → number_in least most v ≡ Some n → is_number v ≡ true
set_number least most v n h = by (is_number v) h
  where
    by : (b : Bool) → cond (b && (nat_le least (digits_value 10 v) && nat_le (digits_value 10 v) most)) (Some (digits_value 10 v)) None ≡ Some n → b ≡ true
    by true q = refl
    by false q = cc

-- what is wanted is wanted of each option
pub record AllSet (D R C W : Option ℕ) : Type 0 where
  pub digits : IsSome D
  pub rows : IsSome R
  pub cells : IsSome C
  pub workers : IsSome W

all_set : (D R C W : Option ℕ) (s : Wanted)
    → option_and_then (λ d. option_and_then (λ r. option_and_then (λ c. option_map (λ w. record { digits = d; rows = r; cells = c; workers = w }) W) C) R) D ≡ Some s
    → AllSet D R C W
all_set None R C W s h = cc
all_set (Some d) None C W s h = cc
all_set (Some d) (Some r) None W s h = cc
all_set (Some d) (Some r) (Some c) None s h = cc
all_set (Some d) (Some r) (Some c) (Some w) s h = record { digits = refl; rows = refl; cells = refl; workers = refl }

set_is_number : (otherwise least most : ℕ) (o : Option Word) (v : Word) → IsSome (set_to otherwise least most o) → o ≡ Some v → is_number v ≡ true
set_is_number otherwise least most None v h e = cc
set_is_number otherwise least most (Some w) v h e = by (number_in least most w) refl h
  where
    by : (o : Option ℕ) → number_in least most w ≡ o → IsSome o → is_number v ≡ true
    by None q k = cc
    by (Some n) q k = let same : w ≡ v = cc in rw (← same) (set_number least most w n q)

-- a name of the command's is one of the four
pub one_of_four : (P : Word → Type 0) → P (codes "digits") → P (codes "rows") → P (codes "cells") → P (codes "workers") → (name : Word) → is_among option_names name ≡ true → P name
one_of_four P d r c w name h = first (bytes_eq (codes "digits") name) refl h
  where
    fourth : (b : Bool) → bytes_eq (codes "workers") name ≡ b → (b || false) ≡ true → P name
    fourth true e k = subst P ((bytes_eq-Decides (codes "workers") name).0 e) w
    fourth false e k = cc

    third : (b : Bool) → bytes_eq (codes "cells") name ≡ b → (b || (bytes_eq (codes "workers") name || false)) ≡ true → P name
    third true e k = subst P ((bytes_eq-Decides (codes "cells") name).0 e) c
    third false e k = fourth (bytes_eq (codes "workers") name) refl k

    second : (b : Bool) → bytes_eq (codes "rows") name ≡ b → (b || (bytes_eq (codes "cells") name || (bytes_eq (codes "workers") name || false))) ≡ true → P name
    second true e k = subst P ((bytes_eq-Decides (codes "rows") name).0 e) r
    second false e k = third (bytes_eq (codes "cells") name) refl k

    first : (b : Bool) → bytes_eq (codes "digits") name ≡ b → (b || (bytes_eq (codes "rows") name || (bytes_eq (codes "cells") name || (bytes_eq (codes "workers") name || false)))) ≡ true → P name
    first true e k = subst P ((bytes_eq-Decides (codes "digits") name).0 e) d
    first false e k = second (bytes_eq (codes "rows") name) refl k

wanted_numbers : (given : Given) (s : Wanted) → wanted_given given ≡ Some s → FoundNumbers option_names given
wanted_numbers given s h name v k e = one_of_four (λ n. value_of n given ≡ Some v → is_number v ≡ true)
    (set_is_number 7 0 9 (value_of (codes "digits") given) v set.digits)
    (set_is_number 16384 1 262144 (value_of (codes "rows") given) v set.rows)
    (set_is_number 64 1 1024 (value_of (codes "cells") given) v set.cells)
    (set_is_number 4 1 64 (value_of (codes "workers") given) v set.workers)
    name k e
  where
    set : AllSet (set_to 7 0 9 (value_of (codes "digits") given)) (set_to 16384 1 262144 (value_of (codes "rows") given)) (set_to 64 1 1024 (value_of (codes "cells") given)) (set_to 4 1 64 (value_of (codes "workers") given))
    set = all_set _ _ _ _ s h

-- words that don't fit, but where the options that they give are numbers, each given once
fits_by : (words : List Word) → ((given : Given) → given_by option_names words None ≡ Some given → is_apart [] given ≡ true → AllNumbers given → ⊥)
    → fits_options words ≡ None
fits_by words refused = by (given_by option_names words None) refl
  where
    set : (given : Given) → given_by option_names words None ≡ Some given → is_apart [] given ≡ true → (o : Option Wanted) → wanted_given given ≡ o → o ≡ None
    set given e a None q = refl
    set given e a (Some s) q = absurd (refused given e a (all_numbers given option_names [] a (given_among words option_names None given refl e) (wanted_numbers given s q)))

    apart : (given : Given) → given_by option_names words None ≡ Some given → (b : Bool) → is_apart [] given ≡ b → cond b (wanted_given given) None ≡ None
    apart given e false a = refl
    apart given e true a = set given e a (wanted_given given) refl

    by : (o : Option Given) → given_by option_names words None ≡ o → option_and_then fits_given o ≡ None
    by None e = refl
    by (Some given) e = apart given e (is_apart [] given) refl

-- words in which clap finds a fault don't fit
pub faulty_unfit : (words : List Word) → Faulty (clap_faults words) → fits_options words ≡ None
unfolding clap_faults
faulty_unfit words faulty = fits_by words (λ given e a numbers. faulty (fault_is words ∙ takes words option_names [] (behind None) given tt e numbers a))

-- nor do words with a `--`
pub dashes_unfit : (words : List Word) → has_dashes words ≡ true → fits_options words ≡ None
dashes_unfit words h = fits_by words (λ given e a numbers. let bad : true ≡ false = sym h ∙ no_dashes_given words option_names None given e numbers in cc)

none_dashes : (words : List Word) → has_dashes words ≡ false → NoDashes words
none_dashes [] h = tt
none_dashes (word ∷ words) h = by (bytes_eq word dashes) refl h (none_dashes words)
  where
    by : (b : Bool) → bytes_eq word dashes ≡ b → (b || has_dashes words) ≡ false → (has_dashes words ≡ false → NoDashes words) → NoDashes (word ∷ words)
    by true e q more = cc
    by false e q more = (e, more q)

-- where clap finds no fault, the words fit as the values that it holds say
pub taken_fit : (words : List Word) → has_dashes words ≡ false → clap_faults words ≡ []
    → fits_options words ≡ wanted_by (clap_value (codes "digits") words) (clap_value (codes "rows") words) (clap_value (codes "cells") words) (clap_value (codes "workers") words)
unfolding clap_faults clap_value
taken_fit words nd q =
    let g = gives words option_names [] (behind None) tt (none_dashes words nd) (sym (fault_is words) ∙ q) in
    same g.given g.reads g.apart (matches_are words ∙ g.rows_are)
  where
    held : Word → Option Word
    held name = first_of name (matches_of join_app words)

    same : (given : Given) → given_by option_names words None ≡ Some given → is_apart [] given ≡ true → matches_of join_app words ≡ rows given
        → fits_options words ≡ wanted_by (held (codes "digits")) (held (codes "rows")) (held (codes "cells")) (held (codes "workers"))
    same given e a r =
        let is : (name : Word) → held name ≡ value_of name given = λ name. ap (first_of name) r ∙ first_is name given in
        rw (e, a, is (codes "digits"), is (codes "rows"), is (codes "cells"), is (codes "workers")) refl

-- a test on the texts of words
pub any_text : {X : Type 0} (f : X → Word) (p : Word → Bool) (xs : List X) → list_any (λ x. p (f x)) xs ≡ list_any p (map f xs)
any_text f p [] = refl
any_text f p (x ∷ xs) = ap (λ b. p (f x) || b) (any_text f p xs)

-- what a parse of the command says, in these words
pub taken_free : (a : App) (words : List Text) → a ≡ join_app → (is_simple_and_free a ≡ true → fault_of a words ≡ []) → clap_faults words ≡ []
unfolding clap_faults
taken_free a words e h = ap (λ b. fault_of b words) (sym e) ∙ h (ap is_simple_and_free e ∙ join_simple)

pub faulty_kinds : (a : App) (words : List Text) (e : Error) → a ≡ join_app → (is_simple_and_free a ≡ true → HasKind (fault_of a words) e) → (kind_of e ≡ OutOfMemory → ⊥) → Faulty (clap_faults words)
unfolding clap_faults
faulty_kinds a words e same h other none =
    let has = h (ap is_simple_and_free same ∙ join_simple) in
    let free : fault_of a words ≡ [] = ap (λ b. fault_of b words) same ∙ none in
    elim has [ inl q ↦ other q | inr q ↦ let bad : IsAmong (kind_of e) [] = rw free at q in absurd bad ]

join_is_simple : is_simple join_app ≡ true
join_is_simple = refl

pub value_is : (a : App) (words : List Text) (m : ArgMatches) (id : Text) → a ≡ join_app → HasMatchesOf a words m → first_value (found_of m) id ≡ clap_value id words
unfolding clap_value
value_is a words m id e h = first_value-rows (found_of m) id ∙ ap (first_of id) ((h (ap is_simple e ∙ join_is_simple)).0 ∙ ap (λ b. matches_of b words) e)

pub fit_by : (words : List Word) (d r c w : Option Word) → has_dashes words ≡ false → clap_faults words ≡ []
    → d ≡ clap_value (codes "digits") words → r ≡ clap_value (codes "rows") words → c ≡ clap_value (codes "cells") words → w ≡ clap_value (codes "workers") words
    → wanted_by d r c w ≡ fits_options words
fit_by words d r c w nd free hd hr hc hw = rw (hd, hr, hc, hw) (sym (taken_fit words nd free))

pub ruleset fit_or_not = (faulty_unfit)

-- ---- the demo

-- what doesn't fit `join` doesn't fit the demo
pub demo_unfit : (words : List Word) → fits_options words ≡ None → fits_demo_options words ≡ None
demo_unfit words h = by (given_by option_names words None) h
  where
    one : (o : Option Word) (fit : Option Wanted) → fit ≡ None → option_map_or (λ digits. None) o fit ≡ None
    one None fit e = e
    one (Some digits) fit e = refl

    by : (o : Option Given) → option_and_then fits_given o ≡ None → option_and_then fits_demo_given o ≡ None
    by None e = refl
    by (Some given) e = one (value_of (codes "digits") given) (fits_given given) e

pub faulty_demo_unfit : (words : List Word) → Faulty (clap_faults words) → fits_demo_options words ≡ None
faulty_demo_unfit words faulty = demo_unfit words (faulty_unfit words faulty)

-- where clap finds no fault, the options of a demo fit as the values that it holds say
pub demo_taken_fit : (words : List Word) → has_dashes words ≡ false → clap_faults words ≡ []
    → fits_demo_options words ≡ option_map_or (λ digits. None) (clap_value (codes "digits") words)
    (wanted_by (clap_value (codes "digits") words) (clap_value (codes "rows") words) (clap_value (codes "cells") words) (clap_value (codes "workers") words))
unfolding clap_faults clap_value
demo_taken_fit words nd q =
    let g = gives words option_names [] (behind None) tt (none_dashes words nd) (sym (fault_is words) ∙ q) in
    same g.given g.reads g.apart (matches_are words ∙ g.rows_are)
  where
    held : Word → Option Word
    held name = first_of name (matches_of join_app words)

    same : (given : Given) → given_by option_names words None ≡ Some given → is_apart [] given ≡ true → matches_of join_app words ≡ rows given
        → fits_demo_options words ≡ option_map_or (λ digits. None) (held (codes "digits")) (wanted_by (held (codes "digits")) (held (codes "rows")) (held (codes "cells")) (held (codes "workers")))
    same given e a r =
        let is : (name : Word) → held name ≡ value_of name given = λ name. ap (first_of name) r ∙ first_is name given in
        rw (e, a, is (codes "digits"), is (codes "rows"), is (codes "cells"), is (codes "workers")) refl

pub demo_fit_by : (words : List Word) (d r c w : Option Word) → has_dashes words ≡ false → clap_faults words ≡ []
    → d ≡ clap_value (codes "digits") words → r ≡ clap_value (codes "rows") words → c ≡ clap_value (codes "cells") words → w ≡ clap_value (codes "workers") words
    → option_map_or (λ digits. None) d (wanted_by d r c w) ≡ fits_demo_options words
demo_fit_by words d r c w nd free hd hr hc hw = rw (hd, hr, hc, hw) (sym (demo_taken_fit words nd free))

pub ruleset demo_fit_or_not = (faulty_demo_unfit)
