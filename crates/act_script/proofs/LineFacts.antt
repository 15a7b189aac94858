-- Lines whose bytes come one piece after another.
use Rattle.std.proofs.Common.{◌≡◌, ◌≢◌, ◌==◌, ◌&&◌, ◌≤◌, ◌<◌, ◌+◌, ℕ, Bool, true, false, List, [], ◌∷◌, ◌++◌, None, refl, sym, ap, ◌∙◌, cond, length, length-append, length-drop, arith, append_assoc, take, drop}
use Rattle.std.proofs.Math.Seq.{take-append-add}
use Rattle.std.proofs.lemmas.List.{append-nil, drop_all, length-take-le, take-append-drop}
use Rattle.std.proofs.lemmas.Bool.{le-ltb, lt-ltb, ne_eqb}
use Rattle.act_script.specs.Lines.{Line, cut_from, is_mark, line_onto, lines_of, onto_first, refused, without_mark, without_return}
use Rattle.std.specs.Prelude.{is_ok, is_err, Result, slice_range}
use Rattle.act_script.specs.Cutting.{Cutting, IsLineLen, IsOpen, to_come, unmarked}
use Rattle.act_script.specs.declared.cutter.CutFault.TheVariants as fault
use Rattle.act_script.specs.declared.cutter.TheConstants.{MOST_BYTES, MOST_LINES}

-- a line that its line feed ends
ended_line : (line rest : List ℕ) → IsOpen line → lines_of (line ++ 10 ∷ rest) ≡ line ∷ lines_of rest
ended_line [] rest h = refl
ended_line (x ∷ line) rest h = rw (ne_eqb x 10 h.0) (ap (onto_first x) (ended_line line rest h.1))

-- a last line
pub last_line : (b : ℕ) (line : List ℕ) → IsOpen (b ∷ line) → lines_of (b ∷ line) ≡ (b ∷ line) ∷ []
last_line b [] h = rw (ne_eqb b 10 h.0) refl
last_line b (x ∷ line) h = rw (ne_eqb b 10 h.0) (ap (onto_first b) (last_line x line h.1))

-- bytes without a line feed are the start of the first line
begun_line : (b : ℕ) (line rest : List ℕ) → IsOpen (b ∷ line)
    → (more : List ℕ) × (lines : List Line) × (lines_of ((b ∷ line) ++ rest) ≡ ((b ∷ line) ++ more) ∷ lines)
begun_line b [] rest h = rw (ne_eqb b 10 h.0) (by (lines_of rest))
  where
    by : (ls : List Line) → (more : List ℕ) × (lines : List Line) × (onto_first b ls ≡ (b ∷ more) ∷ lines)
    by [] = ([], [], refl)
    by (l ∷ ls) = (l, ls, refl)
begun_line b (x ∷ line) rest h =
    let m = begun_line x line rest h.1 in
    (m.0, m.1, rw (ne_eqb b 10 h.0) (ap (onto_first b) m.2))

pub open_append : (xs ys : List ℕ) → IsOpen xs → IsOpen ys → IsOpen (xs ++ ys)
open_append [] ys h k = k
open_append (x ∷ xs) ys h k = (h.0, open_append xs ys h.1 k)

-- ---- the mark of the first line

open_unmarked : (n : ℕ) (line : List ℕ) → IsOpen line → IsOpen (unmarked n line)
open_unmarked n line h = by (n == 0)
  where
    rest : (xs : List ℕ) → IsOpen xs → IsOpen (without_mark xs)
    rest [] k = k
    rest (a ∷ []) k = k
    rest (a ∷ b ∷ []) k = k
    rest (a ∷ b ∷ c ∷ xs) k = either (is_mark a b c)
      where
        either : (t : Bool) → IsOpen (cond t xs (a ∷ b ∷ c ∷ xs))
        either true = k.1.1.1
        either false = k

    by : (t : Bool) → IsOpen (cond t (without_mark line) line)
    by true = rest line h
    by false = h

-- no line feed belongs to a mark
mark-third : (a b : ℕ) → is_mark a b 10 ≡ false
mark-third a b = by (a == 0xEF) (b == 0xBB)
  where
    by : (s t : Bool) → (s && t && false) ≡ false
    by true true = refl
    by true false = refl
    by false t = refl

mark-second : (a c : ℕ) → is_mark a 10 c ≡ false
mark-second a c = by (a == 0xEF)
  where
    by : (s : Bool) → (s && false && (c == 0xBF)) ≡ false
    by true = refl
    by false = refl

chosen : (t : Bool) (xs ys zs : List ℕ) → cond t (xs ++ zs) (ys ++ zs) ≡ cond t xs ys ++ zs
chosen true xs ys zs = refl
chosen false xs ys zs = refl

without_mark-feed : (line rest : List ℕ) → without_mark (line ++ 10 ∷ rest) ≡ without_mark line ++ 10 ∷ rest
without_mark-feed [] [] = refl
without_mark-feed [] (a ∷ []) = refl
without_mark-feed [] (a ∷ b ∷ rest) = refl
without_mark-feed (a ∷ []) [] = refl
without_mark-feed (a ∷ []) (b ∷ rest) = rw (mark-second a b) refl
without_mark-feed (a ∷ b ∷ []) rest = rw (mark-third a b) refl
without_mark-feed (a ∷ b ∷ c ∷ line) rest = chosen (is_mark a b c) line (a ∷ b ∷ c ∷ line) (10 ∷ rest)

without_mark-append : (line rest : List ℕ) → 3 ≤ length line → without_mark (line ++ rest) ≡ without_mark line ++ rest
without_mark-append [] rest h = absurd (omega arith)
without_mark-append (a ∷ []) rest h = absurd (omega arith)
without_mark-append (a ∷ b ∷ []) rest h = absurd (omega arith)
without_mark-append (a ∷ b ∷ c ∷ line) rest h = chosen (is_mark a b c) line (a ∷ b ∷ c ∷ line) rest

unmarked-feed : (n : ℕ) (line rest : List ℕ) → unmarked n (line ++ 10 ∷ rest) ≡ unmarked n line ++ 10 ∷ rest
unmarked-feed n line rest = by (n == 0)
  where
    by : (t : Bool) → cond t (without_mark (line ++ 10 ∷ rest)) (line ++ 10 ∷ rest) ≡ cond t (without_mark line) line ++ 10 ∷ rest
    by true = without_mark-feed line rest
    by false = refl

unmarked-append : (n : ℕ) (line rest : List ℕ) → 3 ≤ length line → unmarked n (line ++ rest) ≡ unmarked n line ++ rest
unmarked-append n line rest h = by (n == 0)
  where
    by : (t : Bool) → cond t (without_mark (line ++ rest)) (line ++ rest) ≡ cond t (without_mark line) line ++ rest
    by true = without_mark-append line rest h
    by false = refl

without_mark-shorter : (line : List ℕ) → length (without_mark line) ≤ length line
without_mark-shorter [] = omega arith
without_mark-shorter (a ∷ []) = omega arith
without_mark-shorter (a ∷ b ∷ []) = omega arith
without_mark-shorter (a ∷ b ∷ c ∷ xs) = either (is_mark a b c)
  where
    either : (t : Bool) → length (cond t xs (a ∷ b ∷ c ∷ xs)) ≤ length (a ∷ b ∷ c ∷ xs)
    either true = omega arith
    either false = omega arith

unmarked-shorter : (n : ℕ) (line : List ℕ) → length (unmarked n line) ≤ length line
unmarked-shorter n line = by (n == 0)
  where
    by : (t : Bool) → length (cond t (without_mark line) line) ≤ length line
    by true = without_mark-shorter line
    by false = omega arith

unmarked-later : (n : ℕ) (line : List ℕ) → unmarked (n + 1) line ≡ line
unmarked-later n line = let some : n + 1 ≢ 0 = λ e. omega (arith, e) in rw (ne_eqb (n + 1) 0 some) refl

-- ---- a line that ends, and one that is too long

cut_line : (n : ℕ) (line : Line) (lines : List Line) → n ≢ MOST_LINES → length line ≤ MOST_BYTES
    → cut_from n (line ∷ lines) ≡ line_onto (without_return line) (cut_from (n + 1) lines)
cut_line n line lines few short = rw (ne_eqb n MOST_LINES few, le-ltb MOST_BYTES (length line) short) refl

cut_long : (n : ℕ) (line : Line) (lines : List Line) → n ≢ MOST_LINES → MOST_BYTES < length line → cut_from n (line ∷ lines) ≡ refused fault.LineLong
cut_long n line lines few long = rw (ne_eqb n MOST_LINES few, lt-ltb MOST_BYTES (length line) long) refl

-- the bytes of a line with its line feed, and those after it
line_first : (n : ℕ) (line rest : List ℕ) → IsOpen line → n ≢ MOST_LINES → length (unmarked n line) ≤ MOST_BYTES
    → cut_from n (lines_of (unmarked n (line ++ 10 ∷ rest))) ≡ line_onto (without_return (unmarked n line)) (cut_from (n + 1) (lines_of (unmarked (n + 1) rest)))
line_first n line rest o few short =
    ap (λ bytes. cut_from n (lines_of bytes)) (unmarked-feed n line rest)
    ∙ ap (cut_from n) (ended_line (unmarked n line) rest (open_unmarked n line o))
    ∙ cut_line n (unmarked n line) (lines_of rest) few short
    ∙ ap (λ bytes. line_onto (without_return (unmarked n line)) (cut_from (n + 1) (lines_of bytes))) (sym (unmarked-later n rest))

-- bytes that end the line at hand
line_taken : (n : ℕ) (held front rest : List ℕ) → IsOpen held → IsOpen front → n ≢ MOST_LINES → length (unmarked n (held ++ front)) ≤ MOST_BYTES
    → cut_from n (lines_of (unmarked n (held ++ ((front ++ 10 ∷ []) ++ rest))))
    ≡ line_onto (without_return (unmarked n (held ++ front))) (cut_from (n + 1) (lines_of (unmarked (n + 1) rest)))
line_taken n held front rest o open_front few short =
    ap (λ bytes. cut_from n (lines_of (unmarked n bytes))) (ap (λ p. held ++ p) (append_assoc front (10 ∷ []) rest) ∙ sym (append_assoc held front (10 ∷ rest)))
    ∙ line_first n (held ++ front) rest (open_append held front o open_front) few short

-- a piece up to its first line feed, and with it
taken_feed : (piece front after : List ℕ) (size : ℕ) → length front ≡ size → piece ≡ front ++ 10 ∷ after → take (size + 1) piece ≡ front ++ 10 ∷ []
taken_feed piece front after size len e = rw (e, ← len) (take-append-add front (10 ∷ after) 1)

pub part_feed : (piece : List ℕ) (size : ℕ) → IsLineLen piece size → size < length piece → take (size + 1) piece ≡ take size piece ++ 10 ∷ []
part_feed piece size len feed = taken_feed piece (take size piece) (drop (size + 1) piece) size (length-take-le size piece len.within) (len.feed feed)

-- bytes of the line at hand that are too many, whatever comes
pub line_too_long : (n : ℕ) (line rest : List ℕ) → IsOpen line → n ≢ MOST_LINES → MOST_BYTES < length (unmarked n line)
    → cut_from n (lines_of (unmarked n (line ++ rest))) ≡ refused fault.LineLong
line_too_long n line rest o few long =
    let some : 3 ≤ length line = omega (arith, unmarked-shorter n line) in
    ap (λ bytes. cut_from n (lines_of bytes)) (unmarked-append n line rest some) ∙ by (unmarked n line) (open_unmarked n line o) long
  where
    by : (u : List ℕ) → IsOpen u → MOST_BYTES < length u → cut_from n (lines_of (u ++ rest)) ≡ refused fault.LineLong
    by [] h k = absurd (omega arith)
    by (b ∷ u) h k =
        let m = begun_line b u rest h in
        let size = length-append (b ∷ u) m.0 in
        ap (cut_from n) m.2 ∙ cut_long n ((b ∷ u) ++ m.0) m.1 few (omega arith)

-- a piece with which the line at hand is too long
pub piece_too_long : (n : ℕ) (held piece rest : List ℕ) (size : ℕ) → IsOpen held → IsLineLen piece size → n ≢ MOST_LINES
    → MOST_BYTES < length (unmarked n (held ++ take size piece)) → cut_from n (lines_of (unmarked n (held ++ (piece ++ rest)))) ≡ refused fault.LineLong
piece_too_long n held piece rest size o len few long =
    ap (λ bytes. cut_from n (lines_of (unmarked n bytes))) (apart held piece (take size piece) (drop size piece) (sym (take-append-drop size piece)))
    ∙ line_too_long n (held ++ take size piece) (drop size piece ++ rest) (open_append held (take size piece) o len.open_front) few long
  where
    apart : (held piece front after : List ℕ) → piece ≡ front ++ after → held ++ (piece ++ rest) ≡ (held ++ front) ++ (after ++ rest)
    apart held piece front after e = ap (λ p. held ++ (p ++ rest)) e ∙ ap (λ p. held ++ p) (append_assoc front after rest) ∙ sym (append_assoc held front (after ++ rest))

-- ---- the same of a cutter without a fault

-- its buffer after the bytes of the line were added
pub added : {T E : Type 0} → (r : Result T E) (bytes more new : List ℕ) → is_err r ≡ false → new ≡ cond (is_ok r) (bytes ++ more) bytes → new ≡ bytes ++ more
added r bytes more new h e = rw (was r h) at e
  where
    was : {T E : Type 0} → (q : Result T E) → is_err q ≡ false → is_ok q ≡ true
    was q k = grind arith

pub long_cause : (old : Cutting) (piece held : List ℕ) (size start : ℕ) → old.fault ≡ None → IsOpen old.held → old.number ≢ MOST_LINES → IsLineLen piece size
    → held ≡ old.held ++ take size piece → unmarked old.number held ≡ drop start held → MOST_BYTES < length (drop start held)
    → (rest : List ℕ) → to_come old (piece ++ rest) ≡ refused fault.LineLong
long_cause old piece held size start none o few len e mark long rest =
    let same : unmarked old.number (old.held ++ take size piece) ≡ drop start held = ap (unmarked old.number) (sym e) ∙ mark in
    rw none (piece_too_long old.number old.held piece rest size o len few (rw same long))

pub part_taken : (old new : Cutting) (piece held : List ℕ) (size start end : ℕ) → old.fault ≡ None → IsOpen old.held → old.number ≢ MOST_LINES → IsLineLen piece size
    → size < length piece → held ≡ old.held ++ take size piece → unmarked old.number held ≡ drop start held → length (drop start held) ≤ MOST_BYTES
    → slice_range held start end ≡ without_return (drop start held) → new.number ≡ old.number + 1 → new.held ≡ [] → new.fault ≡ None → new.line ≡ slice_range held start end
    → (rest : List ℕ) → to_come old (take (size + 1) piece ++ rest) ≡ line_onto new.line (to_come new rest)
part_taken old new piece held size start end none o few len feed e mark short line number nothing free last rest =
    let same : unmarked old.number (old.held ++ take size piece) ≡ drop start held = ap (unmarked old.number) (sym e) ∙ mark in
    rw (part_feed piece size len feed, none, free, last, line, number, nothing, ← same) (line_taken old.number old.held (take size piece) rest o len.open_front few (rw same short))

-- ---- the end of the input

-- no line is left
pub none_left : (old : Cutting) (start : ℕ) → old.fault ≡ None → unmarked old.number old.held ≡ drop start old.held → length old.held ≡ start
    → to_come old [] ≡ record { lines = []; fault = None }
none_left old start none mark size =
    let all : drop start old.held ≡ [] = drop_all start old.held (omega arith) in
    rw (none, append-nil old.held, mark, all) refl

left_line : (n : ℕ) (u : List ℕ) → IsOpen u → 0 < length u → n ≢ MOST_LINES → length u ≤ MOST_BYTES
    → cut_from n (lines_of u) ≡ line_onto (without_return u) (record { lines = []; fault = None })
left_line n [] o some few short = absurd (omega arith)
left_line n (b ∷ u) o some few short = ap (cut_from n) (last_line b u o) ∙ cut_line n (b ∷ u) [] few short

-- a last line is
pub last_taken : (old new : Cutting) (start end : ℕ) → old.fault ≡ None → IsOpen old.held → old.number ≢ MOST_LINES
    → unmarked old.number old.held ≡ drop start old.held → length (unmarked old.number old.held) ≤ MOST_BYTES → start < length old.held
    → slice_range old.held start end ≡ without_return (drop start old.held) → new.held ≡ [] → new.fault ≡ None → new.number ≡ old.number + 1
    → new.line ≡ slice_range old.held start end
    → to_come old [] ≡ record { lines = new.line ∷ []; fault = None }
last_taken old new start end none o few mark short some line nothing free number last =
    let left : 0 < length (unmarked old.number old.held) = rw mark (omega (arith, length-drop start old.held)) in
    rw (none, last, line, append-nil old.held, ← mark)
    (left_line old.number (unmarked old.number old.held) (open_unmarked old.number old.held o) left few short)
