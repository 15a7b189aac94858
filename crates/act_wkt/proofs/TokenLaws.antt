-- Runs and signs as the grammar has them are those that are read.
use Rattle.std.proofs.Common.{◌≡◌, ℕ, suc, ◌<◌, ◌++◌, ◌==◌, ◌&&◌, ◌||◌, List, [], ◌∷◌, Bool, true, false, cond, refl, ap, sym, ◌∙◌, arith, length, drop, take, get_or, append-nil}
use Rattle.std.proofs.Math.Seq.{drop-append_seam, take-append_seam}
use Rattle.std.proofs.lemmas.Bool.{false≢true, eqb-true}
use Rattle.std.specs.List.{list_all}
use Rattle.std.proofs.lemmas.List.{take-append-drop}
use Rattle.act_wkt.specs.declared.token.Class.{Class}
use Rattle.act_wkt.specs.declared.token.Class.TheVariants as class
use Rattle.act_wkt.specs.Tokens.{begins, behind, front_of, is_in, run_of, skip}
use Rattle.act_wkt.specs.Grammar.{IsRun, IsSign}

-- the end of the text is of no class
end_of_none : (c : Class) → is_in c 0 ≡ false
end_of_none class.Blank = refl
end_of_none class.Letter = refl
end_of_none class.Number = refl

all_front : (c : Class) (text : List ℕ) → list_all (is_in c) (front_of c text) ≡ true
all_front c [] = refl
all_front c (b ∷ text) = by (is_in c b) refl (all_front c text)
  where
    by : (t : Bool) → is_in c b ≡ t → list_all (is_in c) (front_of c text) ≡ true → list_all (is_in c) (take (cond t (suc (run_of c text)) 0) (b ∷ text)) ≡ true
    by true e rest = ap (λ t. t && list_all (is_in c) (front_of c text)) e ∙ rest
    by false e rest = refl

ends_behind : (c : Class) (text : List ℕ) → is_in c (get_or (behind c text) 0 0) ≡ false
ends_behind c [] = end_of_none c
ends_behind c (b ∷ text) = by (is_in c b) refl (ends_behind c text)
  where
    by : (t : Bool) → is_in c b ≡ t → is_in c (get_or (behind c text) 0 0) ≡ false → is_in c (get_or (drop (cond t (suc (run_of c text)) 0) (b ∷ text)) 0 0) ≡ false
    by true e rest = rest
    by false e rest = e

pub and_left : (a b : Bool) → (a && b) ≡ true → a ≡ true
and_left true b h = refl
and_left false b h = h

pub and_right : (a b : Bool) → (a && b) ≡ true → b ≡ true
and_right true b h = h
and_right false b h = absurd (cc)

run_is : (c : Class) (run rest : List ℕ) → list_all (is_in c) run ≡ true → is_in c (get_or rest 0 0) ≡ false → run_of c (run ++ rest) ≡ length run
run_is c [] [] all ends = refl
run_is c [] (b ∷ rest) all ends = ap (λ t. cond t (suc (run_of c rest)) 0) ends
run_is c (b ∷ run) rest all ends =
    ap (λ t. cond t (suc (run_of c (run ++ rest))) 0) (and_left (is_in c b) (list_all (is_in c) run) all)
    ∙ ap suc (run_is c run rest (and_right (is_in c b) (list_all (is_in c) run) all) ends)

pub front_is : (c : Class) (run rest : List ℕ) → list_all (is_in c) run ≡ true → is_in c (get_or rest 0 0) ≡ false → front_of c (run ++ rest) ≡ run
front_is c run rest all ends = ap (λ n. take n (run ++ rest)) (run_is c run rest all ends) ∙ take-append_seam run rest

pub behind_is : (c : Class) (run rest : List ℕ) → list_all (is_in c) run ≡ true → is_in c (get_or rest 0 0) ≡ false → behind c (run ++ rest) ≡ rest
behind_is c run rest all ends = ap (λ n. drop n (run ++ rest)) (run_is c run rest all ends) ∙ drop-append_seam run rest

skip_is : (blanks rest : List ℕ) → list_all (is_in class.Blank) blanks ≡ true → is_in class.Blank (get_or rest 0 0) ≡ false → skip (blanks ++ rest) ≡ rest
unfolding skip
skip_is blanks rest all ends = behind_is class.Blank blanks rest all ends

-- blanks alone leave nothing
pub skip_all : (blanks : List ℕ) → list_all (is_in class.Blank) blanks ≡ true → skip blanks ≡ []
skip_all blanks all = ap skip (sym (append-nil blanks)) ∙ skip_is blanks [] all refl

pub all_skipped : (text : List ℕ) → skip text ≡ [] → list_all (is_in class.Blank) text ≡ true
unfolding skip
all_skipped text none =
    ap (list_all (is_in class.Blank)) (sym (take-append-drop (run_of class.Blank text) text) ∙ ap (λ l. front_of class.Blank text ++ l) none ∙ append-nil (front_of class.Blank text))
    ∙ all_front class.Blank text

-- what is read is a run
pub run_read : (c : Class) (text : List ℕ) → IsRun c text (behind c (skip text)) (front_of c (skip text))
unfolding skip
run_read c text = record {
  blanks = front_of class.Blank text;
  are_blanks = all_front class.Blank text;
  of_class = all_front c (skip text);
  longest = ends_behind c (skip text);
  parts = sym (take-append-drop (run_of class.Blank text) text) ∙ ap (λ l. front_of class.Blank text ++ l) (sym (take-append-drop (run_of c (skip text)) (skip text)));
}

pub neither : (p : ℕ → Bool) (b n : ℕ) → p b ≡ true → p n ≡ false → (b == n) ≡ false
neither p b n here other = by (b == n) refl
  where
    by : (t : Bool) → (b == n) ≡ t → t ≡ false
    by false e = refl
    by true e = let same : b ≡ n = eqb-true b n e in absurd (false≢true (sym (ap p same ∙ other) ∙ here))

none_of : (a b c d : Bool) → a ≡ false → b ≡ false → c ≡ false → d ≡ false → (a || b || c || d) ≡ false
none_of a b c d e f g h = rw (e, f, g, h) refl

no_blank : (p : ℕ → Bool) (b : ℕ) → p b ≡ true → p 32 ≡ false → p 9 ≡ false → p 10 ≡ false → p 13 ≡ false → is_in class.Blank b ≡ false
no_blank p b here e f g h = none_of (b == 32) (b == 9) (b == 10) (b == 13) (neither p b 32 here e) (neither p b 9 here f) (neither p b 10 here g) (neither p b 13 here h)

pub letter_no_blank : (b : ℕ) → is_in class.Letter b ≡ true → is_in class.Blank b ≡ false
letter_no_blank b h = no_blank (is_in class.Letter) b h refl refl refl refl

pub number_no_blank : (b : ℕ) → is_in class.Number b ≡ true → is_in class.Blank b ≡ false
number_no_blank b h = no_blank (is_in class.Number) b h refl refl refl refl

-- and a run is what is read
pub record Read (c : Class) (text rest run : List ℕ) : Type 0 where
  pub skipped : skip text ≡ run ++ rest
  pub front : front_of c (skip text) ≡ run
  pub back : behind c (skip text) ≡ rest

pub read_run : (c : Class) (text rest run : List ℕ) → ((b : ℕ) → is_in c b ≡ true → is_in class.Blank b ≡ false) → 0 < length run → IsRun c text rest run → Read c text rest run
read_run c text rest [] apart some h = absurd (omega arith)
read_run c text rest (b ∷ run) apart some h =
    let here : skip text ≡ (b ∷ run) ++ rest =
    ap skip h.parts ∙ skip_is h.blanks ((b ∷ run) ++ rest) h.are_blanks (apart b (and_left (is_in c b) (list_all (is_in c) run) h.of_class)) in
    record {
      skipped = here;
      front = ap (front_of c) here ∙ front_is c (b ∷ run) rest h.of_class h.longest;
      back = ap (behind c) here ∙ behind_is c (b ∷ run) rest h.of_class h.longest;
    }

cell_of : (text : List ℕ) (byte : ℕ) → 0 < byte → begins text byte ≡ true → text ≡ byte ∷ drop 1 text
cell_of [] byte some here = let same : 0 ≡ byte = eqb-true 0 byte here in absurd (omega arith)
cell_of (b ∷ text) byte some here = ap (λ d. d ∷ text) (eqb-true b byte here)

-- what is read is a sign
pub sign_read : (byte : ℕ) (text : List ℕ) → 0 < byte → begins (skip text) byte ≡ true → IsSign byte text (drop 1 (skip text))
unfolding skip
sign_read byte text some here = record {
  blanks = front_of class.Blank text;
  are_blanks = all_front class.Blank text;
  parts = sym (take-append-drop (run_of class.Blank text) text) ∙ ap (λ l. front_of class.Blank text ++ l) (cell_of (skip text) byte some here);
}

-- and a sign is what is read
pub read_sign : (byte : ℕ) (text rest : List ℕ) → is_in class.Blank byte ≡ false → IsSign byte text rest → skip text ≡ byte ∷ rest
read_sign byte text rest apart h = ap skip h.parts ∙ skip_is h.blanks (byte ∷ rest) h.are_blanks apart

-- no blank stands where blanks were skipped
pub skip_twice : (text : List ℕ) → skip (skip text) ≡ skip text
unfolding skip
skip_twice text = behind_is class.Blank [] (skip text) refl (ends_behind class.Blank text)
