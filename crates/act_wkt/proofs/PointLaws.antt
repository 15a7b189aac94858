-- Numbers, points and rings as the grammar has them are those that are read.
use Rattle.std.proofs.Common.{◌≡◌, ℕ, ℤ, ◌<◌, ◌++◌, ◌&&◌, List, [], ◌∷◌, Bool, true, false, cond, Result, Ok, Err, refl, ap, sym, ◌∙◌, arith, length, get_or, subst}
use Rattle.std.proofs.lemmas.Bool.{false≢true}
use Rattle.std.specs.List.{list_all}
use Rattle.act_grid.specs.declared.Point.{Point}
use Rattle.act_grid.specs.declared.NumFault.{NumFault}
use Rattle.act_grid.specs.declared.NumFault.TheVariants as number
use Rattle.act_grid.specs.Number.{value_of}
use Rattle.act_wkt.specs.declared.fault.Miss.{Miss}
use Rattle.act_wkt.specs.declared.token.Class.TheVariants as class
use Rattle.act_wkt.specs.Grammar.{IsNumber, IsPoint}
use Rattle.act_wkt.specs.Reading.{◌>>=◌}
use Rattle.act_wkt.specs.Tokens.{behind, front_of, is_in, skip}
use Rattle.act_wkt.specs.Wkt.{number_at, point_at, valued}
use Rattle.act_wkt.proofs.TokenLaws.{number_no_blank, read_run, run_read}

-- a step that found something
pub bind_ok : {F A B : Type 0} (r : Result A F) (f : A → Result B F) (y : B) → (r >>= f) ≡ Ok y → (x : A) × (r ≡ Ok x) × (f x ≡ Ok y)
bind_ok (Ok x) f y h = (x, refl, h)
bind_ok (Err e) f y h = absurd (cc)

-- a test that led to something
pub test_ok : {F A : Type 0} (t : Bool) (a y : A) (good : Result A F) (e : F) → good ≡ Ok a → cond t good (Err e) ≡ Ok y → (t ≡ true) × (a ≡ y)
test_ok true a y good e is h = (refl, cc)
test_ok false a y good e is h = absurd (cc)

no_number : (digits : ℕ) → value_of digits [] ≡ Err number.Form
unfolding value_of
no_number digits = refl

has_bytes : (digits : ℕ) (run : List ℕ) (value : ℤ) → value_of digits run ≡ Ok value → 0 < length run
has_bytes digits [] value h = let none = no_number digits in absurd (cc)
has_bytes digits (b ∷ run) value h = omega arith

valued_ok : (r : Result ℤ NumFault) (text rest : List ℕ) (x : ℤ × List ℕ) → valued r text rest ≡ Ok x → (r ≡ Ok x.0) × (rest ≡ x.1)
valued_ok (Ok value) text rest x h = let same : (value, rest) ≡ x = cc in (ap (λ (p : ℤ × List ℕ). Ok p.0) same, ap (λ (p : ℤ × List ℕ). p.1) same)
valued_ok (Err number.Form) text rest x h = absurd (cc)
valued_ok (Err number.Range) text rest x h = absurd (cc)

pub number_read : (digits : ℕ) (text : List ℕ) (x : ℤ × List ℕ) → number_at digits text ≡ Ok x → IsNumber digits text x.1 x.0
unfolding number_at
number_read digits text x h =
    let p = valued_ok (value_of digits (front_of class.Number (skip text))) (skip text) (behind class.Number (skip text)) x h in
    record {
      run = front_of class.Number (skip text);
      is_run = rw (← p.1) (run_read class.Number text);
      has_value = p.0;
    }

pub read_number : (digits : ℕ) (text rest : List ℕ) (value : ℤ) → IsNumber digits text rest value → number_at digits text ≡ Ok (value, rest)
unfolding number_at
read_number digits text rest value h =
    let r = read_run class.Number text rest h.run number_no_blank (has_bytes digits h.run value h.has_value) h.is_run in
    ap (λ l. valued (value_of digits l) (skip text) (behind class.Number (skip text))) r.front
    ∙ ap (λ (v : Result ℤ NumFault). valued v (skip text) (behind class.Number (skip text))) h.has_value
    ∙ ap (λ l. Ok (value, l)) r.back

-- where the second number begins with a number's byte, a blank stands before it
blank_between : (digits : ℕ) (between rest : List ℕ) (value : ℤ) → is_in class.Number (get_or between 0 0) ≡ false → IsNumber digits between rest value → is_in class.Blank (get_or between 0 0) ≡ true
blank_between digits between rest value ends h = by h.is_run.blanks h.run h.is_run.are_blanks h.is_run.of_class h.is_run.parts (has_bytes digits h.run value h.has_value)
  where
    left : (a b : Bool) → (a && b) ≡ true → a ≡ true
    left true b h = refl
    left false b h = h

    by : (blanks run : List ℕ) → list_all (is_in class.Blank) blanks ≡ true → list_all (is_in class.Number) run ≡ true → between ≡ blanks ++ (run ++ rest) → 0 < length run → is_in class.Blank (get_or between 0 0) ≡ true
    by [] [] all of is some = absurd (omega arith)
    by [] (b ∷ run) all of is some =
        let first : is_in class.Number (get_or between 0 0) ≡ true = ap (λ l. is_in class.Number (get_or l 0 0)) is ∙ left (is_in class.Number b) (list_all (is_in class.Number) run) of in
        absurd (false≢true (sym ends ∙ first))
    by (b ∷ blanks) run all of is some = ap (λ l. is_in class.Blank (get_or l 0 0)) is ∙ left (is_in class.Blank b) (list_all (is_in class.Blank) blanks) all

pub point_read : (digits : ℕ) (text : List ℕ) (x : Point × List ℕ) → point_at digits text ≡ Ok x → IsPoint digits text x.1 x.0
unfolding point_at
point_read digits text x h =
    let a = bind_ok (number_at digits text) (λ n. number_at digits n.1 >>= λ y. Ok (record { x = n.0; y = y.0 }, y.1)) x h in
    let b = bind_ok (number_at digits a.0.1) (λ y. Ok (record { x = a.0.0; y = y.0 }, y.1)) x a.2 in
    let same : (record { x = a.0.0; y = b.0.0 }, b.0.1) ≡ x = cc in
    let first = number_read digits text a.0 a.1 in
    let second = number_read digits a.0.1 b.0 b.1 in
    let both : IsPoint digits text b.0.1 (record { x = a.0.0; y = b.0.0 }) = record {
      between = a.0.1;
      is_x = first;
      is_y = second;
      blank = blank_between digits a.0.1 b.0.1 b.0.0 first.is_run.longest second;
    } in
    subst (λ (p : Point × List ℕ). IsPoint digits text p.1 p.0) same both

pub read_point : (digits : ℕ) (text rest : List ℕ) (point : Point) → IsPoint digits text rest point → point_at digits text ≡ Ok (point, rest)
unfolding point_at
read_point digits text rest point h =
    ap (λ (r : Result (ℤ × List ℕ) Miss). r >>= λ n. number_at digits n.1 >>= λ y. Ok (record { x = n.0; y = y.0 }, y.1)) (read_number digits text h.between point.x h.is_x)
    ∙ ap (λ (r : Result (ℤ × List ℕ) Miss). r >>= λ y. Ok (record { x = point.x; y = y.0 }, y.1)) (read_number digits h.between rest point.y h.is_y)
