-- One more byte of a class.
use Rattle.std.proofs.Common.{◌≡◌, ℕ, suc, ◌+◌, ◌<◌, List, ◌∷◌, true, false, cond, ap, ◌∙◌, length, drop, get_or, drop-cons, add-one}
use Rattle.act_wkt.specs.declared.token.Class.{Class}
use Rattle.act_wkt.specs.Tokens.{is_in, run_of}

cell : (text : List ℕ) (i : ℕ) → i < length text → drop i text ≡ get_or text i 0 ∷ drop (i + 1) text
cell text i h = rw (add-one) (drop-cons text i 0 h)

-- a byte of the class counts
pub run_more : (class : Class) (text : List ℕ) (i : ℕ) → i < length text → is_in class (get_or text i 0) ≡ true → run_of class (drop i text) ≡ suc (run_of class (drop (i + 1) text))
run_more class text i h here = ap (run_of class) (cell text i h) ∙ ap (λ b. cond b (suc (run_of class (drop (i + 1) text))) 0) here

-- another ends the run
pub run_none : (class : Class) (text : List ℕ) (i : ℕ) → i < length text → is_in class (get_or text i 0) ≡ false → run_of class (drop i text) ≡ 0
run_none class text i h other = ap (run_of class) (cell text i h) ∙ ap (λ b. cond b (suc (run_of class (drop (i + 1) text))) 0) other
