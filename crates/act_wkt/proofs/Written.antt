-- What is written so far, and what is to come.
use Rattle.std.proofs.Common.{◌≡◌, ℕ, suc, zero, ◌-◌, ◌+◌, ◌/◌, ◌%◌, ◌^◌, ◌<◌, ◌++◌, List, [], ◌∷◌, Some, ap, sym, ◌∙◌, arith, drop, slice_get, append_assoc, flat_map}
use Rattle.act_wkt.specs.Spelling.{last_digits}

-- one more decimal
pub one_decimal : (bytes total : List ℕ) (left n digit : ℕ) → 0 < left → bytes ++ last_digits left n ≡ total → digit ≡ n / 10 ^ (left - 1) % 10 → (bytes ++ (48 + digit) ∷ []) ++ last_digits (left - 1) n ≡ total
one_decimal bytes total zero n digit some e is = absurd (omega arith)
one_decimal bytes total (suc left) n digit some e is =
    let less : suc left - 1 ≡ left = omega arith in
    append_assoc bytes ((48 + digit) ∷ []) (last_digits (suc left - 1) n)
    ∙ ap (λ d. bytes ++ ((48 + d) ∷ last_digits (suc left - 1) n)) is
    ∙ ap (λ k. bytes ++ ((48 + n / 10 ^ k % 10) ∷ last_digits k n)) less
    ∙ e

cell : {X : Type 0} (xs : List X) (k : ℕ) (x : X) → slice_get xs k ≡ Some x → drop k xs ≡ x ∷ drop (suc k) xs
cell [] k x h = absurd (cc)
cell (y ∷ xs) zero x h = let same : y ≡ x = cc in ap (λ z. z ∷ xs) same
cell (y ∷ xs) (suc k) x h = cell xs k x h

-- one more item with what stands around it
pub one_item : {X : Type 0} (f : X → List ℕ) (bytes total back : List ℕ) (xs : List X) (k : ℕ) (x : X) → slice_get xs k ≡ Some x
    → bytes ++ (flat_map f (drop k xs) ++ back) ≡ total → (bytes ++ f x) ++ (flat_map f (drop (k + 1) xs) ++ back) ≡ total
one_item f bytes total back xs k x h e =
    let next : k + 1 ≡ suc k = omega arith in
    append_assoc bytes (f x) (flat_map f (drop (k + 1) xs) ++ back)
    ∙ ap (λ l. bytes ++ l) (sym (append_assoc (f x) (flat_map f (drop (k + 1) xs)) back))
    ∙ ap (λ j. bytes ++ ((f x ++ flat_map f (drop j xs)) ++ back)) next
    ∙ ap (λ l. bytes ++ (flat_map f l ++ back)) (sym (cell xs k x h))
    ∙ e
