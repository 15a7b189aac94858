-- Bits set apart, as blocks, and every second bit of a number.
use Rattle.std.proofs.Common.{◌≡◌, ℕ, zero, suc, ◌+◌, ◌-◌, ◌*◌, ◌/◌, ◌%◌, ◌^◌, ◌<◌, List, [], ◌∷◌, length, refl, sym, ap, ◌∙◌, arith, bit_and, bit_or, lit<, pow-suc}
use Rattle.std.specs.Int.Bits.{and_zero_r}
use Rattle.std.proofs.lemmas.Nat.{and_block, and_mask}
use Rattle.act_grid.specs.Cell.{column, row}
use Rattle.act_grid.specs.Spaced.{spaced}
use Rattle.act_grid.proofs.Blocks.{packed, repeated, Small, halves, length-halves, halves_small, packed-halves, mask, apart_step, together_step}

-- bits as blocks of one bit, and as blocks of two
pub spaced_blocks : (ds : List ℕ) → Small 1 ds → spaced (length ds) (packed 1 ds) ≡ packed 2 ds
unfolding spaced
spaced_blocks [] h = refl
spaced_blocks (d ∷ ds) h =
    let rest : (packed 1 ds * 2 + d) / 2 ≡ packed 1 ds = omega (arith, h.0) in
    let low : (packed 1 ds * 2 + d) % 2 ≡ d = omega (arith, h.0) in
    ap (λ v. spaced (length ds) v * 4 + (packed 1 ds * 2 + d) % 2) rest ∙ ap (λ v. v * 4 + (packed 1 ds * 2 + d) % 2) (spaced_blocks ds h.1)
    ∙ ap (λ v. packed 2 ds * 4 + v) low

-- ---- the five steps

-- how often a number of 32 bits was cut in two: blocks of 16, 8, 4, 2 and 1 bits
unfoldable pub cut_16 : ℕ → List ℕ
cut_16 x = halves 16 (x ∷ [])

unfoldable pub cut_8 : ℕ → List ℕ
cut_8 x = halves 8 (cut_16 x)

unfoldable pub cut_4 : ℕ → List ℕ
cut_4 x = halves 4 (cut_8 x)

unfoldable pub cut_2 : ℕ → List ℕ
cut_2 x = halves 2 (cut_4 x)

unfoldable pub cut_1 : ℕ → List ℕ
cut_1 x = halves 1 (cut_2 x)

-- the blocks of x, n of them, w bits each
record Blocks (x w n : ℕ) (ds : List ℕ) : Type 0 where
  small : Small w ds
  count : length ds ≡ n
  value : packed w ds ≡ x

cut_more : (x g n : ℕ) (ds : List ℕ) → Blocks x (g + g) n ds → Blocks x g (2 * n) (halves g ds)
cut_more x g n ds b = record {
  small = halves_small g ds b.small;
  count = length-halves g ds ∙ ap (λ v. 2 * v) b.count;
  value = packed-halves g ds ∙ b.value;
}

whole : (x : ℕ) → x < 2 ^ 32 → Blocks x 32 1 (x ∷ [])
whole x h = record { small = (h, tt); count = refl; value = omega arith }

by_16 : (x : ℕ) → x < 2 ^ 32 → Blocks x 16 2 (cut_16 x)
unfolding cut_16
by_16 x h = cut_more x 16 1 (x ∷ []) (whole x h)

by_8 : (x : ℕ) → x < 2 ^ 32 → Blocks x 8 4 (cut_8 x)
unfolding cut_8
by_8 x h = cut_more x 8 2 (cut_16 x) (by_16 x h)

by_4 : (x : ℕ) → x < 2 ^ 32 → Blocks x 4 8 (cut_4 x)
unfolding cut_4
by_4 x h = cut_more x 4 4 (cut_8 x) (by_8 x h)

by_2 : (x : ℕ) → x < 2 ^ 32 → Blocks x 2 16 (cut_2 x)
unfolding cut_2
by_2 x h = cut_more x 2 8 (cut_4 x) (by_4 x h)

by_1 : (x : ℕ) → x < 2 ^ 32 → Blocks x 1 32 (cut_1 x)
unfolding cut_1
by_1 x h = cut_more x 1 16 (cut_2 x) (by_2 x h)

-- one step upward, at the literal mask
apart_at : (x g n m v : ℕ) (ds : List ℕ) → Blocks x (g + g) n ds → repeated (g + g + (g + g)) (mask g) n ≡ m → v ≡ packed (g + g + (g + g)) ds
    → bit_and (bit_or v (v * 2 ^ g)) m ≡ packed (g + g) (halves g ds)
apart_at x g n m v ds b e h =
    ap (λ u. bit_and (bit_or u (u * 2 ^ g)) m) h ∙ ap (bit_and (bit_or (packed (g + g + (g + g)) ds) (packed (g + g + (g + g)) ds * 2 ^ g))) (sym (ap (repeated (g + g + (g + g)) (mask g)) b.count ∙ e))
    ∙ apart_step g ds b.small

together_at : (x g n m v : ℕ) (ds : List ℕ) → Blocks x (g + g) n ds → repeated (g + g + (g + g)) (2 ^ (g + g) - 1) n ≡ m → v ≡ packed (g + g) (halves g ds)
    → bit_and (bit_or v (v / 2 ^ g)) m ≡ packed (g + g + (g + g)) ds
together_at x g n m v ds b e h =
    ap (λ u. bit_and (bit_or u (u / 2 ^ g)) m) h ∙ ap (bit_and (bit_or (packed (g + g) (halves g ds)) (packed (g + g) (halves g ds) / 2 ^ g))) (sym (ap (repeated (g + g + (g + g)) (2 ^ (g + g) - 1)) b.count ∙ e))
    ∙ together_step g ds b.small

spaced_is : (x : ℕ) → x < 2 ^ 32 → packed 2 (cut_1 x) ≡ spaced 32 x
spaced_is x h =
    let b = by_1 x h in
    sym (spaced_blocks (cut_1 x) b.small) ∙ ap (λ n. spaced n (packed 1 (cut_1 x))) b.count ∙ ap (spaced 32) b.value

pub five_apart : (x a b c d e : ℕ) → x < 2 ^ 32 → a ≡ bit_and (bit_or x (x * 2 ^ 16)) 0x0000_ffff_0000_ffff → b ≡ bit_and (bit_or a (a * 2 ^ 8)) 0x00ff_00ff_00ff_00ff
    → c ≡ bit_and (bit_or b (b * 2 ^ 4)) 0x0f0f_0f0f_0f0f_0f0f → d ≡ bit_and (bit_or c (c * 2 ^ 2)) 0x3333_3333_3333_3333 → e ≡ bit_and (bit_or d (d * 2 ^ 1)) 0x5555_5555_5555_5555
    → e ≡ spaced 32 x
unfolding cut_16 cut_8 cut_4 cut_2 cut_1
five_apart x a b c d e h e1 e2 e3 e4 e5 =
    let one : a ≡ packed 32 (cut_16 x) = e1 ∙ apart_at x 16 1 _ x (x ∷ []) (whole x h) refl (omega arith) in
    let two : b ≡ packed 16 (cut_8 x) = e2 ∙ apart_at x 8 2 _ a (cut_16 x) (by_16 x h) refl one in
    let three : c ≡ packed 8 (cut_4 x) = e3 ∙ apart_at x 4 4 _ b (cut_8 x) (by_8 x h) refl two in
    let four : d ≡ packed 4 (cut_2 x) = e4 ∙ apart_at x 2 8 _ c (cut_4 x) (by_4 x h) refl three in
    let five : e ≡ packed 2 (cut_1 x) = e5 ∙ apart_at x 1 16 _ d (cut_2 x) (by_2 x h) refl four in
    five ∙ spaced_is x h

-- every second bit of z is the low bits of its groups of two
pub even_bits : (n z : ℕ) → bit_and z (repeated 2 1 n) ≡ spaced n (column n z)
unfolding spaced column
even_bits zero z = and_zero_r z
even_bits (suc n) z =
    let parts : z ≡ z / 4 * 4 + z % 4 = omega arith in
    let high : (column n (z / 4) * 2 + z % 2) / 2 ≡ column n (z / 4) = omega arith in
    let low : (column n (z / 4) * 2 + z % 2) % 2 ≡ z % 2 = omega arith in
    ap (λ v. bit_and v (repeated 2 1 n * 4 + 1)) parts ∙ and_block 2 (z / 4) (repeated 2 1 n) (z % 4) 1 (omega arith) (lit< tt)
    ∙ ap (λ v. v * 4 + bit_and (z % 4) 1) (even_bits n (z / 4)) ∙ ap (λ v. spaced n (column n (z / 4)) * 4 + v) (and_mask (z % 4) 1 ∙ omega arith)
    ∙ sym (ap (λ v. spaced n v * 4 + (column n (z / 4) * 2 + z % 2) % 2) high ∙ ap (λ v. spaced n (column n (z / 4)) * 4 + v) low)

pub column_below : (n z : ℕ) → column n z < 2 ^ n
unfolding column
column_below zero z = lit< tt
column_below (suc n) z = omega (arith, column_below n (z / 4), pow-suc 2 n)

pub five_together : (z a b c d e : ℕ) → a ≡ bit_and (bit_or (bit_and z 0x5555_5555_5555_5555) (bit_and z 0x5555_5555_5555_5555 / 2 ^ 1)) 0x3333_3333_3333_3333
    → b ≡ bit_and (bit_or a (a / 2 ^ 2)) 0x0f0f_0f0f_0f0f_0f0f → c ≡ bit_and (bit_or b (b / 2 ^ 4)) 0x00ff_00ff_00ff_00ff → d ≡ bit_and (bit_or c (c / 2 ^ 8)) 0x0000_ffff_0000_ffff
    → e ≡ bit_and (bit_or d (d / 2 ^ 16)) 0x0000_0000_ffff_ffff → e ≡ column 32 z
unfolding cut_16 cut_8 cut_4 cut_2 cut_1
five_together z a b c d e e1 e2 e3 e4 e5 =
    let x = column 32 z in
    let h : x < 2 ^ 32 = column_below 32 z in
    let start : bit_and z 0x5555_5555_5555_5555 ≡ packed 2 (cut_1 x) = even_bits 32 z ∙ sym (spaced_is x h) in
    let one : a ≡ packed 4 (cut_2 x) = e1 ∙ together_at x 1 16 _ _ (cut_2 x) (by_2 x h) refl start in
    let two : b ≡ packed 8 (cut_4 x) = e2 ∙ together_at x 2 8 _ a (cut_4 x) (by_4 x h) refl one in
    let three : c ≡ packed 16 (cut_8 x) = e3 ∙ together_at x 4 4 _ b (cut_8 x) (by_8 x h) refl two in
    let four : d ≡ packed 32 (cut_16 x) = e4 ∙ together_at x 8 2 _ c (cut_16 x) (by_16 x h) refl three in
    let five : e ≡ packed 64 (x ∷ []) = e5 ∙ together_at x 16 1 _ d (x ∷ []) (whole x h) refl four in
    five ∙ omega arith

-- what was put together comes back
pub column_spaced : (n x y : ℕ) → x < 2 ^ n → column n (spaced n x + spaced n y * 2) ≡ x
unfolding column spaced
column_spaced zero x y h = omega (arith, h)
column_spaced (suc n) x y h =
    let a = spaced n (x / 2) in
    let b = spaced n (y / 2) in
    let rest : (a * 4 + x % 2 + (b * 4 + y % 2) * 2) / 4 ≡ a + b * 2 = omega arith in
    let low : (a * 4 + x % 2 + (b * 4 + y % 2) * 2) % 2 ≡ x % 2 = omega arith in
    ap (λ v. column n v * 2 + (a * 4 + x % 2 + (b * 4 + y % 2) * 2) % 2) rest
    ∙ ap (λ v. v * 2 + (a * 4 + x % 2 + (b * 4 + y % 2) * 2) % 2) (column_spaced n (x / 2) (y / 2) (omega (arith, h, pow-suc 2 n)))
    ∙ ap (λ v. x / 2 * 2 + v) low ∙ omega arith

pub row_more : (n z : ℕ) → row (suc n) z ≡ row n (z / 4) * 2 + z / 2 % 2
unfolding column
row_more n z =
    let e : z / 2 / 4 ≡ z / 4 / 2 = omega arith in
    ap (λ v. column n v * 2 + z / 2 % 2) e

pub row_spaced : (n x y : ℕ) → y < 2 ^ n → row n (spaced n x + spaced n y * 2) ≡ y
unfolding column spaced
row_spaced zero x y h = omega (arith, h)
row_spaced (suc n) x y h =
    let a = spaced n (x / 2) in
    let b = spaced n (y / 2) in
    let rest : (a * 4 + x % 2 + (b * 4 + y % 2) * 2) / 4 ≡ a + b * 2 = omega arith in
    let low : (a * 4 + x % 2 + (b * 4 + y % 2) * 2) / 2 % 2 ≡ y % 2 = omega arith in
    row_more n (a * 4 + x % 2 + (b * 4 + y % 2) * 2)
    ∙ ap (λ v. row n v * 2 + (a * 4 + x % 2 + (b * 4 + y % 2) * 2) / 2 % 2) rest
    ∙ ap (λ v. v * 2 + (a * 4 + x % 2 + (b * 4 + y % 2) * 2) / 2 % 2) (row_spaced n (x / 2) (y / 2) (omega (arith, h, pow-suc 2 n)))
    ∙ ap (λ v. y / 2 * 2 + v) low ∙ omega arith
