-- Numbers made of blocks of bits, and the masked shifts that cut each block in two.
use Rattle.std.proofs.Common.{◌≡◌, ℕ, zero, suc, ◌+◌, ◌-◌, ◌*◌, ◌/◌, ◌%◌, ◌^◌, ◌<◌, ◌≤◌, List, [], ◌∷◌, length, refl, sym, ap, ◌∙◌, subst, arith, bit_and, bit_or, add-zero, lit<}
use Rattle.std.specs.Int.Bits.{or_zero_l, or_zero_r, and_zero_r}
use Rattle.std.proofs.Math.Nat.{pow-le-pow_right, mul_assoc, mul-le-mul_left}
use Rattle.std.proofs.lemmas.Nat.{pow_pos, pow-add, or_block, and_block, or_lt, and_mask, or_comm, mod_below, shr_below, shr_high, mod_low, div-add-mod', shl_below, or_shifted, or_mod, mul-add-lt}

-- blocks of w bits as one number, the first block lowest
abbrev pub packed : ℕ → List ℕ → ℕ
packed w [] = 0
packed w (d ∷ ds) = packed w ds * 2 ^ w + d

-- the same block n times
abbrev pub repeated : ℕ → ℕ → ℕ → ℕ
repeated w m zero = 0
repeated w m (suc n) = repeated w m n * 2 ^ w + m

abbrev pub Small : ℕ → List ℕ → Type 0
Small w [] = Unit {0}
Small w (d ∷ ds) = (d < 2 ^ w) × Small w ds

-- each block cut into its low and its high half of g bits
unfoldable pub halves : ℕ → List ℕ → List ℕ
halves g [] = []
halves g (d ∷ ds) = d % 2 ^ g ∷ (d / 2 ^ g ∷ halves g ds)

pub length-halves : (g : ℕ) (ds : List ℕ) → length (halves g ds) ≡ 2 * length ds
unfolding halves
length-halves g [] = refl
length-halves g (d ∷ ds) = omega (arith, length-halves g ds)

pub halves_small : (g : ℕ) (ds : List ℕ) → Small (g + g) ds → Small g (halves g ds)
unfolding halves
halves_small g [] h = tt
halves_small g (d ∷ ds) h = (mod_below d (2 ^ g) (pow_pos g), (shr_below d g g h.0, halves_small g ds h.1))

pub packed-halves : (g : ℕ) (ds : List ℕ) → packed g (halves g ds) ≡ packed (g + g) ds
unfolding halves
packed-halves g [] = refl
packed-halves g (d ∷ ds) =
    omega (arith, ap (λ v. (v * 2 ^ g + d / 2 ^ g) * 2 ^ g + d % 2 ^ g) (packed-halves g ds), div-add-mod' d (2 ^ g), ap (λ v. packed (g + g) ds * v) (pow-add 2 g g))

-- ---- upward: v | v << g, masked

own : (g a : ℕ) → a < 2 ^ g → a % 2 ^ g ≡ a
own g a h = ap (λ v. v % 2 ^ g) (omega arith) ∙ mod_low 0 g a h

below_pow : (g : ℕ) → 2 ^ g - 1 < 2 ^ g
below_pow g = omega (arith, pow_pos g)

block_or : (g hi lo : ℕ) → hi < 2 ^ g → lo < 2 ^ g → bit_or (hi * 2 ^ g + lo) ((hi * 2 ^ g + lo) * 2 ^ g) ≡ (hi * 2 ^ g + bit_or hi lo) * 2 ^ g + lo
block_or g hi lo h l =
    let low : (hi * 2 ^ g + lo) * 2 ^ g ≡ (hi * 2 ^ g + lo) * 2 ^ g + 0 = omega arith in
    let high : hi ≡ 0 * 2 ^ g + hi = omega arith in
    ap (bit_or (hi * 2 ^ g + lo)) low ∙ or_block g hi (hi * 2 ^ g + lo) lo 0 l (pow_pos g)
    ∙ ap (λ v. bit_or hi (hi * 2 ^ g + lo) * 2 ^ g + v) (or_zero_r lo)
    ∙ ap (λ v. v * 2 ^ g + lo) (ap (λ v. bit_or v (hi * 2 ^ g + lo)) high ∙ or_block g 0 hi hi lo h l ∙ ap (λ v. v * 2 ^ g + bit_or hi lo) (or_zero_l hi))

-- keeps the lowest and the third of four groups
abbrev pub mask : ℕ → ℕ
mask g = (2 ^ g - 1) * 2 ^ g * 2 ^ g + (2 ^ g - 1)

block_and : (g hi m lo : ℕ) → hi < 2 ^ g → m < 2 ^ g → lo < 2 ^ g → bit_and ((hi * 2 ^ g + m) * 2 ^ g + lo) (mask g) ≡ hi * 2 ^ g * 2 ^ g + lo
block_and g hi m lo h k l =
    let zero_low : (2 ^ g - 1) * 2 ^ g ≡ (2 ^ g - 1) * 2 ^ g + 0 = omega arith in
    let inner : bit_and (hi * 2 ^ g + m) ((2 ^ g - 1) * 2 ^ g) ≡ hi * 2 ^ g =
    ap (bit_and (hi * 2 ^ g + m)) zero_low ∙ and_block g hi (2 ^ g - 1) m 0 k (pow_pos g)
    ∙ ap (λ v. bit_and hi (2 ^ g - 1) * 2 ^ g + v) (and_zero_r m) ∙ ap (λ v. v * 2 ^ g + 0) (and_mask hi g ∙ own g hi h) ∙ add-zero (hi * 2 ^ g) in
    and_block g (hi * 2 ^ g + m) ((2 ^ g - 1) * 2 ^ g) lo (2 ^ g - 1) l (below_pow g)
    ∙ ap (λ v. v * 2 ^ g + bit_and lo (2 ^ g - 1)) inner ∙ ap (λ v. hi * 2 ^ g * 2 ^ g + v) (and_mask lo g ∙ own g lo l)

four_pows : (g : ℕ) → 2 ^ (g + g + (g + g)) ≡ 2 ^ g * 2 ^ g * (2 ^ g * 2 ^ g)
four_pows g = pow-add 2 (g + g) (g + g) ∙ ap (λ v. v * v) (pow-add 2 g g)

mask_small : (g : ℕ) → mask g < 2 ^ (g + g + (g + g))
mask_small g =
    let b = 2 ^ g in
    let c = b - 1 in
    let one : b ≡ c + 1 = omega (arith, pow_pos g) in
    omega (arith, four_pows g, ap (λ t. t * b * b) one, mul-le-mul_left b (pow_pos g), mul-le-mul_left (b * b * b) (pow_pos g))

pub block_apart : (g d : ℕ) → d < 2 ^ (g + g) → bit_and (bit_or d (d * 2 ^ g)) (mask g) ≡ d / 2 ^ g * 2 ^ (g + g) + d % 2 ^ g
block_apart g d h =
    let hi = d / 2 ^ g in
    let lo = d % 2 ^ g in
    let e : d ≡ hi * 2 ^ g + lo = sym (div-add-mod' d (2 ^ g)) in
    let hs : hi < 2 ^ g = shr_below d g g h in
    let ls : lo < 2 ^ g = mod_below d (2 ^ g) (pow_pos g) in
    ap (λ v. bit_and (bit_or v (v * 2 ^ g)) (mask g)) e ∙ ap (λ v. bit_and v (mask g)) (block_or g hi lo hs ls)
    ∙ block_and g hi (bit_or hi lo) lo hs (or_lt g hi lo hs ls) ls ∙ ap (λ v. v + lo) (mul_assoc hi (2 ^ g) (2 ^ g) ∙ ap (λ v. hi * v) (sym (pow-add 2 g g)))

le_whole : (j k d : ℕ) → d < 2 ^ j → d < 2 ^ (j + k)
le_whole j k d h = omega (arith, h, pow-le-pow_right {n = 2} (lit< tt) {i = j} {j = j + k} (omega arith))

shifted_small : (g j k d : ℕ) → d < 2 ^ j → d * 2 ^ g < 2 ^ (j + (g + k))
shifted_small g j k d h = subst (λ e. d * 2 ^ g < 2 ^ e) (omega arith) (le_whole (j + g) k (d * 2 ^ g) (shl_below d j g h))

-- all blocks at once
pub apart_step : (g : ℕ) (ds : List ℕ) → Small (g + g) ds
    → bit_and (bit_or (packed (g + g + (g + g)) ds) (packed (g + g + (g + g)) ds * 2 ^ g)) (repeated (g + g + (g + g)) (mask g) (length ds)) ≡ packed (g + g) (halves g ds)
unfolding halves
apart_step g [] h = and_zero_r (bit_or 0 (0 * 2 ^ g))
apart_step g (d ∷ ds) h =
    let w = g + g + (g + g) in
    let p = packed w ds in
    let s = 2 ^ g in
    let one : d < 2 ^ w = le_whole (g + g) (g + g) d h.0 in
    let two : d * s < 2 ^ w = shifted_small g (g + g) g d h.0 in
    let moved : (p * 2 ^ w + d) * s ≡ p * s * 2 ^ w + d * s = omega arith in
    ap (λ v. bit_and (bit_or (p * 2 ^ w + d) v) (repeated w (mask g) (length ds) * 2 ^ w + mask g)) moved
    ∙ ap (λ v. bit_and v (repeated w (mask g) (length ds) * 2 ^ w + mask g)) (or_block w p (p * s) d (d * s) one two)
    ∙ and_block w (bit_or p (p * s)) (repeated w (mask g) (length ds)) (bit_or d (d * s)) (mask g) (or_lt w d (d * s) one two) (mask_small g)
    ∙ ap (λ v. v * 2 ^ w + bit_and (bit_or d (d * s)) (mask g)) (apart_step g ds h.1)
    ∙ ap (λ v. packed (g + g) (halves g ds) * 2 ^ w + v) (block_apart g d h.0)
    ∙ omega (arith, ap (λ v. packed (g + g) (halves g ds) * v) (pow-add 2 (g + g) (g + g)))

-- ---- downward: v | v >> g, masked

halves_down : (g r hi lo : ℕ) → lo < 2 ^ g
    → ((r * 2 ^ (g + g) + hi) * 2 ^ (g + g) + lo) / 2 ^ g ≡ r / 2 ^ g * 2 ^ (g + g + (g + g)) + (r % 2 ^ g * 2 ^ g * 2 ^ (g + g) + hi * 2 ^ g)
halves_down g r hi lo l =
    let s = 2 ^ g in
    let a = 2 ^ (g + g) in
    let square : a ≡ s * s = pow-add 2 g g in
    let up : (r * a + hi) * a + lo ≡ (r * a + hi) * s * s + lo = omega (arith, ap (λ v. (r * a + hi) * v) square) in
    ap (λ v. v / s) up ∙ shr_high ((r * a + hi) * s) g lo l
    ∙ omega (arith, ap (λ v. v * a * s) (div-add-mod' r s), ap (λ v. r / s * v) (four_pows g), ap (λ v. r / s * s * v * s) square)

pub together_step : (g : ℕ) (ds : List ℕ) → Small (g + g) ds
    → bit_and (bit_or (packed (g + g) (halves g ds)) (packed (g + g) (halves g ds) / 2 ^ g)) (repeated (g + g + (g + g)) (2 ^ (g + g) - 1) (length ds)) ≡ packed (g + g + (g + g)) ds
unfolding halves
together_step g [] h = and_zero_r (bit_or 0 (0 / 2 ^ g))
together_step g (d ∷ ds) h =
    let w = g + g + (g + g) in
    let s = 2 ^ g in
    let a = 2 ^ (g + g) in
    let r = packed (g + g) (halves g ds) in
    let hi = d / s in
    let lo = d % s in
    let rest = repeated w (a - 1) (length ds) in
    let x = hi * a + lo in
    let y = r % s * s * a + hi * s in
    let hs : hi < s = shr_below d g g h.0 in
    let ls : lo < s = mod_below d s (pow_pos g) in
    let la : lo < a = le_whole g g lo ls in
    let ha : hi * s < a = shl_below hi g g hs in
    let fits : s ≤ a = pow-le-pow_right {n = 2} (lit< tt) {i = g} {j = g + g} (omega arith) in
    let xs : x < 2 ^ w = omega (arith, mul-add-lt hi a lo s hs la, mul-le-mul_left a fits, pow-add 2 (g + g) (g + g)) in
    let ys : y < 2 ^ w = omega (arith, mul-add-lt (r % s * s) a (hi * s) a (shl_below (r % s) g g (mod_below r s (pow_pos g))) ha, pow-add 2 (g + g) (g + g)) in
    let small : a - 1 < 2 ^ w = le_whole (g + g) (g + g) (a - 1) (below_pow (g + g)) in
    let whole : (r * a + hi) * a + lo ≡ r * 2 ^ w + x = omega (arith, ap (λ v. r * v) (pow-add 2 (g + g) (g + g))) in
    let low : bit_and (bit_or x y) (a - 1) ≡ d =
    and_mask (bit_or x y) (g + g) ∙ or_mod x y (g + g)
    ∙ ap (λ v. bit_or v (y % a)) (mod_low hi (g + g) lo la) ∙ ap (bit_or lo) (mod_low (r % s * s) (g + g) (hi * s) ha)
    ∙ or_comm lo (hi * s) ∙ or_shifted hi g lo ls ∙ div-add-mod' d s in
    ap (λ v. bit_and (bit_or ((r * a + hi) * a + lo) v) (rest * 2 ^ w + (a - 1))) (halves_down g r hi lo ls)
    ∙ ap (λ v. bit_and (bit_or v (r / s * 2 ^ w + y)) (rest * 2 ^ w + (a - 1))) whole
    ∙ ap (λ v. bit_and v (rest * 2 ^ w + (a - 1))) (or_block w r (r / s) x y xs ys)
    ∙ and_block w (bit_or r (r / s)) rest (bit_or x y) (a - 1) (or_lt w x y xs ys) small
    ∙ ap (λ v. v * 2 ^ w + bit_and (bit_or x y) (a - 1)) (together_step g ds h.1)
    ∙ ap (λ v. packed w ds * 2 ^ w + v) low
