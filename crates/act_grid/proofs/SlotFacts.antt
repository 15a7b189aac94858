-- The entries of a node that a cell fills.
use Rattle.std.proofs.Common.{◌≡◌, ℕ, ◌+◌, ◌-◌, ◌*◌, ◌/◌, ◌%◌, ◌^◌, ◌<◌, ◌≤◌, sym, ap, ◌∙◌, arith}
use Rattle.std.proofs.lemmas.Nat.{pow_pos, pow-add, div-add-mod', div-mul-add, mod_below}
use Rattle.std.specs.Prelude.{◌↔◌}
use Rattle.act_grid.specs.Cell.{Address, IsPart, first_entry, entries_filled, entry_cell}
use Rattle.act_grid.proofs.CellFacts.{four}

pos_four : (n : ℕ) → 0 < 4 ^ n
pos_four n = omega (arith, four n, pow_pos (2 * n))

-- a quotient, by its bounds
div_is : (n d q : ℕ) → q * d ≤ n → n < q * d + d → n / d ≡ q
div_is n d q h k =
    let e : n ≡ q * d + (n - q * d) = omega arith in
    ap (λ v. v / d) e ∙ div-mul-add q d (n - q * d) (omega arith)

all_entries : (c : Address) (b : ℕ) → b ≤ c.level → c.level ≤ b + 4 → 4 ^ (c.level - b) * 4 ^ (b + 4 - c.level) ≡ 256
all_entries c b h k =
    let e : c.level - b + (b + 4 - c.level) ≡ 4 = omega arith in
    sym (pow-add 4 (c.level - b) (b + 4 - c.level)) ∙ ap (λ v. 4 ^ v) e

pub slot_entries : (c : Address) (b entry : ℕ) → b ≤ c.level → c.level ≤ b + 4 → entry < 256
    → ((first_entry c b ≤ entry) × (entry < first_entry c b + entries_filled c b)) ↔ IsPart c (entry_cell c b entry)
slot_entries c b entry h k l =
    let d = 4 ^ (b + 4 - c.level) in
    let s = 4 ^ (c.level - b) in
    let n = c.path / s in
    let r = c.path % s in
    let all : s * d ≡ 256 = all_entries c b h k in
    let parts : n * s + r ≡ c.path = div-add-mod' c.path s in
    let whole : c.path * d ≡ n * 256 + r * d = omega (arith, ap (λ v. v * d) parts, ap (λ v. n * v) all) in (
      λ w. record { below = omega arith; begins = div_is (n * 256 + entry) d c.path (omega (arith, w.0, whole)) (omega (arith, w.1, whole)) },
      λ p.
          let back : c.path * d + (n * 256 + entry) % d ≡ n * 256 + entry = ap (λ v. v * d + (n * 256 + entry) % d) (sym p.begins) ∙ div-add-mod' (n * 256 + entry) d in
          let low : (n * 256 + entry) % d < d = mod_below (n * 256 + entry) d (pos_four (b + 4 - c.level)) in
          (omega (arith, back, whole), omega (arith, back, low, whole)),
    )
