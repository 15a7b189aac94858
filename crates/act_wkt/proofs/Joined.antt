-- The items of a list read so far, and those that are to come.
use Rattle.std.proofs.Common.{◌≡◌, ℕ, suc, zero, ◌-◌, ◌<◌, ◌++◌, List, [], Bool, true, false, cond, Result, Ok, Err, refl, ap, sym, ◌∙◌, arith, drop, append_assoc, append-nil}
use Rattle.act_wkt.specs.declared.fault.Miss.{Miss}
use Rattle.act_wkt.specs.declared.fault.WktKind.TheVariants as kind
use Rattle.act_wkt.specs.Reading.{◌>>=◌, Found, Rings, with_front}
use Rattle.act_wkt.specs.Tokens.{begins, miss, skip}
use Rattle.act_wkt.specs.Wkt.{joined_at}

abbrev pub Item : Type 0
Item = ℕ → List ℕ → Result Found Miss

abbrev pub found : Rings → ℕ → List ℕ → Found
found rings room rest = record { rings = rings; room = room; rest = rest }

-- what stands behind an item
abbrev behind_item : Item → ℕ → Found → Result Found Miss
behind_item item more one =
    cond (begins (skip one.rest) 44) (with_front one.rings (joined_at item more one.room (drop 1 (skip one.rest))))
    (cond (begins (skip one.rest) 41) (Ok (found one.rings one.room (drop 1 (skip one.rest)))) (Err (miss kind.NoClose (skip one.rest))))

-- the same without its rings
abbrev behind_rest : Item → ℕ → ℕ → List ℕ → Result Found Miss
behind_rest item more room next =
    cond (begins next 44) (joined_at item more room (drop 1 next))
    (cond (begins next 41) (Ok (found [] room (drop 1 next))) (Err (miss kind.NoClose next)))

one_item : (item : Item) (more room : ℕ) (text : List ℕ) → 0 < more → joined_at item more room text ≡ item room text >>= behind_item item (more - 1)
unfolding joined_at
one_item item zero room text some = absurd (omega arith)
one_item item (suc more) room text some =
    let less : suc more - 1 ≡ more = omega arith in
    rw less refl

two_fronts : (a b : Rings) (read : Result Found Miss) → with_front a (with_front b read) ≡ with_front (a ++ b) read
two_fronts a b (Err m) = refl
two_fronts a b (Ok one) = ap (λ rings. Ok (found rings one.room one.rest)) (sym (append_assoc a b one.rings))

pub no_front : (read : Result Found Miss) → with_front [] read ≡ read
no_front (Ok one) = refl
no_front (Err m) = refl

choices : (front : Rings) (one : Found) (comma close : Bool) (more : Result Found Miss) (rest : List ℕ) (m : Miss)
    → with_front front (cond comma (with_front one.rings more) (cond close (Ok (found one.rings one.room rest)) (Err m)))
    ≡ with_front (front ++ one.rings) (cond comma more (cond close (Ok (found [] one.room rest)) (Err m)))
choices front one true close more rest m = two_fronts front one.rings more
choices front one false true more rest m = ap (λ rings. Ok (found rings one.room rest)) (sym (append-nil (front ++ one.rings)))
choices front one false false more rest m = refl

-- the rings of an item go to the front
item_moved : (item : Item) (more : ℕ) (front new : Rings) (left : ℕ) (behind : List ℕ) (read : Result Found Miss) → with_front front read ≡ Ok (found new left behind)
    → with_front front (read >>= behind_item item more) ≡ with_front new (behind_rest item more left (skip behind))
item_moved item more front new left behind (Err m) is = absurd (cc)
item_moved item more front new left behind (Ok one) is =
    let same : found (front ++ one.rings) one.room one.rest ≡ found new left behind = cc in
    choices front one (begins (skip one.rest) 44) (begins (skip one.rest) 41) (joined_at item more one.room (drop 1 (skip one.rest))) (drop 1 (skip one.rest)) (miss kind.NoClose (skip one.rest))
    ∙ ap (λ (f : Found). with_front f.rings (behind_rest item more f.room (skip f.rest))) same

pub none_due : (item : Item) (room : ℕ) (text : List ℕ) (front : Rings) (total : Result Found Miss) → with_front front (joined_at item 0 room text) ≡ total → total ≡ Err (miss kind.NoClose text)
unfolding joined_at
none_due item room text front total e = sym e

bad_read : (front : Rings) (read : Result Found Miss) (next : Found → Result Found Miss) (m : Miss) → with_front front read ≡ Err m → with_front front (read >>= next) ≡ Err m
bad_read front (Ok one) next m is = absurd (cc)
bad_read front (Err e) next m is = is

pub bad_item : (item : Item) (more room : ℕ) (text : List ℕ) (front : Rings) (total : Result Found Miss) (m : Miss)
    → with_front front (joined_at item more room text) ≡ total → 0 < more → with_front front (item room text) ≡ Err m → total ≡ Err m
bad_item item more room text front total m e some is =
    sym e ∙ ap (with_front front) (one_item item more room text some) ∙ bad_read front (item room text) (behind_item item (more - 1)) m is

-- what follows an item that was read
behind_one : (item : Item) (more room left : ℕ) (text behind next : List ℕ) (front new : Rings) (total : Result Found Miss)
    → with_front front (joined_at item more room text) ≡ total → 0 < more → with_front front (item room text) ≡ Ok (found new left behind) → next ≡ skip behind
    → with_front new (behind_rest item (more - 1) left next) ≡ total
behind_one item more room left text behind next front new total e some read is =
    ap (λ l. with_front new (behind_rest item (more - 1) left l)) is
    ∙ sym (item_moved item (more - 1) front new left behind (item room text) read)
    ∙ sym (ap (with_front front) (one_item item more room text some)) ∙ e

pub next_item : (item : Item) (more room left : ℕ) (text behind next : List ℕ) (front new : Rings) (total : Result Found Miss)
    → with_front front (joined_at item more room text) ≡ total → 0 < more → with_front front (item room text) ≡ Ok (found new left behind) → next ≡ skip behind
    → begins next 44 ≡ true → with_front new (joined_at item (more - 1) left (drop 1 next)) ≡ total
next_item item more room left text behind next front new total e some read is comma =
    sym (ap (λ b. with_front new (cond b (joined_at item (more - 1) left (drop 1 next)) (cond (begins next 41) (Ok (found [] left (drop 1 next))) (Err (miss kind.NoClose next))))) comma)
    ∙ behind_one item more room left text behind next front new total e some read is

no_comma : (item : Item) (more room left : ℕ) (text behind next : List ℕ) (front new : Rings) (total : Result Found Miss)
    → with_front front (joined_at item more room text) ≡ total → 0 < more → with_front front (item room text) ≡ Ok (found new left behind) → next ≡ skip behind
    → begins next 44 ≡ false → with_front new (cond (begins next 41) (Ok (found [] left (drop 1 next))) (Err (miss kind.NoClose next))) ≡ total
no_comma item more room left text behind next front new total e some read is comma =
    sym (ap (λ b. with_front new (cond b (joined_at item (more - 1) left (drop 1 next)) (cond (begins next 41) (Ok (found [] left (drop 1 next))) (Err (miss kind.NoClose next))))) comma)
    ∙ behind_one item more room left text behind next front new total e some read is

pub last_item : (item : Item) (more room left : ℕ) (text behind next : List ℕ) (front new : Rings) (total : Result Found Miss)
    → with_front front (joined_at item more room text) ≡ total → 0 < more → with_front front (item room text) ≡ Ok (found new left behind) → next ≡ skip behind
    → begins next 44 ≡ false → begins next 41 ≡ true → total ≡ Ok (found new left (drop 1 next))
last_item item more room left text behind next front new total e some read is comma close =
    sym (no_comma item more room left text behind next front new total e some read is comma)
    ∙ ap (λ b. with_front new (cond b (Ok (found [] left (drop 1 next))) (Err (miss kind.NoClose next)))) close
    ∙ ap (λ rings. Ok (found rings left (drop 1 next))) (append-nil new)

pub unclosed_item : (item : Item) (more room left : ℕ) (text behind next : List ℕ) (front new : Rings) (total : Result Found Miss)
    → with_front front (joined_at item more room text) ≡ total → 0 < more → with_front front (item room text) ≡ Ok (found new left behind) → next ≡ skip behind
    → begins next 44 ≡ false → begins next 41 ≡ false → total ≡ Err (miss kind.NoClose next)
unclosed_item item more room left text behind next front new total e some read is comma close =
    sym (no_comma item more room left text behind next front new total e some read is comma)
    ∙ ap (λ b. with_front new (cond b (Ok (found [] left (drop 1 next))) (Err (miss kind.NoClose next)))) close
