-- Where the chain of a key begins, among chains by ascending key.
use Rattle.std.proofs.Common.{◌≡◌, ℕ, zero, suc, ◌+◌, ◌<◌, ◌==◌, cond, ap, ◌∙◌, sym, arith, List, [], ◌∷◌, length, get_or}
use Rattle.std.proofs.lemmas.Bool.{ne_eqb}
use Rattle.act_image.specs.declared.chains.ChainPlace.{ChainPlace}
use Rattle.act_image.specs.Firsts.{IsRising}
use Rattle.act_image.specs.Plans.{place_first}
use Rattle.act_image.specs.Words.{no_chain}

pub rising_first : (places : List ChainPlace) (i key : ℕ) → IsRising places → i < length places → (get_or places i no_chain).key ≡ key → (get_or places i no_chain).first ≡ place_first places key
rising_first [] i key rising low is = absurd (omega (arith, low))
rising_first (place ∷ places) zero key rising low is =
    let yes = Rattle.std.proofs.Common.eq-eqb place.key key is in
    sym (ap (λ b. cond b place.first (place_first places key)) yes)
rising_first (place ∷ places) (suc i) key rising low is =
    let above : place.key < (get_or places i no_chain).key = rising 0 (suc i) (omega arith) low in
    let no = ne_eqb place.key key (λ same. omega (arith, above, is, same)) in
    rising_first places i key (λ a b less within. rising (suc a) (suc b) (omega (arith, less)) (omega (arith, within))) (omega (arith, low)) is ∙ sym (ap (λ b. cond b place.first (place_first places key)) no)
