use Rattle.std.proofs.Common.{◌≡◌, ◌⊎◌, ℕ, List, Result, Ok, Err, inl, inr, refl}
use Rattle.act_wkt.specs.Grammar.{IsWkt}
use Rattle.act_wkt.specs.Reading.{Fault, Rings}
use Rattle.act_wkt.specs.Wkt.{wkt_of}
use Rattle.act_wkt.proofs.WholeLaws.{complete, sound}
use Rattle.act_wkt.proofs.laws.one_shape_or_fault.Goals as goal

one_of : (digits : ℕ) (text : List ℕ) (rings others : Rings) → IsWkt digits text rings → IsWkt digits text others → rings ≡ others
one_of digits text rings others a b = let x = complete digits text rings a in let y = complete digits text others b in cc

either_of : (digits : ℕ) (text : List ℕ) → ((rings : Rings) × IsWkt digits text rings) ⊎ ((fault : Fault) × (wkt_of digits text ≡ Err fault) × ((rings : Rings) → IsWkt digits text rings → ⊥))
either_of digits text = by (wkt_of digits text) refl
  where
    by : (said : Result Rings Fault) → wkt_of digits text ≡ said → ((rings : Rings) × IsWkt digits text rings) ⊎ ((fault : Fault) × (wkt_of digits text ≡ Err fault) × ((rings : Rings) → IsWkt digits text rings → ⊥))
    by (Ok rings) e = inl (rings, sound digits text rings e)
    by (Err fault) e = inr (fault, e, λ rings is. let x = complete digits text rings is in cc)

pub returns : goal.returns
returns c = record { sound = sound; complete = complete; one = one_of; either = either_of }
