-- A reader that hands on what stopped another.
use Rattle.std.proofs.Common.{◌≡◌, Result, Err, ◌∙◌, ap}
use Rattle.std.specs.Result.{IsErrAnd}
use Rattle.std.proofs.lemmas.Result.{err_from_is_err_and}
use Rattle.act_wkt.specs.declared.fault.Miss.{Miss}
use Rattle.act_wkt.specs.declared.fault.Stop.{Stop}
use Rattle.act_wkt.specs.declared.fault.Stop.TheVariants as stop
use Rattle.act_wkt.specs.Reading.{Gives, Stops}

-- what stopped the one stops the other, where the fault of the one's part is the fault of the other's
stops_too : {Y Z : Type 0} (came : Stop) (part : Result Y Miss) (whole : Result Z Miss) → Stops came part → ((m : Miss) → part ≡ Err m → whole ≡ Err m) → Stops came whole
stops_too stop.NoMemory part whole stops same = tt
stops_too (stop.At m) part whole stops same = same m stops

pub handed_on : {X Y Z : Type 0} (view : X → Z) (came : Stop) (answer : Result X Stop) (part : Result Y Miss) (whole : Result Z Miss)
    → Stops came part → IsErrAnd answer (λ given. given ≡ came) → ((m : Miss) → part ≡ Err m → whole ≡ Err m) → Gives view answer whole
handed_on view came answer part whole stops handed same =
    let p = err_from_is_err_and answer handed in
    let is : answer ≡ Err came = p.1 ∙ ap Err p.2 in
    rw is (stops_too came part whole stops same)
