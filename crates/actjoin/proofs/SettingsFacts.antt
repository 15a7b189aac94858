-- The words ask for one list of settings.
use Rattle.std.proofs.Common.{◌≡◌, ◌≤◌, refl, ap, subst}
use Rattle.std.proofs.Math.Bridge.{le_prop}
use Rattle.act_grid.specs.declared.Settings.{Settings}
use Rattle.act_words.specs.Words.{Wanted, wanted_of}

abbrev Limits : Wanted → Type 0
Limits w = (w.digits ≤ 9) × (1 ≤ w.rows) × (w.rows ≤ 262144) × (1 ≤ w.cells) × (w.cells ≤ 1024) × (1 ≤ w.workers) × (w.workers ≤ 64)

limits_are_one : (w : Wanted) (p q : Limits w) → p ≡ q
limits_are_one w (a, b, c, d, e, f, g) (a', b', c', d', e', f', g') =
    let h1 : a ≡ a' = le_prop a a' in
    let h2 : b ≡ b' = le_prop b b' in
    let h3 : c ≡ c' = le_prop c c' in
    let h4 : d ≡ d' = le_prop d d' in
    let h5 : e ≡ e' = le_prop e e' in
    let h6 : f ≡ f' = le_prop f f' in
    let h7 : g ≡ g' = le_prop g g' in
    rw (h1, h2, h3, h4, h5, h6, h7) refl

abbrev made : (w : Wanted) → Limits w → Settings
made w p = record { digits = w.digits; rows = w.rows; cells = w.cells; workers = w.workers; in_limits = p }

same_made : (v w : Wanted) (p : Limits v) → v ≡ w → (q : Limits w) → made v p ≡ made w q
same_made v w p is = subst (λ (x : Wanted). (q : Limits x) → made v p ≡ made x q) is (λ (q : Limits v). ap (made v) (limits_are_one v p q))

-- settings are told by their numbers
pub settings_are_one : (s t : Settings) → wanted_of s ≡ wanted_of t → s ≡ t
settings_are_one s t is = same_made (wanted_of s) (wanted_of t) s.in_limits is t.in_limits
