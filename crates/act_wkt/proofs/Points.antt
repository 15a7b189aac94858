-- The points read so far, and those that are to come.
use Rattle.std.proofs.Common.{◌≡◌, ℕ, suc, zero, ◌-◌, ◌<◌, ◌++◌, List, [], ◌∷◌, true, false, cond, Result, Ok, Err, refl, ap, sym, ◌∙◌, arith, drop, append_assoc}
use Rattle.act_grid.specs.declared.Point.{Point}
use Rattle.act_wkt.specs.declared.fault.Miss.{Miss}
use Rattle.act_wkt.specs.declared.fault.WktKind.TheVariants as kind
use Rattle.act_wkt.specs.Reading.{◌>>=◌}
use Rattle.act_wkt.specs.Tokens.{begins, miss, skip}
use Rattle.act_wkt.specs.Wkt.{after_point, point_at, points_at, with_point}

abbrev pub Points : Type 0
Points = Result (List Point × List ℕ) Miss

-- these points, and then those
abbrev pub with_points : List Point → Points → Points
with_points front read = read >>= λ points. Ok (front ++ points.0, points.1)

pub no_points : (read : Points) → with_points [] read ≡ read
no_points (Ok points) = refl
no_points (Err m) = refl

-- what stands behind a point
abbrev behind_point : ℕ → ℕ → Point × List ℕ → Points
behind_point digits room point =
    cond (begins (skip point.1) 44) (with_point point.0 (points_at digits room (drop 1 (skip point.1))))
    (cond (begins (skip point.1) 41) (Ok (point.0 ∷ [], skip point.1)) (Err (after_point (skip point.1))))

one_point : (digits room : ℕ) (text : List ℕ) → 0 < room → points_at digits room text ≡ point_at digits text >>= behind_point digits (room - 1)
unfolding points_at
one_point digits zero text some = absurd (omega arith)
one_point digits (suc room) text some =
    let less : suc room - 1 ≡ room = omega arith in
    rw less refl

pub none_left : (digits : ℕ) (text : List ℕ) (front : List Point) (total : Points) → with_points front (points_at digits 0 text) ≡ total → total ≡ Err (miss kind.Vertices (skip text))
unfolding points_at
none_left digits text front total e = sym e

pub bad_point : (digits room : ℕ) (text : List ℕ) (front : List Point) (total : Points) (m : Miss) → with_points front (points_at digits room text) ≡ total → 0 < room
    → point_at digits text ≡ Err m → total ≡ Err m
bad_point digits room text front total m e some bad =
    sym e ∙ ap (with_points front) (one_point digits room text some ∙ ap (λ (read : Result (Point × List ℕ) Miss). read >>= behind_point digits (room - 1)) bad)

-- what follows a point that was read
behind_a_point : (digits room : ℕ) (text rest : List ℕ) (point : Point) (front : List Point) (total : Points)
    → with_points front (points_at digits room text) ≡ total → 0 < room → point_at digits text ≡ Ok (point, rest) → with_points front (behind_point digits (room - 1) (point, rest)) ≡ total
behind_a_point digits room text rest point front total e some read =
    sym (ap (with_points front) (one_point digits room text some ∙ ap (λ (r : Result (Point × List ℕ) Miss). r >>= behind_point digits (room - 1)) read)) ∙ e

point_first : (point : Point) (front : List Point) (more : Points) → with_points front (with_point point more) ≡ with_points (front ++ point ∷ []) more
point_first point front (Ok points) = ap (λ l. Ok (l, points.1)) (sym (append_assoc front (point ∷ []) points.0))
point_first point front (Err m) = refl

pub more_points : (digits room : ℕ) (text rest next : List ℕ) (point : Point) (front : List Point) (total : Points)
    → with_points front (points_at digits room text) ≡ total → 0 < room → point_at digits text ≡ Ok (point, rest) → next ≡ skip rest
    → begins next 44 ≡ true → with_points (front ++ point ∷ []) (points_at digits (room - 1) (drop 1 next)) ≡ total
more_points digits room text rest next point front total e some read is comma =
    ap (λ l. with_points (front ++ point ∷ []) (points_at digits (room - 1) (drop 1 l))) is
    ∙ sym (point_first point front (points_at digits (room - 1) (drop 1 (skip rest))))
    ∙ sym (ap (λ b. with_points front (cond b (with_point point (points_at digits (room - 1) (drop 1 (skip rest)))) (cond (begins (skip rest) 41) (Ok (point ∷ [], skip rest)) (Err (after_point (skip rest)))))) (ap (λ l. begins l 44) (sym is) ∙ comma))
    ∙ behind_a_point digits room text rest point front total e some read

no_comma : (digits room : ℕ) (text rest next : List ℕ) (point : Point) (front : List Point) (total : Points)
    → with_points front (points_at digits room text) ≡ total → 0 < room → point_at digits text ≡ Ok (point, rest) → next ≡ skip rest
    → begins next 44 ≡ false → with_points front (cond (begins next 41) (Ok (point ∷ [], next)) (Err (after_point next))) ≡ total
no_comma digits room text rest next point front total e some read is comma =
    ap (λ l. with_points front (cond (begins l 41) (Ok (point ∷ [], l)) (Err (after_point l)))) is
    ∙ sym (ap (λ b. with_points front (cond b (with_point point (points_at digits (room - 1) (drop 1 (skip rest)))) (cond (begins (skip rest) 41) (Ok (point ∷ [], skip rest)) (Err (after_point (skip rest)))))) (ap (λ l. begins l 44) (sym is) ∙ comma))
    ∙ behind_a_point digits room text rest point front total e some read

pub last_point : (digits room : ℕ) (text rest next : List ℕ) (point : Point) (front : List Point) (total : Points)
    → with_points front (points_at digits room text) ≡ total → 0 < room → point_at digits text ≡ Ok (point, rest) → next ≡ skip rest
    → begins next 44 ≡ false → begins next 41 ≡ true → total ≡ Ok (front ++ point ∷ [], next)
last_point digits room text rest next point front total e some read is comma close =
    sym (no_comma digits room text rest next point front total e some read is comma)
    ∙ ap (λ b. with_points front (cond b (Ok (point ∷ [], next)) (Err (after_point next)))) close

pub no_close_at : (digits room : ℕ) (text rest next : List ℕ) (point : Point) (front : List Point) (total : Points)
    → with_points front (points_at digits room text) ≡ total → 0 < room → point_at digits text ≡ Ok (point, rest) → next ≡ skip rest
    → begins next 44 ≡ false → begins next 41 ≡ false → total ≡ Err (after_point next)
no_close_at digits room text rest next point front total e some read is comma close =
    sym (no_comma digits room text rest next point front total e some read is comma)
    ∙ ap (λ b. with_points front (cond b (Ok (point ∷ [], next)) (Err (after_point next)))) close
