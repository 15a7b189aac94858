use Rattle.std.proofs.Common.{◌++◌, ℕ, List, codes}
use Rattle.actjoin.specs.Demo.{line_of}
use Rattle.actjoin.specs.declared.sums.Sums.{Sums}
use Rattle.actjoin.proofs.PutFacts.{first_failed, put_then}
use Rattle.actjoin.proofs.summary.put_sums.Goals as goal

-- the lines, and what follows each
abbrev zones_line : Sums → List ℕ
zones_line sums = line_of (codes "zones ") sums.zones

abbrev batches_line : Sums → List ℕ
batches_line sums = line_of (codes "batches ") sums.batches

abbrev points_line : Sums → List ℕ
points_line sums = line_of (codes "points ") sums.points

abbrev pairs_line : Sums → List ℕ
pairs_line sums = line_of (codes "pairs ") sums.pairs

abbrev keys_line : Sums → List ℕ
keys_line sums = line_of (codes "keys ") sums.keys

abbrev after_pairs : Sums → List ℕ
after_pairs sums = keys_line sums

abbrev after_points : Sums → List ℕ
after_points sums = pairs_line sums ++ after_pairs sums

abbrev after_batches : Sums → List ℕ
after_batches sums = points_line sums ++ after_points sums

abbrev after_zones : Sums → List ℕ
after_zones sums = batches_line sums ++ after_batches sums

pub returns-in_err-put_line : goal.returns-in_err-put_line
returns-in_err-put_line g c =
    first_failed _ (zones_line c.args.sums) (after_zones c.args.sums) c.from_residual.result c.from_residual.ensures.0 c.in_err-put_line.ensures

pub returns-in_err-put_line-2 : goal.returns-in_err-put_line-2
returns-in_err-put_line-2 g c =
    put_then _ _ _ _ _ _ (zones_line c.args.sums) (after_zones c.args.sums) _ c.in_ok-put_line.ensures
    (first_failed _ (batches_line c.args.sums) (after_batches c.args.sums) c.from_residual-in_err-put_line-2.result c.from_residual-in_err-put_line-2.ensures.0 c.in_err-put_line-2.ensures)

pub returns-in_err-put_line-3 : goal.returns-in_err-put_line-3
returns-in_err-put_line-3 g c =
    put_then _ _ _ _ _ _ (zones_line c.args.sums) (after_zones c.args.sums) _ c.in_ok-put_line.ensures
    (put_then _ _ _ _ _ _ (batches_line c.args.sums) (after_batches c.args.sums) _ c.in_ok-put_line-2.ensures
    (first_failed _ (points_line c.args.sums) (after_points c.args.sums) c.from_residual-in_err-put_line-3.result c.from_residual-in_err-put_line-3.ensures.0 c.in_err-put_line-3.ensures))

pub returns-in_err-put_line-4 : goal.returns-in_err-put_line-4
returns-in_err-put_line-4 g c =
    put_then _ _ _ _ _ _ (zones_line c.args.sums) (after_zones c.args.sums) _ c.in_ok-put_line.ensures
    (put_then _ _ _ _ _ _ (batches_line c.args.sums) (after_batches c.args.sums) _ c.in_ok-put_line-2.ensures
    (put_then _ _ _ _ _ _ (points_line c.args.sums) (after_points c.args.sums) _ c.in_ok-put_line-3.ensures
    (first_failed _ (pairs_line c.args.sums) (after_pairs c.args.sums) c.from_residual-in_err-put_line-4.result c.from_residual-in_err-put_line-4.ensures.0 c.in_err-put_line-4.ensures)))

pub returns : goal.returns
returns g c =
    put_then _ _ _ _ _ _ (zones_line c.args.sums) (after_zones c.args.sums) _ c.in_ok-put_line.ensures
    (put_then _ _ _ _ _ _ (batches_line c.args.sums) (after_batches c.args.sums) _ c.in_ok-put_line-2.ensures
    (put_then _ _ _ _ _ _ (points_line c.args.sums) (after_points c.args.sums) _ c.in_ok-put_line-3.ensures
    (put_then _ _ _ _ _ _ (pairs_line c.args.sums) (after_pairs c.args.sums) _ c.in_ok-put_line-4.ensures
    (c.put_line-5.ensures))))
