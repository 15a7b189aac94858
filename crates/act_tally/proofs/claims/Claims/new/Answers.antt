use Rattle.std.proofs.Common.{rules, arith, ◌≡◌, ℕ, List, [], ◌∷◌, sym, subst}
use Rattle.atomic_table.specs.Table.{opening}
use Rattle.act_tally.specs.declared.rule.Sizes.{Sizes}
use Rattle.act_tally.specs.Fair.{Fair, starting}
use Rattle.act_tally.proofs.Holding.{opens}
use Rattle.act_tally.proofs.claims.Claims.new.Goals as goal

pub of_words-requires : goal.of_words-requires
of_words-requires c =
    let k : Sizes = record { pieces = c.args.pieces; claimers = c.args.claimers } in
    let words_are : c.as_slice.result.now ≡ 0 ∷ [] = search rules in
    subst (λ (ws : List ℕ). Fair {S = Unit {0}} k (opening ws [] (starting k))) (sym words_are) (opens (Unit {0}) k (omega arith) c.requires.1)
