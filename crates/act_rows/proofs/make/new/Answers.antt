use Rattle.std.proofs.Common.{arith, ◌≡◌, ℕ, ◌+◌, ◌*◌, List, [], ◌∷◌, set, Option, Some, sym, refl, ap, ◌∙◌, subst}
use Rattle.act_rows.specs.Versions.{newest}
use Rattle.act_rows.specs.First.{starting, first_desk}
use Rattle.act_rows.specs.Safe.{Kept, Safe}
use Rattle.act_rows.specs.Tokens.{Spares}
use Rattle.atomic_table.specs.Seated.{TableId}
use Rattle.act_rows.proofs.Calls as call
use Rattle.std.proofs.Common.{suc, replicate}
use Rattle.atomic_table.specs.Table.{opening}
use Rattle.act_rows.specs.declared.board.Sizes.{Sizes}
use Rattle.act_rows.proofs.Sharing.{spares_first}
use Rattle.act_rows.proofs.Seats.{opens, first_kept}
use Rattle.act_rows.proofs.make.new.Goals as goal

pub of_words-requires : goal.of_words-requires
of_words-requires g c =
    let k : Sizes = record { rows = c.args.rows; pins = c.args.pins } in
    let zeros = c.in_ok-words.ensures.items_if_clones_equal (λ y h. h) in
    let count : 1 + c.args.pins + 512 * c.args.rows ≡ suc (c.args.pins + 512 * c.args.rows) = omega arith in
    let words_are : c.as_slice.result.now ≡ 1 ∷ replicate (c.args.pins + 512 * c.args.rows) 0 = c.as_slice.ensures.value ∙ ap (λ z. set z 0 1) (zeros ∙ ap (λ n. replicate n 0) count) in
    subst (λ (ws : List ℕ). Safe {S = Unit {0}} g.F.Fact.fact k (opening ws [] (starting k))) (sym words_are) (opens (Unit {0}) g.F.Fact.fact k c.requires.rows.1 c.requires.rows.0 c.requires.fits)

pub invariant_of-result : goal.invariant_of-result
invariant_of-result g c =
    let k : Sizes = record { rows = c.args.rows; pins = c.args.pins } in
    let made = c.in_ok-table.ensures in
    let me_is = made.4 in
    let words_are = made.0 in
    let slice_is = c.as_slice.ensures.len in
    let long = c.in_ok-words.ensures.len in
    let linked = c.in_ok-link.ensures in
    let same = made.2 in
    let is = ap (λ m. m.0) me_is in
    let bounds_are = c.in_ok-bounds.ensures in
    let spares_are = c.in_ok-spares.ensures in
    let link_is : c.in_ok-link.link ≡ c.in_ok-table.seat.table_id = linked ∙ sym same in
    let words_same = ap (λ z. z.words) same in
    record {
      link = link_is;
      seated = call.writes_as c.in_ok-table.seat.me (first_desk k) is (ap (λ m. m.1) me_is);
      wide = (words_same ∙ omega arith, c.requires.rows.1, c.requires.pins.1);
      numbers = call.at_desk (λ z. (c.args.rows ≡ z.rows) × (c.args.pins ≡ z.pins) × (0 ≡ newest z)) c.in_ok-table.seat.me (first_desk k) is (refl, refl, refl);
      bounds = call.at_desk (λ z. c.in_ok-bounds.bounds.items ≡ z.bounds) c.in_ok-table.seat.me (first_desk k) is bounds_are;
      spares = subst (λ (y : List (Option TableId) × List (Option ℕ)). Spares y.0 y.1 c.in_ok-table.seat.table_id) (λ i. (sym (spares_are ∙ ap (λ z. replicate c.args.pins (Some z)) link_is) i, sym bounds_are i)) (spares_first c.args.pins c.in_ok-table.seat.table_id);
      kept = call.at_desk (Kept g.F.Fact.fact) c.in_ok-table.seat.me (first_desk k) is (first_kept g.F.Fact.fact k c.requires.rows.0 c.requires.fits);
    }
