-- The word of a row, by the kind of the row.
use Rattle.std.proofs.Common.{◌≡◌, ℕ, ◌+◌, ◌-◌, ◌<◌, ◌≤◌, Bool, true, false, cond, sym, ap, ◌∙◌, arith, [], length, get_or, nat_lt}
use Rattle.std.proofs.lemmas.Bool.Decides.{nat_tests}
use Rattle.act_entry.specs.Entries.{entry_word}
use Rattle.act_image.specs.declared.lists.ListWord.TheVariants as list
use Rattle.act_image.specs.Words.{chain_word, entry_in, no_chain, no_row, placed_entry, placed_word, word_of}
use Rattle.act_image.specs.Pics.{Planned, numbers_of, planned_word}

lt_is : (a b : ℕ) → a < b → nat_lt a b ≡ true
lt_is a b h = grind (arith, nat_tests)

ge_is : (a b : ℕ) → b ≤ a → nat_lt a b ≡ false
ge_is a b h = grind (arith, nat_tests)

cond_true : (b : Bool) (x y : ℕ) → b ≡ true → cond b x y ≡ x
cond_true b x y e = ap (λ c. cond c x y) e

cond_false : (b : Bool) (x y : ℕ) → b ≡ false → cond b x y ≡ y
cond_false b x y e = ap (λ c. cond c x y) e

module _ (q : Planned) (i place a b : ℕ) (nodes : a ≡ length q.spots) (lists : b ≡ length q.lists) where
  pub word_node : i < a → planned_word q i place ≡ entry_word (placed_entry (numbers_of q) (entry_in (get_or q.spots i []) place))
  unfolding planned_word word_of
  word_node low = cond_true _ _ _ (lt_is i (length q.spots) (omega (arith, nodes, low)))

  pub word_list : a ≤ i → i < a + b → planned_word q i place ≡ placed_word (numbers_of q) (get_or (get_or q.lists (i - a) []) place (list.Count 0))
  unfolding planned_word word_of
  word_list high low =
      cond_false _ _ _ (ge_is i (length q.spots) (omega (arith, nodes, high)))
      ∙ cond_true _ _ _ (lt_is i (length q.spots + length q.lists) (omega (arith, nodes, lists, low)))
      ∙ ap (λ m. placed_word (numbers_of q) (get_or (get_or q.lists (i - m) []) place (list.Count 0))) (sym nodes)

  pub word_chain : a + b ≤ i
      → planned_word q i place
      ≡ chain_word (numbers_of q) (get_or q.chains (get_or q.chain_rows (i - a - b) no_row).chain no_chain) (get_or q.bodies (get_or q.chain_rows (i - a - b) no_row).body [])
      (get_or q.chain_rows (i - a - b) no_row).row place
  unfolding planned_word word_of
  word_chain high =
      let e : i - length q.spots - length q.lists ≡ i - a - b = omega (arith, nodes, lists) in
      cond_false _ _ _ (ge_is i (length q.spots) (omega (arith, nodes, high)))
      ∙ cond_false _ _ _ (ge_is i (length q.spots + length q.lists) (omega (arith, nodes, lists, high)))
      ∙ ap (λ m. chain_word (numbers_of q) (get_or q.chains (get_or q.chain_rows m no_row).chain no_chain) (get_or q.bodies (get_or q.chain_rows m no_row).body [])
      (get_or q.chain_rows m no_row).row place) e
