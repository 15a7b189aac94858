-- The words of the rows of a plan, which name rows by where they stand among the rows of their kind.
use Rattle.std.specs.Prelude.{ℕ, zero, suc, ◌+◌, ◌-◌, ◌*◌, ◌^◌, ◌==◌, ◌&&◌, Bool, cond, nat_le, nat_lt, min, List, [], ◌∷◌, length, slice_index, slice_index_or}
use Rattle.std.specs.Option.{option_map}
use Rattle.act_entry.specs.declared.reference.Ref.{Ref}
use Rattle.act_entry.specs.declared.entry.Entry.{Entry}
use Rattle.act_entry.specs.declared.entry.Entry.TheVariants as entry
use Rattle.act_entry.specs.Entries.{entry_word}
use Rattle.act_entry.specs.Lists.{pair_word}
use Rattle.act_image.specs.declared.chains.ChainPlace.{ChainPlace}
use Rattle.act_image.specs.declared.chains.ChainRow.{ChainRow}
use Rattle.act_image.specs.declared.lists.ListWord.{ListWord}
use Rattle.act_image.specs.declared.lists.ListWord.TheVariants as list
use Rattle.act_image.specs.declared.spots.Spot.{Spot}

-- the spot fills the entry of a node
abbrev pub fills : Spot → ℕ → Bool
fills spot i = nat_le spot.first i && nat_lt i (spot.first + spot.count)

-- the entry of a node, by the first spot that fills it
abbrev pub entry_in : List Spot → ℕ → Entry
entry_in [] i = entry.Empty
entry_in (spot ∷ spots) i = cond (fills spot i) spot.entry (entry_in spots i)

-- a row number that may stand in a word; row 1 stands for any other
abbrev pub as_row : ℕ → ℕ
as_row r = cond (nat_lt 0 r && nat_lt r (2 ^ 24)) r 1

-- the numbers of the rows of a plan: first those of nodes, then those of lists, then those of chains
pub record Numbers : Type 0 where
  pub nodes : ℕ
  pub lists : ℕ
  pub rows : List ℕ

abbrev pub node_number : Numbers → ℕ → ℕ
node_number n k = as_row (slice_index n.rows k)

abbrev pub list_number : Numbers → ℕ → ℕ
list_number n k = as_row (slice_index n.rows (n.nodes + k))

abbrev pub chain_number : Numbers → ℕ → ℕ
chain_number n k = as_row (slice_index n.rows (n.nodes + n.lists + k))

-- references, entries and words of lists by these numbers
abbrev pub placed_ref : Numbers → Ref → Ref
placed_ref n r = record { row = chain_number n r.row; hit = r.hit }

abbrev pub placed_entry : Numbers → Entry → Entry
placed_entry n entry.Empty = entry.Empty
placed_entry n (entry.Child k) = entry.Child (node_number n k)
placed_entry n (entry.One r) = entry.One (placed_ref n r)
placed_entry n (entry.Two a b) = entry.Two (placed_ref n a) (placed_ref n b)
placed_entry n (entry.Table row place) = entry.Table (list_number n row) (min place 253)

abbrev pub placed_word : Numbers → ListWord → ℕ
placed_word n (list.Count count) = count
placed_word n (list.Pair a b) = pair_word (placed_ref n a) (option_map (placed_ref n) b)

-- no chain, and no row of one
abbrev pub no_chain : ChainPlace
no_chain = record { key = 0; first = 0; count = 0 }

abbrev pub no_row : ChainRow
no_row = record { chain = 0; body = 0; row = 0 }

-- the first word of a row of a chain: the number of the next row, and in the first row the key
abbrev pub chain_head : Numbers → ChainPlace → ℕ → ℕ
chain_head n chain row =
    cond (row == 0) chain.key 0 * 2 ^ 32 + cond (nat_lt (row + 1) chain.count) (chain_number n (chain.first + (row + 1))) 0

-- a word of a row of a chain: behind the first one stand the words of the body
abbrev pub chain_word : Numbers → ChainPlace → List ℕ → ℕ → ℕ → ℕ
chain_word n chain body row zero = chain_head n chain row
chain_word n chain body row (suc place) = slice_index body (row * 255 + place)

-- the word of the i-th of some rows at a place: first those of nodes, then those of lists, then those of chains
unfoldable pub word_of : Numbers → List (List Spot) → List (List ListWord) → List ChainPlace → List (List ℕ) → List ChainRow → ℕ → ℕ → ℕ
word_of n spots lists chains bodies rows i place =
    cond (nat_lt i (length spots))
    (entry_word (placed_entry n (entry_in (slice_index_or spots i []) place)))
    (cond (nat_lt i (length spots + length lists))
    (placed_word n (slice_index_or (slice_index_or lists (i - length spots) []) place (list.Count 0)))
    (let r = slice_index_or rows (i - length spots - length lists) no_row in
    chain_word n (slice_index_or chains r.chain no_chain) (slice_index_or bodies r.body []) r.row place))
