-- Rows of nodes and of their lists. A node stands at each reached split cell of level 0, 4, .., 24, and at the root.
use Rattle.std.specs.Prelude.{ℕ, zero, suc, ◌+◌, ◌/◌, cond, nat_lt}
use Rattle.act_super.specs.declared.pack.Pack.{Pack}
use Rattle.act_super.specs.Trees.{Tree}
use Rattle.act_super.specs.Trees.Tree.{Leaf, Split}

-- the references that a leaf may have: its list then fills a row
abbrev pub reference_limit : ℕ
reference_limit = 510

-- no list row yet: the next list starts one
abbrev pub empty_pack : Pack
empty_pack = record { rows = 0; at = 256 }

-- the words of a list: its length, and two references a word
abbrev pub list_words : ℕ → ℕ
list_words n = 1 + (n + 1) / 2

-- a list of so many references goes after the last one, or to the start of the next row where it doesn't fit
abbrev pub put : Pack → ℕ → Pack
put s n =
    cond (nat_lt 256 (s.at + list_words n))
    (record { rows = s.rows + 1; at = list_words n })
    (record { rows = s.rows; at = s.at + list_words n })

-- a leaf has a list where it has three references or more
abbrev pub put_leaf : Pack → ℕ → Pack
put_leaf s n = cond (nat_lt n 3) s (put s n)

-- the lists of the leaves within k levels, in Z order
abbrev pub put_tree : ℕ → Pack → Tree → Pack
put_tree k s (Leaf n) = put_leaf s n
put_tree zero s (Split a b c d) = s
put_tree (suc k) s (Split a b c d) = put_tree k (put_tree k (put_tree k (put_tree k s a) b) c) d

-- the rows of the nodes that stand k levels below, and of all nodes under them: one for each node, and its list rows
abbrev pub inner : ℕ → Tree → ℕ
inner k (Leaf n) = 0
inner zero (Split a b c d) =
    1 + (put_tree 3 (put_tree 3 (put_tree 3 (put_tree 3 empty_pack a) b) c) d).rows + (inner 3 a + inner 3 b + inner 3 c + inner 3 d)
inner (suc k) (Split a b c d) = inner k a + inner k b + inner k c + inner k d

-- the rows of the root node, of all nodes under it, and of their lists
abbrev pub node_rows : Tree → ℕ
node_rows t = 1 + (put_tree 4 empty_pack t).rows + inner 4 t
