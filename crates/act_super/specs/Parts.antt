-- The four parts under a split cell.
use Rattle.std.specs.Prelude.{ℕ, ◌+◌, List, max}
use Rattle.act_grid.specs.Cell.{Address, child_of}
use Rattle.act_super.specs.declared.pack.Pack.{Pack}
use Rattle.act_super.specs.Grounds.{Ground, on}
use Rattle.act_super.specs.Trees.{Tree, under, most}
use Rattle.act_super.specs.Packs.{put_tree, inner}

-- the part under a child, by the items on it alone
abbrev pub part : {X : Type 0} → Ground X → List X → Address → ℕ → Tree
part g items c q = under g (on g items (child_of c q)) (child_of c q)

-- four children at once
pub record Four : Type 0 where
  pub a : Tree
  pub b : Tree
  pub c : Tree
  pub d : Tree

abbrev pub four_parts : {X : Type 0} → Ground X → List X → Address → Four
four_parts g items c = record { a = part g items c 0; b = part g items c 1; c = part g items c 2; d = part g items c 3 }

abbrev pub put_four : ℕ → Pack → Four → Pack
put_four k s t = put_tree k (put_tree k (put_tree k (put_tree k s t.a) t.b) t.c) t.d

abbrev pub inner_four : ℕ → Four → ℕ
inner_four k t = inner k t.a + inner k t.b + inner k t.c + inner k t.d

abbrev pub most_four : Four → ℕ
most_four t = max (max (most t.a) (most t.b)) (max (most t.c) (most t.d))
