use Rattle.std.proofs.Common.{◌≡◌, ◌+◌, ◌*◌, ◌≤◌, ◌++◌, Bool, List, drop, length, map, take}
use Rattle.std.specs.Prelude.{vec_capacity}
use Rattle.act_entry.specs.declared.reference.Ref.{Ref}
use Rattle.act_super.specs.declared.entry.Zone.{Zone}
use Rattle.act_super.specs.Stands.{HasWords, words_of}
use Rattle.act_probe.specs.Chains.{RefsOf}
use Rattle.act_probe.specs.Names.{named_by}
use Rattle.act_probe.proofs.names.put_list.Given as goal

-- the references of the first j words were put, and those after them are still to be put
abbrev pub invariant-loop-j : goal.invariant-loop-j
invariant-loop-j g l = record {
  same : l.words ≡ l.fn.words;
  ticks : l.steps + l.fn.reads ≡ l.fn.steps + l.reads;
  count : l.reads ≡ l.fn.reads + 1 + l.j;
  space : vec_capacity l.named ≡ vec_capacity l.fn.named;
  long : length l.named.items ≤ length l.fn.named.items + 2 * l.j;
  left : (hit : Zone → Bool) (zones : List Zone) (all : List Ref) → RefsOf (g.W.Words.image l.fn.words) hit zones all → HasWords (g.W.Words.image l.fn.words) l.row l.start (words_of all)
      → RefsOf (g.W.Words.image l.fn.words) hit (drop (2 * l.j) zones) (drop (2 * l.j) all);
  at : (hit : Zone → Bool) (zones : List Zone) (all : List Ref) → RefsOf (g.W.Words.image l.fn.words) hit zones all → HasWords (g.W.Words.image l.fn.words) l.row l.start (words_of all)
      → l.named.items ≡ l.fn.named.items ++ map (named_by l.place l.point) (take (2 * l.j) all);
}
