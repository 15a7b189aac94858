use Rattle.std.proofs.Common.{◌≡◌, ◌+◌, ◌*◌, ◌^◌, ◌≤◌, ◌++◌, Bool, List, drop, length}
use Rattle.act_entry.specs.declared.reference.Ref.{Ref}
use Rattle.act_super.specs.declared.entry.Zone.{Zone}
use Rattle.act_super.specs.Stands.{HasWords, words_of}
use Rattle.act_probe.specs.Chains.{RefsOf, found_keys, found_reads}
use Rattle.act_probe.proofs.list.take_list.Given as goal

-- the references of the first j words were taken, and those after them are still to be taken
abbrev pub invariant-loop-j : goal.invariant-loop-j
invariant-loop-j g l = record {
  same : l.words ≡ l.fn.words;
  ticks : l.steps ≡ l.fn.steps + l.reads;
  room : length l.out ≤ 2 * l.j;
  bound : l.reads ≤ 1 + l.j * 2 ^ 22;
  at : (hit : Zone → Bool) (zones : List Zone) (refs : List Ref) → RefsOf (g.W.Words.image l.fn.words) hit zones refs
      → HasWords (g.W.Words.image l.fn.words) l.fn.row l.fn.place (words_of refs)
      → RefsOf (g.W.Words.image l.fn.words) hit (drop (2 * l.j) zones) (drop (2 * l.j) refs)
      × (l.out ++ found_keys l.layers l.fn.p hit (drop (2 * l.j) zones) ≡ found_keys l.layers l.fn.p hit zones)
      × (l.reads + found_reads l.layers hit (drop (2 * l.j) zones) ≤ 1 + l.j + found_reads l.layers hit zones);
}
