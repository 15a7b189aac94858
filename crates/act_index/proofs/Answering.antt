-- What is read under a pin is an answer for its history.
use Rattle.std.proofs.Common.{◌≡◌, ℕ, ◌≤◌, Result, Ok, Err, List, map, sum_by, sym, subst}
use Rattle.act_grid.specs.declared.Point.{Point}
use Rattle.act_grid.specs.declared.Layers.{Layers}
use Rattle.act_grid.specs.declared.Settings.{Settings}
use Rattle.act_super.specs.declared.entry.State.{State}
use Rattle.act_super.specs.Histories.{state_of}
use Rattle.act_super.specs.Joins.{join, zones_at}
use Rattle.act_super.specs.Stands.{Stands}
use Rattle.act_rows.specs.declared.views.Snapshot.{Snapshot}
use Rattle.act_rows.specs.History.{History}
use Rattle.act_rows.specs.Images.{sight_of}
use Rattle.act_probe.specs.Reads.{reads_of}
use Rattle.act_index.specs.declared.pairs.Pair.{Pair}
use Rattle.act_grid.specs.declared.NoMemory.{NoMemory}
use Rattle.std.specs.Prelude.{IfOk}
use Rattle.act_index.specs.Answers.{Answered, IsAnswer, IsJoin, pair_of}
use Rattle.act_index.specs.Codes.{IsTold}
use Rattle.act_index.specs.Meanings.{Means}

-- a version that means something stands for some state from its root
pub means_stands : (h : History) (root r : ℕ) (x : Snapshot) → Means h root x → r ≡ root → (settings : Settings) × (state : State) × Stands settings (sight_of x) r state
means_stands h root r x m e = (m.settings, state_of m.settings m.entries, subst (λ z. Stands m.settings (sight_of x) z (state_of m.settings m.entries)) (sym e) m.stands)

pub answer_is : (h seen : History) (root r : ℕ) (x : Snapshot) (layers : Layers) (p : Point) (keys : List ℕ) (reads : ℕ) → Means h root x → r ≡ root → seen ≡ h
    → ((settings : Settings) (state : State) → Stands settings (sight_of x) r state → keys ≡ map (λ zone. zone.key) (zones_at layers state.zones p))
    → ((settings : Settings) (state : State) → Stands settings (sight_of x) r state → reads ≤ reads_of settings state p layers) → IsAnswer seen layers p keys reads
unfolding means_stands
answer_is h seen root r x layers p keys reads m e same found few =
    let stands = means_stands h root r x m e in
    record {
      settings = m.settings;
      entries = m.entries;
      told = subst (λ z. IsTold z m.settings m.entries) (sym same) m.told;
      found = found m.settings (state_of m.settings m.entries) stands.2;
      few = few m.settings (state_of m.settings m.entries) stands.2;
    }

pub join_is : (h seen : History) (root : ℕ) (x : Snapshot) (layers : Layers) (points : List Point) (pairs : List Pair) (reads : ℕ) → Means h root x → seen ≡ h
    → ((settings : Settings) (state : State) → Stands settings (sight_of x) root state → pairs ≡ map pair_of (join layers state.zones points))
    → ((settings : Settings) (state : State) → Stands settings (sight_of x) root state → reads ≤ sum_by (λ p. reads_of settings state p layers) points) → IsJoin seen layers points pairs reads
join_is h seen root x layers points pairs reads m same found few = record {
  settings = m.settings;
  entries = m.entries;
  told = subst (λ z. IsTold z m.settings m.entries) (sym same) m.told;
  found = found m.settings (state_of m.settings m.entries) m.stands;
  few = few m.settings (state_of m.settings m.entries) m.stands;
}

-- of an answer, if there is one
pub joins_are : (h seen : History) (root : ℕ) (x : Snapshot) (layers : Layers) (points : List Point) (found : Result Answered NoMemory) → Means h root x → seen ≡ h
    → IfOk found (λ answer. (settings : Settings) (state : State) → Stands settings (sight_of x) root state → answer.pairs ≡ map pair_of (join layers state.zones points))
    → IfOk found (λ answer. (settings : Settings) (state : State) → Stands settings (sight_of x) root state → answer.reads ≤ sum_by (λ p. reads_of settings state p layers) points)
    → IfOk found (λ answer. IsJoin seen layers points answer.pairs answer.reads)
joins_are h seen root x layers points (Ok a) m same pairs reads = join_is h seen root x layers points a.pairs a.reads m same pairs reads
joins_are h seen root x layers points (Err e) m same pairs reads = pairs
