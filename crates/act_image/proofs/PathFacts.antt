-- A plan of all rows that keeps the rows of what stays leads on.
use Rattle.std.proofs.Common.{◌≡◌, ℕ, ◌+◌, ◌^◌, ◌<◌, ◌≤◌, ◌⊎◌, inl, inr, Bool, true, false, if◌then◌else◌, not, cond, refl, sym, ap, ◌∙◌, arith, List, [], ◌∷◌, ◌==◌, nat_lt, length, map}
use Rattle.std.specs.List.{AllByRecursion as Each}
use Rattle.std.proofs.lemmas.List.Elements.{recursion_from_All}
use Rattle.act_base.specs.Counting.{times}
use Rattle.act_grid.specs.declared.Settings.{Settings}
use Rattle.act_grid.specs.declared.Point.{Point}
use Rattle.act_grid.specs.Cell.{Address}
use Rattle.act_super.specs.declared.entry.Entry.{Entry}
use Rattle.act_super.specs.declared.entry.Entry.TheVariants as entry
use Rattle.act_super.specs.declared.entry.State.{State}
use Rattle.act_super.specs.declared.entry.Zone.{Zone}
use Rattle.act_super.specs.Stands.{HasChain, IsServed}
use Rattle.act_super.specs.States.{after, changed, reshaped, with_zone, without_key}
use Rattle.act_image.specs.Fresh.{is_changed}
use Rattle.act_image.specs.Kept.{slots_of}
use Rattle.act_image.specs.Slots.{kept_of, new_places, with_rows}
use Rattle.act_image.specs.Pics.{HaveOwnKeys, IsFresh, IsWhole, IsWholePlan, Pic, Planned, layout_in, rows_in}
use Rattle.act_image.proofs.KeepFacts.{keeps}
use Rattle.act_image.proofs.Leaves.{each_mono}
use Rattle.act_image.proofs.SlotFacts.{all_times}

-- ---- the zones that a change leaves are among those before it
module _ (P : Zone → Type 0) where
  added : (key : ℕ) (shape : List (List Point)) (zones : List Zone) → Each P zones → Each (λ (zone : Zone). (key == zone.key) ≡ false → P zone) (with_zone (record { key = key; shape = shape }) zones)
  added key shape [] h = (λ no. (let yes = sym (Rattle.std.proofs.Common.eq-eqb key key refl) ∙ no in absurd (cc)), tt)
  added key shape (other ∷ zones) h = by (nat_lt key other.key) (added key shape zones h.1)
    where
      by : (b : Bool) → Each (λ (zone : Zone). (key == zone.key) ≡ false → P zone) (with_zone (record { key = key; shape = shape }) zones)
          → Each (λ (zone : Zone). (key == zone.key) ≡ false → P zone) (if b then record { key = key; shape = shape } ∷ other ∷ zones else other ∷ with_zone (record { key = key; shape = shape }) zones)
      by true rest = (λ no. (let yes = sym (Rattle.std.proofs.Common.eq-eqb key key refl) ∙ no in absurd (cc)), ((λ no. h.0), each_mono P (λ (zone : Zone). (key == zone.key) ≡ false → P zone) zones (λ zone k no. k) h.1))
      by false rest = ((λ no. h.0), rest)

  dropped : (key : ℕ) (zones : List Zone) → Each P zones → Each (λ (zone : Zone). (key == zone.key) ≡ false → P zone) (without_key key zones)
  dropped key [] h = tt
  dropped key (zone ∷ zones) h = by (not (zone.key == key)) (dropped key zones h.1)
    where
      by : (b : Bool) → Each (λ (zone : Zone). (key == zone.key) ≡ false → P zone) (without_key key zones)
          → Each (λ (zone : Zone). (key == zone.key) ≡ false → P zone) (cond b (zone ∷ without_key key zones) (without_key key zones))
      by true rest = ((λ no. h.0), rest)
      by false rest = rest

  replaced : (key : ℕ) (shape : List (List Point)) (zones : List Zone) → Each P zones → Each (λ (zone : Zone). (key == zone.key) ≡ false → P zone) (reshaped key shape zones)
  replaced key shape [] h = tt
  replaced key shape (zone ∷ zones) h = (by (zone.key == key), replaced key shape zones h.1)
    where
      by : (b : Bool) → (key == (if b then record { key = key; shape = shape } else zone).key) ≡ false → P (if b then record { key = key; shape = shape } else zone)
      by true = λ no. (let yes = sym (Rattle.std.proofs.Common.eq-eqb key key refl) ∙ no in absurd (cc))
      by false = λ no. h.0

  pub left_over : (e : Entry) (zones : List Zone) → Each P zones → Each (λ (zone : Zone). is_changed e zone.key ≡ false → P zone) (changed zones e)
  left_over (entry.Add key shape) zones h = added key shape zones h
  left_over (entry.DropZone key) zones h = dropped key zones h
  left_over (entry.Replace key shape) zones h = replaced key shape zones h
  left_over (entry.Train cells) zones h = each_mono P (λ (zone : Zone). false ≡ false → P zone) zones (λ zone k no. k) h

-- ---- the plan
some_or_none : (n : ℕ) → (0 < n) ⊎ (n ≡ 0)
some_or_none n = grind arith

pub path_plan : (settings : Settings) (p : Pic) (q : Planned) (old : State) (e : Entry) (cells : List Address) → IsWhole settings q (after settings old e) cells → IsServed settings (after settings old e) → HaveOwnKeys (after settings old e).zones
    → q.slots ≡ slots_of settings (layout_in p) old (after settings old e) e cells → length q.slots ≡ length q.spots + length q.lists + length q.chain_rows
    → q.need ≡ length (new_places 0 q.slots) → ((r : ℕ) → 0 < times (rows_in p) r → (0 < r) × (r < 2 ^ 24))
    → ((r : ℕ) → times (kept_of q.slots) r + times q.gone r ≡ times (rows_in p) r) → length (kept_of q.slots) + length q.gone ≡ length (rows_in p) → IsWholePlan settings p q old (after settings old e)
path_plan settings p q old e cells w served keys slots all need low gone count = record {
  need = need;
  all = all;
  served = served;
  keys = keys;
  cells = cells;
  whole = w;
  low = low;
  gone = gone;
  count = count;
  stay = λ x rows k r place shown fresh long at small.
      keeps settings p q old (after settings old e) e cells w served keys slots all rows
      (λ r. omega (arith, all_times 0 q.slots rows r (long ∙ need), gone r, fresh.once r)) (λ r some. own_low rows fresh (long ∙ need) r some (some_or_none (times rows r))) x shown
      (left_over (λ (zone : Zone). HasChain x ((layout_in p).chain zone.key) zone) e old.zones (recursion_from_All (λ (zone : Zone). HasChain x ((layout_in p).chain zone.key) zone) old.zones shown.by_rows.chains)) k r place at small;
}
  where
    own_low : (rows : List ℕ) → IsFresh p rows → length rows ≡ length (new_places 0 q.slots) → (r : ℕ) → 0 < times (with_rows q.slots rows) r → (0 < times rows r) ⊎ (times rows r ≡ 0) → (0 < r) × (r < 2 ^ 24)
    own_low rows fresh long r some (inl new) = fresh.low r new
    own_low rows fresh long r some (inr none) = low r (omega (arith, some, none, all_times 0 q.slots rows r long, gone r))
