-- The steps as calls owe them: for a seat of which the view is known by an equation.
use Rattle.std.proofs.Common.{◌≡◌, ℕ, ◌+◌, ◌^◌, ◌%◌, ◌<◌, false, [], sym, ap, ◌∙◌, subst}
use mathlib.Core.Option.{none}
use Rattle.atomic_table.specs.Table.{State, Me, step, Allows, Splits, Joins}
use Rattle.act_tally.specs.declared.rule.Sizes.{Sizes}
use Rattle.act_tally.specs.declared.views.Keeper.{Keeper}
use Rattle.act_tally.specs.declared.views.Drawer.{Drawer}
use Rattle.act_tally.specs.declared.views.View.{View}
use Rattle.act_tally.specs.declared.views.View.TheVariants.{Keeps, Draws, Spent}
use Rattle.act_tally.specs.Fair.{Fair}
use Rattle.act_tally.specs.Steps.{draws, checks, hands_left, hands_right, takes}
use Rattle.act_tally.specs.Tokens.{keeper_of, drawer_of}
use Rattle.act_tally.proofs.Drawing.{draw_step}
use Rattle.act_tally.proofs.Holding.{check_step, hand_splits, take_joins}

module _ {S : Type 0} where
  -- the view is known, and no slot is out
  pub keeps_as : (m : Me S View) (q : Keeper) → m.0 ≡ Keeps q → m.1 ≡ [] → m ≡ (Keeps (keeper_of m.0), [])
  keeps_as m q e z = λ i. ((e ∙ ap Keeps (sym (ap keeper_of e))) i, z i)

  pub draws_as : (m : Me S View) (t : Drawer) → m.0 ≡ Draws t → m.1 ≡ [] → m ≡ (Draws (drawer_of m.0), [])
  draws_as m t e z = λ i. ((e ∙ ap Draws (sym (ap drawer_of e))) i, z i)

  -- what holds of the keeper holds of the view's
  pub at_keeper : (P : Keeper → Type 0) (m : Me S View) (q : Keeper) → m.0 ≡ Keeps q → P q → P (keeper_of m.0)
  at_keeper P m q e p = subst P (sym (ap keeper_of e)) p

  pub at_drawer : (P : Drawer → Type 0) (m : Me S View) (t : Drawer) → m.0 ≡ Draws t → P t → P (drawer_of m.0)
  at_drawer P m t e p = subst P (sym (ap drawer_of e)) p

module _ (S : Type 0) (k : Sizes) where
  abbrev Rule : State S View → Type 0
  Rule = Fair {S = S} k

  pub draw_call : (slots id : ℕ) (me : Me S View) (t : Drawer) → me.0 ≡ Draws t → t.ended ≡ false → Allows Rule slots id me 0 (λ n. (n + 1) % 2 ^ 64) (draws (step slots 0 1 0 none) me)
  draw_call slots id me t e go_on = subst (λ (v : View). Allows Rule slots id (v, me.1) 0 (λ n. (n + 1) % 2 ^ 64) (draws (step slots 0 1 0 none) (v, me.1))) (sym e) (draw_step S k slots id t me.1 go_on)

  pub check_call : (slots id : ℕ) (me : Me S View) (q : Keeper) → me.0 ≡ Keeps q → Allows Rule slots id me 0 (λ n. n) (checks (step slots 0 0 0 none) me)
  check_call slots id me q e = subst (λ (v : View). Allows Rule slots id (v, me.1) 0 (λ n. n) (checks (step slots 0 0 0 none) (v, me.1))) (sym e) (check_step S k slots id q me.1)

  pub hand_call : (id : ℕ) (v : View) (q : Keeper) → v ≡ Keeps q → q.handed < q.claimers → Splits Rule id v (hands_left v) (hands_right v)
  hand_call id v q e room = subst (λ x. Splits Rule id x (hands_left x) (hands_right x)) (sym e) (hand_splits S k id q room)

  pub take_call : (id : ℕ) (v : View) (other : ℕ) (w : View) (q : Keeper) (t : Drawer) → v ≡ Keeps q → w ≡ Draws t → Joins Rule id v other w (takes v w) Spent
  take_call id v other w q t e f = subst (λ (x : View × View). Joins Rule id x.0 other x.1 (takes x.0 x.1) Spent) (λ i. (sym e i, sym f i)) (take_joins S k id other q t)
