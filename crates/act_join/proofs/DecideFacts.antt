-- Updates that are made, and updates that are turned away.
use Rattle.std.proofs.Common.{◌≡◌, ◌++◌, ◌∷◌, ℕ, true, List, [], Option, Some, None, length, refl, arith, ap, sym, ◌∙◌, subst, append-nil}
use Rattle.std.specs.Prelude.{◌&&◌, if◌then◌else◌, is_none}
use Rattle.std.proofs.Math.Dec.{ltb}
use Rattle.std.proofs.lemmas.Bool.{lt-ltb}
use Rattle.act_grid.specs.declared.Point.{Point}
use Rattle.act_grid.specs.declared.Settings.{Settings}
use Rattle.act_grid.specs.Cell.{Address}
use Rattle.act_super.specs.declared.entry.Entry.{Entry}
use Rattle.act_super.specs.declared.entry.Entry.TheVariants as entry
use Rattle.act_super.specs.declared.entry.State.{State}
use Rattle.act_super.specs.declared.verdict.Verdict.{Verdict}
use Rattle.act_super.specs.declared.verdict.Verdict.TheVariants as verdict
use Rattle.act_super.specs.Histories.{is_update}
use Rattle.act_super.specs.States.{verdict_of}
use Rattle.act_super.specs.Training.{trained_more}
use Rattle.act_index.specs.Calls.{IsGrown, IsLeft, IsRefused, IsTrained, IsUntrained}
use Rattle.act_index.specs.Whole.{Writing}
use Rattle.act_index.specs.declared.done.Done.{Done}
use Rattle.act_index.specs.declared.done.Refused.{Refused}
use Rattle.act_index.specs.declared.done.Refused.TheVariants as refused
use Rattle.act_script.specs.declared.segment.Update.{Update}
use Rattle.act_script.specs.declared.segment.Update.TheVariants as update
use Rattle.act_script.specs.History.{entry_of, has_change, is_made}
use Rattle.act_script.specs.Text.{asked_text, told_text}
use Rattle.act_script.specs.Turns.{left_by_update}
use Rattle.act_join.specs.Replies.{added_by, end_text, told_of}
use Rattle.act_join.specs.Working.{Makes, Steps, Tries, TurnedBy, key_added, key_where, takes_points}
use Rattle.act_join.specs.declared.decide.Decided.{Decided}
use Rattle.act_join.specs.declared.decide.Stepped.TheVariants as stepped
use Rattle.act_join.specs.declared.told.Told.{Told}
use Rattle.act_join.specs.declared.told.Told.TheVariants as told
use Rattle.act_join.specs.declared.told.Tried.{Tried}
use Rattle.act_join.specs.declared.told.Tried.TheVariants as tried

pub grown_makes : (w w' : Writing) (e : Entry) → IsGrown w w' e → Makes w w' (e ∷ [])
grown_makes w w' e g = record { history = g.history; settings = g.settings; state = g.state; table = g.table; legal = (g.allowed, tt) }

pub left_makes : (w w' : Writing) → IsLeft w w' → Makes w w' []
left_makes w w' l = record { history = l.watched.history ∙ sym (append-nil w.desk.history); settings = l.settings; state = l.state; table = l.table; legal = tt }

-- an entry that is accepted is made, and one that is refused isn't
abbrev made_if : Settings → State → Entry → List Entry
made_if settings state e = if is_made settings state e then e ∷ [] else []

made_when : (settings : Settings) (state : State) (e : Entry) → verdict_of settings state e ≡ None → has_change e ≡ true → e ∷ [] ≡ made_if settings state e
made_when settings state e accepted changes = rw (accepted, changes) refl

made_not : (settings : Settings) (state : State) (e : Entry) (why : Verdict) → verdict_of settings state e ≡ Some why → [] ≡ made_if settings state e
made_not settings state e why is = rw is refl

-- an update that was made
pub grown_told : (w w' : Writing) (sample : List Point) (asked : Update) → is_update (entry_of w.settings w.state sample asked) ≡ true
    → IsGrown w w' (entry_of w.settings w.state sample asked) → Tries w w' sample asked (tried.Told (told.Verdict None))
grown_told w w' sample (update.Add key shape) u g = let e = entry.Add key shape in
    (ap told.Verdict (sym g.allowed.accepted), subst (Makes w w') (made_when w.settings w.state e g.allowed.accepted refl) (grown_makes w w' e g))
grown_told w w' sample (update.DropZone key) u g = let e = entry.DropZone key in
    (ap told.Verdict (sym g.allowed.accepted), subst (Makes w w') (made_when w.settings w.state e g.allowed.accepted refl) (grown_makes w w' e g))
grown_told w w' sample (update.Replace key shape) u g = let e = entry.Replace key shape in
    (ap told.Verdict (sym g.allowed.accepted), subst (Makes w w') (made_when w.settings w.state e g.allowed.accepted refl) (grown_makes w w' e g))
grown_told w w' sample (update.Train threshold) u g = absurd (cc)

-- an update that was refused by its verdict
judged : (w w' : Writing) (sample : List Point) (asked : Update) (why : Verdict) → is_update (entry_of w.settings w.state sample asked) ≡ true
    → verdict_of w.settings w.state (entry_of w.settings w.state sample asked) ≡ Some why → IsLeft w w' → Tries w w' sample asked (tried.Told (told.Verdict (Some why)))
judged w w' sample (update.Add key shape) why u is l =
    (ap told.Verdict (sym is), subst (Makes w w') (made_not w.settings w.state (entry.Add key shape) why is) (left_makes w w' l))
judged w w' sample (update.DropZone key) why u is l =
    (ap told.Verdict (sym is), subst (Makes w w') (made_not w.settings w.state (entry.DropZone key) why is) (left_makes w w' l))
judged w w' sample (update.Replace key shape) why u is l =
    (ap told.Verdict (sym is), subst (Makes w w') (made_not w.settings w.state (entry.Replace key shape) why is) (left_makes w w' l))
judged w w' sample (update.Train threshold) why u is l = absurd (cc)

pub turned_back : (w w' : Writing) (sample : List Point) (asked : Update) (why : Refused) (says : Tried) → is_update (entry_of w.settings w.state sample asked) ≡ true
    → TurnedBy why asked says → IsRefused w w' (entry_of w.settings w.state sample asked) why → IsLeft w w' → Tries w w' sample asked says
turned_back w w' sample asked refused.Duplicate says u is cause l = subst (Tries w w' sample asked) (sym is) (judged w w' sample asked verdict.Duplicate u cause l)
turned_back w w' sample asked refused.Unknown says u is cause l = subst (Tries w w' sample asked) (sym is) (judged w w' sample asked verdict.Unknown u cause l)
turned_back w w' sample asked refused.Same says u is cause l = subst (Tries w w' sample asked) (sym is) (judged w w' sample asked verdict.Same u cause l)
turned_back w w' sample asked (refused.Refs need) says u is cause l = subst (Tries w w' sample asked) (sym is) (judged w w' sample asked (verdict.Refs need) u cause l)
turned_back w w' sample asked (refused.Rows need limit) says u is cause l = subst (Tries w w' sample asked) (sym is) (judged w w' sample asked (verdict.Rows need limit) u cause l)
turned_back w w' sample asked (refused.Held reader version word) says u is cause l = subst (Tries w w' sample asked) (sym is) (refl, left_makes w w' l)
turned_back w w' sample asked refused.Versions says u is cause l = absurd is
turned_back w w' sample asked refused.NoMemory says u is cause l = absurd is

-- a training
trained_makes : (w w' : Writing) (cells : List Address) (done : Done) → IsTrained w w' cells done → Makes w w' (made_if w.settings w.state (entry.Train cells))
trained_makes w w' [] done t = left_makes w w' (t.left refl)
trained_makes w w' (c ∷ cells) done t =
    let some : ltb 0 (length (c ∷ cells)) ≡ true = lt-ltb 0 (length (c ∷ cells)) (omega arith) in
    subst (Makes w w') (made_when w.settings w.state (entry.Train (c ∷ cells)) refl some) (grown_makes w w' (entry.Train (c ∷ cells)) (t.grown (omega arith)))

pub trained_told : (w w' : Writing) (sample : List Point) (threshold : ℕ) (done : Done) → IsTrained w w' (trained_more w.settings w.state sample threshold) done
    → Tries w w' sample (update.Train threshold) (tried.Told (told.Split done.split))
trained_told w w' sample threshold done t = (ap told.Split t.answered.trained, trained_makes w w' (trained_more w.settings w.state sample threshold) done t)

pub untrained_back : (w w' : Writing) (sample : List Point) (threshold : ℕ) (why : Refused) (says : Tried) → TurnedBy why (update.Train threshold) says
    → IsUntrained w w' (trained_more w.settings w.state sample threshold) why → IsLeft w w' → Tries w w' sample (update.Train threshold) says
untrained_back w w' sample threshold refused.Duplicate says is un l = let no = un.refused in absurd (cc)
untrained_back w w' sample threshold refused.Unknown says is un l = let no = un.refused in absurd (cc)
untrained_back w w' sample threshold refused.Same says is un l = let no = un.refused in absurd (cc)
untrained_back w w' sample threshold (refused.Refs need) says is un l = let no = un.refused in absurd (cc)
untrained_back w w' sample threshold (refused.Rows need limit) says is un l = let no = un.refused in absurd (cc)
untrained_back w w' sample threshold (refused.Held reader version word) says is un l = subst (Tries w w' sample (update.Train threshold)) (sym is) (refl, left_makes w w' l)
untrained_back w w' sample threshold refused.Versions says is un l = absurd is
untrained_back w w' sample threshold refused.NoMemory says is un l = absurd is

-- ---- the answer to an update that was decided

told_text_is : (settings : Settings) (state : State) (e : Entry) → end_text (told_of settings state e) ≡ told_text settings state e
told_text_is settings state (entry.Add key shape) = refl
told_text_is settings state (entry.DropZone key) = refl
told_text_is settings state (entry.Replace key shape) = refl
told_text_is settings state (entry.Train cells) = refl

key_none : (v : Option Verdict) → key_where (told.Verdict v) None ≡ None
key_none None = refl
key_none (Some why) = refl

key_some : (v : Option Verdict) (key : ℕ) → key_where (told.Verdict v) (Some key) ≡ (if is_none v && true then Some key else None)
key_some None key = refl
key_some (Some why) key = refl

added_is : (settings : Settings) (state : State) (sample : List Point) (asked : Update) → key_where (told_of settings state (entry_of settings state sample asked)) (key_added asked) ≡ added_by settings state asked
added_is settings state sample (update.Add key shape) = key_some (verdict_of settings state (entry.Add key shape)) key
added_is settings state sample (update.DropZone key) = key_none (verdict_of settings state (entry.DropZone key))
added_is settings state sample (update.Replace key shape) = key_none (verdict_of settings state (entry.Replace key shape))
added_is settings state sample (update.Train threshold) = refl

left_is : (points : List Point) (asked : Update) → (if takes_points asked then [] else points) ≡ left_by_update points asked
left_is points (update.Add key shape) = refl
left_is points (update.DropZone key) = refl
left_is points (update.Replace key shape) = refl
left_is points (update.Train threshold) = refl

pub done_steps : (w w' : Writing) (points left : List Point) (asked : Update) (says : Told) (answer : Decided) → Tries w w' points asked (tried.Told says)
    → left ≡ (if takes_points asked then [] else points) → answer.line ≡ asked_text asked ++ end_text says → answer.added ≡ key_where says (key_added asked)
    → Steps w w' points left asked (stepped.Done answer)
done_steps w w' points left asked says answer t is line added =
    let e = entry_of w.settings w.state points asked in (
      line ∙ ap (λ x. asked_text asked ++ x) (ap end_text t.0 ∙ told_text_is w.settings w.state e),
      added ∙ ap (λ x. key_where x (key_added asked)) t.0 ∙ added_is w.settings w.state points asked,
      t.1,
      is ∙ left_is points asked,
    )

pub held_steps : (w w' : Writing) (points : List Point) (asked back : Update) → Tries w w' points asked (tried.Held back) → Steps w w' points points asked (stepped.Held back)
held_steps w w' points asked back t = (t.0, t.1, refl)
