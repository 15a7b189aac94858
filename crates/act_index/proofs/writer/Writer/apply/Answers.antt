use Rattle.std.proofs.Common.{◌≡◌, ℕ, List, ◌∷◌, take, drop, sym, ◌∙◌, subst, arith}
use Rattle.act_index.specs.declared.changes.Change.{Change}
use Rattle.act_index.specs.Runs.{IsRun, entry_of, entries_of}
use Rattle.act_index.proofs.Running.{run_more, run_left, take_one, entries_one, full_since}
use Rattle.act_index.proofs.writer.Writer.apply.Goals as goal

pub returns-in-Err : goal.returns-in-Err
returns-in-Err g c =
    let given : List Change = c.args.changes in
    let at : ℕ = c.loop-at.at in
    let inv = c.loop-at.invariant in
    let asked : Change = c.in-Some.change in
    let rest : List Change = c.pop_front.new.self.items in
    let e : drop at given ≡ asked ∷ rest = sym inv.rest ∙ c.in-Some.ensures.items in
    let one = take_one given rest at asked e in
    let err = c.in-Err.ensures.err in
    let low = one.2 in
    record {
      low = omega arith;
      left = c.from_vec.ensures ∙ (c.from.ensures.0 ∙ (c.in-Ok.ensures.items ∙ ((λ i. err.0 i ∷ rest) ∙ sym e)));
      run = run_left c.args.self.now c.loop-at.self c.change.new.self (entries_of (take at given)) inv.run err.1;
      cause = record {
        before = c.loop-at.self;
        asked = asked;
        rest = rest;
        is = e;
        run = inv.run;
        refused = err.2;
        full = full_since c.args.self.now c.loop-at.self c.change.new.self (entries_of (take at given)) (entry_of asked) c.in-Err.back.why inv.run err.1 err.2;
      };
    }

pub loop-at-preserved : goal.loop-at-preserved
loop-at-preserved g c =
    let given : List Change = c.args.changes in
    let at : ℕ = c.loop-at.at in
    let inv = c.loop-at.invariant in
    let asked : Change = c.in-Some.change in
    let rest : List Change = c.pop_front.new.self.items in
    let e : drop at given ≡ asked ∷ rest = sym inv.rest ∙ c.in-Some.ensures.items in
    let one = take_one given rest at asked e in
    record {
      rest = sym one.1;
      run = subst (IsRun c.args.self.now c.change.new.self) (sym (entries_one given rest at asked e)) (run_more c.args.self.now c.loop-at.self c.change.new.self (entries_of (take at given)) (entry_of asked) inv.run c.in_default-change.ensures.ok);
    }
