use Rattle.std.proofs.Common.{List, ℕ, ◌++◌, codes, decimal}
use Rattle.act_join.specs.Ends.{fault_of}
use Rattle.act_join.specs.declared.ended.ScriptFault.{ScriptFault}
use Rattle.actjoin.specs.Faults.{fault_text}
use Rattle.actjoin.proofs.PutFacts.{first_failed, put_then}
use Rattle.actjoin.proofs.message.put_bad_line.Goals as goal

-- the text before the colon, and the fault with the line feed
abbrev front : ℕ → List ℕ
front line = codes "line " ++ decimal line

abbrev ended : ScriptFault → List ℕ
ended fault = fault_text (fault_of fault) ++ codes "\n"

pub returns-in_err-put_numbered : goal.returns-in_err-put_numbered
returns-in_err-put_numbered g c =
    first_failed _ (front c.args.line) (codes ": " ++ ended c.args.fault) c.from_residual.result c.from_residual.ensures.0 c.in_err-put_numbered.ensures

pub returns-in_err-put : goal.returns-in_err-put
returns-in_err-put g c =
    put_then _ _ _ _ _ _ (front c.args.line) (codes ": " ++ ended c.args.fault) _ c.in_ok-put_numbered.ensures
    (first_failed _ (codes ": ") (ended c.args.fault) c.from_residual-in_err-put.result c.from_residual-in_err-put.ensures.0 c.in_err-put.ensures)

pub returns-in_err-put_fault : goal.returns-in_err-put_fault
returns-in_err-put_fault g c =
    put_then _ _ _ _ _ _ (front c.args.line) (codes ": " ++ ended c.args.fault) _ c.in_ok-put_numbered.ensures
    (put_then _ _ _ _ _ _ (codes ": ") (ended c.args.fault) _ c.in_ok-put.ensures
    (first_failed _ (fault_text (fault_of c.args.fault)) (codes "\n") c.from_residual-in_err-put_fault.result c.from_residual-in_err-put_fault.ensures.0 c.in_err-put_fault.ensures))

pub returns : goal.returns
returns g c =
    put_then _ _ _ _ _ _ (front c.args.line) (codes ": " ++ ended c.args.fault) _ c.in_ok-put_numbered.ensures
    (put_then _ _ _ _ _ _ (codes ": ") (ended c.args.fault) _ c.in_ok-put.ensures
    (put_then _ _ _ _ _ _ (fault_text (fault_of c.args.fault)) (codes "\n") _ c.in_ok-put_fault.ensures c.put-2.ensures))
