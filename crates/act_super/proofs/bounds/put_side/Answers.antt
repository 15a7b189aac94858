use Rattle.std.proofs.Common.{[], ◌∷◌, subst, append_assoc}
use Rattle.act_super.specs.Bounds.{TellEnds}
use Rattle.act_super.proofs.bounds.put_side.Goals as goal

pub returns : goal.returns
returns c = λ points told.
    subst (TellEnds c.put-2.new.self) (append_assoc points (c.args.side.a ∷ []) (c.args.side.b ∷ [])) (c.put-2.ensures _ (c.put.ensures points told))
