use Rattle.std.proofs.Common.{◌+◌, List, ℕ, drop, sym, subst, arith}
use Rattle.std.proofs.lemmas.List.{drop_more, drop_all}
use Rattle.act_geom.specs.Inside.{is_inside}
use Rattle.act_geom.specs.Walk.{Expects}
use Rattle.act_geom.proofs.WalkFacts.{answered, going_on, not_at_end}
use Rattle.act_geom.proofs.walk.inside_body.Goals as goal

pub loop-word-init : goal.loop-word-init
loop-word-init c = λ rings full e.
    subst (λ (ws : List ℕ). Expects c.start-walk.result ws (is_inside rings c.args.p)) (sym e) (c.start-walk.ensures rings full)

pub returns-then-is_some : goal.returns-then-is_some
returns-then-is_some c = λ rings full e.
    answered c.feed-answer.result c.feed-answer.new.self _ _
    (c.feed-answer.ensures (drop (c.loop-word.word-index + 1) c.args.words.now) (is_inside rings c.args.p)
    (subst (λ (ws : List ℕ). Expects c.loop-word.walk ws (is_inside rings c.args.p)) (drop_more c.args.words.now c.loop-word.word-index 0 (omega arith)) (c.loop-word.invariant rings full e)))
    (grind arith)

pub loop-word-preserved : goal.loop-word-preserved
loop-word-preserved c = λ rings full e.
    going_on c.feed-answer.result c.feed-answer.new.self _ _
    (c.feed-answer.ensures (drop (c.loop-word.word-index + 1) c.args.words.now) (is_inside rings c.args.p)
    (subst (λ (ws : List ℕ). Expects c.loop-word.walk ws (is_inside rings c.args.p)) (drop_more c.args.words.now c.loop-word.word-index 0 (omega arith)) (c.loop-word.invariant rings full e)))
    (grind arith)

pub returns : goal.returns
returns c = λ rings full e.
    absurd (not_at_end c.loop-word.walk (is_inside rings c.args.p)
    (subst (λ (ws : List ℕ). Expects c.loop-word.walk ws (is_inside rings c.args.p)) (drop_all c.loop-word.word-index c.args.words.now (omega arith)) (c.loop-word.invariant rings full e)))
