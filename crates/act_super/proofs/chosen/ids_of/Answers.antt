use Rattle.std.proofs.Common.{◌≡◌, ◌+◌, ◌++◌, ◌∙◌, sym, ap, subst, length, take, List, [], ◌∷◌, ℕ}
use Rattle.std.proofs.lemmas.List.{length_push}
use Rattle.act_super.specs.Choices.{StandFor}
use Rattle.act_super.proofs.SpanFacts.{stand_more}
use Rattle.act_super.proofs.chosen.ids_of.Goals as goal

pub loop-p-preserved : goal.loop-p-preserved
loop-p-preserved c =
    let items : c.push.new.self.items ≡ c.loop-p.ids.items ++ (c.id.result ∷ []) = c.in_ok-push.ensures.items in (
      subst (λ (ids : List ℕ). StandFor ids (take (c.loop-p.p-index + 1) c.args.sample.now)) (sym items)
          (stand_more c.loop-p.ids.items c.args.sample.now c.loop-p.p-index c.id.result c.leaf.result _ c.loop-p-test.true c.loop-p.invariant.0 c.leaf.ensures.cell c.leaf.ensures.level c.leaf.ensures.holds c.id.ensures),
      ap (λ ids. length ids) items ∙ length_push c.loop-p.ids.items c.id.result ∙ ap (λ n. n + 1) c.loop-p.invariant.1,
    )
