use Rattle.std.proofs.Common.{◌≡◌, ◌+◌, ◌/◌, ◌++◌, [], ◌∷◌, ap, arith, length, ◌∙◌}
use Rattle.act_image.proofs.BuildFacts.{chains_more}
use Rattle.act_image.proofs.chains.Chains.push.Goals as goal

pub returns : goal.returns
returns c = λ zones h.
    let chain : c.in_ok-chain.chain ≡ length c.args.self.now.places.items = omega (arith, c.in_ok-chain.ensures.is, c.len.ensures) in
    let first : c.in_ok-first.first ≡ length c.args.self.now.rows.items = omega (arith, c.in_ok-first.ensures.is, c.len-2.ensures) in
    let count : c.in_ok-count.count ≡ (length c.in_ok-words.words.items + 254) / 255 = omega (arith, c.in_ok-count.ensures.is, c.len-3.ensures) in
    chains_more zones c.args.self.now _ c.in_ok-chain.chain c.in_ok-first.first c.in_ok-count.count c.args.key c.args.shape.now c.in_ok-words.words.items h chain first c.in_ok-words.ensures count
    c.in_ok-push.ensures.items (c.in_ok-push-2.ensures.items ∙ ap (λ v. c.args.self.now.bodies.items ++ v ∷ []) c.from_vec.ensures) c.in_ok-push_rows.ensures
