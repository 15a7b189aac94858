use Rattle.std.proofs.Common.{◌≡◌, ◌+◌, ◌/◌, ap, arith, length, refl}
use Rattle.act_geom.proofs.BodyFacts.{length-body}
use Rattle.act_geom.specs.Rings.{vertices_of}
use Rattle.act_image.proofs.ChainFacts.{put_more}
use Rattle.act_image.proofs.kept.KeptChains.put.Goals as goal

pub returns : goal.returns
returns c = λ chain e zones changed h.
    let shape = c.args.shape.now in
    let words : c.from-words.result ≡ 1 + length shape + vertices_of shape = omega (arith, c.from-words.ensures, c.body_len.ensures, length-body shape) in
    put_more chain e shape zones (record { key = c.args.key; shape = shape }) c.args.self.now _ h c.args.key _ refl (ap (λ n. (n + 254) / 255) words) c.in_ok-push.ensures.items (omega (arith, c.in_ok-self.ensures.is)) c.in_ok-chain.chain (omega (arith, c.in_ok-chain.ensures.is, c.len.ensures)) changed refl c.in_ok-push_new.ensures c.in_ok-push_own.ensures
