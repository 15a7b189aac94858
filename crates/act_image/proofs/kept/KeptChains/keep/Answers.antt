use Rattle.std.proofs.Common.{◌≡◌, ◌+◌, ◌-◌, ap, arith, drop, get_or, length, refl, sym, take, ◌∙◌}
use Rattle.act_super.specs.declared.entry.Zone.{Zone}
use Rattle.act_super.specs.States.{zone_key_at, zone_shape_at}
use Rattle.act_image.specs.declared.chains.ChainPlace.{ChainPlace}
use Rattle.act_image.specs.Kept.{old_chain}
use Rattle.act_image.specs.Pics.{chain_of, part_of}
use Rattle.act_image.specs.Plans.{chains_from}
use Rattle.act_image.specs.Words.{no_chain}
use Rattle.act_image.proofs.BuildFacts.{chains_length}
use Rattle.act_image.proofs.ChainFacts.{kept_more, old_place}
use Rattle.act_image.proofs.kept.KeptChains.keep.Goals as goal

pub bounds-old-i : goal.bounds-old-i
bounds-old-i c = omega (arith, c.requires.within, ap length c.requires.old.places_are, chains_length 0 c.args.state.now.state.zones)

pub prove-unreachable-requires : goal.prove-unreachable-requires
prove-unreachable-requires c =
    let o = old_place c.args.state.now.state.zones c.args.i c.requires.old.own c.requires.within in
    let at = ap (λ v. get_or v c.args.i no_chain) c.requires.old.places_are in
    omega (arith, c.requires.old.enough, o.within, ap (λ (p : ChainPlace). p.first) at, ap (λ (p : ChainPlace). p.count) at, c.if-prove.true)

pub returns : goal.returns
returns c = λ e shape zones other h.
    let zs = c.args.state.now.state.zones in
    let place : ChainPlace = get_or c.args.old.places.now c.args.i no_chain in
    let o = old_place zs c.args.i c.requires.old.own c.requires.within in
    let at : get_or c.args.old.places.now c.args.i no_chain ≡ get_or (chains_from 0 zs) c.args.i no_chain = ap (λ v. get_or v c.args.i no_chain) c.requires.old.places_are in
    let key : (get_or c.args.old.places.now c.args.i no_chain).key ≡ zone_key_at zs c.args.i = ap (λ (p : ChainPlace). p.key) at ∙ o.key in
    let count = ap (λ (p : ChainPlace). p.count) at ∙ o.count in
    let found : chain_of c.args.old.places.now (zone_key_at zs c.args.i) ≡ get_or c.args.old.places.now c.args.i no_chain =
    ap (λ v. chain_of v (zone_key_at zs c.args.i)) c.requires.old.places_are ∙ ap (chain_of (chains_from 0 zs)) (sym o.key) ∙ o.found ∙ sym at in
    let size : c.args.old.from + (get_or c.args.old.places.now c.args.i no_chain).first + (get_or c.args.old.places.now c.args.i no_chain).count - (c.args.old.from + (get_or c.args.old.places.now c.args.i no_chain).first) ≡ (get_or c.args.old.places.now c.args.i no_chain).count = omega arith in
    let zone : Zone = record { key = zone_key_at zs c.args.i; shape = zone_shape_at zs c.args.i } in
    kept_more (old_chain c.args.old.places.now c.args.old.rows.now c.args.old.from) e shape zones zone c.args.self.now _ h _ _ key count c.in_ok-push.ensures.items (omega (arith, c.in_ok-self.ensures.is)) _ (ap (λ m. take m (drop (c.args.old.from + place.first) c.args.old.rows.now)) size ∙ ap (λ (p : ChainPlace). part_of c.args.old.rows.now (c.args.old.from + p.first) p.count) (sym found)) other c.in_ok-push_kept.ensures refl
