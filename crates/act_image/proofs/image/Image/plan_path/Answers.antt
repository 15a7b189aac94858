use Rattle.std.proofs.Common.{◌≡◌, ◌+◌, ◌<◌, ◌≤◌, ◌++◌, List, ℕ, ap, arith, get_or, length, subst, sym, ◌∙◌}
use Rattle.std.specs.List.{flat_map}
use Rattle.act_base.specs.Counting.{from}
use Rattle.act_super.specs.declared.entry.State.{State}
use Rattle.act_super.specs.States.{after}
use Rattle.act_image.specs.declared.nodes.NodePlace.{NodePlace}
use Rattle.act_image.specs.Gone.{gone_chain, gone_node}
use Rattle.act_image.specs.Kept.{IsKeptChains, old_chain}
use Rattle.act_image.specs.Paths.{IsPath}
use Rattle.act_image.specs.Pics.{Pic, layout_in, no_node}
use Rattle.act_image.proofs.PathPlan.{chain_within, chains_before, node_within, path_made, some_shape}
use Rattle.act_image.proofs.ServedFacts.{keys_after, old_keys, served_after}
use Rattle.act_image.proofs.image.Image.plan_path.Goals as goal

pub kept_chains-requires-clause-old : goal.kept_chains-requires-clause-old
kept_chains-requires-clause-old c =
    let p : Pic = c.args.self.now in
    let first : c.len.result + c.self.inside.lists ≡ length c.args.self.now.nodes + c.args.self.now.lists = omega (arith, c.len.ensures, ap (λ (z : Pic). length z.nodes) c.self.view_is, ap (λ (z : Pic). z.lists) c.self.view_is) in
    chains_before c.args.state.now.settings p c.requires.stands.0 c.args.state.now.state c.requires.stands.1 _ _ _ first (c.as_slice-4.ensures.value ∙ ap (λ (z : Pic). z.chains) c.self.view_is) (c.as_slice-5.ensures.value ∙ ap (λ (z : Pic). z.rows) c.self.view_is)

pub walk_path-requires-clause-places : goal.walk_path-requires-clause-places
walk_path-requires-clause-places c =
    let s = some_shape c.args.next.now.entry in
    c.as_slice-6.ensures.value ∙ (c.in_ok-chains.ensures s.0 s.1).places

pub gone_rows-requires-clause-nodes : goal.gone_rows-requires-clause-nodes
gone_rows-requires-clause-nodes c = λ i low.
    let nodes : c.as_slice.result.now ≡ c.args.self.now.nodes = c.as_slice.ensures.value ∙ ap (λ (z : Pic). z.nodes) c.self.view_is in
    let rows : c.as_slice-3.result.now ≡ c.args.self.now.rows = c.as_slice-3.ensures.value ∙ ap (λ (z : Pic). z.rows) c.self.view_is in
    let within = node_within c.args.state.now.settings c.args.self.now c.requires.stands.0 c.args.state.now.state c.requires.stands.1 i in
    subst (λ (v : List NodePlace). i < length v → length v + (get_or v i no_node).first + (get_or v i no_node).count ≤ length c.as_slice-3.result.now) (sym nodes)
    (subst (λ (v : List ℕ). i < length c.args.self.now.nodes → length c.args.self.now.nodes + (get_or c.args.self.now.nodes i no_node).first + (get_or c.args.self.now.nodes i no_node).count ≤ length v) (sym rows) within) low

pub gone_rows-requires-clause-chains : goal.gone_rows-requires-clause-chains
gone_rows-requires-clause-chains c = λ i low.
    let p : Pic = c.args.self.now in
    let first : c.len.result + c.self.inside.lists ≡ length c.args.self.now.nodes + c.args.self.now.lists = omega (arith, c.len.ensures, ap (λ (z : Pic). length z.nodes) c.self.view_is, ap (λ (z : Pic). z.lists) c.self.view_is) in
    chain_within c.args.state.now.settings p c.requires.stands.0 c.args.state.now.state c.requires.stands.1 _ _ _ first (c.as_slice-4.ensures.value ∙ ap (λ (z : Pic). z.chains) c.self.view_is) (c.as_slice-5.ensures.value ∙ ap (λ (z : Pic). z.rows) c.self.view_is) i low

pub returns : goal.returns
returns c =
    let settings = c.args.state.now.settings in
    let p : Pic = c.args.self.now in
    let old : State = c.args.state.now.state in
    let e = c.args.next.now.entry in
    let new : State = after settings old e in
    let ok = c.requires.next.accepted in
    let shown = c.requires.stands.1 in
    let served = served_after settings old e shown.served ok c.change_is_sound.ensures.key c.change_is_sound.ensures.shape in
    let keys = keys_after settings old e (old_keys settings c.requires.stands.0 c.args.self.now.root old (layout_in c.args.self.now) shown.by_rows) ok in
    let nodes : c.as_slice.result.now ≡ c.args.self.now.nodes = c.as_slice.ensures.value ∙ ap (λ (z : Pic). z.nodes) c.self.view_is in
    let rows : c.as_slice-3.result.now ≡ c.args.self.now.rows = c.as_slice-3.ensures.value ∙ ap (λ (z : Pic). z.rows) c.self.view_is in
    let places : c.as_slice-4.result.now ≡ c.args.self.now.chains = c.as_slice-4.ensures.value ∙ ap (λ (z : Pic). z.chains) c.self.view_is in
    let rows_too : c.as_slice-5.result.now ≡ c.args.self.now.rows = c.as_slice-5.ensures.value ∙ ap (λ (z : Pic). z.rows) c.self.view_is in
    let first : c.len.result + c.self.inside.lists ≡ length c.args.self.now.nodes + c.args.self.now.lists = omega (arith, c.len.ensures, ap (λ (z : Pic). length z.nodes) c.self.view_is, ap (λ (z : Pic). z.lists) c.self.view_is) in
    let path = c.in_ok-path.path in
    let walk : IsPath settings old new e c.args.self.now.nodes c.args.self.now.rows c.in_ok-path.path =
    subst (λ v. IsPath settings old new e v c.args.self.now.rows c.in_ok-path.path) nodes (subst (λ v. IsPath settings old new e c.as_slice.result.now v c.in_ok-path.path) rows c.in_ok-path.ensures) in
    path_made settings p c.requires.stands.0 old e shown served keys path walk c.in_ok-chains.chains
    (λ shape only. subst (λ (f : ℕ → List ℕ). IsKeptChains f e shape new.zones c.in_ok-chains.chains) (λ i key. old_chain (places i) (rows_too i) (first i) key) (c.in_ok-chains.ensures shape only))
    c.in_ok-bodies.bodies.items c.in_ok-bodies.ensures c.in_ok-gone.gone.items
    (c.in_ok-gone.ensures
    ∙ (λ i. flat_map (gone_node (nodes i) (c.as_slice-7.ensures.value i) (rows i)) (from 0 (length (nodes i))) ++ flat_map (gone_chain e (rows_too i) (first i)) (places i)))
    c.in_ok-plan.plan c.in_ok-plan.ensures
