use Rattle.std.proofs.Common.{◌≡◌, ap, arith, length, sym, ◌∙◌}
use Rattle.act_image.specs.Pics.{Planned}
use Rattle.act_image.proofs.WordFacts.{word_chain, word_list, word_node}
use Rattle.act_image.proofs.plan.Plan.word.Goals as goal

pub returns-then-k-nodes : goal.returns-then-k-nodes
returns-then-k-nodes c =
    let nodes : c.len-nodes.result ≡ length c.args.self.now.spots = omega (arith, c.len-nodes.ensures, ap (λ (z : Planned). length z.spots) c.self.view_is) in
    let lists : c.len-lists.result ≡ length c.args.self.now.lists = omega (arith, c.len-lists.ensures, ap (λ (z : Planned). length z.lists) c.self.view_is) in
    c.node_word.ensures ∙ sym (word_node c.args.self.now c.args.i c.args.place _ _ nodes lists c.if-k-nodes.true)

pub returns-then-k-nodes-2 : goal.returns-then-k-nodes-2
returns-then-k-nodes-2 c =
    let nodes : c.len-nodes.result ≡ length c.args.self.now.spots = omega (arith, c.len-nodes.ensures, ap (λ (z : Planned). length z.spots) c.self.view_is) in
    let lists : c.len-lists.result ≡ length c.args.self.now.lists = omega (arith, c.len-lists.ensures, ap (λ (z : Planned). length z.lists) c.self.view_is) in
    c.list_word.ensures ∙ sym (word_list c.args.self.now c.args.i c.args.place _ _ nodes lists c.if-k-nodes.false c.if-k-nodes-2.true)

pub returns-else-k-nodes-2 : goal.returns-else-k-nodes-2
returns-else-k-nodes-2 c =
    let nodes : c.len-nodes.result ≡ length c.args.self.now.spots = omega (arith, c.len-nodes.ensures, ap (λ (z : Planned). length z.spots) c.self.view_is) in
    let lists : c.len-lists.result ≡ length c.args.self.now.lists = omega (arith, c.len-lists.ensures, ap (λ (z : Planned). length z.lists) c.self.view_is) in
    c.chain_word.ensures ∙ sym (word_chain c.args.self.now c.args.i c.args.place _ _ nodes lists c.if-k-nodes-2.false)
