use Rattle.std.proofs.Common.{◌≡◌, ◌+◌, ◌≤◌, ◌++◌, ◌&&◌, true, false, rules, ap, append-nil, arith, get_or, length, sym, ◌∙◌}
use Rattle.std.specs.List.{flat_map, list_all}
use Rattle.std.proofs.lemmas.List.{get_or_read, take_all}
use Rattle.act_grid.specs.Cell.{Address, root_cell}
use Rattle.act_super.specs.declared.entry.Entry.{Entry}
use Rattle.act_super.specs.Nodes.{IsNode, node_children}
use Rattle.act_super.specs.States.{after}
use Rattle.act_probe.proofs.EntryFacts.{node_deep}
use Rattle.act_image.specs.Fresh.{branch_stays, same_cells}
use Rattle.act_image.specs.Turned.{is_free, turned_under}
use Rattle.act_image.proofs.PruneFacts.{Untouched, prune}
use Rattle.act_image.proofs.TurnedFacts.{child_lacked, child_level, child_node, child_was, lacked, none_turned, own_stays, stay_more, stays_is, turned_back, turned_here, turned_more}
use Rattle.act_image.proofs.turned.+look.Goals as goal
use Rattle.act_image.proofs.turned.+look.Goals.{look-else-own-via-then-own+else-below, look-else-own-via-else-own, look_below-then-is_among+in_ok-stays, look_below-else-is_among+in_ok-put_new}

pub look-returns-then-is_untouched-clause-stays : goal.look-returns-then-is_untouched-clause-stays
look-returns-then-is_untouched-clause-stays t c =
    let untouched : Untouched c.args.state.now.settings c.args.state.now.state c.args.next.now.entry c.args.cell = record {
      cell = c.requires.node.cell;
      free = c.is_untouched.ensures.free c.if-is_untouched.true;
      alike = c.requires.keys c.args.cell c.requires.node.cell (c.is_untouched.ensures.keys c.if-is_untouched.true);
    } in
    sym (prune c.args.state.now.settings c.args.state.now.state c.args.next.now.entry c.args.cell untouched c.requires.was c.requires.node)

pub look-returns-then-is_untouched-clause-turned : goal.look-returns-then-is_untouched-clause-turned
look-returns-then-is_untouched-clause-turned t c =
    let untouched : Untouched c.args.state.now.settings c.args.state.now.state c.args.next.now.entry c.args.cell = record {
      cell = c.requires.node.cell;
      free = c.is_untouched.ensures.free c.if-is_untouched.true;
      alike = c.requires.keys c.args.cell c.requires.node.cell (c.is_untouched.ensures.keys c.if-is_untouched.true);
    } in
    let stays = prune c.args.state.now.settings c.args.state.now.state c.args.next.now.entry c.args.cell untouched c.requires.was c.requires.node in
    sym (ap (λ r. c.args.turned.now.items ++ r) (none_turned c.args.state.now.settings c.args.state.now.state c.args.next.now.entry c.args.cell c.requires.node stays) ∙ append-nil c.args.turned.now.items)

pub look-is_untouched-requires-clause-level : goal.look-is_untouched-requires-clause-level
look-is_untouched-requires-clause-level t c = omega (arith, node_deep c.args.state.now.settings c.args.state.now.state c.args.cell c.requires.was)

pub look-node-requires : goal.look-node-requires
look-node-requires t c = node_deep c.args.state.now.settings c.args.state.now.state c.args.cell c.requires.was

pub look-node-requires-2-clause-level : goal.look-node-requires-2-clause-level
look-node-requires-2-clause-level t c = node_deep c.args.state.now.settings c.args.state.now.state c.args.cell c.requires.was

pub look-returns-then-below-clause-stays : goal.look-returns-then-below-clause-stays
look-returns-then-below-clause-stays t c =
    let settings = c.args.state.now.settings in
    let old = c.args.state.now.state in
    let e : Entry = c.args.next.now.entry in
    let children : c.as_slice-2.result.now ≡ node_children settings (after settings old e) c.args.cell = c.as_slice-2.ensures ∙ c.in_ok-later.ensures.children in
    let own : c.is_same-own.result ≡ own_stays settings old e c.args.cell =
    c.is_same-own.ensures
    ∙ (λ j. same_cells (c.in_ok-before.ensures.leaves j) (c.in_ok-later.ensures.leaves j) && same_cells (c.in_ok-before.ensures.children j) (c.in_ok-later.ensures.children j) && list_all (is_free e old.zones) (c.in_ok-later.ensures.leaves j)) in
    let below : c.in_ok-below.below ≡ list_all (branch_stays settings old (after settings old e) e) (node_children settings (after settings old e) c.args.cell) =
    c.in_ok-below.ensures.stay ∙ ap (list_all (branch_stays settings old (after settings old e) e)) children in
    sym (stays_is settings old e c.args.cell c.requires.was c.requires.node ∙ sym (λ j. own j && below j) ∙ (λ j. c.if-own.true j && c.if-below.true j))

pub look-returns-then-below-clause-turned : goal.look-returns-then-below-clause-turned
look-returns-then-below-clause-turned t c =
    let settings = c.args.state.now.settings in
    let old = c.args.state.now.state in
    let e : Entry = c.args.next.now.entry in
    let children : c.as_slice-2.result.now ≡ node_children settings (after settings old e) c.args.cell = c.as_slice-2.ensures ∙ c.in_ok-later.ensures.children in
    let own : c.is_same-own.result ≡ own_stays settings old e c.args.cell =
    c.is_same-own.ensures
    ∙ (λ j. same_cells (c.in_ok-before.ensures.leaves j) (c.in_ok-later.ensures.leaves j) && same_cells (c.in_ok-before.ensures.children j) (c.in_ok-later.ensures.children j) && list_all (is_free e old.zones) (c.in_ok-later.ensures.leaves j)) in
    let below : c.in_ok-below.below ≡ list_all (branch_stays settings old (after settings old e) e) (node_children settings (after settings old e) c.args.cell) =
    c.in_ok-below.ensures.stay ∙ ap (list_all (branch_stays settings old (after settings old e) e)) children in
    let stays : branch_stays settings old (after settings old e) e c.args.cell ≡ true =
    stays_is settings old e c.args.cell c.requires.was c.requires.node ∙ sym (λ j. own j && below j) ∙ (λ j. c.if-own.true j && c.if-below.true j) in
    let all = c.in_ok-below.ensures.turned ∙ (λ j. c.in_ok-push.ensures.items j ++ flat_map (turned_under settings old (after settings old e) e) (children j)) in
    let count : c.len-count.result ≡ length c.args.turned.now.items = omega arith in
    turned_back settings old e c.args.cell c.requires.node c.args.turned.now.items c.look_below.new.turned.items all c.len-count.result c.truncate.new.self.items stays count c.truncate.ensures.items

pub look-returns-clause-stays : goal.look-returns-clause-stays
look-returns-clause-stays t c =
    let settings = c.args.state.now.settings in
    let old = c.args.state.now.state in
    let e : Entry = c.args.next.now.entry in
    let children : c.as_slice-2.result.now ≡ node_children settings (after settings old e) c.args.cell = c.as_slice-2.ensures ∙ c.in_ok-later.ensures.children in
    let own : c.is_same-own.result ≡ own_stays settings old e c.args.cell =
    c.is_same-own.ensures
    ∙ (λ j. same_cells (c.in_ok-before.ensures.leaves j) (c.in_ok-later.ensures.leaves j) && same_cells (c.in_ok-before.ensures.children j) (c.in_ok-later.ensures.children j) && list_all (is_free e old.zones) (c.in_ok-later.ensures.leaves j)) in
    let below : c.in_ok-below.below ≡ list_all (branch_stays settings old (after settings old e) e) (node_children settings (after settings old e) c.args.cell) =
    c.in_ok-below.ensures.stay ∙ ap (list_all (branch_stays settings old (after settings old e) e)) children in
    let both : (c.is_same-own.result && c.in_ok-below.below) ≡ false = elim c.else-own.branch [
      | look-else-own-via-then-own+else-below w ↦ λ j. w.if-own.true j && w.if-below.false j
      | look-else-own-via-else-own w ↦ ap (λ b. b && c.in_ok-below.below) w.if-own.false
    ] in
    sym (stays_is settings old e c.args.cell c.requires.was c.requires.node ∙ sym (λ j. own j && below j) ∙ both)

pub look-returns-clause-turned : goal.look-returns-clause-turned
look-returns-clause-turned t c =
    let settings = c.args.state.now.settings in
    let old = c.args.state.now.state in
    let e : Entry = c.args.next.now.entry in
    let children : c.as_slice-2.result.now ≡ node_children settings (after settings old e) c.args.cell = c.as_slice-2.ensures ∙ c.in_ok-later.ensures.children in
    let own : c.is_same-own.result ≡ own_stays settings old e c.args.cell =
    c.is_same-own.ensures
    ∙ (λ j. same_cells (c.in_ok-before.ensures.leaves j) (c.in_ok-later.ensures.leaves j) && same_cells (c.in_ok-before.ensures.children j) (c.in_ok-later.ensures.children j) && list_all (is_free e old.zones) (c.in_ok-later.ensures.leaves j)) in
    let below : c.in_ok-below.below ≡ list_all (branch_stays settings old (after settings old e) e) (node_children settings (after settings old e) c.args.cell) =
    c.in_ok-below.ensures.stay ∙ ap (list_all (branch_stays settings old (after settings old e) e)) children in
    let both : (c.is_same-own.result && c.in_ok-below.below) ≡ false = elim c.else-own.branch [
      | look-else-own-via-then-own+else-below w ↦ λ j. w.if-own.true j && w.if-below.false j
      | look-else-own-via-else-own w ↦ ap (λ b. b && c.in_ok-below.below) w.if-own.false
    ] in
    let stays : branch_stays settings old (after settings old e) e c.args.cell ≡ false = stays_is settings old e c.args.cell c.requires.was c.requires.node ∙ sym (λ j. own j && below j) ∙ both in
    let all = c.in_ok-below.ensures.turned ∙ (λ j. c.in_ok-push.ensures.items j ++ flat_map (turned_under settings old (after settings old e) e) (children j)) in
    turned_here settings old e c.args.cell c.requires.node c.args.turned.now.items c.look_below.new.turned.items all stays

pub look_below-look-requires : goal.look_below-look-requires
look_below-look-requires t c =
    let settings = c.args.state.now.settings in
    let old = c.args.state.now.state in
    let e : Entry = c.args.next.now.entry in
    let list = c.args.later.now in
    let i = c.loop-i.i in
    let child : Address = c.index-later-i.result in
    let is : child ≡ get_or list i root_cell = get_or_read list i child c.loop-i-test.true c.index-later-i.is root_cell in
    let deep : c.args.cell.level ≤ 24 = node_deep settings old c.args.cell c.requires.was in
    let level : child.level ≡ c.args.cell.level + 4 = child_level settings old e c.args.cell list i child c.requires.node c.requires.later c.loop-i-test.true is in
    let node : IsNode settings (after settings old e) child = child_node settings old e c.args.cell list i child c.requires.node c.requires.later c.loop-i-test.true is in
    let was : IsNode settings old child = child_was settings old e c.args.cell list i child c.requires.node c.requires.later c.loop-i-test.true is c.args.before.now c.requires.before c.requires.was (sym c.is_among.ensures ∙ c.if-is_among.true) in
    search rules

pub look_below-put_new-requires-clause-lacks : goal.look_below-put_new-requires-clause-lacks
look_below-put_new-requires-clause-lacks t c =
    let settings = c.args.state.now.settings in
    let old = c.args.state.now.state in
    let e : Entry = c.args.next.now.entry in
    let list = c.args.later.now in
    let i = c.loop-i.i in
    let child : Address = c.index-later-i.result in
    let is : child ≡ get_or list i root_cell = get_or_read list i child c.loop-i-test.true c.index-later-i.is root_cell in
    child_lacked settings old e c.args.cell list i child c.requires.node c.requires.later c.loop-i-test.true is c.args.before.now c.requires.before c.requires.was (sym c.is_among.ensures ∙ c.if-is_among.false)

pub look_below-put_new-requires-clause-node : goal.look_below-put_new-requires-clause-node
look_below-put_new-requires-clause-node t c =
    let settings = c.args.state.now.settings in
    let old = c.args.state.now.state in
    let e : Entry = c.args.next.now.entry in
    let list = c.args.later.now in
    let i = c.loop-i.i in
    let child : Address = c.index-later-i.result in
    let is : child ≡ get_or list i root_cell = get_or_read list i child c.loop-i-test.true c.index-later-i.is root_cell in
    child_node settings old e c.args.cell list i child c.requires.node c.requires.later c.loop-i-test.true is

pub look_below-loop-i-preserved : goal.look_below-loop-i-preserved
look_below-loop-i-preserved t c =
    let settings = c.args.state.now.settings in
    let old = c.args.state.now.state in
    let e : Entry = c.args.next.now.entry in
    let list = c.args.later.now in
    let i = c.loop-i.i in
    let child : Address = c.index-later-i.result in
    let is : child ≡ get_or list i root_cell = get_or_read list i child c.loop-i-test.true c.index-later-i.is root_cell in
    elim c.if-is_among.branch [
      | look_below-then-is_among+in_ok-stays w ↦ record {
        stay = w.stay-is ∙ stay_more settings old e c.args.cell list i child c.requires.node c.requires.later c.loop-i-test.true is w.in_ok-stays.stays c.loop-i.stay c.loop-i.invariant.stay w.in_ok-stays.ensures.stays;
        turned = ap (λ v. v.items) w.turned-is
            ∙ turned_more settings old e c.args.cell list i child c.requires.node c.requires.later c.loop-i-test.true is c.args.turned.now.items c.loop-i.turned.items w.look.new.turned.items c.loop-i.invariant.turned w.in_ok-stays.ensures.turned;
      }
      | look_below-else-is_among+in_ok-put_new w ↦
          let lacks = child_lacked settings old e c.args.cell list i child c.requires.node c.requires.later c.loop-i-test.true is c.args.before.now c.requires.before c.requires.was (sym c.is_among.ensures ∙ w.if-is_among.false) in
          let node = child_node settings old e c.args.cell list i child c.requires.node c.requires.later c.loop-i-test.true is in
          record {
            stay = w.stay-is ∙ stay_more settings old e c.args.cell list i child c.requires.node c.requires.later c.loop-i-test.true is false c.loop-i.stay c.loop-i.invariant.stay (sym (lacked settings old e child node lacks));
            turned = ap (λ v. v.items) w.turned-is
                ∙ turned_more settings old e c.args.cell list i child c.requires.node c.requires.later c.loop-i-test.true is c.args.turned.now.items c.loop-i.turned.items w.put_new.new.turned.items c.loop-i.invariant.turned w.in_ok-put_new.ensures;
          }
    ]

pub look_below-returns-clause-stay : goal.look_below-returns-clause-stay
look_below-returns-clause-stay t c =
    let settings = c.args.state.now.settings in
    let old = c.args.state.now.state in
    let e : Entry = c.args.next.now.entry in
    c.loop-i.invariant.stay ∙ ap (list_all (branch_stays settings old (after settings old e) e)) (take_all c.loop-i.i c.args.later.now c.loop-i-test.false)

pub look_below-returns-clause-turned : goal.look_below-returns-clause-turned
look_below-returns-clause-turned t c =
    let settings = c.args.state.now.settings in
    let old = c.args.state.now.state in
    let e : Entry = c.args.next.now.entry in
    c.loop-i.invariant.turned ∙ ap (λ cells. c.args.turned.now.items ++ flat_map (turned_under settings old (after settings old e) e) cells) (take_all c.loop-i.i c.args.later.now c.loop-i-test.false)
