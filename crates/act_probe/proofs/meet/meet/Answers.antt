use Rattle.std.proofs.Common.{◌≡◌, ◌∙◌, sym, true, false, arith}
use Rattle.act_grid.specs.Layers.{has_layer, layer_of}
use Rattle.act_probe.proofs.MetFacts.{left_out, put_in}
use Rattle.act_probe.proofs.meet.meet.Goals as goal

pub returns-then-not-has-clause-ok : goal.returns-then-not-has-clause-ok
returns-then-not-has-clause-ok c = λ x m mets is chain holds.
    let has : has_layer c.args.layers.now (layer_of c.chain_key.result) ≡ false = sym c.has.ensures ∙ grind arith in
    left_out x c.args.layers.now c.args.n.now m c.args.found.now c.args.found.now mets is chain (rw c.chain_key.ensures at has) holds

pub returns-clause-ok : goal.returns-clause-ok
returns-clause-ok c = λ x m mets is chain holds.
    let has : has_layer c.args.layers.now (layer_of c.chain_key.result) ≡ true = sym c.has.ensures ∙ grind arith in
    put_in x c.args.layers.now c.args.n.now m c.args.found.now c.put.new.found mets is chain (rw c.chain_key.ensures at has) holds c.put.ensures.hits c.put.ensures.kept c.put.ensures.candidates
