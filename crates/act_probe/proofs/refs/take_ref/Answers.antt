use Rattle.std.proofs.Common.{◌≡◌, ◌∙◌, sym, true, false, arith}
use Rattle.act_grid.specs.Layers.{has_layer, layer_of}
use Rattle.act_geom.specs.Inside.{is_inside}
use Rattle.act_probe.proofs.ChainFacts.{first_key}
use Rattle.act_probe.proofs.RefFacts.{left_out, hit_found, tested_found, tested_reads}
use Rattle.act_probe.proofs.refs.take_ref.Goals as goal

pub returns-then-not-has-clause-keys : goal.returns-then-not-has-clause-keys
returns-then-not-has-clause-keys g c = λ zone chain.
    let key : c.chain_key-key.result ≡ zone.key = c.chain_key-key.ensures ∙ first_key chain c.word-head.result c.word-head.ensures.word in
    let has : has_layer c.args.layers.now (layer_of c.chain_key-key.result) ≡ false = sym c.has.ensures ∙ grind arith in
    left_out c.args.layers.now c.args.p c.args.r.hit zone c.args.out.now (rw key at has)

pub returns-then-r-clause-keys : goal.returns-then-r-clause-keys
returns-then-r-clause-keys g c = λ zone chain.
    let key : c.chain_key-key.result ≡ zone.key = c.chain_key-key.ensures ∙ first_key chain c.word-head.result c.word-head.ensures.word in
    let has : has_layer c.args.layers.now (layer_of c.chain_key-key.result) ≡ true = sym c.has.ensures ∙ grind arith in
    rw (c.push.ensures, key) (hit_found c.args.layers.now c.args.p c.args.r.hit zone c.args.out.now (rw key at has) (grind arith))

pub returns-then-not-tested-clause-few : goal.returns-then-not-tested-clause-few
returns-then-not-tested-clause-few g c = λ zone chain.
    let key : c.chain_key-key.result ≡ zone.key = c.chain_key-key.ensures ∙ first_key chain c.word-head.result c.word-head.ensures.word in
    let has : has_layer c.args.layers.now (layer_of c.chain_key-key.result) ≡ true = sym c.has.ensures ∙ grind arith in
    tested_reads c.args.layers.now c.args.r.hit zone c.test-tested.result.reads (rw key at has) (grind arith) (rw c.word-head.ensures.same at c.test-tested.ensures.few zone chain)

pub returns-clause-keys : goal.returns-clause-keys
returns-clause-keys g c = λ zone chain.
    let key : c.chain_key-key.result ≡ zone.key = c.chain_key-key.ensures ∙ first_key chain c.word-head.result c.word-head.ensures.word in
    let has : has_layer c.args.layers.now (layer_of c.chain_key-key.result) ≡ true = sym c.has.ensures ∙ grind arith in
    let inside : is_inside zone.shape c.args.p ≡ true = sym ((rw c.word-head.ensures.same at c.test-tested.ensures.inside) zone chain) ∙ grind arith in
    rw (c.push-2.ensures, key) (tested_found c.args.layers.now c.args.p c.args.r.hit zone c.args.out.now (rw key at has) (grind arith) inside)

pub returns-clause-few : goal.returns-clause-few
returns-clause-few g c = λ zone chain.
    let key : c.chain_key-key.result ≡ zone.key = c.chain_key-key.ensures ∙ first_key chain c.word-head.result c.word-head.ensures.word in
    let has : has_layer c.args.layers.now (layer_of c.chain_key-key.result) ≡ true = sym c.has.ensures ∙ grind arith in
    tested_reads c.args.layers.now c.args.r.hit zone c.test-tested.result.reads (rw key at has) (grind arith) ((rw c.word-head.ensures.same at c.test-tested.ensures.few) zone chain)
