use Rattle.act_rows.proofs.Rising.{look_raises, lend_raises, give_back_raises, store_raises, publish_raises}
use Rattle.act_rows.proofs.law.bounds_never_fall.Goals as goal

pub returns : goal.returns
returns g c = record {
  look = look_raises g.F.Fact.fact;
  lend = lend_raises;
  give_back = give_back_raises;
  store = store_raises;
  publish = publish_raises;
}
