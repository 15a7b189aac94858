use Rattle.act_wkt.proofs.WholeLaws.{polygons_never_cut_off, rings_never_cut_off}
use Rattle.act_wkt.proofs.laws.no_list_is_cut_off.Goals as goal

pub returns : goal.returns
returns c = record { rings = rings_never_cut_off; polygons = polygons_never_cut_off }
