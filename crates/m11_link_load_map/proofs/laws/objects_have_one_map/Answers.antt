use Rattle.m11_link_load_map.proofs.OneOrder.{one_map}
use Rattle.m11_link_load_map.proofs.laws.objects_have_one_map.Goals as goal

pub returns : goal.returns
returns c = one_map
