use Rattle.m11_base_disassembly.proofs.Nearest.{nearest_is}
use Rattle.m11_base_disassembly.proofs.laws.an_address_has_the_nearest_name.Goals as goal

pub returns : goal.returns
returns c = λ address symbols. nearest_is address symbols
