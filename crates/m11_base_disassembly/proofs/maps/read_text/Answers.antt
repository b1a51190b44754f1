use Rattle.std.proofs.Common.{refl}
use Rattle.m11_base_disassembly.proofs.MapText.{none_given}
use Rattle.m11_base_disassembly.proofs.maps.read_text.Goals as goal

pub bytes-init : goal.bytes-init
bytes-init g c = rw c.new-text.ensures.items (none_given _, refl)
