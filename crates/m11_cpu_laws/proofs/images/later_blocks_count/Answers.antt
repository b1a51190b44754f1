use Rattle.m11_cpu_laws.proofs.BytesPlaced.{byte_of-append}
use Rattle.m11_cpu_laws.proofs.images.later_blocks_count.Goals as goal

pub returns : goal.returns
returns c = byte_of-append
