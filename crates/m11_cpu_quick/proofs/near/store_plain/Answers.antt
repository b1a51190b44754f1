use Rattle.m11_cpu_quick.proofs.ResultsPut.{not_status}
use Rattle.m11_cpu_quick.proofs.near.store_plain.Goals as goal

pub returns-in-Word-clause-status : goal.returns-in-Word-clause-status
returns-in-Word-clause-status c = not_status _ _ _ c.requires c.set_word.ensures.limit

pub returns-in-Byte-clause-status : goal.returns-in-Byte-clause-status
returns-in-Byte-clause-status c = not_status _ _ _ c.requires c.set_byte.ensures.limit
