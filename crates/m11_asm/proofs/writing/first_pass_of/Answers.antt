use Rattle.m11_asm.proofs.SameFacts.{same_facts}
use Rattle.m11_asm.proofs.writing.first_pass_of.Goals as goal

pub returns-clause-facts : goal.returns-clause-facts
returns-clause-facts c =
    same_facts _ _ _ _ _ _ _ _ _ _ _ _ c.table.ensures c.referred.ensures c.weak.ensures c.title.ensures
    c.identification.ensures c.transfer.ensures
