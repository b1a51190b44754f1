use Rattle.m11_asm_outcome_laws.proofs.PassesComputed.{pass_alone, pass_comes}
use Rattle.m11_asm_outcome_laws.proofs.passes.passes_come_to_what_is_computed.Goals as goal

pub returns-clause-comes : goal.returns-clause-comes
returns-clause-comes c map_ counting reading = pass_comes map_ counting reading

pub returns-clause-alone : goal.returns-clause-alone
returns-clause-alone c map_ counting reading lines result comes =
    let law = c.a_pass_has_one_end.ensures in
    pass_alone law.ends law.exceeds law.either map_ counting reading lines result comes
