use Rattle.std.proofs.Common.{◌∙◌, ap}
use Rattle.m11_asm_rules.specs.Meanings.{flag_D, quantity_of}
use Rattle.m11_scan.specs.ErrorFlags.{flag_if}
use Rattle.m11_asm_rules.proofs.FirmMeanings.{firm_known, firm_unknown}
use Rattle.m11_asm_rules.proofs.names.firm_meaning_of.Goals as goal

pub returns-in-Some : goal.returns-in-Some
returns-in-Some c =
    c.value_of.ensures
    ∙ ap (quantity_of (flag_if c.is_doubly_defined.result flag_D)) c.firm_standing.ensures
    ∙ firm_known c.args.table.now c.args.key.now c.is_doubly_defined.result c.in-Some.definition.now c.in-Some.ensures c.is_doubly_defined.ensures

pub returns-in-None : goal.returns-in-None
returns-in-None c = c.absolute.ensures ∙ firm_unknown c.args.table.now c.args.key.now c.in-None.ensures
