use Rattle.std.proofs.Common.{ap, ◌∙◌}
use Rattle.m11_scan_expressions.specs.Expressions.{value}
use Rattle.m11_scan_expressions.specs.Tokens.{expression_of}
use Rattle.m11_asm_rules.specs.Meanings.{empty_map, known_at}
use Rattle.m11_asm_rules.specs.Tables.{firm_table}
use Rattle.m11_asm_rules.specs.declared.meanings.Context.TheVariants.{LocalOnly}
use Rattle.m11_asm_rules.specs.Asking.{FirmContext}
use Rattle.m11_asm_directives.proofs.storage.firm_value.Goals as goal

pub returns : goal.returns
returns c =
    c.value.ensures
    ∙ ap (λ (a : FirmContext). value (known_at empty_map LocalOnly (firm_table a.table) a.location)
    (expression_of c.args.line.now.text c.args.count))
    c.new.ensures
