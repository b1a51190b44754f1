use Rattle.std.proofs.Common.{find}
use Rattle.std.specs.Str.{bytes_eq}
use Rattle.m11_asm_operands.proofs.Naming.{directs}
use Rattle.m11_asm_rules.specs.Operators.{directive_rows}
use Rattle.m11_asm_operands.proofs.operators.find_operator.Goals as goal

pub returns-in-Some : goal.returns-in-Some
returns-in-Some c =
    directs (find (λ row. bytes_eq row.name c.args.name.now) directive_rows) _ c.in-Some.directive c.in-Some.ensures
