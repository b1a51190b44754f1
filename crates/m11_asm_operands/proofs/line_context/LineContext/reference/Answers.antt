use Rattle.std.proofs.Common.{ap, ◌∙◌}
use Rattle.m11_scan_expressions.specs.Expressions.{value}
use Rattle.m11_scan_expressions.specs.Tokens.{expression_of}
use Rattle.m11_asm_operands.specs.LineContext.{Standpoint}
use Rattle.m11_asm_rules.specs.Meanings.{known_at}
use Rattle.m11_asm_rules.specs.declared.meanings.Context.TheVariants.{MayBeGlobal}
use Rattle.m11_asm_rules.specs.Asking.{LookupContext}
use Rattle.m11_asm_operands.proofs.line_context.LineContext.reference.Goals as goal

pub returns : goal.returns
returns c =
    c.value.ensures
    ∙ ap (λ (a : LookupContext). value (known_at a.map a.context a.table a.location) (expression_of c.self.inside.line.now.text c.args.place))
    c.new-names.ensures
    ∙ ap (λ (s : Standpoint). value (known_at s.map MayBeGlobal s.table s.location) (expression_of s.line c.args.place)) c.self.view_is
