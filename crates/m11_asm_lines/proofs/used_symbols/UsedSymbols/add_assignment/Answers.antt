use Rattle.m11_scan_expressions.specs.Tokens.{expression_of}
use Rattle.m11_asm_rules.specs.SymbolUses.{defined, reads}
use Rattle.m11_asm_rules.specs.declared.meanings.Context.TheVariants.{LocalOnly}
use Rattle.m11_asm_lines.proofs.Gathering.{failed_first}
use Rattle.m11_asm_lines.proofs.used_symbols.UsedSymbols.add_assignment.Goals as goal

pub returns-in_err-define : goal.returns-in_err-define
returns-in_err-define c =
    failed_first (defined c.args.name) (reads LocalOnly (expression_of c.args.line.now.text c.args.place)) c.args.self.now
    c.define.new.self c.in_err-define.field-0.0 c.from_residual.result c.in_err-define.ensures.adds c.from_residual.ensures.1
