use Rattle.m11_asm_rules.specs.SymbolUses.{reads}
use Rattle.m11_scan_expressions.specs.Tokens.{expression_of}
use Rattle.m11_asm_rules.specs.declared.meanings.Context.TheVariants.{LocalOnly, MayBeGlobal}
use Rattle.m11_asm_lines.proofs.Gathering.{added_then, failed_first}
use Rattle.m11_asm_lines.proofs.used_symbols.UsedSymbols.add_form.Goals as goal

pub returns-in_err-read-in-Indexed : goal.returns-in_err-read-in-Indexed
returns-in_err-read-in-Indexed c =
    rw c.in-Indexed.is
    (failed_first (reads MayBeGlobal (expression_of c.args.line.now.text c.in-Indexed.index))
    (reads LocalOnly (expression_of c.args.line.now.text c.in-Indexed.register))
    c.args.self.now _ c.in_err-read-in-Indexed.field-0.0 _ c.in_err-read-in-Indexed.ensures c.from_residual.ensures.1)

pub returns-in_ok-read-in-Indexed : goal.returns-in_ok-read-in-Indexed
returns-in_ok-read-in-Indexed c =
    rw c.in-Indexed.is
    (added_then (reads MayBeGlobal (expression_of c.args.line.now.text c.in-Indexed.index))
    (reads LocalOnly (expression_of c.args.line.now.text c.in-Indexed.register))
    c.args.self.now _ _ _ c.in_ok-read-in-Indexed.ensures c.read-in-Indexed.ensures)
