use Rattle.std.proofs.Common.{refl}
use Rattle.m11_asm_rules.specs.SymbolUses.{reads}
use Rattle.m11_scan_expressions.specs.Tokens.{expression_of}
use Rattle.m11_scan_expressions.specs.declared.exprs.Expr.{Expr}
use Rattle.m11_asm_rules.specs.declared.meanings.Context.TheVariants.{MayBeGlobal}
use Rattle.m11_asm_lines.proofs.Gathering.{failed_item, item_then}
use Rattle.m11_asm_lines.proofs.used_symbols.UsedSymbols.+add_elements.Goals as goal

pub returns-in_err-read-in-len1-up : goal.returns-in_err-read-in-len1-up
returns-in_err-read-in-len1-up t c =
    failed_item (λ (e : Expr). reads MayBeGlobal (expression_of c.args.line.now.text e)) c.args.elements.now _ _ c.args.self.now c.from_residual.result c.read.new.self
    c.in_err-read-in-len1-up.field-0.0 c.in-len1-up.len_at_least refl c.in_err-read-in-len1-up.ensures c.from_residual.ensures.1

pub returns-in_ok-read-in-len1-up : goal.returns-in_ok-read-in-len1-up
returns-in_ok-read-in-len1-up t c =
    item_then (λ (e : Expr). reads MayBeGlobal (expression_of c.args.line.now.text e)) c.args.elements.now _ _ c.args.self.now c.add_elements.result c.read.new.self c.add_elements.new.self
    c.in-len1-up.len_at_least refl c.in_ok-read-in-len1-up.ensures c.add_elements.ensures
