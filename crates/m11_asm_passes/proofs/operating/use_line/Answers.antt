use Rattle.std.proofs.Common.{map, Ok}
use Rattle.m11_asm_rules.specs.SymbolUses.{action_uses, symbol_use}
use Rattle.m11_asm_rules.specs.declared.meanings.Context.TheVariants.{LocalOnly}
use Rattle.m11_asm_lines.proofs.Gathering.{added_then}
use Rattle.m11_asm_lines.specs.Actions.{action_in}
use Rattle.m11_asm_passes.proofs.Turning.{first_refused, second_refused}
use Rattle.m11_asm_passes.proofs.operating.use_line.Goals as goal

pub returns-in_err-use_read-clause-adds : goal.returns-in_err-use_read-clause-adds
returns-in_err-use_read-clause-adds c = λ table are.
    first_refused (map (symbol_use LocalOnly) c.args.remarks.now.symbols)
    (action_uses table c.args.line.now.text (action_in c.args.line.now.text c.args.operation.now)) c.args.used_symbols.now
    c.in_err-use_read.field-0.0 c.use_read.new.used_symbols c.from_residual.result c.from_residual.ensures.1 c.in_err-use_read.ensures.adds

pub returns-in_err-add_action-clause-adds : goal.returns-in_err-add_action-clause-adds
returns-in_err-add_action-clause-adds c = λ table are.
    second_refused (map (symbol_use LocalOnly) c.args.remarks.now.symbols)
    (action_uses table c.args.line.now.text (action_in c.args.line.now.text c.args.operation.now)) c.args.used_symbols.now
    c.use_read.new.used_symbols c.add_action.new.self c.in_err-add_action.field-0.0 c.from_residual-in_err-add_action.result
    c.from_residual-in_err-add_action.ensures.1 c.in_ok-use_read.ensures.adds (c.in_err-add_action.ensures.adds table are)

pub returns-clause-adds : goal.returns-clause-adds
returns-clause-adds c = λ table are.
    added_then (map (symbol_use LocalOnly) c.args.remarks.now.symbols)
    (action_uses table c.args.line.now.text (action_in c.args.line.now.text c.args.operation.now)) c.args.used_symbols.now
    c.use_read.new.used_symbols c.add_action.new.self (Ok tt) c.in_ok-use_read.ensures.adds (c.in_ok-add_action.ensures.adds table are)
