use Rattle.std.proofs.Common.{◌∙◌, sym}
use Rattle.m11_base_disassembly.specs.Lines.{lines_of}
use Rattle.m11_base_disassembly.specs.Rows.{rows_of}
use Rattle.m11_base_disassembly.proofs.FoundSymbols.{one_added}
use Rattle.m11_base_disassembly.proofs.maps.add_symbols.Goals as goal

pub lines-preserved : goal.lines-preserved
lines-preserved c =
    one_added (rows_of c.args.form) (lines_of c.args.lines.now) (lines_of c.lines.rest.now) c.first_line.result.0.now
    (lines_of c.first_line.result.1.now) c.args.symbols.now.items c.lines.symbols.items c.add_symbol.new.symbols.items
    c.lines.invariant.0 c.in_ok-add_symbol.ensures.0 c.lines.invariant.1 c.lines.invariant.2 c.first_line.ensures.lines
    (sym c.is_end.ensures ∙ c.if-is_end.false) c.in_ok-add_symbol.ensures.1 c.in_ok-add_symbol.ensures.2
