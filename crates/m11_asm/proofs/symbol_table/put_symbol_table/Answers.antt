use Rattle.std.proofs.Common.{◌++◌}
use Rattle.m11_asm_outputs.specs.Outputs.{assembly}
use Rattle.m11_base_writes.proofs.Writing.{stopped_first, writes_then}
use Rattle.m11_asm.proofs.ListedLines.{areas, gap, last, names, table_parts, title}
use Rattle.m11_asm_outputs.proofs.Looping.{writes_as}
use Rattle.m11_asm.proofs.symbol_table.put_symbol_table.Goals as goal

pub returns-in_err-put_title : goal.returns-in_err-put_title
returns-in_err-put_title g c = λ object messages.
    let y = c.args.symbols.now in
    let s = c.args.sections.now in
    let n = c.args.count in
    writes_as _ _ _ _ _ (table_parts y s n)
    (stopped_first assembly _ _ (title y s n) (names y s n ++ (gap y s n ++ (areas y s n ++ last y s n))) _ _
    (c.in_err-put_title.ensures object messages) c.from_residual.ensures.1)

pub returns-in_err-put_symbols : goal.returns-in_err-put_symbols
returns-in_err-put_symbols g c = λ object messages.
    let y = c.args.symbols.now in
    let s = c.args.sections.now in
    let n = c.args.count in
    writes_as _ _ _ _ _ (table_parts y s n)
    (writes_then assembly _ _ _ (title y s n) (names y s n ++ (gap y s n ++ (areas y s n ++ last y s n))) _ (c.in_ok-put_title.ensures object messages)
    (stopped_first assembly _ _ (names y s n) (gap y s n ++ (areas y s n ++ last y s n)) _ _
    (c.in_err-put_symbols.ensures object messages) c.from_residual-in_err-put_symbols.ensures.1))

pub returns-in_err-put_empty : goal.returns-in_err-put_empty
returns-in_err-put_empty g c = λ object messages.
    let y = c.args.symbols.now in
    let s = c.args.sections.now in
    let n = c.args.count in
    writes_as _ _ _ _ _ (table_parts y s n)
    (writes_then assembly _ _ _ (title y s n) (names y s n ++ (gap y s n ++ (areas y s n ++ last y s n))) _ (c.in_ok-put_title.ensures object messages)
    (writes_then assembly _ _ _ (names y s n) (gap y s n ++ (areas y s n ++ last y s n)) _ (c.in_ok-put_symbols.ensures object messages)
    (stopped_first assembly _ _ (gap y s n) (areas y s n ++ last y s n) _ _
    (c.in_err-put_empty.ensures object messages) c.from_residual-in_err-put_empty.ensures.1)))

pub returns-in_err-put_sections : goal.returns-in_err-put_sections
returns-in_err-put_sections g c = λ object messages.
    let y = c.args.symbols.now in
    let s = c.args.sections.now in
    let n = c.args.count in
    writes_as _ _ _ _ _ (table_parts y s n)
    (writes_then assembly _ _ _ (title y s n) (names y s n ++ (gap y s n ++ (areas y s n ++ last y s n))) _ (c.in_ok-put_title.ensures object messages)
    (writes_then assembly _ _ _ (names y s n) (gap y s n ++ (areas y s n ++ last y s n)) _ (c.in_ok-put_symbols.ensures object messages)
    (writes_then assembly _ _ _ (gap y s n) (areas y s n ++ last y s n) _ (c.in_ok-put_empty.ensures object messages)
    (stopped_first assembly _ _ (areas y s n) (last y s n) _ _
    (c.in_err-put_sections.ensures object messages) c.from_residual-in_err-put_sections.ensures.1))))

pub returns : goal.returns
returns g c = λ object messages.
    let y = c.args.symbols.now in
    let s = c.args.sections.now in
    let n = c.args.count in
    writes_as _ _ _ _ _ (table_parts y s n)
    (writes_then assembly _ _ _ (title y s n) (names y s n ++ (gap y s n ++ (areas y s n ++ last y s n))) _ (c.in_ok-put_title.ensures object messages)
    (writes_then assembly _ _ _ (names y s n) (gap y s n ++ (areas y s n ++ last y s n)) _ (c.in_ok-put_symbols.ensures object messages)
    (writes_then assembly _ _ _ (gap y s n) (areas y s n ++ last y s n) _ (c.in_ok-put_empty.ensures object messages)
    (writes_then assembly _ _ _ (areas y s n) (last y s n) _ (c.in_ok-put_sections.ensures object messages)
    (c.put_last.ensures object messages)))))
