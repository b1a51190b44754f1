use Rattle.std.proofs.Common.{[], ◌∷◌, ◌∙◌}
use Rattle.m11_asm_listing.specs.SymbolTable.{empty_line, title_line}
use Rattle.m11_asm_outputs.specs.Outputs.{assembly}
use Rattle.m11_asm.specs.Listed.{all_to_listing}
use Rattle.m11_base_writes.proofs.Writing.{stopped_first, writes_then}
use Rattle.m11_asm.proofs.ListedLines.{writes_line}
use Rattle.m11_asm.proofs.symbol_table.put_title.Goals as goal

pub returns-in_err-put_empty : goal.returns-in_err-put_empty
returns-in_err-put_empty g c = λ object messages.
    stopped_first assembly _ _ (all_to_listing (empty_line ∷ [])) (all_to_listing (title_line ∷ [])) _ _
    (c.in_err-put_empty.ensures object messages) c.from_residual.ensures.1

pub returns : goal.returns
returns g c = λ object messages.
    writes_then assembly _ _ _ (all_to_listing (empty_line ∷ [])) (all_to_listing (title_line ∷ [])) _
    (c.in_ok-put_empty.ensures object messages)
    (writes_line _ _ _ _ _ (c.as_slice.ensures.value ∙ c.title_line.ensures) (c.put_report.ensures.writes object messages))
