use Rattle.std.proofs.Common.{[], ◌∷◌, ◌++◌, List, Option, sym, ap, subst, ℕ, ◌∙◌}
use Rattle.m11_asm_outputs.specs.Object.{IsOpenAfter, content_writes, last_records}
use Rattle.m11_asm_outputs.specs.Outputs.{assembly}
use Rattle.m11_base_writes.specs.Outputs.{Write, flushes, to_messages}
use Rattle.m11_asm.specs.Listed.{all_to_listing}
use Rattle.m11_asm_listing.specs.Messages.{count_line}
use Rattle.m11_asm_listing.specs.SymbolTable.{last_lines}
use Rattle.m11_obj.specs.Records.{EndOfModule}
use Rattle.m11_obj.specs.Texts.{TextParts}
use Rattle.m11_base_writes.proofs.Writing.{gains_then, stopped_alone, stopped_first, writes_then}
use Rattle.m11_asm.specs.Writing.{Writing}
use Rattle.m11_asm_outputs.proofs.Looping.{writes_as}
use Rattle.m11_asm.proofs.Putting.{gains_as, stops_as, table_so}
use Rattle.m11_asm.proofs.writing.Writing.close.Goals as goal

pub returns-in_err-put_last-clause-writes : goal.returns-in_err-put_last-clause-writes
returns-in_err-put_last-clause-writes g c = λ pieces opens.
    let P : Option TextParts → Type 0 = λ t. IsOpenAfter pieces t in
    let self = c.args.self.now in
    let table : List Write = all_to_listing (last_lines self.symbols self.sections self.flagged) in
    let count : List Write = flushes ++ to_messages (count_line self.flagged) ∷ [] in
    stopped_first assembly _ _ (content_writes (last_records pieces ++ EndOfModule ∷ [])) (table ++ count) _ _
    (c.in_err-put_last.ensures.writes pieces (subst P (sym (ap (λ (w : Writing). w.text) c.self.view_is) ∙ sym c.replace-text.ensures.value) opens) _ _)
    c.from_residual.ensures.1

pub returns-in_err-put_symbol_table-clause-writes : goal.returns-in_err-put_symbol_table-clause-writes
returns-in_err-put_symbol_table-clause-writes g c = λ pieces opens.
    let P : Option TextParts → Type 0 = λ t. IsOpenAfter pieces t in
    let self = c.args.self.now in
    let table : List Write = all_to_listing (last_lines self.symbols self.sections self.flagged) in
    let count : List Write = flushes ++ to_messages (count_line self.flagged) ∷ [] in
    writes_then assembly _ _ _ (content_writes (last_records pieces ++ EndOfModule ∷ [])) (table ++ count) _
    (c.in_ok-put_last.ensures.writes pieces (subst P (sym (ap (λ (w : Writing). w.text) c.self.view_is) ∙ sym c.replace-text.ensures.value) opens) _ _)
    (stopped_first assembly _ _ table count _ _
    (stops_as _ _ _ _ _
    (table_so self _ _ _ (c.as_slice-symbols.ensures.value ∙ ap (λ (w : Writing). w.symbols) c.self.view_is)
    (c.as_slice.ensures.value ∙ ap (λ (w : Writing). w.sections) c.self.view_is) (ap (λ (w : Writing). w.flagged) c.self.view_is))
    (c.in_err-put_symbol_table.ensures _ _)) c.from_residual-in_err-put_symbol_table.ensures.1)

pub returns-in_err-flush_and_count-clause-writes : goal.returns-in_err-flush_and_count-clause-writes
returns-in_err-flush_and_count-clause-writes g c = λ pieces opens.
    let P : Option TextParts → Type 0 = λ t. IsOpenAfter pieces t in
    let self = c.args.self.now in
    let table : List Write = all_to_listing (last_lines self.symbols self.sections self.flagged) in
    let count : List Write = flushes ++ to_messages (count_line self.flagged) ∷ [] in
    writes_then assembly _ _ _ (content_writes (last_records pieces ++ EndOfModule ∷ [])) (table ++ count) _
    (c.in_ok-put_last.ensures.writes pieces (subst P (sym (ap (λ (w : Writing). w.text) c.self.view_is) ∙ sym c.replace-text.ensures.value) opens) _ _)
    (writes_then assembly _ _ _ table count _
    (gains_as _ _ _ _
    (table_so self _ _ _ (c.as_slice-symbols.ensures.value ∙ ap (λ (w : Writing). w.symbols) c.self.view_is)
    (c.as_slice.ensures.value ∙ ap (λ (w : Writing). w.sections) c.self.view_is) (ap (λ (w : Writing). w.flagged) c.self.view_is))
    (c.in_ok-put_symbol_table.ensures _ _))
    (writes_as _ _ _ _ _ (ap (λ (n : ℕ). flushes ++ to_messages (count_line n) ∷ []) (ap (λ (w : Writing). w.flagged) c.self.view_is))
    (stopped_alone assembly _ _ _ _ _ (c.in_err-flush_and_count.ensures.writes) c.from_residual-in_err-flush_and_count.ensures.1)))

pub returns-clause-writes : goal.returns-clause-writes
returns-clause-writes g c = λ pieces opens.
    let P : Option TextParts → Type 0 = λ t. IsOpenAfter pieces t in
    let self = c.args.self.now in
    let table : List Write = all_to_listing (last_lines self.symbols self.sections self.flagged) in
    let count : List Write = flushes ++ to_messages (count_line self.flagged) ∷ [] in
    gains_then assembly _ _ _ (content_writes (last_records pieces ++ EndOfModule ∷ [])) (table ++ count)
    (c.in_ok-put_last.ensures.writes pieces (subst P (sym (ap (λ (w : Writing). w.text) c.self.view_is) ∙ sym c.replace-text.ensures.value) opens) _ _)
    (gains_then assembly _ _ _ table count
    (gains_as _ _ _ _
    (table_so self _ _ _ (c.as_slice-symbols.ensures.value ∙ ap (λ (w : Writing). w.symbols) c.self.view_is)
    (c.as_slice.ensures.value ∙ ap (λ (w : Writing). w.sections) c.self.view_is) (ap (λ (w : Writing). w.flagged) c.self.view_is))
    (c.in_ok-put_symbol_table.ensures _ _))
    (gains_as _ _ _ _ (ap (λ (n : ℕ). flushes ++ to_messages (count_line n) ∷ []) (ap (λ (w : Writing). w.flagged) c.self.view_is))
    (c.in_ok-flush_and_count.ensures.writes)))

pub returns-clause-fit : goal.returns-clause-fit
returns-clause-fit g c = λ pieces opens.
    let P : Option TextParts → Type 0 = λ t. IsOpenAfter pieces t in
    c.in_ok-put_last.ensures.fit pieces (subst P (sym (ap (λ (w : Writing). w.text) c.self.view_is) ∙ sym c.replace-text.ensures.value) opens)
