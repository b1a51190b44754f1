use Rattle.std.proofs.Common.{◌≡◌, ◌∙◌, ◌⊎◌, List, inl, inr, sym, subst, ap}
use Rattle.m11_base.specs.Devices.{Bytes}
use Rattle.std.specs.List.{flat_map}
use Rattle.m11_scan_expressions.specs.Tokens.{expression_of}
use Rattle.m11_scan_expressions.specs.declared.exprs.Expr.{Expr}
use Rattle.m11_scan_statements.specs.declared.parts.Part.{Part}
use Rattle.m11_asm_directives.specs.Stored.{storage_model}
use Rattle.m11_asm_directives.specs.declared.stored.Arguments.{Arguments}
use Rattle.m11_asm_directives.specs.declared.stored.Storage.{Storage}
use Rattle.m11_asm_directives.specs.declared.stored.Storage.TheVariants.{WordList, ByteList}
use Rattle.m11_asm_operands.specs.Elements.{elements_model}
use Rattle.m11_asm_rules.specs.Strings.{content_in, contents_of}
use Rattle.m11_asm_rules.specs.SymbolUses.{SymbolUse, part_use, reads, storage_uses}
use Rattle.m11_asm_rules.specs.declared.meanings.Context.TheVariants.{LocalOnly, MayBeGlobal}
use Rattle.m11_asm_lines.specs.UsedSymbols.{Adds}
use Rattle.m11_asm_lines.proofs.EachSeen.{each_seen}
use Rattle.m11_asm_lines.proofs.used_symbols.UsedSymbols.add_storage.Goals as goal

-- a list of bytes uses the symbols that a list of words uses
list_uses : (line : Bytes) (arguments : Arguments) (storage : Storage) → (storage ≡ WordList) ⊎ (storage ≡ ByteList)
    → storage_uses (storage_model line arguments WordList) ≡ storage_uses (storage_model line arguments storage)
list_uses line arguments storage (inl is) = ap (λ (s : Storage). storage_uses (storage_model line arguments s)) (sym is)
list_uses line arguments storage (inr is) = ap (λ (s : Storage). storage_uses (storage_model line arguments s)) (sym is)

pub returns-in-WordList : goal.returns-in-WordList
returns-in-WordList c =
    let line = c.args.line.now.text in
    let P : List SymbolUse → Type 0 = λ uses. Adds uses c.args.self.now c.add_elements.new.self c.add_elements.result in
    subst P
    (each_seen (reads MayBeGlobal) (expression_of line) c.as_slice-elements.result.now
    ∙ ap (λ (l : List Expr). flat_map (reads MayBeGlobal) (elements_model line l)) c.as_slice-elements.ensures.value
    ∙ list_uses line c.args.arguments.now c.args.storage c.in-WordList.is)
    c.add_elements.ensures

pub returns-in-Text : goal.returns-in-Text
returns-in-Text c =
    let line = c.args.line.now.text in
    let P : List SymbolUse → Type 0 = λ uses. Adds uses c.args.self.now c.add_parts.new.self c.add_parts.result in
    subst P
    (each_seen (part_use MayBeGlobal) (content_in line) c.as_slice-parts.result.now
    ∙ ap (λ (l : List Part). flat_map (part_use MayBeGlobal) (contents_of line l)) c.as_slice-parts.ensures.value
    ∙ ap (λ (s : Storage). storage_uses (storage_model line c.args.arguments.now s)) (sym c.in-Text.is))
    c.add_parts.ensures

pub returns-in-PackedText : goal.returns-in-PackedText
returns-in-PackedText c =
    let line = c.args.line.now.text in
    let P : List SymbolUse → Type 0 = λ uses. Adds uses c.args.self.now c.add_parts-in-PackedText.new.self c.add_parts-in-PackedText.result in
    subst P
    (each_seen (part_use LocalOnly) (content_in line) c.as_slice-parts.result.now
    ∙ ap (λ (l : List Part). flat_map (part_use LocalOnly) (contents_of line l)) c.as_slice-parts.ensures.value
    ∙ ap (λ (s : Storage). storage_uses (storage_model line c.args.arguments.now s)) (sym c.in-PackedText.is))
    c.add_parts-in-PackedText.ensures
