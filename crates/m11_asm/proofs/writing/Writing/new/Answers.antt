use Rattle.std.proofs.Common.{◌∙◌, List, ◌++◌, ap}
use Rattle.m11_base.specs.Rad50.{Name}
use Rattle.m11_asm_directory.specs.FirstPass.{DirectoryFacts, directory_facts}
use Rattle.m11_asm_directory.specs.Rows.{directory_rows}
use Rattle.m11_asm.specs.Sections.{section_entries}
use Rattle.m11_asm.specs.Symbols.{symbol_entries}
use Rattle.m11_asm.proofs.Putting.{stands_first}
use Rattle.m11_asm.proofs.writing.Writing.new.Goals as goal

pub returns : goal.returns
returns c =
    let table = c.args.first.now in
    let used_names = c.args.used_symbols.now in
    let facts = c.args.facts.now in
    stands_first table used_names facts _ _ _ _ _
    (c.in_ok-directory_rows.ensures ∙ ap (λ (t : DirectoryFacts). directory_rows t) c.first_pass_of-first_pass.ensures.facts)
    c.transfer.ensures
    (c.in_ok-symbol_entries.ensures
    ∙ ap (λ (names : List Name). symbol_entries (directory_facts c.first_pass_of-first_pass.result) (names ++ c.registers.result.now.keys)) c.names.ensures
    ∙ ap (λ (names : List Name). symbol_entries (directory_facts c.first_pass_of-first_pass.result) (used_names.names ++ names)) c.registers.ensures
    ∙ ap (λ (t : DirectoryFacts). symbol_entries t (used_names.names ++ used_names.registers)) c.first_pass_of-first_pass.ensures.facts)
    (c.in_ok-section_entries.ensures ∙ ap (λ (t : DirectoryFacts). section_entries t) c.first_pass_of-first_pass.ensures.facts)
    c.open_text.ensures
