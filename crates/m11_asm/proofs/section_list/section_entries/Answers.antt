use Rattle.std.proofs.Common.{◌≡◌, ◌∙◌, ◌<◌, [], ◌∷◌, ◌++◌, length, arith, ap}
use Rattle.m11_asm_directory.specs.FirstPass.{directory_facts}
use Rattle.m11_asm_listing.specs.declared.symbol_table.SectionEntry.{SectionEntry}
use Rattle.m11_asm.proofs.Numbering.{entries_done, entry_added}
use Rattle.m11_asm.proofs.section_list.section_entries.Goals as goal

pub sections-preserved : goal.sections-preserved
sections-preserved c =
    let within : c.sections.number < length c.args.first.now.table.now.sections =
    omega (arith, c.sections-test.true, c.section_count-count.ensures) in
    entry_added (directory_facts c.args.first.now) c.sections.entries.items c.push.new.self.items c.sections.number within
    c.sections.invariant
    (c.in_ok-push.ensures.items ∙ ap (λ (e : SectionEntry). c.sections.entries.items ++ e ∷ []) c.section_entry.ensures)

pub returns : goal.returns
returns c =
    let all : c.sections.number ≡ length c.args.first.now.table.now.sections =
    omega (arith, c.sections-test.false, c.sections.auto.number-end, c.section_count-count.ensures) in
    entries_done (directory_facts c.args.first.now) c.sections.entries.items c.sections.number all c.sections.invariant
