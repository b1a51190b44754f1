use Rattle.std.proofs.Common.{◌≡◌, ◌<◌, length, arith}
use Rattle.m11_asm_directory.specs.FirstPass.{directory_facts}
use Rattle.m11_asm_directory.proofs.Joining.{section_added, sections_done}
use Rattle.m11_asm_directory.proofs.rows.push_sections.Goals as goal

pub sections-preserved : goal.sections-preserved
sections-preserved c =
    let within : c.sections.number < length c.args.first.now.table.now.sections =
    omega (arith, c.sections-test.true, c.section_count-count.ensures) in
    section_added (directory_facts c.args.first.now) c.args.rows.now.items c.sections.rows.items c.push_section.new.rows.items
    c.sections.number within c.sections.invariant c.in_ok-push_section.ensures

pub returns : goal.returns
returns c =
    let all : c.sections.number ≡ length c.args.first.now.table.now.sections =
    omega (arith, c.sections-test.false, c.sections.auto.number-end, c.section_count-count.ensures) in
    sections_done (directory_facts c.args.first.now) c.args.rows.now.items c.sections.rows.items c.sections.number all
    c.sections.invariant
