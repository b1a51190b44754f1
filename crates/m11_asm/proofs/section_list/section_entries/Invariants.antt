use Rattle.std.proofs.Common.{◌≡◌, map, take}
use Rattle.std.specs.List.{enumerate_from}
use Rattle.m11_asm_directory.specs.FirstPass.{directory_facts}
use Rattle.m11_asm.specs.Sections.{section_entry}
use Rattle.m11_asm.proofs.section_list.section_entries.Given as goal

abbrev pub invariant-sections : goal.invariant-sections
invariant-sections l =
    l.entries.items ≡ map (section_entry (directory_facts l.first)) (take l.number (enumerate_from 0 l.first.table.now.sections))
