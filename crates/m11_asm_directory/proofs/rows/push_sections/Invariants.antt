use Rattle.std.proofs.Common.{◌≡◌, ◌++◌, take}
use Rattle.std.specs.List.{enumerate_from, flat_map}
use Rattle.m11_asm_directory.specs.FirstPass.{directory_facts}
use Rattle.m11_asm_directory.specs.Rows.{section_rows}
use Rattle.m11_asm_directory.proofs.rows.push_sections.Given as goal

abbrev pub invariant-sections : goal.invariant-sections
invariant-sections l =
    l.rows.items ≡ l.initial.rows.items
    ++ flat_map (section_rows (directory_facts l.first)) (take l.number (enumerate_from 0 l.first.table.now.sections))
