-- The first section of live lines is `. ABS.`.
use Rattle.std.proofs.Common.{◌≡◌, List, ◌∷◌}
use Rattle.m11_base.specs.Names.{absolute_name, blank_name}
use Rattle.m11_asm_passes.specs.Lines.{NumberedLine, givens}
use Rattle.m11_asm_rules.specs.Meanings.{empty_map}
use Rattle.m11_asm_rules.specs.Placements.{table_after}
use Rattle.m11_asm_rules.specs.Sections.{of_absolute, of_program, section}
use Rattle.m11_asm_rules.specs.Tables.{first_table}
use Rattle.m11_asm_rules.specs.declared.sections.Section.{Section}
use Rattle.m11_cli_image.proofs.TablesGrow.{lines_grow}

pub begins_with_absolute : (lines : List NumberedLine)
    → (others : List Section) × ((table_after empty_map (givens lines)).sections ≡ section absolute_name of_absolute ∷ others)
begins_with_absolute lines =
    let grows = lines_grow empty_map first_table (givens lines) in (section blank_name of_program ∷ grows.more, grows.sections)
