-- The code's `SectionAt`, the name of a section at a column, as the definitions represent it.
use Rattle.m11_asm_rules.specs.Psects as sections
use Rattle.m11_asm_directives.specs.declared.psects.SectionAt.{SectionAt}
use Rattle.m11_asm_directives.specs.declared.psects.SectionAt.TheVariants.{Unnamed, Named, Bad}

abbrev pub section_model : SectionAt → sections.SectionAt
section_model Unnamed = sections.Unnamed
section_model (Named name) = sections.NamedAt name.name name.end
section_model Bad = sections.Bad
