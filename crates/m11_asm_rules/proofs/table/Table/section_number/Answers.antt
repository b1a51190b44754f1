use Rattle.std.proofs.Common.{ap, ◌∙◌}
use Rattle.m11_asm_rules.specs.Sections.{number_of}
use Rattle.m11_asm_rules.specs.Tables.{Table}
use Rattle.m11_asm_rules.proofs.SectionEntries.{section_found}
use Rattle.m11_asm_rules.proofs.table.Table.section_number.Goals as goal

pub returns-clause-number : goal.returns-clause-number
returns-clause-number c =
    c.get_index_of.ensures.index
    ∙ section_found c.args.name c.self.inside.sections.entries
    ∙ ap (λ (t : Table). number_of c.args.name t.sections) c.self.view_is
