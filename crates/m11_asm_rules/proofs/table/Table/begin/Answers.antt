use Rattle.std.proofs.Common.{◌∙◌, ℕ, ap}
use Rattle.m11_base.specs.Names.{absolute_name}
use Rattle.m11_base.specs.Rad50.{Name}
use Rattle.m11_asm_rules.specs.Sections.{section}
use Rattle.m11_asm_rules.specs.Entries.{with_new_section}
use Rattle.m11_asm_rules.proofs.SectionEntries.{blank_is_new}
use Rattle.m11_asm_rules.proofs.table.Table.begin.Goals as goal

pub add_section-requires-2-clause-absent : goal.add_section-requires-2-clause-absent
add_section-requires-2-clause-absent c =
    blank_is_new c.args.self.now c.add_section.new.self c.blank_name.result c.requires
    (c.in_ok-add_section.ensures.adds
    ∙ ap (λ (n : Name). with_new_section (section n c.bits.result) c.args.self.now) c.absolute_section.ensures
    ∙ ap (λ (a : ℕ). with_new_section (section absolute_name a) c.args.self.now) (c.bits.ensures tt))
    c.blank_name.ensures.words
