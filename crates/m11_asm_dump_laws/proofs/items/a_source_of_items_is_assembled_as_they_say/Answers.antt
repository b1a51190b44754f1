use Rattle.std.proofs.Common.{[], ◌∷◌}
use Rattle.m11_asm_dump_laws.proofs.Example.{branch, branch_formed, branch_text, label}
use Rattle.m11_asm_dump_laws.proofs.WholeItems.{items_assembled}
use Rattle.m11_asm_dump_laws.proofs.items.a_source_of_items_is_assembled_as_they_say.Goals as goal

pub returns-clause-says : goal.returns-clause-says
returns-clause-says c = items_assembled c.placements_are_the_same_under_every_map.ensures

pub returns-clause-example : goal.returns-clause-example
returns-clause-example c = (label ∷ [], branch, branch_formed, branch_text)
