use Rattle.std.proofs.Common.{◌++◌, ◌∷◌, [], ap, ◌∙◌}
use Rattle.m11_obj.specs.declared.directory.DirectoryRow.{DirectoryRow}
use Rattle.m11_asm_directory.specs.FirstPass.{directory_facts}
use Rattle.m11_asm_directory.proofs.Joining.{parts_joined}
use Rattle.m11_asm_directory.proofs.rows.directory_rows.Goals as goal

pub returns : goal.returns
returns c =
    parts_joined (directory_facts c.args.first.now) c.new-rows.result.items c.push.new.self.items c.push_identification.new.rows.items
    c.push_sections.new.rows.items c.push-2.new.self.items c.new-rows.ensures.items
    (c.in_ok-push.ensures.items ∙ ap (λ (r : DirectoryRow). c.new-rows.result.items ++ r ∷ []) c.module_row.ensures)
    c.in_ok-push_identification.ensures c.in_ok-push_sections.ensures
    (c.in_ok-push-2.ensures.items
    ∙ ap (λ (r : DirectoryRow). c.push_sections.new.rows.items ++ r ∷ []) c.transfer_row.ensures)
