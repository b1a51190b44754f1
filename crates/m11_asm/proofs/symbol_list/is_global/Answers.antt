use Rattle.std.proofs.Common.{◌∙◌, ◌||◌, Bool, sym, ap}
use Rattle.m11_asm_directory.specs.FirstPass.{directory_facts}
use Rattle.m11_asm.specs.Symbols.{is_needed}
use Rattle.m11_asm.proofs.Needed.{global_or_needed}
use Rattle.m11_asm.proofs.symbol_list.is_global.Goals as goal

pub returns-else-is_global : goal.returns-else-is_global
returns-else-is_global c =
    c.is_needed.ensures
    ∙ sym
    (global_or_needed (directory_facts c.args.first.now) c.args.name c.ordered_names_are_in_order.ensures
    ∙ ap (λ (b : Bool). b || is_needed (directory_facts c.args.first.now) c.args.name) (sym c.is_global.ensures ∙ c.if-is_global.false))
