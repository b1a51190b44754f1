use Rattle.std.proofs.Common.{◌∙◌, Option, ap}
use Rattle.std.specs.Option.{option_or}
use Rattle.m11_scan_expressions.specs.Quantities.{Quantity}
use Rattle.m11_scan_expressions.specs.Tokens.{expression_of}
use Rattle.m11_asm_rules.specs.Exports.{transfer}
use Rattle.m11_asm_rules.specs.Meanings.{Map}
use Rattle.m11_asm.proofs.facts.Facts.add_transfer.Goals as goal

pub returns : goal.returns
returns c =
    c.set_transfer.ensures
    ∙ ap (λ (t : Option Quantity). record c.args.self.now { transfer = option_or t c.args.self.now.transfer })
    (c.transfer.ensures
    ∙ ap (λ (m : Map). transfer m c.args.table.now (expression_of c.args.line.now.text c.args.place)) c.none.ensures)
