use Rattle.std.proofs.Common.{◌%◌, [], ◌∷◌}
use Rattle.m11_asm_rules.specs.Strings.{value_codes}
use Rattle.m11_asm_directives.proofs.Packs.{codes_after}
use Rattle.m11_scan_expressions.specs.Quantities.{quantity}
use Rattle.m11_asm_directives.proofs.radix50.pack_value.Goals as goal

pub returns : goal.returns
returns c =
    codes_after c.with.result c.args.emission.now c.add_flags.new.self c.with.new.emission c.args.waiting (c.args.value.number % 64 ∷ [])
    (value_codes (quantity c.args.value)).flags _ c.value_flags.ensures c.add_flags.ensures c.with.ensures
