use Rattle.std.proofs.Common.{◌≡◌, drop}
use Rattle.std.specs.Int.RustNames.{bit_or}
use Rattle.m11_asm_rules.specs.Strings.{parts_flags}
use Rattle.m11_scan.specs.Views.{bits_of}
use Rattle.m11_asm_directives.proofs.flags.parts_flags.Given as goal

abbrev pub invariant-parts : goal.invariant-parts
invariant-parts l =
    bit_or (bits_of l.flags) (parts_flags l.line.text l.column (drop l.part-index l.parts))
    ≡ bit_or 0 (parts_flags l.line.text l.start l.parts)
