use Rattle.std.proofs.Common.{◌≡◌, ◌+◌, ◌++◌, length, take}
use Rattle.m11_asm_listing.specs.Columns.{printed}
use Rattle.m11_asm_listing.proofs.columns.add_printed.Given as goal

abbrev pub invariant-loop-byte : goal.invariant-loop-byte
invariant-loop-byte l = (l.line.items ≡ l.initial.line.items ++ printed (take l.byte-index l.text))
    × (length l.line.items ≡ length l.initial.line.items + l.byte-index)
