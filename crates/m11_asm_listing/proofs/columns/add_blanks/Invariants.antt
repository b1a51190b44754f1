use Rattle.std.proofs.Common.{◌≡◌, ◌+◌, ◌++◌, length}
use Rattle.m11_asm_listing.specs.Columns.{blanks}
use Rattle.m11_asm_listing.proofs.columns.add_blanks.Given as goal

abbrev pub invariant-blanks : goal.invariant-blanks
invariant-blanks l = (l.line.items ≡ l.initial.line.items ++ blanks l.counter) × (length l.line.items ≡ length l.initial.line.items + l.counter)
