-- The addresses of the lines of memory.
use Rattle.std.proofs.Common.{ℕ, zero, suc, ◌+◌, ◌-◌, ◌<◌, ◌≤◌, [], ◌∷◌, length, Some, None, arith}
use Rattle.std.specs.List.{AllByRecursion}
use Rattle.m11_dump_source.specs.Lines.{leading, lines_from, shown_at, size_shown}
use Rattle.m11_dump_source.specs.Memory.{Cells}
use Rattle.m11_dump_source.specs.declared.lines.Line.{Line}

-- a line begins below a bound
abbrev pub IsBelow : ℕ → Line → Type 0
IsBelow bound line = line.address < bound

-- the lines of cells begin below the end of these cells
pub lines_below : (bound address before : ℕ) (cells : Cells) → address + length cells ≤ bound
    → AllByRecursion (IsBelow bound) (lines_from address before cells)
lines_below bound address before [] fits = tt
lines_below bound address (suc before) (cell ∷ cells) fits = lines_below bound (address + 1) before cells (omega (arith, fits))
lines_below bound address zero (None ∷ cells) fits = lines_below bound (address + 1) 0 cells (omega (arith, fits))
lines_below bound address zero (Some byte ∷ cells) fits = (
  omega (arith, fits),
  lines_below bound (address + 1) (size_shown (shown_at address (leading 6 (Some byte ∷ cells))) - 1) cells (omega (arith, fits)),
)
