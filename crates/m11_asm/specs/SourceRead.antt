-- What either pass has read from its feeds when it ends without a fault. (MACRO-11 Language Reference Manual, ".END directive".)
use Rattle.std.specs.Prelude.{◌≡◌, Bool, true, false, List, ◌++◌, None}
use Rattle.m11_scan.specs.Line.{SourceLine}
use Rattle.m11_scan_line_laws.specs.Readings.{Reading}
use Rattle.m11_asm.specs.Extents.{HaveGiven}
use Rattle.m11_base_writes.specs.Passes.{Pass}
use Rattle.m11_asm.specs.Passes.{Reads}

-- these lines of a reading were read: up to the one in which `.END` became live, or all of them
abbrev pub AreLinesRead : Reading → List SourceLine → Bool → Type 0
AreLinesRead reading source true = (more : List SourceLine) × (reading.lines ≡ source ++ more)
AreLinesRead reading source false = (reading.lines ≡ source) × (reading.fault ≡ None)

-- the pass is done with all lines that it reads from the feeds
pub record SourceRead {F : Type 0} (pass : Pass F) (After : List SourceLine → Type 0) (has_ended : Bool) : Type 0 where
  pub reading : Reading
  pub reads : Reads pass reading
  pub source : List SourceLine
  pub stands : After source
  pub lines_are_read : AreLinesRead reading source has_ended
  pub given : HaveGiven pass source has_ended
