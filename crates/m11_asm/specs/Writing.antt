-- The state of writing the outputs. (This project's own.)
use Rattle.std.specs.Prelude.{◌≡◌, ℕ, ◌+◌, min, Bool, true, false, if◌then◌else◌, List, [], ◌∷◌, Option}
use Rattle.m11_asm_listing.specs.declared.symbol_table.SectionEntry.{SectionEntry}
use Rattle.m11_asm_listing.specs.declared.symbol_table.SymbolEntry.{SymbolEntry}
use Rattle.m11_obj.specs.Texts.{TextParts}
use Rattle.m11_obj.specs.declared.directory.DirectoryRow.{DirectoryRow}
use Rattle.m11_scan_expressions.specs.Quantities.{Quantity}
use Rattle.m11_asm_outputs.specs.Object.{AllFit, IsOpenAfter, closed_records, head_contents}
use Rattle.m11_asm_passes.specs.Lines.{NumberedLine}
use Rattle.m11_asm.specs.Program.{Program}
use Rattle.m11_asm.specs.Written.{flagged_in, is_flagged, flag_E, pieces_in}

-- from the first pass, the rows of the directory, the transfer address and the entries of the symbol table; the open text; whether the head
-- of the object has been written; and the count of flagged lines
pub record Writing : Type 0 where
  pub rows : List DirectoryRow
  pub transfer : Option Quantity
  pub symbols : List SymbolEntry
  pub sections : List SectionEntry
  pub text : Option TextParts
  pub has_begun : Bool
  pub flagged : ℕ

abbrev pub begun : Writing → Writing
begun writing = record writing { has_begun = true }

abbrev pub opened : Option TextParts → Writing → Writing
opened text writing = record writing { text = text }

-- the greatest count of flagged lines
abbrev pub most_counted : ℕ
most_counted = 4294967295

abbrev pub counted : ℕ → ℕ → ℕ
counted flags count = if is_flagged flags then min (count + 1) most_counted else count

-- the count, including the flagged line that is added if no `.END` became live
abbrev pub counted_last : Bool → ℕ → ℕ
counted_last has_end count = if has_end then count else counted flag_E count

abbrev pub is_some_line : List NumberedLine → Bool
is_some_line [] = false
is_some_line (line ∷ lines) = true

-- this is the state of the writing after these lines
pub record WritingAfter (program : Program) (lines : List NumberedLine) (writing : Writing) : Type 0 where
  pub rows : writing.rows ≡ program.rows
  pub transfer : writing.transfer ≡ program.transfer
  pub symbols : writing.symbols ≡ program.symbols
  pub sections : writing.sections ≡ program.sections
  pub text : IsOpenAfter (pieces_in program.map lines) writing.text
  pub begun : writing.has_begun ≡ is_some_line lines
  pub flagged : writing.flagged ≡ min (flagged_in program lines) most_counted
  -- the records of the object written so far fit their blocks
  pub head : writing.has_begun ≡ true → AllFit (head_contents program.rows)
  pub closed : AllFit (closed_records (pieces_in program.map lines))
