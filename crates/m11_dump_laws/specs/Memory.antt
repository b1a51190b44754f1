-- What the source of a tape is worth: its lines define what memory holds, and a machine that loads the linked program holds it. (RT-11 Volume
-- and File Formats Manual, "Absolute binary file format"; MACRO-11 Language Reference Manual, "Relocation and linking".)
use Rattle.std.specs.Prelude.{◌≡◌, ℕ, ◌*◌, ◌%◌, ◌<◌, ◌≤◌, ◌==◌, if◌then◌else◌, List, [], ◌∷◌, length, Option, Some, None, slice_index_or}
use Rattle.std.specs.Option.{unwrap_or}
use Rattle.m11_base.specs.Devices.{Bytes}
use Rattle.m11_base_disassembly.specs.declared.symbols.Symbol.{Symbol}
use Rattle.m11_scan.specs.Lines.{most_bytes, most_lines}
use Rattle.m11_asm.specs.Written.{flagged_in}
use Rattle.m11_asm_outcome_laws.specs.OneText.{program_after}
use Rattle.m11_asm_passes.specs.Lines.{NumberedLine}
use Rattle.m11_cpu_machine.specs.Machine.{byte_in}
use Rattle.m11_cpu_machine.specs.declared.machine.Machine.{Machine}
use Rattle.m11_cli_image.specs.Image.{image_of}
use Rattle.m11_cli_chain.specs.Sources.{source_of}
use Rattle.m11_asm_dump_laws.specs.Items as items
use Rattle.m11_dump_source.specs.Memory.{Cells}
use Rattle.m11_dump_source.specs.Texts.{source_text}
use Rattle.m11_dump_laws.specs.Items.{all_symbols, items_of}

-- the source of these cells isn't too long for an assembly
pub record IsWithinLimits (names : List Symbol) (start : ℕ) (cells : Cells) : Type 0 where
  pub bytes : length (source_text names start cells) ≤ most_bytes
  pub lines : length (items.source_of (all_symbols names start cells) start (items_of names start cells)) ≤ most_lines

-- live lines define these cells: linked alone, their program has at each address the byte of the cell, and none where the cell has none; it
-- starts here, unless that is odd; and no line is flagged
pub record DefinesMemory (bottom : ℕ) (cells : Cells) (start : ℕ) (lines : List NumberedLine) : Type 0 where
  pub byte : (address : ℕ) → (image_of bottom (source_of lines ∷ [])).byte address ≡ slice_index_or cells address None
  pub start_is : (image_of bottom (source_of lines ∷ [])).start ≡ (if start % 2 == 0 then Some start else None)
  pub unflagged : flagged_in (program_after lines) lines ≡ 0

-- a machine holds these cells, and 0 where a cell has no byte; the program starts here, or at 1, where no program starts, if that is odd
pub record HoldsMemory (words : ℕ) (cells : Cells) (start : ℕ) (machine : Machine) (begins : ℕ) : Type 0 where
  pub byte : (address : ℕ) → address < 2 * words → byte_in address machine ≡ unwrap_or (slice_index_or cells address None) 0
  pub start_is : begins ≡ (if start % 2 == 0 then start else 1)
