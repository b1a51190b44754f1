-- A program of two sources, worked by hand: the first fetches a word of the second by its name, and halts. (MACRO-11 Language Reference
-- Manual, "Relocation and linking".)
use Rattle.std.specs.Prelude.{ℕ, ◌==◌, if◌then◌else◌, false, List, [], ◌∷◌, codes, None}
use Rattle.std.specs.List.{flat_map}
use Rattle.m11_scan_expressions.specs.Expressions.{known_by}
use Rattle.m11_scan_expressions.specs.Remarks.{no_remarks}
use Rattle.m11_base.specs.Devices.{Bytes}
use Rattle.m11_scan.specs.Line.{line_of}
use Rattle.m11_asm_rules.specs.Meanings.{empty_map}
use Rattle.m11_asm_rules.specs.Placements.{placement, program_map, table_after}
use Rattle.m11_asm_rules.specs.Sources.{transfer_after}
use Rattle.m11_asm_rules.specs.Tables.{first_table}
use Rattle.m11_scan.specs.declared.radix.Radix.TheVariants.{Octal}
use Rattle.m11_unfold_rules.specs.Unfolding.{UnfoldedLine}
use Rattle.m11_scan_expressions.specs.Quantities.{absolute}
use Rattle.m11_cli_image.specs.Addresses.{Addresses}
use Rattle.m11_cli_image.specs.Sources.{Source}
use Rattle.m11_cli_image.specs.Agreement.{placed_pieces}

abbrev pub worked_line : Bytes → UnfoldedLine
worked_line text = record {
  live = record { line = line_of text; is_expanded = false };
  known = known_by Octal (λ symbol. absolute 0 0);
  is_own = false;
  remarks = no_remarks;
  arguments = None;
}

abbrev pub fetching : List UnfoldedLine
fetching =
    worked_line (codes "START: MOV VALUE,R0")
    ∷ worked_line (codes " HALT")
    ∷ worked_line (codes " .END START")
    ∷ []

abbrev pub giving : List UnfoldedLine
giving = worked_line (codes "VALUE:: .WORD 123") ∷ []

-- the source that consists of these lines
abbrev pub worked_source : List UnfoldedLine → Source
worked_source lines = record {
  facts = record {
    table = table_after empty_map lines;
    referred = [];
    weak = [];
    title = None;
    identification = None;
    transfer = transfer_after empty_map first_table lines;
  };
  pieces = flat_map placed_pieces (placement (program_map lines) lines);
}

abbrev pub worked_sources : List Source
worked_sources = worked_source fetching ∷ worked_source giving ∷ []

-- the addresses of the program: the first source contributes six bytes at octal 1000, and the second one two bytes at octal 1006
abbrev pub worked_addresses : Addresses
worked_addresses = record {
  base = λ source name. if source == 0 then 0o1000 else 0o1006;
  global = λ name. 0o1006;
  bottom = 0o1000;
  top = 0o1010;
}

-- the words of the program at their addresses: MOV, the distance of VALUE from octal 1004, HALT, and octal 123
abbrev pub worked_bytes : List (ℕ × Bytes)
worked_bytes =
    (0o1000, 0o300 ∷ 0o035 ∷ [])
    ∷ (0o1002, 2 ∷ 0 ∷ [])
    ∷ (0o1004, 0 ∷ 0 ∷ [])
    ∷ (0o1006, 0o123 ∷ 0 ∷ [])
    ∷ []
