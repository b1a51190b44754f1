-- The values that the lines of sources state, each at its address in a linked program. (MACRO-11 Language Reference Manual, "Current
-- location counter" and "Relocation and linking".)
use Rattle.std.specs.Prelude.{ℕ, ◌+◌, List, [], ◌∷◌, ◌++◌}
use Rattle.std.specs.List.{enumerate_from, flat_map}
use Rattle.m11_base.specs.Devices.{Bytes}
use Rattle.m11_base.specs.Rad50.{Name}
use Rattle.m11_link_text.specs.Relocation.{modulo}
use Rattle.m11_asm_rules.specs.Contents.{further}
use Rattle.m11_asm_rules.specs.Lines.{after_line, put_location, stands}
use Rattle.m11_asm_rules.specs.Operations.{action}
use Rattle.m11_asm_rules.specs.Meanings.{Map}
use Rattle.m11_asm_rules.specs.Placements.{program_map}
use Rattle.m11_asm_rules.specs.Tables.{Table, first_table, section_name}
use Rattle.m11_unfold_rules.specs.Unfolding.{UnfoldedLine}
use Rattle.m11_cli_image.specs.Addresses.{Addresses}
use Rattle.m11_cli_image.specs.Stated.{Stated, line_stated, stated_size}
use Rattle.m11_cli_image.specs.Targets.{stated_bytes}

-- the address of a location in the contribution of a source to a section, modulo 65536
abbrev pub address_in : Addresses → ℕ → Name → ℕ → ℕ
address_in program source section location = modulo (program.base source section + location)

abbrev pub lying : Addresses → ℕ → ℕ → Stated → ℕ × Bytes
lying program source address stated = (address, stated_bytes program source address stated)

-- the addresses and the bytes of stated values, one after another, the first at this location of the section
abbrev pub lying_from : Addresses → ℕ → Name → ℕ → List Stated → List (ℕ × Bytes)
lying_from program source section location [] = []
lying_from program source section location (stated ∷ more) =
    lying program source (address_in program source section location) stated
    ∷ lying_from program source section (further location (stated_size stated)) more

-- the location at which a line emits its values
abbrev pub line_location : Table → UnfoldedLine → ℕ
line_location stood given = put_location stood (action given.is_own given.arguments given.live.line.text)

abbrev pub line_lying : Addresses → ℕ → Map → Table → UnfoldedLine → List (ℕ × Bytes)
line_lying program source map stood given =
    lying_from program source (section_name stood) (line_location stood given) (line_stated map stood given)

-- the addresses and the bytes of the values of lines, one line after another; `table` is the table before the first line
abbrev pub lines_lying : Addresses → ℕ → Map → Table → List UnfoldedLine → List (ℕ × Bytes)
lines_lying program source map table [] = []
lines_lying program source map table (given ∷ lines) =
    line_lying program source map (stands table given) given
    ++ lines_lying program source map (after_line map table given) lines

-- the addresses and the bytes of the values of the lines of the source with this index, under the map that these lines define
abbrev pub source_lying : Addresses → ℕ × List UnfoldedLine → List (ℕ × Bytes)
source_lying program numbered = lines_lying program numbered.0 (program_map numbered.1) first_table numbered.1

-- the addresses and the bytes of the values of the lines of all sources, source by source
abbrev pub all_lying : Addresses → List (List UnfoldedLine) → List (ℕ × Bytes)
all_lying program all = flat_map (source_lying program) (enumerate_from 0 all)
