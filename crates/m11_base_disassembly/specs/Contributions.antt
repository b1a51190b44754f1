-- The contributions of modules to sections, as a load map shows them, and the names that follow from them: which addresses a global may
-- name, and the sections themselves. (The columns are this project's own; docs/FORMATS.md, "Load maps", counts them from 1.)
use Rattle.std.specs.Prelude.{◌==◌, ◌&&◌, ◌+◌, ℕ, Bool, nat_le, nat_lt, not, if◌then◌else◌, List, [], ◌∷◌, map, codes, Option, Some, None, Result, Ok, Err}
use Rattle.std.specs.List.{filter}
use Rattle.std.specs.Str.{bytes_eq}
use Rattle.m11_base.specs.Devices.{Bytes}
use Rattle.m11_base.specs.Names.{absolute_name, blank_name}
use Rattle.m11_base.specs.Rad50.{Name, is_same_name}
use Rattle.m11_base_disassembly.specs.Columns.{column, name_at, number_at}
use Rattle.m11_base_disassembly.specs.Lines.{lines_after}
use Rattle.m11_base_disassembly.specs.declared.contributions.Contribution.{Contribution}
use Rattle.m11_base_disassembly.specs.declared.map_fault.MapFault.{MapFault}
use Rattle.m11_base_disassembly.specs.declared.map_fault.MapFault.TheVariants.{BadMap}
use Rattle.m11_base_disassembly.specs.declared.symbols.Scope.{Scope}
use Rattle.m11_base_disassembly.specs.declared.symbols.Scope.TheVariants.{Unknown, Label, Section}
use Rattle.m11_base_disassembly.specs.declared.symbols.Symbol.{Symbol}

-- ---- the lines of a load map

abbrev pub contribution_with : Result ℕ MapFault → Result ℕ MapFault → Option Name → Option Name → Result Contribution MapFault
contribution_with (Ok base) (Ok size) (Some section) (Some module_name) =
    Ok (record { base = base; size = size; section = section; module_name = module_name })
contribution_with (Ok base) (Ok size) (Some section) None = Err BadMap
contribution_with (Ok base) (Ok size) None module_name = Err BadMap
contribution_with (Ok base) (Err fault) section module_name = Err BadMap
contribution_with (Err fault) size section module_name = Err BadMap

-- the contribution in a line: two blanks, its address, a blank, its size, a blank, the name of its section, a blank, and the name of its
-- module; `BadMap` if the line doesn't have this form
abbrev pub contribution_in : Bytes → Result Contribution MapFault
contribution_in line =
    if column line 0 == 0o40 && column line 1 == 0o40 && column line 8 == 0o40 && column line 15 == 0o40 && column line 22 == 0o40
    then contribution_with (number_at line 2) (number_at line 9) (name_at line 16) (name_at line 23) else Err BadMap

abbrev pub with_contribution : Result Contribution MapFault → Result (List Contribution) MapFault → Result (List Contribution) MapFault
with_contribution (Err fault) more = Err fault
with_contribution (Ok contribution) (Err fault) = Err fault
with_contribution (Ok contribution) (Ok others) = Ok (contribution ∷ others)

-- the contributions in the lines up to the line GLOBALS; `BadMap` if there is no such line, or one before it isn't a contribution's
abbrev pub contributions_in : List Bytes → Result (List Contribution) MapFault
contributions_in [] = Err BadMap
contributions_in (line ∷ lines) =
    if bytes_eq line (codes "GLOBALS") then Ok [] else with_contribution (contribution_in line) (contributions_in lines)

-- the contributions that a load map shows: those in the lines after its line SECTIONS; none if it has no such line
abbrev pub contributions_of : List Bytes → Result (List Contribution) MapFault
contributions_of lines = elim (lines_after (codes "SECTIONS") lines) [ Some sections ↦ contributions_in sections | None ↦ Ok [] ]

-- ---- the addresses of a contribution

-- the first address after a contribution
abbrev pub end_of : Contribution → ℕ
end_of contribution = contribution.base + contribution.size

abbrev pub holds : ℕ → Contribution → Bool
holds address contribution = nat_le contribution.base address && nat_lt address (end_of contribution)

abbrev pub is_absolute : Contribution → Bool
is_absolute contribution = is_same_name contribution.section absolute_name

-- whether a global of a module with this value may be a label in this contribution: it is the module's and holds the value. That a constant
-- has such a value doesn't show; but in `. ABS.` most values are constants'.
abbrev pub may_define : Name → ℕ → Contribution → Bool
may_define module_name value contribution =
    is_same_name contribution.module_name module_name && holds value contribution && not (is_absolute contribution)

-- which addresses a global of a module with this value may name: those of the first contribution that may define it, if there is one
abbrev pub scope_of : Option Name → ℕ → List Contribution → Scope
scope_of None value contributions = Unknown
scope_of (Some module_name) value [] = Unknown
scope_of (Some module_name) value (contribution ∷ others) =
    if may_define module_name value contribution then Label (end_of contribution) else scope_of (Some module_name) value others

-- ---- the names of sections

-- the address at which a section begins, that of the first contribution to it; `base` if there is none
abbrev pub section_base : Name → ℕ → List Contribution → ℕ
section_base section base [] = base
section_base section base (contribution ∷ others) =
    if is_same_name contribution.section section then contribution.base else section_base section base others

-- the name for the addresses of a contribution: its section, at the section's beginning. The blank section has no name, so its contributions
-- are named by their modules.
abbrev pub section_symbol : List Contribution → Contribution → Symbol
section_symbol all contribution =
    if is_same_name contribution.section blank_name
    then record { name = contribution.module_name; value = contribution.base; scope = Section (end_of contribution) }
    else record { name = contribution.section; value = section_base contribution.section contribution.base all; scope = Section (end_of contribution) }

-- whether a contribution names its section: it has addresses, they aren't in `. ABS.`, and there is a name
abbrev pub names_section : Contribution → Bool
names_section contribution =
    not (contribution.size == 0) && not (is_absolute contribution)
    && not (is_same_name contribution.section blank_name && is_same_name contribution.module_name blank_name)

abbrev pub section_symbols : List Contribution → List Contribution → List Symbol
section_symbols all contributions = map (section_symbol all) (filter names_section contributions)
