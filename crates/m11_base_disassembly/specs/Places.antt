-- Where the listing of a module lies in a link, by the contributions of a load map. (This project's own; docs/VIEWS.md, "Names of
-- addresses". The columns of a listing are counted from 0.)
use Rattle.std.specs.Prelude.{◌==◌, ◌&&◌, ◌||◌, ◌+◌, ◌%◌, ℕ, Bool, true, false, not, if◌then◌else◌, List, [], ◌∷◌, codes, Option, Some, None, Result, Ok, Err}
use Rattle.std.specs.Str.{bytes_eq}
use Rattle.m11_base.specs.Devices.{Bytes}
use Rattle.m11_base.specs.Rad50.{Name, is_same_name}
use Rattle.m11_base_disassembly.specs.Columns.{column, name_at, number_at, six_at, symbol_with, three_at}
use Rattle.m11_base_disassembly.specs.Contributions.{end_of, is_absolute}
use Rattle.m11_base_disassembly.specs.declared.contributions.Contribution.{Contribution}
use Rattle.m11_base_disassembly.specs.declared.map_fault.MapFault.{MapFault}
use Rattle.m11_base_disassembly.specs.declared.map_fault.MapFault.TheVariants.{BadMap}
use Rattle.m11_base_disassembly.specs.declared.symbols.Scope.TheVariants.{Label}
use Rattle.m11_base_disassembly.specs.declared.symbols.Symbol.{Symbol}

-- ---- the module of a listing

-- a line of a listing's sections and a contribution show the same section with the same size
abbrev pub shows_section : Option Name → Result ℕ MapFault → Contribution → Bool
shows_section (Some section) (Ok size) contribution = is_same_name contribution.section section && contribution.size == size
shows_section (Some section) (Err fault) contribution = false
shows_section None size contribution = false

abbrev pub is_shown : Bytes → Contribution → Bool
is_shown line contribution = shows_section (name_at line 0) (number_at line 7) contribution

-- these contributions begin with one of another module: it has another name, or `. ABS.` begins again
abbrev pub begin_another : Name → List Contribution → Bool
begin_another module_name [] = true
begin_another module_name (contribution ∷ others) =
    not (is_same_name contribution.module_name module_name) || is_absolute contribution

abbrev pub if_another : Name → List Contribution → Option (List Contribution)
if_another module_name contributions = if begin_another module_name contributions then Some contributions else None

-- the contributions after those of a module with this name, if its contributions come first and are those of a listing's sections: one
-- for each line up to an empty one, in the same order, and no more; otherwise None
abbrev pub after_module : Name → List Bytes → List Contribution → Option (List Contribution)
after_module module_name [] contributions = if_another module_name contributions
after_module module_name (line ∷ lines) contributions =
    if bytes_eq line [] then if_another module_name contributions else elim contributions [
      | [] ↦ None
      | contribution ∷ others ↦
          if is_same_name contribution.module_name module_name && is_shown line contribution then after_module module_name lines others else None
    ]

-- the place of a listing: the contributions from its module's first one on, and all contributions but its module's
pub record Place : Type 0 where
  pub own : List Contribution
  pub others : List Contribution

abbrev pub place_with : List Contribution → List Contribution → Place
place_with own others = record { own = own; others = others }

-- a place, with one more contribution in front of the others
abbrev pub with_other : Contribution → Option Place → Option Place
with_other contribution None = None
with_other contribution (Some place) = Some (place_with place.own (contribution ∷ place.others))

-- the place of a listing with these lines of sections: the first module whose contributions are those of its sections; None if there is none
abbrev pub place_of : List Bytes → List Contribution → Option Place
place_of sections [] = None
place_of sections (contribution ∷ others) =
    elim (after_module contribution.module_name sections (contribution ∷ others)) [
      | Some rest ↦ Some (place_with (contribution ∷ others) rest)
      | None ↦ with_other contribution (place_of sections others)
    ]

-- ---- the names in the listing

-- the contribution of the section with this number: the one at the place that the section's line has among the lines of sections
abbrev pub contribution_at : Bytes → List Bytes → List Contribution → Option Contribution
contribution_at number [] own = None
contribution_at number (line ∷ lines) [] = None
contribution_at number (line ∷ lines) (contribution ∷ others) =
    if bytes_eq (three_at line 14) number then Some contribution else contribution_at number lines others

abbrev pub label_with : Option Contribution → Option Name → Result ℕ MapFault → Result (Option Symbol) MapFault
label_with (Some contribution) (Some name) (Ok location) =
    Ok (Some (record { name = name; value = (contribution.base + location) % 0o200000; scope = Label (end_of contribution) }))
label_with (Some contribution) (Some name) (Err fault) = Err BadMap
label_with (Some contribution) None location = Err BadMap
label_with None name location = Err BadMap

-- the symbol in a line of the symbol table: a label at its location in its section's contribution if the value is marked with `R`, and a
-- number if it has no mark; none if its value is unknown or it is a register; `BadMap` if the line doesn't have this form
abbrev pub placed_symbol : List Contribution → List Bytes → Bytes → Result (Option Symbol) MapFault
placed_symbol own sections line =
    if bytes_eq (six_at line 9) (codes "******") || column line 16 == 0o45 then Ok None
    else if column line 16 == 0o122 then label_with (contribution_at (three_at line 19) sections own) (name_at line 0) (number_at line 9)
    else if column line 16 == 0o40 then symbol_with (name_at line 0) (number_at line 9)
    else Err BadMap
