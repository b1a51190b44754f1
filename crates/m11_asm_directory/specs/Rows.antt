-- The rows of an object's directory, in order. (RT-11 Volume and File Formats Manual, "Object file format", GSD block; MACRO-11
-- Language Reference Manual, ".TITLE directive" and ".IDENT directive". The order is this project's own.)
use Rattle.std.specs.Prelude.{ℕ, ◌==◌, if◌then◌else◌, List, [], ◌∷◌, ◌++◌, map, codes, Option, unwrap_or}
use Rattle.std.specs.List.{enumerate_from, flat_map}
use Rattle.std.specs.Option.{option_to_list}
use Rattle.m11_base.specs.Names.{name_in_words}
use Rattle.m11_base.specs.Rad50.{Name}
use Rattle.m11_obj.specs.declared.directory.DirectoryRow.{DirectoryRow}
use Rattle.m11_obj.specs.declared.directory.DirectoryRow.TheVariants as row
use Rattle.m11_asm_rules.specs.Tables.{size_of}
use Rattle.m11_asm_rules.specs.declared.sections.Section.{Section}
use Rattle.m11_asm_directory.specs.Definitions.{definition_rows}
use Rattle.m11_asm_directory.specs.FirstPass.{DirectoryFacts}
use Rattle.m11_asm_directory.specs.Names.{ordered}
use Rattle.m11_asm_directory.specs.References.{reference_rows, references}
use Rattle.m11_asm_directory.specs.Transfers.{transfer_row}

-- ---- the module

-- the name of a source without a title
abbrev pub main_name : Name
main_name = name_in_words (codes ".MAIN.")

abbrev pub identification_rows : Option Name → List DirectoryRow
identification_rows identification = map (λ name. row.Identification name) (option_to_list identification)

-- ---- a section, and the rows after it

-- the rows after the row of a section: those of the globals whose values are known and belong to the section; after the absolute section,
-- which has the number 0, also those of the references
abbrev pub rows_under : DirectoryFacts → ℕ → Name → List DirectoryRow
rows_under facts number section =
    definition_rows facts.table section (ordered facts.table.globals)
    ++ (if number == 0 then reference_rows facts.weak (references facts) else [])

abbrev pub section_rows : DirectoryFacts → ℕ × Section → List DirectoryRow
section_rows facts numbered =
    row.Section numbered.1.name (record { 0 = numbered.1.attributes }) (size_of numbered.0 facts.table)
    ∷ rows_under facts numbered.0 numbered.1.name

-- ---- the directory

-- the rows of all sections, in the order of their numbers
abbrev pub all_section_rows : DirectoryFacts → List DirectoryRow
all_section_rows facts = flat_map (section_rows facts) (enumerate_from 0 facts.table.sections)

unfoldable pub directory_rows : DirectoryFacts → List DirectoryRow
directory_rows facts =
    row.Module (unwrap_or facts.title main_name) ∷ []
    ++ identification_rows facts.identification
    ++ all_section_rows facts
    ++ transfer_row facts.transfer ∷ []
