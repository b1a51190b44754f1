-- The tables that a layout collects, and how they grow with each part. (This project's own. It is proved that they agree with
-- Sections.antt and Globals.antt about all parts.)
use Rattle.std.specs.Prelude.{◌≡◌, ℕ, ◌+◌, ◌==◌, max, min, Bool, true, false, ◌&&◌, ◌||◌, not, List, [], ◌∷◌, ◌++◌, length, slice_get, ⊤, Option, Some, None, Result, Ok, Err, if◌then◌else◌}
use Rattle.std.specs.Int.RustNames.{bit_and}
use Rattle.std.specs.Map.{lookup}
use Rattle.std.specs.Option.{is_some, option_or, unwrap_or}
use Rattle.indexmap.specs.IndexMap.{insert_entry}
use Rattle.indexmap.specs.IndexSet.{insert_key}
use Rattle.m11_base.specs.Rad50.{Name, is_same_name}
use Rattle.m11_base.specs.Names.{absolute_name, blank_name}
use Rattle.m11_obj.specs.declared.gsd.GsdEntry.{GsdEntry}
use Rattle.m11_obj.specs.declared.gsd.GsdKind.{GsdKind}
use Rattle.m11_obj.specs.declared.gsd.GsdKind.TheVariants.{ModuleName, ControlSection, TransferAddress, GlobalSymbol, ProgramSection}
use Rattle.m11_link_modules.specs.Names.{is_among}
use Rattle.m11_link_modules.specs.Parts.{Part, Entry, Relocated, EndOfModule}
use Rattle.m11_link_modules.specs.Positions.{global_of}
use Rattle.m11_link_modules.specs.Rules.{defines}
use Rattle.m11_obj.specs.Gsd.{has_bits}
use Rattle.m11_link_layout.specs.declared.definition.Definition.{Definition}
use Rattle.m11_link_layout.specs.declared.definition.Total.{Total}
use Rattle.m11_link_layout.specs.declared.definition.Transfer.{Transfer}
use Rattle.m11_link_layout.specs.Sections.{is_relocatable, is_overlaid, rounded, control_attributes, attribute_bits, flags_of}
use Rattle.m11_link_layout.specs.Transfers.{is_even}
use Rattle.m11_link_layout.specs.Globals.{location_of}

pub record LayoutTables : Type 0 where
  -- the sections, in the order of first entries
  pub sections : List (Name × Total)
  -- the offsets in bytes of contributions, by the module's index and the section
  pub contributions : List ((ℕ × Name) × ℕ)
  -- the names of the modules that ended, and the name of the current module if an entry has it
  pub names : List Name
  pub name : Option Name
  -- the section that the current module entered last, and the names that it refers to weakly
  pub section : Option Name
  pub weak : List Name
  -- the globals in the order of first definitions; and the globals in the order of first references, each with whether it has a
  -- strong reference
  pub definitions : List (Name × Definition)
  pub references : List (Name × Bool)
  -- the first even transfer address; and what it becomes if the current module enters `. ABS.` later, as a relocatable section
  pub transfer : Option Transfer
  pub moved : Option Transfer

-- ---- sections

-- sizes are counted up to octal 200000, past all addresses
abbrev pub size_cap : ℕ
size_cap = 0o200000

-- the size of a contribution to a section with these attributes: rounded up to even if the section is relocatable
abbrev pub contributed : ℕ → ℕ → ℕ
contributed attributes size = if is_relocatable attributes then rounded size else size

abbrev pub is_concatenated : ℕ → Bool
is_concatenated attributes = is_relocatable attributes && not (is_overlaid attributes)

-- the size of a section after one more contribution, at most the cap: the sum if contributions are concatenated, otherwise the
-- greater of the two sizes
abbrev pub joined : ℕ → ℕ → ℕ → ℕ
joined attributes before size = min size_cap
    (if is_concatenated attributes then min size_cap before + contributed attributes size
    else max before (contributed attributes size))

-- a section after one more entry; it keeps the attributes of its first entry
abbrev pub total_after : Option Total → ℕ → ℕ → Total
total_after None attributes size =
    record { attributes = flags_of attributes; size = min size_cap (contributed attributes size) }
total_after (Some total) attributes size =
    record { attributes = total.attributes; size = joined total.attributes.0 total.size size }

-- the offset of the next contribution to a section: 0 unless contributions are concatenated
abbrev pub next_offset : Option Total → ℕ
next_offset None = 0
next_offset (Some total) = if is_concatenated total.attributes.0 then total.size else 0

abbrev pub is_contribution : ℕ × Name → ℕ × Name → Bool
is_contribution one other = (one.0 == other.0) && is_same_name one.1 other.1

-- the contribution of a module to a section is at this index of the table and has this offset
abbrev pub LiesAt : ℕ × Name → ℕ → ℕ → List ((ℕ × Name) × ℕ) → Type 0
LiesAt key index offset contributions = (stored : ℕ × Name)
    × (slice_get contributions index ≡ Some (stored, offset)) × (is_contribution key stored ≡ true)

abbrev pub with_total : Name → Total → LayoutTables → LayoutTables
with_total name total g = record g { sections = insert_entry is_same_name g.sections name total }

abbrev pub with_contribution : Name → ℕ → LayoutTables → LayoutTables
with_contribution name offset g = record g {
  contributions = insert_entry is_contribution g.contributions (length g.names, name) offset;
  section = Some name;
}

abbrev pub with_section_after : Option Total → GsdEntry → ℕ → LayoutTables → LayoutTables
with_section_after found entry attributes g = with_contribution entry.name (next_offset found)
    (with_total entry.name (total_after found attributes entry.value) g)

abbrev pub with_section : GsdEntry → ℕ → LayoutTables → LayoutTables
with_section entry attributes g = with_section_after (lookup (is_same_name entry.name) g.sections) entry attributes g

-- ---- globals

abbrev pub with_reference : Name → Bool → LayoutTables → LayoutTables
with_reference name is_strong g = record g {
  references = insert_entry is_same_name g.references name
      (unwrap_or (lookup (is_same_name name) g.references) false || is_strong);
}

-- the pairs after one more, which is added if no pair has its name yet; None adds nothing
abbrev pub with_first : {X : Type 0} → List (Name × X) → Option (Name × X) → List (Name × X)
with_first found None = found
with_first found (Some pair) =
    if is_some (lookup (is_same_name pair.0) found) then found else insert_entry is_same_name found pair.0 pair.1

abbrev pub with_definition : GsdEntry → LayoutTables → LayoutTables
with_definition entry g = record g {
  definitions = with_first g.definitions
      (Some (entry.name, record { module_index = length g.names; location = location_of g.section entry }));
}

abbrev pub with_weak : Name → LayoutTables → LayoutTables
with_weak name g = record (with_reference name false g) { weak = insert_key is_same_name g.weak name }

abbrev pub with_symbol : GsdEntry → LayoutTables → LayoutTables
with_symbol entry g =
    if defines entry then with_definition entry g
    else if has_bits 1 entry.flags then with_weak entry.name g else with_reference entry.name true g

abbrev pub with_relocated : Option Name → LayoutTables → LayoutTables
with_relocated None g = g
with_relocated (Some name) g = with_reference name (not (is_among g.weak name)) g

-- ---- the transfer address

-- whether the address `value` bytes after the base of a module's contribution is even; a relocated base is even if and only if the
-- bottom is, and an absolute base is 0
abbrev pub is_even_after : Bool → ℕ → ℕ → Bool
is_even_after is_relocated bottom value = if is_relocated then is_even (bottom + value) else is_even value

-- whether a section is relocated; `assumed` if this module hasn't entered it
abbrev pub is_relocated : Option Total → Bool → Bool
is_relocated None assumed = assumed
is_relocated (Some total) assumed = is_relocatable total.attributes.0

-- the total of the section with this name; None if the current module hasn't entered it
abbrev pub entered_total : LayoutTables → Name → Option Total
entered_total g name =
    if is_some (lookup (is_contribution (length g.names, name)) g.contributions)
    then lookup (is_same_name name) g.sections else None

abbrev pub transfer_after : Option Transfer → Bool → Transfer → Option Transfer
transfer_after (Some transfer) is_even other = Some transfer
transfer_after None is_even other = if is_even then Some other else None

abbrev pub with_transfer : ℕ → GsdEntry → LayoutTables → LayoutTables
with_transfer bottom entry g = record g {
  transfer = transfer_after g.transfer
      (is_even_after (is_relocated (entered_total g entry.name) false) bottom entry.value)
      (record { module_index = length g.names; section = entry.name; value = entry.value });
  moved = transfer_after g.moved
      (is_even_after (is_relocated (entered_total g entry.name) true) bottom entry.value)
      (record { module_index = length g.names; section = entry.name; value = entry.value });
}

-- the first even transfer address, given the sections that the current module has entered; None if there is no even one
abbrev pub settled : LayoutTables → Option Transfer
settled g = if is_relocated (entered_total g absolute_name) false then g.moved else g.transfer

abbrev pub with_settled : LayoutTables → LayoutTables
with_settled g = record g { transfer = settled g; moved = settled g }

-- ---- parts

abbrev pub with_name : Name → LayoutTables → LayoutTables
with_name name g = record g { name = option_or g.name (Some name) }

abbrev pub with_entry : ℕ → GsdKind → GsdEntry → LayoutTables → LayoutTables
with_entry bottom ModuleName entry g = with_name entry.name g
with_entry bottom ControlSection entry g = with_section entry (control_attributes entry.name) g
with_entry bottom ProgramSection entry g = with_section entry (bit_and entry.flags attribute_bits) g
with_entry bottom TransferAddress entry g = with_transfer bottom entry g
with_entry bottom GlobalSymbol entry g = with_symbol entry g
with_entry bottom kind entry g = g

abbrev pub with_end : LayoutTables → LayoutTables
with_end g = record g {
  names = g.names ++ unwrap_or g.name blank_name ∷ [];
  name = None;
  section = None;
  weak = [];
  transfer = settled g;
  moved = settled g;
}

unfoldable pub collected_after : ℕ → LayoutTables → Part → LayoutTables
collected_after bottom g (Entry entry) = with_entry bottom entry.kind entry g
collected_after bottom g (Relocated relocation) = with_relocated (global_of relocation.target) g
collected_after bottom g EndOfModule = with_end g
collected_after bottom g part = g

abbrev pub collected_after_all : ℕ → LayoutTables → List Part → LayoutTables
collected_after_all bottom g [] = g
collected_after_all bottom g (part ∷ parts) = collected_after_all bottom (collected_after bottom g part) parts

-- the tables before any part
abbrev pub nothing_collected : LayoutTables
nothing_collected = record {
  sections = [];
  contributions = [];
  names = [];
  name = None;
  section = None;
  weak = [];
  definitions = [];
  references = [];
  transfer = None;
  moved = None;
}

-- the tables are these; or memory was refused, and nothing is known of the tables
abbrev pub TablesBecome : {A E : Type 0} → LayoutTables → LayoutTables → Result A E → Type 0
TablesBecome new kept (Ok done) = new ≡ kept
TablesBecome new kept (Err refused) = ⊤
