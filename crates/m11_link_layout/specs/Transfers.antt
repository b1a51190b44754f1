-- The transfer address of a link. (RT-11 Volume and File Formats Manual, "Object file format", GSD block, transfer address. Choosing the
-- first even one of all modules, or else 1, is this project's own choice.)
use Rattle.std.specs.Prelude.{ℕ, ◌+◌, ◌%◌, nat_eq, Bool, List, [], map, Option, Some, None}
use Rattle.std.specs.List.{find}
use Rattle.std.specs.Option.{unwrap_or}
use Rattle.m11_obj.specs.declared.gsd.GsdEntry.{GsdEntry}
use Rattle.m11_obj.specs.declared.gsd.GsdKind.{GsdKind}
use Rattle.m11_obj.specs.declared.gsd.GsdKind.TheVariants.{TransferAddress}
use Rattle.m11_link_modules.specs.Parts.{Part, Entry}
use Rattle.m11_link_modules.specs.Positions.{modules_in}
use Rattle.m11_link_layout.specs.Modules.{reported_after}
use Rattle.m11_link_layout.specs.Sections.{module_base}
use Rattle.m11_link_layout.specs.declared.definition.Transfer.{Transfer}

abbrev pub transfer_by : GsdKind → GsdEntry → ℕ → Option Transfer
transfer_by TransferAddress entry index =
    Some (record { module_index = index; section = entry.name; value = entry.value })
transfer_by kind entry index = None

-- the transfer address in a part, if it has one; the index of its module follows from the parts before it
abbrev pub transfer_in : List Part → Part → Option Transfer
transfer_in before (Entry entry) = transfer_by entry.kind entry (modules_in before)
transfer_in before part = None

-- all transfer addresses, in the order of the parts
unfoldable pub transfers_of : List Part → List Transfer
transfers_of parts = reported_after transfer_in [] parts

-- the address at an offset from the base of a module's contribution to a section, modulo octal 200000
abbrev pub transfer_value : ℕ → List Part → Transfer → ℕ
transfer_value bottom parts transfer =
    (module_base bottom parts transfer.module_index transfer.section + transfer.value) % 0o200000

abbrev pub is_even : ℕ → Bool
is_even address = nat_eq (address % 2) 0

-- the first even transfer address of all modules; 1, which starts no program, if there is none
unfoldable pub transfer_address : ℕ → List Part → ℕ
transfer_address bottom parts = unwrap_or (find is_even (map (transfer_value bottom parts) (transfers_of parts))) 1
