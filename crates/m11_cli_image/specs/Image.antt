-- The image of a linked program, defined by its sources alone, without objects or relocation commands. (MACRO-11 Language Reference
-- Manual, "Relocation and linking" and ".END directive". This project's own: where two pieces have a byte at one address, that of the later
-- piece replaces the other, and the first even transfer address is the start.)
use Rattle.std.specs.Prelude.{ℕ, ◌+◌, List, map, option_map}
use Rattle.std.specs.List.{enumerate_from, find, flat_map}
use Rattle.std.specs.Option.{option_to_list}
use Rattle.m11_base.specs.Devices.{Bytes}
use Rattle.m11_link_layout.specs.Transfers.{is_even}
use Rattle.m11_link_text.specs.Relocation.{modulo}
use Rattle.m11_cpu_laws.specs.Image.{Image, byte_of}
use Rattle.m11_scan_expressions.specs.declared.kinds.Kind.{Kind}
use Rattle.m11_scan_expressions.specs.declared.kinds.Kind.TheVariants as kind
use Rattle.m11_scan_expressions.specs.Quantities.{Quantity}
use Rattle.m11_cli_image.specs.Addresses.{Addresses}
use Rattle.m11_cli_image.specs.Globals.{global}
use Rattle.m11_cli_image.specs.Pieces.{placed}
use Rattle.m11_cli_image.specs.Sections.{contribution, top_of}
use Rattle.m11_cli_image.specs.Sources.{Source}

-- the addresses of a program whose relocatable sections begin at this bottom
unfoldable pub addresses_of : ℕ → List Source → Addresses
addresses_of bottom sources = record {
  base = λ index name. contribution bottom sources index name;
  global = λ name. global bottom sources name;
  bottom = bottom;
  top = top_of bottom sources;
}

-- ---- the bytes

-- the address and the bytes of each piece of the source with this index
abbrev pub placed_pieces : Addresses → ℕ × Source → List (ℕ × Bytes)
placed_pieces addresses numbered = map (placed addresses numbered.0) numbered.1.pieces

-- the address and the bytes of each piece of all sources, source by source
abbrev pub all_placed : Addresses → List Source → List (ℕ × Bytes)
all_placed addresses sources = flat_map (placed_pieces addresses) (enumerate_from 0 sources)

-- ---- the start

-- the address of a value, modulo 200000 (octal): its number counted from the start of the source's contribution to a section, or the number
-- itself
abbrev pub start_by : Addresses → ℕ → ℕ → Kind → ℕ
start_by addresses index number (kind.Section name) = modulo (addresses.base index name + number)
start_by addresses index number other = modulo number

abbrev pub start_at : Addresses → ℕ → Quantity → ℕ
start_at addresses index value = start_by addresses index value.number value.kind

-- the transfer address of a source, as a list that is empty if the source has none
abbrev pub start_of : Addresses → ℕ × Source → List ℕ
start_of addresses numbered = option_to_list (option_map (start_at addresses numbered.0) numbered.1.facts.transfer)

abbrev pub all_starts : Addresses → List Source → List ℕ
all_starts addresses sources = flat_map (start_of addresses) (enumerate_from 0 sources)

-- ---- the image

abbrev pub image_by : Addresses → List Source → Image
image_by addresses sources = record {
  byte = λ address. byte_of (all_placed addresses sources) address;
  start = find is_even (all_starts addresses sources);
}

unfoldable pub image_of : ℕ → List Source → Image
image_of bottom sources = image_by (addresses_of bottom sources) sources
