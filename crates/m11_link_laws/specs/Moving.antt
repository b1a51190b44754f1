-- The effects of a higher bottom on a link: relocatable sections, the limits, and everything that is counted from the contribution of a
-- module to a relocatable section move by the distance between the bottoms. A displacement moves back by the distance if its location
-- moves and its target stays. Nothing else changes if the distance is even; with an odd distance another transfer entry may be the first
-- with an even address. (RT-11 Volume and File Formats Manual, "Object file format", GSD and RLD blocks. The distances are this
-- project's own: they apply to the results of Sections.antt, Globals.antt and Transfers.antt of the layout, and of Relocation.antt of
-- m11_link_text.)
use Rattle.std.specs.Prelude.{◌≡◌, ℕ, ◌+◌, ◌-◌, ◌%◌, Bool, true, false, ◌&&◌, ◌||◌, not, nat_le, nat_lt, List, [], ◌∷◌, ◌++◌, length, map, option_map, is_some, Option, Some, None, if◌then◌else◌}
use Rattle.std.specs.List.{find, list_all}
use Rattle.std.specs.Map.{lookup}
use Rattle.m11_base.specs.Rad50.{Name, is_same_name}
use Rattle.m11_obj_blocks.specs.Frames.{word_bytes}
use Rattle.m11_obj.specs.declared.relocations.Relocation.{Relocation}
use Rattle.m11_obj.specs.declared.relocations.Target.{Target}
use Rattle.m11_obj.specs.declared.relocations.Target.TheVariants as target
use Rattle.m11_link_modules.specs.Parts.{Part, Text}
use Rattle.m11_link_modules.specs.Positions.{current_section, modules_in, sections_in, this_module}
use Rattle.m11_link_modules.specs.Rules.{lies_within, width_of}
use Rattle.m11_link_layout.specs.Globals.{first_definition}
use Rattle.m11_link_layout.specs.Modules.{module_at}
use Rattle.m11_link_layout.specs.Sections.{first_attributes, is_relocatable}
use Rattle.m11_link_layout.specs.Transfers.{is_even, transfer_value, transfers_of}
use Rattle.m11_link_layout.specs.declared.definition.Definition.{Definition}
use Rattle.m11_link_layout.specs.declared.definition.GlobalLocation.{GlobalLocation}
use Rattle.m11_link_layout.specs.declared.definition.GlobalLocation.TheVariants.{Absolute, In}
use Rattle.m11_link_layout.specs.declared.definition.Transfer.{Transfer}
use Rattle.m11_base_writes.specs.declared.outputs.Output.{Output}
use Rattle.m11_link_layout.specs.declared.planned.PlannedGlobal.{PlannedGlobal}
use Rattle.m11_link_layout.specs.declared.planned.PlannedSection.{PlannedSection}
use Rattle.m11_link_text.specs.Findings.{Findings}
use Rattle.m11_link_text.specs.Relocation.{modulo, replaced, value_bytes, value_of}
use Rattle.m11_base_writes.specs.Outputs.{Write}
use Rattle.m11_link.specs.Written.{PlacedText, has_ended, placed_text, relocations_after, text_writes, writes_at}

-- ---- whether something moves

-- whether a section moves, according to the attributes of its first entry
abbrev pub section_moves : List Part → Name → Bool
section_moves parts name = is_relocatable (first_attributes parts name)

-- whether a module's contribution to a section moves, given the module's index: the section moves, and the module has an entry for it;
-- without an entry the base is 0
abbrev pub moves : List Part → ℕ → Name → Bool
moves parts index name =
    is_some (lookup (is_same_name name) (sections_in (module_at parts index))) && section_moves parts name

-- whether a global's location moves: it is in a contribution that moves
abbrev pub location_moves : List Part → ℕ → GlobalLocation → Bool
location_moves parts index (Absolute value) = false
location_moves parts index (In section value) = moves parts index section

abbrev pub definition_moves : List Part → Option Definition → Bool
definition_moves parts None = false
definition_moves parts (Some definition) = location_moves parts definition.module_index definition.location

unfoldable pub global_moves : List Part → Name → Bool
global_moves parts name = definition_moves parts (first_definition parts name)

-- the transfer entry that counts: the first one with an even address, if there is one
unfoldable pub counting_transfer : ℕ → List Part → Option Transfer
counting_transfer bottom parts = find (λ transfer. is_even (transfer_value bottom parts transfer)) (transfers_of parts)

-- whether the transfer address moves: its entry names a contribution that moves; without an entry the address doesn't move
abbrev pub transfer_moves : List Part → Option Transfer → Bool
transfer_moves parts None = false
transfer_moves parts (Some transfer) = moves parts transfer.module_index transfer.section

-- whether the target of a relocation moves, in a text of the module with this index; `own` says whether the text itself moves. False for an
-- internal displaced target, whose constant is an absolute address; for the limits, which `stores_limits` singles out; and for commands 7
-- and octal 10, which store nothing
abbrev pub target_moves : List Part → ℕ → Bool → Target → Bool
target_moves parts index own (target.Internal constant) = own
target_moves parts index own (target.Global name) = global_moves parts name
target_moves parts index own (target.GlobalDisplaced name) = global_moves parts name
target_moves parts index own (target.GlobalAdditive name constant) = global_moves parts name
target_moves parts index own (target.GlobalAdditiveDisplaced name constant) = global_moves parts name
target_moves parts index own (target.Section name) = moves parts index name
target_moves parts index own (target.SectionDisplaced name) = moves parts index name
target_moves parts index own (target.SectionAdditive name constant) = moves parts index name
target_moves parts index own (target.SectionAdditiveDisplaced name constant) = moves parts index name
target_moves parts index own other = false

-- whether a value is counted from the location where it is stored
abbrev pub is_displaced : Target → Bool
is_displaced (target.InternalDisplaced constant) = true
is_displaced (target.GlobalDisplaced name) = true
is_displaced (target.GlobalAdditiveDisplaced name constant) = true
is_displaced (target.SectionDisplaced name) = true
is_displaced (target.SectionAdditiveDisplaced name constant) = true
is_displaced other = false

-- ---- by how much something moves

-- the base of a section with the higher bottom, as the map shows it: higher by the distance if the section moves, and not taken modulo
-- octal 200000
abbrev pub farther : ℕ → Bool → ℕ → ℕ
farther distance does_move base = if does_move then base + distance else base

-- an address with the higher bottom: higher by the distance, modulo octal 200000, if the address moves
abbrev pub moved : ℕ → Bool → ℕ → ℕ
moved distance does_move address = if does_move then modulo (address + distance) else address

-- a stored number with the higher bottom: higher by the distance if only the target moves, and lower by the distance if only the
-- location from which the number is counted moves, both modulo `modulus`; unchanged if both move or neither does
abbrev pub number_moved : ℕ → ℕ → Bool → Bool → ℕ → ℕ
number_moved modulus distance true true number = number
number_moved modulus distance true false number = (number + distance) % modulus
number_moved modulus distance false true number = (number + (modulus - distance % modulus)) % modulus
number_moved modulus distance false false number = number

-- ---- the findings with the higher bottom

abbrev pub section_moved : ℕ → PlannedSection → PlannedSection
section_moved distance section = record section {
  base = farther distance (is_relocatable section.attributes.0) section.base;
}

abbrev pub global_moved : ℕ → List Part → PlannedGlobal → PlannedGlobal
global_moved distance parts global = record global {
  value = moved distance (global_moves parts global.name) global.value;
}

-- `near` and `far` are the findings of the same parts with two bottoms: names, sizes, attributes and references are the same; with an
-- even distance odd addresses stay odd, so the same transfer entry counts
pub record Moved (distance : ℕ) (parts : List Part) (near far : Findings) : Type 0 where
  pub base : (index : ℕ) (name : Name)
      → far.base index name ≡ moved distance (moves parts index name) (near.base index name)
  pub value : (name : Name) → far.value name ≡ option_map (moved distance (global_moves parts name)) (near.value name)
  pub attributes : (name : Name) → far.attributes name ≡ near.attributes name
  pub module_name : (index : ℕ) → far.module_name index ≡ near.module_name index
  pub sections : far.sections ≡ map (section_moved distance) near.sections
  pub globals : far.globals ≡ map (global_moved distance parts) near.globals
  pub references : far.references ≡ near.references
  pub transfer : distance % 2 ≡ 0
      → far.transfer ≡ moved distance (transfer_moves parts (counting_transfer near.bottom parts)) near.transfer
  pub bottom : far.bottom ≡ near.bottom + distance
  pub top : far.top ≡ near.top + distance

-- the findings with a bottom that is higher by an even distance, made from the findings with the lower bottom
abbrev pub findings_moved : ℕ → List Part → Findings → Findings
findings_moved distance parts near = record {
  base = λ index name. moved distance (moves parts index name) (near.base index name);
  value = λ name. option_map (moved distance (global_moves parts name)) (near.value name);
  attributes = near.attributes;
  module_name = near.module_name;
  sections = map (section_moved distance) near.sections;
  globals = map (global_moved distance parts) near.globals;
  references = near.references;
  transfer = moved distance (transfer_moves parts (counting_transfer near.bottom parts)) near.transfer;
  bottom = near.bottom + distance;
  top = near.top + distance;
}

-- ---- texts, and the values stored in them

abbrev pub text_moved : ℕ → Bool → PlacedText → PlacedText
text_moved distance does_move text = record text {
  base = moved distance does_move text.base;
  address = moved distance does_move text.address;
}

-- a position in a text: the index of its module, the base of the module's contribution to the text's section, the position's
-- address, and whether the text moves
pub record TextPosition : Type 0 where
  pub module_index : ℕ
  pub base : ℕ
  pub location : ℕ
  pub does_move : Bool

abbrev pub text_position : ℕ → ℕ → ℕ → Bool → TextPosition
text_position module_index base location does_move =
    record { module_index = module_index; base = base; location = location; does_move = does_move }

-- the value of a target at a position, with the higher bottom
abbrev pub value_moved : ℕ → List Part → Findings → TextPosition → Target → ℕ
value_moved distance parts near position named =
    number_moved 0o200000 distance (target_moves parts position.module_index position.does_move named)
    (is_displaced named && position.does_move) (value_of near position.module_index position.base position.location named)

-- the bytes that a relocation stores with the higher bottom
abbrev pub bytes_moved : ℕ → List Part → Findings → TextPosition → Bool → Target → List ℕ
bytes_moved distance parts near position is_byte target.ProgramLimits =
    word_bytes (near.bottom + distance) ++ word_bytes (near.top + distance)
bytes_moved distance parts near position is_byte (target.LocationCounterDefinition name constant) = []
bytes_moved distance parts near position is_byte (target.LocationCounterModification constant) = []
bytes_moved distance parts near position is_byte other =
    value_bytes is_byte (value_moved distance parts near position other)

-- a text after a relocation has stored its bytes, with the higher bottom; a relocation that doesn't lie within the text changes nothing
abbrev pub relocation_moved : ℕ → List Part → Findings → Bool → PlacedText → Relocation → PlacedText
relocation_moved distance parts near does_move text relocation =
    let index = relocation.displacement - 4 in
    let location = modulo (text.address + index) in
    let position = text_position text.module_index text.base location does_move in
    let bytes = bytes_moved distance parts near position relocation.is_byte relocation.target in
    record text {
      bytes = if lies_within relocation (length text.bytes) then replaced text.bytes index bytes else text.bytes;
    }

abbrev pub relocations_moved : ℕ → List Part → Findings → Bool → PlacedText → List Relocation → PlacedText
relocations_moved distance parts near does_move text [] = text
relocations_moved distance parts near does_move text (relocation ∷ relocations) =
    relocations_moved distance parts near does_move (relocation_moved distance parts near does_move text relocation)
    relocations

-- ---- the writes of parts

-- the write of a text that has ended, as a block, with the higher bottom; none for a text that hasn't ended or has no bytes
abbrev pub ended_moved : ℕ → List Part → Findings → Bool → PlacedText → List Part → List Write
ended_moved distance parts near does_move text following =
    if has_ended following
    then text_writes (text_moved distance does_move
    (relocations_moved distance parts near does_move text (relocations_after following))) else []

-- the writes of a part with the higher bottom, given the parts before and after it; messages are unchanged
unfoldable pub part_moved : ℕ → List Part → Findings → List Part → Part → List Part → List Write
part_moved distance parts near before (Text address bytes) following =
    let index = modules_in before in
    let section = current_section (this_module before) in
    ended_moved distance parts near (moves parts index section) (placed_text near index section address bytes) following
part_moved distance parts near before other following = writes_at near before other following

abbrev pub moved_after : ℕ → List Part → Findings → List Part → List Part → List Write
moved_after distance parts near before [] = []
moved_after distance parts near before (part ∷ others) =
    part_moved distance parts near before part others ++ moved_after distance parts near (before ++ part ∷ []) others

-- the output of a write, and its number of bytes
abbrev pub shape_of : Write → Output × ℕ
shape_of write = (write.output, length write.bytes)

-- ---- bytes that are the same with both bottoms

abbrev pub stores_limits : Target → Bool
stores_limits target.ProgramLimits = true
stores_limits other = false

-- whether both flags are true, or neither is
abbrev pub is_alike : Bool → Bool → Bool
is_alike true other = other
is_alike false other = not other

-- whether a relocation with this target stores the same bytes with both bottoms: the target and the location from which a displaced value
-- is counted both move, or neither does; false for the limits
abbrev pub target_stays : List Part → ℕ → Bool → Target → Bool
target_stays parts index does_move named = not (stores_limits named)
    && is_alike (target_moves parts index does_move named) (is_displaced named && does_move)

abbrev pub all_stay : List Part → ℕ → Bool → List Relocation → Bool
all_stay parts index does_move relocations =
    list_all (λ relocation. target_stays parts index does_move relocation.target) relocations

-- whether a relocation stores a byte at this offset from the beginning of the text
abbrev pub covers : ℕ → Relocation → Bool
covers offset relocation = nat_le relocation.displacement (4 + offset)
    && nat_lt (4 + offset) (relocation.displacement + width_of relocation.is_byte relocation.target)

-- whether each relocation that covers the byte at this offset has a target for which `target_stays` is true
abbrev pub byte_stays : List Part → ℕ → Bool → List Relocation → ℕ → Bool
byte_stays parts index does_move relocations offset = list_all (λ relocation.
    target_stays parts index does_move relocation.target || not (covers offset relocation)) relocations
