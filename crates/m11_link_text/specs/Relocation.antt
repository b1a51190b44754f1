-- The bytes that a relocation stores, and where. (RT-11 Volume and File Formats Manual, "Object file format", RLD block. That the value
-- replaces the bytes that were there, and that a displaced byte is counted from its own address plus 2, are this project's own choices.)
use Rattle.std.specs.Prelude.{ℕ, ◌+◌, ◌-◌, ◌%◌, Bool, [], ◌∷◌, ◌++◌, length, take, drop, if◌then◌else◌}
use Rattle.std.specs.Option.{unwrap_or}
use Rattle.m11_base.specs.Devices.{Bytes}
use Rattle.m11_base.specs.Rad50.{Name}
use Rattle.m11_obj_blocks.specs.Frames.{word_bytes}
use Rattle.m11_obj.specs.declared.relocations.Relocation.{Relocation}
use Rattle.m11_obj.specs.declared.relocations.Target.{Target}
use Rattle.m11_obj.specs.declared.relocations.Target.TheVariants as target
use Rattle.m11_link_modules.specs.Rules.{lies_within}
use Rattle.m11_link_text.specs.Findings.{Findings}

-- a number as an address or a word, modulo octal 200000
abbrev pub modulo : ℕ → ℕ
modulo number = number % 0o200000

-- one word minus another, modulo octal 200000
abbrev pub less : ℕ → ℕ → ℕ
less number other = (number + (0o200000 - other)) % 0o200000

-- ---- what is stored

-- the value of a global; 0 if it isn't defined
abbrev pub symbol : Findings → Name → ℕ
symbol found name = unwrap_or (found.value name) 0

-- the address after the word at a location, from which a displacement is counted
abbrev pub following : ℕ → ℕ
following location = modulo (location + 2)

-- the value of a target at a location of a text in the module with this index; `own` is the base of the module's contribution to
-- the text's section. The limits, and commands that only select a location, have the value 0
abbrev pub value_of : Findings → ℕ → ℕ → ℕ → Target → ℕ
value_of found module_index own location (target.Internal constant) = modulo (own + constant)
value_of found module_index own location (target.Global name) = symbol found name
value_of found module_index own location (target.InternalDisplaced constant) = less constant (following location)
value_of found module_index own location (target.GlobalDisplaced name) = less (symbol found name) (following location)
value_of found module_index own location (target.GlobalAdditive name constant) = modulo (symbol found name + constant)
value_of found module_index own location (target.GlobalAdditiveDisplaced name constant) =
    less (modulo (symbol found name + constant)) (following location)
value_of found module_index own location (target.Section name) = found.base module_index name
value_of found module_index own location (target.SectionDisplaced name) =
    less (found.base module_index name) (following location)
value_of found module_index own location (target.SectionAdditive name constant) =
    modulo (found.base module_index name + constant)
value_of found module_index own location (target.SectionAdditiveDisplaced name constant) =
    less (modulo (found.base module_index name + constant)) (following location)
value_of found module_index own location other = 0

-- the bytes of a value: its low byte, or its word
abbrev pub value_bytes : Bool → ℕ → Bytes
value_bytes is_byte value = if is_byte then (value % 256) ∷ [] else word_bytes value

-- the bytes that a relocation stores: the two limits of the program, no bytes for the commands that only select a location, and
-- otherwise those of the value
abbrev pub stored_bytes : Findings → ℕ → ℕ → ℕ → Bool → Target → Bytes
stored_bytes found module_index own location is_byte target.ProgramLimits =
    word_bytes found.bottom ++ word_bytes found.top
stored_bytes found module_index own location is_byte (target.LocationCounterDefinition name constant) = []
stored_bytes found module_index own location is_byte (target.LocationCounterModification constant) = []
stored_bytes found module_index own location is_byte other =
    value_bytes is_byte (value_of found module_index own location other)

-- ---- where it is stored

-- a text with these bytes in place of as many of its own, beginning at this index
abbrev pub replaced : Bytes → ℕ → Bytes → Bytes
replaced text index bytes = take index text ++ bytes ++ drop (index + length bytes) text

-- the bytes of a text at this address after a relocation was applied to it. The text's first byte has the displacement 4, and `own` is
-- the base of the module's contribution to the text's section. A relocation that doesn't lie within the text is refused earlier, and
-- changes nothing here
abbrev pub relocated : Findings → ℕ → ℕ → ℕ → Relocation → Bytes → Bytes
relocated found module_index own address relocation text =
    let index = relocation.displacement - 4 in
    let location = modulo (address + index) in
    let bytes = stored_bytes found module_index own location relocation.is_byte relocation.target in
    if lies_within relocation (length text) then replaced text index bytes else text
