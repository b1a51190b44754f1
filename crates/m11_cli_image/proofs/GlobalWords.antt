-- The numbers of entries are words, and so are the values of the globals that they define.
use Rattle.std.proofs.Common.{ℕ, ◌<◌, Bool, true, false, cond, if◌then◌else◌, List, [], ◌∷◌, ◌++◌, map, flat_map, Option, Some, None, option_map, arith}
use Rattle.std.specs.List.{AllByRecursion, cons_option}
use Rattle.std.specs.Map.{lookup}
use Rattle.std.specs.Option.{unwrap_or}
use Rattle.std.proofs.lemmas.List.Elements.{recursion_from_All}
use Rattle.m11_base.specs.Rad50.{Name, is_same_name}
use Rattle.m11_obj.specs.declared.gsd.GsdEntry.{GsdEntry}
use Rattle.m11_obj.specs.declared.gsd.GsdKind.{GsdKind}
use Rattle.m11_obj.specs.declared.gsd.GsdKind.TheVariants.{GlobalSymbol}
use Rattle.m11_obj.specs.declared.relocations.Relocation.{Relocation}
use Rattle.m11_obj.specs.Gsd.{EntryFits, has_bits}
use Rattle.m11_obj.specs.Records as records
use Rattle.m11_obj.specs.Records.{Content, Fits}
use Rattle.m11_link_modules.specs.Parts.{Part, Entry, Relocated, parts_of}
use Rattle.m11_link_modules.specs.Positions.{modules_in, this_module}
use Rattle.m11_link_modules.specs.Rules.{defines}
use Rattle.m11_link_layout.specs.Globals.{definition_by, definition_in, definition_value, definitions_of, global_value, last_section, location_in, location_of, location_value}
use Rattle.m11_link_layout.specs.Modules.{reported_after}
use Rattle.m11_link_layout.specs.declared.definition.Definition.{Definition}
use Rattle.m11_link_layout.specs.declared.definition.GlobalLocation.{GlobalLocation}
use Rattle.m11_link_layout.specs.declared.definition.GlobalLocation.TheVariants.{Absolute, In}

-- the number of an entry is a word
abbrev pub IsWordPart : Part → Type 0
IsWordPart (Entry entry) = entry.value < 65536
IsWordPart part = Unit {0}

abbrev pub AreWordParts : List Part → Type 0
AreWordParts parts = AllByRecursion IsWordPart parts

-- ---- the parts of records that fit

pub all_then : {X : Type 0} (P : X → Type 0) (xs ys : List X) → AllByRecursion P xs → AllByRecursion P ys → AllByRecursion P (xs ++ ys)
all_then P [] ys h k = k
all_then P (x ∷ xs) ys h k = (h.0, all_then P xs ys h.1 k)

entries_words : (entries : List GsdEntry) → AllByRecursion EntryFits entries → AreWordParts (map (λ entry. Entry entry) entries)
entries_words [] h = tt
entries_words (entry ∷ entries) h = (h.0.value, entries_words entries h.1)

relocations_words : (relocations : List Relocation) → AreWordParts (map (λ relocation. Relocated relocation) relocations)
relocations_words [] = tt
relocations_words (relocation ∷ relocations) = (tt, relocations_words relocations)

record_words : (content : Content) → Fits content → AreWordParts (parts_of content)
record_words (records.Gsd entries) h = (tt, entries_words entries (recursion_from_All EntryFits entries h.1))
record_words records.EndOfGsd h = (tt, tt)
record_words (records.Text address bytes) h = (tt, tt)
record_words (records.Relocations relocations) h = (tt, relocations_words relocations)
record_words records.InternalSymbols h = tt
record_words records.EndOfModule h = (tt, tt)

pub records_words : (contents : List Content) → AllByRecursion Fits contents → AreWordParts (flat_map parts_of contents)
records_words [] h = tt
records_words (content ∷ contents) h =
    all_then IsWordPart (parts_of content) (flat_map parts_of contents) (record_words content h.0) (records_words contents h.1)

-- ---- values of globals

may_add : {X : Type 0} (P : X → Type 0) (b : Bool) (x : X) (xs : List X) → P x → AllByRecursion P xs
    → AllByRecursion P (cons_option (if b then Some x else None) xs)
may_add P true x xs p h = (p, h)
may_add P false x xs p h = h

abbrev IsWordLocation : GlobalLocation → Type 0
IsWordLocation (Absolute value) = value < 65536
IsWordLocation (In section value) = value < 65536

abbrev IsWordDefinition : Name × Definition → Type 0
IsWordDefinition definition = IsWordLocation definition.1.location

in_word : (section : Option Name) (value : ℕ) → value < 65536 → IsWordLocation (location_in section value)
in_word None value lt = lt
in_word (Some section) value lt = lt

location_by : (b : Bool) (section : Option Name) (value : ℕ) → value < 65536
    → IsWordLocation (if b then location_in section value else Absolute value)
location_by true section value lt = in_word section value lt
location_by false section value lt = lt

defined_word : (kind : GsdKind) (entry : GsdEntry) (modules : ℕ) (section : Option Name) (others : List (Name × Definition))
    → entry.value < 65536 → AllByRecursion IsWordDefinition others
    → AllByRecursion IsWordDefinition (cons_option (definition_by kind entry modules section) others)
defined_word GlobalSymbol entry modules section others lt h =
    may_add IsWordDefinition (defines entry) (entry.name, record { module_index = modules; location = location_of section entry }) others
    (location_by (has_bits 0o40 entry.flags) section entry.value lt) h
defined_word kind entry modules section others lt h = h

definitions_word : (before parts : List Part) → AreWordParts parts
    → AllByRecursion IsWordDefinition (reported_after definition_in before parts)
definitions_word before [] h = tt
definitions_word before (Entry entry ∷ parts) h =
    defined_word entry.kind entry (modules_in before) (last_section (this_module before))
    (reported_after definition_in (before ++ Entry entry ∷ []) parts) h.0
    (definitions_word (before ++ Entry entry ∷ []) parts h.1)
definitions_word before (part ∷ parts) h = definitions_word (before ++ part ∷ []) parts h.1

module _ (bottom : ℕ) (parts : List Part) where
  location_word : (index : ℕ) (location : GlobalLocation) → IsWordLocation location → location_value bottom parts index location < 65536
  location_word index (Absolute value) lt = lt
  location_word index (In section value) lt = omega arith

  looked_word : (b : Bool) (definition : Definition) (found : Option Definition) → IsWordLocation definition.location
      → unwrap_or (option_map (definition_value bottom parts) found) 0 < 65536
      → unwrap_or (option_map (definition_value bottom parts) (cond b (Some definition) found)) 0 < 65536
  looked_word true definition found p h = location_word definition.module_index definition.location p
  looked_word false definition found p h = h

  value_word : (name : Name) (definitions : List (Name × Definition)) → AllByRecursion IsWordDefinition definitions
      → unwrap_or (option_map (definition_value bottom parts) (lookup (is_same_name name) definitions)) 0 < 65536
  value_word name [] h = omega arith
  value_word name (one ∷ definitions) h =
      looked_word (is_same_name name one.0) one.1 (lookup (is_same_name name) definitions) h.0 (value_word name definitions h.1)

  pub global_word : (name : Name) → AreWordParts parts → unwrap_or (global_value bottom parts name) 0 < 65536
  unfolding global_value definitions_of
  global_word name h = value_word name (definitions_of parts) (definitions_word [] parts h)
