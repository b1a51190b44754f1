-- What the words of an object's text refer to, as its relocations say it. (RT-11 Volume and File Formats Manual, "Object file format", RLD
-- block.)
use Rattle.std.specs.Prelude.{ℕ, ◌+◌, ◌&&◌, not, Bool, true, false, if◌then◌else◌, List, [], ◌∷◌, Option, Some, None}
use Rattle.m11_base.specs.Rad50.{Name}
use Rattle.m11_base_disassembly.specs.declared.references.Reference.{Reference}
use Rattle.m11_base_disassembly.specs.declared.references.References.{References}
use Rattle.m11_obj.specs.declared.relocations.Relocation.{Relocation}
use Rattle.m11_obj.specs.declared.relocations.Target.{Target}
use Rattle.m11_obj.specs.declared.relocations.Target.TheVariants.{Internal, InternalDisplaced, Global, GlobalDisplaced, GlobalAdditive, GlobalAdditiveDisplaced, Section, SectionDisplaced, SectionAdditive, SectionAdditiveDisplaced}
use Rattle.m11_dump.specs.Relocations.{names_byte}

abbrev pub referring : Option Name → ℕ → Bool → Option Reference
referring name constant is_displaced = Some (record { name = name; constant = constant; is_displaced = is_displaced })

-- what a target refers to: a global or a section with a constant that is added, a location in the text's own section, or an absolute address;
-- None for the program's limits, and for a command on the location counter
abbrev pub reference_of : Target → Option Reference
reference_of (Internal constant) = referring None constant false
reference_of (InternalDisplaced constant) = referring None constant true
reference_of (Global name) = referring (Some name) 0 false
reference_of (GlobalDisplaced name) = referring (Some name) 0 true
reference_of (GlobalAdditive name constant) = referring (Some name) constant false
reference_of (GlobalAdditiveDisplaced name constant) = referring (Some name) constant true
reference_of (Section name) = referring (Some name) 0 false
reference_of (SectionDisplaced name) = referring (Some name) 0 true
reference_of (SectionAdditive name constant) = referring (Some name) constant false
reference_of (SectionAdditiveDisplaced name constant) = referring (Some name) constant true
reference_of other = None

-- the reference of the word that begins at the byte with this index in a text: that of the first of these relocations that stores a word there
abbrev pub reference_at : List Relocation → ℕ → Option Reference
reference_at [] index = None
reference_at (relocation ∷ relocations) index =
    if names_byte index relocation && not relocation.is_byte then reference_of relocation.target else reference_at relocations index

-- the references of the word that begins at the byte with this index, and of the two words after it
abbrev pub references_at : List Relocation → ℕ → References
references_at relocations index = record {
  own = reference_at relocations index;
  first = reference_at relocations (index + 2);
  second = reference_at relocations (index + 4);
}
