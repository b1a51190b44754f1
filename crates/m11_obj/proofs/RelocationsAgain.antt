-- The bytes that are written for relocations are read as those relocations.
use Rattle.std.proofs.Common.{◌≡◌, ℕ, zero, suc, ◌+◌, ◌%◌, ◌<◌, ◌≤◌, ◌^◌, Bool, true, false, List, [], ◌∷◌, ◌++◌, length, Ok, refl, ap, ◌∙◌, append_assoc, arith, length-append}
use Rattle.std.specs.Prelude.{IfSome, nat_le}
use Rattle.std.specs.List.{AllByRecursion}
use Rattle.std.proofs.lemmas.Bool.{le-leb, lt-leb}
use Rattle.std.proofs.lemmas.List.Elements.{recursion_from_All}
use Rattle.m11_base.specs.Rad50.{IsName}
use Rattle.m11_obj.specs.declared.relocations.Target.{Target}
use Rattle.m11_obj.specs.declared.relocations.Target.TheVariants.{Internal, Global, InternalDisplaced, GlobalDisplaced, GlobalAdditive, GlobalAdditiveDisplaced, LocationCounterDefinition, LocationCounterModification, ProgramLimits, Section, SectionDisplaced, SectionAdditive, SectionAdditiveDisplaced}
use Rattle.m11_obj.specs.declared.relocations.Relocation.{Relocation}
use Rattle.m11_obj_blocks.specs.Frames.{word_bytes}
use Rattle.m11_obj.specs.Gsd.{name_bytes}
use Rattle.m11_obj.specs.Relocations.{parts_of, optional_name, optional_word, byte_form, relocation_bytes, relocations_bytes, FormExists, RelocationFits, RelocationsFit}
use Rattle.m11_obj.specs.Reading.{Form, Nothing, Constant, Name, NameAndConstant, row_of, form_of, first_target, first_relocation, items_within, items_of, relocations_of}
use Rattle.m11_obj.proofs.ReadAgain.{word_again, name_again}

-- the form of a target's command
row : Target → Form
row (Internal constant) = Constant (λ c. Internal c)
row (Global name) = Name (λ n. Global n)
row (InternalDisplaced constant) = Constant (λ c. InternalDisplaced c)
row (GlobalDisplaced name) = Name (λ n. GlobalDisplaced n)
row (GlobalAdditive name constant) = NameAndConstant (λ n c. GlobalAdditive n c)
row (GlobalAdditiveDisplaced name constant) = NameAndConstant (λ n c. GlobalAdditiveDisplaced n c)
row (LocationCounterDefinition name constant) = NameAndConstant (λ n c. LocationCounterDefinition n c)
row (LocationCounterModification constant) = Constant (λ c. LocationCounterModification c)
row ProgramLimits = Nothing ProgramLimits
row (Section name) = Name (λ n. Section n)
row (SectionDisplaced name) = Name (λ n. SectionDisplaced n)
row (SectionAdditive name constant) = NameAndConstant (λ n c. SectionAdditive n c)
row (SectionAdditiveDisplaced name constant) = NameAndConstant (λ n c. SectionAdditiveDisplaced n c)

row_again : (is_byte : Bool) (target : Target) → FormExists is_byte target
    → form_of is_byte (parts_of target).command ≡ Ok (row target)
unfolding form_of row_of row
row_again false (Internal constant) exists = refl
row_again false (Global name) exists = refl
row_again false (InternalDisplaced constant) exists = refl
row_again false (GlobalDisplaced name) exists = refl
row_again false (GlobalAdditive name constant) exists = refl
row_again false (GlobalAdditiveDisplaced name constant) exists = refl
row_again false (LocationCounterDefinition name constant) exists = refl
row_again false (LocationCounterModification constant) exists = refl
row_again false ProgramLimits exists = refl
row_again false (Section name) exists = refl
row_again false (SectionDisplaced name) exists = refl
row_again false (SectionAdditive name constant) exists = refl
row_again false (SectionAdditiveDisplaced name constant) exists = refl
row_again true (Internal constant) exists = refl
row_again true (Global name) exists = refl
row_again true (InternalDisplaced constant) exists = refl
row_again true (GlobalDisplaced name) exists = refl
row_again true (GlobalAdditive name constant) exists = refl
row_again true (GlobalAdditiveDisplaced name constant) exists = refl
row_again true (LocationCounterDefinition name constant) exists = absurd exists
row_again true (LocationCounterModification constant) exists = absurd exists
row_again true ProgramLimits exists = absurd exists
row_again true (Section name) exists = refl
row_again true (SectionDisplaced name) exists = refl
row_again true (SectionAdditive name constant) exists = refl
row_again true (SectionAdditiveDisplaced name constant) exists = refl

-- the fields that are written after a command are read as its target
constant_again : (target : ℕ → Target) (constant : ℕ) (rest : List ℕ) → constant < 2 ^ 16
    → first_target (Constant target) (word_bytes constant ++ rest) ≡ Ok (target constant, rest)
unfolding first_target
constant_again target constant rest lt = rw (word_again constant rest lt) refl

named_again : (target : ℕ × ℕ → Target) (name : ℕ × ℕ) (rest : List ℕ) → IsName name
    → first_target (Name target) ((name_bytes name ++ []) ++ rest) ≡ Ok (target name, rest)
unfolding first_target
named_again target name rest is = rw (name_again name rest is) refl

both_again : (target : ℕ × ℕ → ℕ → Target) (name : ℕ × ℕ) (constant : ℕ) (rest : List ℕ) → IsName name
    → constant < 2 ^ 16 → first_target (NameAndConstant target) ((name_bytes name ++ word_bytes constant) ++ rest)
    ≡ Ok (target name constant, rest)
unfolding first_target
both_again target name constant rest is lt =
    ap (first_target (NameAndConstant target)) (append_assoc (name_bytes name) (word_bytes constant) rest)
    ∙ rw (name_again name (word_bytes constant ++ rest) is, word_again constant rest lt) refl

abbrev arguments : Target → List ℕ
arguments target = optional_name (parts_of target).name ++ optional_word (parts_of target).constant

target_again : (target : Target) (rest : List ℕ) → IfSome (parts_of target).name IsName
    → IfSome (parts_of target).constant (λ word. word < 2 ^ 16)
    → first_target (row target) (arguments target ++ rest) ≡ Ok (target, rest)
unfolding row first_target
target_again (Internal constant) rest is lt = constant_again (λ c. Internal c) constant rest lt
target_again (Global name) rest is lt = named_again (λ n. Global n) name rest is
target_again (InternalDisplaced constant) rest is lt = constant_again (λ c. InternalDisplaced c) constant rest lt
target_again (GlobalDisplaced name) rest is lt = named_again (λ n. GlobalDisplaced n) name rest is
target_again (GlobalAdditive name constant) rest is lt = both_again (λ n c. GlobalAdditive n c) name constant rest is lt
target_again (GlobalAdditiveDisplaced name constant) rest is lt =
    both_again (λ n c. GlobalAdditiveDisplaced n c) name constant rest is lt
target_again (LocationCounterDefinition name constant) rest is lt =
    both_again (λ n c. LocationCounterDefinition n c) name constant rest is lt
target_again (LocationCounterModification constant) rest is lt =
    constant_again (λ c. LocationCounterModification c) constant rest lt
target_again ProgramLimits rest is lt = refl
target_again (Section name) rest is lt = named_again (λ n. Section n) name rest is
target_again (SectionDisplaced name) rest is lt = named_again (λ n. SectionDisplaced n) name rest is
target_again (SectionAdditive name constant) rest is lt =
    both_again (λ n c. SectionAdditive n c) name constant rest is lt
target_again (SectionAdditiveDisplaced name constant) rest is lt =
    both_again (λ n c. SectionAdditiveDisplaced n c) name constant rest is lt

command_below : (target : Target) → (parts_of target).command < 16
command_below (Internal constant) = omega arith
command_below (Global name) = omega arith
command_below (InternalDisplaced constant) = omega arith
command_below (GlobalDisplaced name) = omega arith
command_below (GlobalAdditive name constant) = omega arith
command_below (GlobalAdditiveDisplaced name constant) = omega arith
command_below (LocationCounterDefinition name constant) = omega arith
command_below (LocationCounterModification constant) = omega arith
command_below ProgramLimits = omega arith
command_below (Section name) = omega arith
command_below (SectionDisplaced name) = omega arith
command_below (SectionAdditive name constant) = omega arith
command_below (SectionAdditiveDisplaced name constant) = omega arith

-- the bit and the command in a command byte are read again
bit_again : (code : ℕ) (is_byte : Bool) → code < 16 → nat_le 128 (code + byte_form is_byte) ≡ is_byte
bit_again code true lt = le-leb 128 (code + 128) (omega arith)
bit_again code false lt = lt-leb 128 (code + 0) (omega arith)

code_again : (code : ℕ) (is_byte : Bool) → code < 16 → (code + byte_form is_byte) % 128 ≡ code
code_again code true lt = omega arith
code_again code false lt = omega arith

pub relocation_again : (relocation : Relocation) (rest : List ℕ) → RelocationFits relocation
    → first_relocation (relocation_bytes relocation ++ rest) ≡ Ok (relocation, rest)
unfolding first_relocation
relocation_again relocation rest fits =
    let target = relocation.target in
    let below = command_below target in
    rw (
      bit_again (parts_of target).command relocation.is_byte below,
      code_again (parts_of target).command relocation.is_byte below,
      row_again relocation.is_byte target fits.form,
      target_again target rest fits.name fits.constant,
    ) refl

relocations_count : (relocations : List Relocation) → length relocations ≤ length (relocations_bytes relocations)
relocations_count [] = omega arith
relocations_count (relocation ∷ relocations) =
    let others = relocations_count relocations in
    omega (arith, length-append (relocation_bytes relocation) (relocations_bytes relocations))

relocations_within_again : (n : ℕ) (relocations : List Relocation) → length relocations ≤ n
    → AllByRecursion RelocationFits relocations
    → items_within first_relocation n (relocations_bytes relocations) ≡ Ok relocations
unfolding items_within
relocations_within_again zero [] le fits = refl
relocations_within_again (suc n) [] le fits = refl
relocations_within_again zero (relocation ∷ relocations) le fits = absurd (omega arith)
relocations_within_again (suc n) (relocation ∷ relocations) le fits =
    rw (
      relocation_again relocation (relocations_bytes relocations) fits.0,
      relocations_within_again n relocations (omega arith) fits.1,
    ) refl

pub relocations_again : (relocations : List Relocation) → RelocationsFit relocations
    → relocations_of (relocations_bytes relocations) ≡ Ok relocations
unfolding relocations_of items_of
relocations_again relocations fits =
    relocations_within_again (length (relocations_bytes relocations)) relocations (relocations_count relocations)
    (recursion_from_All RelocationFits relocations fits)
