-- Fields and items that are read from bytes are in these bytes in the only form in which they are written.
use Rattle.std.proofs.Common.{◌≡◌, ℕ, zero, suc, ◌+◌, ◌*◌, ◌/◌, ◌%◌, ◌<◌, ◌≤◌, ◌^◌, Bool, true, false, cond, ltb, List, [], ◌∷◌, ◌++◌, length, Option, Some, None, Result, Ok, Err, refl, sym, ap, subst, ◌∙◌, append_assoc, arith}
use Rattle.std.specs.Prelude.{IfSome, ◌&&◌, nat_le}
use Rattle.std.specs.List.{flat_map, AllByRecursion}
use Rattle.std.proofs.lemmas.Bool.{ltb-true, leb-true, leb-false}
use Rattle.m11_base.specs.Rad50.{IsName, word_limit}
use Rattle.m11_obj.specs.declared.fault.RecordFault.{RecordFault}
use Rattle.m11_obj.specs.declared.fault.RecordFault.TheVariants.{BadName, UnknownRelocation}
use Rattle.m11_obj.specs.declared.gsd.GsdKind.{GsdKind}
use Rattle.m11_obj.specs.declared.gsd.GsdKind.TheVariants.{ModuleName, ControlSection, InternalSymbol, TransferAddress, GlobalSymbol, ProgramSection, Identification}
use Rattle.m11_obj.specs.declared.gsd.GsdEntry.{GsdEntry}
use Rattle.m11_obj.specs.declared.relocations.Target.{Target}
use Rattle.m11_obj.specs.declared.relocations.Target.TheVariants.{Internal, Global, InternalDisplaced, GlobalDisplaced, GlobalAdditive, GlobalAdditiveDisplaced, LocationCounterDefinition, LocationCounterModification, ProgramLimits, Section, SectionDisplaced, SectionAdditive, SectionAdditiveDisplaced}
use Rattle.m11_obj.specs.declared.relocations.Relocation.{Relocation}
use Rattle.m11_obj_blocks.specs.Frames.{word_bytes}
use Rattle.m11_obj.specs.Gsd.{kind_code, name_bytes, entry_bytes, EntryFits}
use Rattle.m11_obj.specs.Relocations.{parts_of, optional_name, optional_word, byte_form, relocation_bytes, FormExists, RelocationFits}
use Rattle.m11_obj.specs.Reading.{◌>>=◌, first_byte, first_word, first_name_word, first_name, entry_kind, first_entry, items_within, Form, Nothing, Constant, Name, NameAndConstant, is_without_byte_form, row_of, form_of, first_target, first_relocation}
use Rattle.m11_obj.proofs.FieldsOf.{done, ok_is, bind_ok, guard_ok, entry_of}
use Rattle.m11_obj.proofs.Items.{Shrinks}
use Rattle.m11_obj.proofs.Steps.{relocation_of}

-- each number is a byte
abbrev pub Bytes : List ℕ → Type 0
Bytes bytes = AllByRecursion (λ byte. byte < 256) bytes

-- the bytes are what is written and then the rest, of which each number is a byte
pub record Begins (bytes written rest : List ℕ) : Type 0 where
  pub is : bytes ≡ written ++ rest
  pub following : Bytes rest

begins_then : (bytes first middle second rest : List ℕ) → Begins bytes first middle → Begins middle second rest
    → Begins bytes (first ++ second) rest
begins_then bytes first middle second rest one two = record {
  is = one.is ∙ ap (λ (xs : List ℕ). first ++ xs) two.is ∙ sym (append_assoc first second rest);
  following = two.following;
}

-- ---- words and names

-- the bytes begin with the field as it is written, and the field has the property `P`
pub record Reads {A : Type 0} (write : A → List ℕ) (P : A → Type 0) (bytes : List ℕ) (x : A × List ℕ) : Type 0 where
  pub begins : Begins bytes (write x.0) x.1
  pub fits : P x.0

abbrev ByteReads : List ℕ → ℕ × List ℕ → Type 0
ByteReads bytes x = Reads (λ byte. byte ∷ []) (λ byte. byte < 256) bytes x

abbrev pub WordReads : List ℕ → ℕ × List ℕ → Type 0
WordReads bytes x = Reads word_bytes (λ word. word < 2 ^ 16) bytes x

abbrev NameWordReads : List ℕ → ℕ × List ℕ → Type 0
NameWordReads bytes x = Reads word_bytes (λ word. word < word_limit) bytes x

abbrev NameReads : List ℕ → (ℕ × ℕ) × List ℕ → Type 0
NameReads bytes x = Reads name_bytes IsName bytes x

byte_reads : (bytes : List ℕ) (x : ℕ × List ℕ) → Bytes bytes → first_byte bytes ≡ Ok x → ByteReads bytes x
byte_reads [] x are e = absurd cc
byte_reads (byte ∷ rest) x are e =
    let made : ℕ × List ℕ = (byte, rest) in
    let here : ByteReads (byte ∷ rest) made = record { begins = record { is = refl; following = are.1 }; fits = are.0 } in
    subst (λ (p : ℕ × List ℕ). ByteReads (byte ∷ rest) p) (ok_is made x e) here

word_made : (low high : ℕ) (rest : List ℕ) → low < 256 → high < 256 → Bytes rest
    → WordReads (low ∷ high ∷ rest) (low + 256 * high, rest)
word_made low high rest l h are =
    let first : (low + 256 * high) % 256 ≡ low = omega arith in
    let second : (low + 256 * high) / 256 % 256 ≡ high = omega arith in
    record {
      begins = record {
        is = ap (λ (n : ℕ). n ∷ high ∷ rest) (sym first)
            ∙ ap (λ (n : ℕ). ((low + 256 * high) % 256) ∷ n ∷ rest) (sym second);
        following = are;
      };
      fits = omega arith;
    }

pub word_reads : (bytes : List ℕ) (x : ℕ × List ℕ) → Bytes bytes → first_word bytes ≡ Ok x → WordReads bytes x
unfolding first_word
word_reads [] x are e = absurd cc
word_reads (low ∷ []) x are e = absurd cc
word_reads (low ∷ high ∷ rest) x are e =
    let made : ℕ × List ℕ = (low + 256 * high, rest) in
    subst (λ (p : ℕ × List ℕ). WordReads (low ∷ high ∷ rest) p) (ok_is made x e)
    (word_made low high rest are.0 are.1.0 are.1.1)

guard_true : {A : Type 0} (b : Bool) (x y : A) (fault : RecordFault) → cond b (Ok x) (Err fault) ≡ Ok y → b ≡ true
guard_true true x y fault e = refl
guard_true false x y fault e = absurd cc

name_word_reads : (bytes : List ℕ) (x : ℕ × List ℕ) → Bytes bytes → first_name_word bytes ≡ Ok x → NameWordReads bytes x
unfolding first_name_word
name_word_reads bytes x are e =
    let b = bind_ok (first_word bytes) (λ word. cond (ltb word.0 word_limit) (Ok word) (Err BadName)) x e in
    let same = guard_ok (ltb b.0.0 word_limit) b.0 x BadName b.2 in
    let below = ltb-true b.0.0 word_limit (guard_true (ltb b.0.0 word_limit) b.0 x BadName b.2) in
    let word = word_reads bytes b.0 are b.1 in
    let here : NameWordReads bytes b.0 = record { begins = word.begins; fits = below } in
    subst (λ (p : ℕ × List ℕ). NameWordReads bytes p) same here

name_reads : (bytes : List ℕ) (x : (ℕ × ℕ) × List ℕ) → Bytes bytes → first_name bytes ≡ Ok x → NameReads bytes x
unfolding first_name
name_reads bytes x are e =
    let a =
    bind_ok (first_name_word bytes)
    (λ first. first_name_word first.1 >>= λ second. Ok ((first.0, second.0), second.1)) x e in
    let b = bind_ok (first_name_word a.0.1) (λ second. Ok ((a.0.0, second.0), second.1)) x a.2 in
    let first = name_word_reads bytes a.0 are a.1 in
    let second = name_word_reads a.0.1 b.0 first.begins.following b.1 in
    let made : (ℕ × ℕ) × List ℕ = ((a.0.0, b.0.0), b.0.1) in
    let here : NameReads bytes made = record {
      begins = begins_then bytes (word_bytes a.0.0) a.0.1 (word_bytes b.0.0) b.0.1 first.begins second.begins;
      fits = (first.fits, second.fits);
    } in
    subst (λ (p : (ℕ × ℕ) × List ℕ). NameReads bytes p) (ok_is made x b.2) here

-- ---- entries

kind_is_code : (code : ℕ) (kind : GsdKind) → entry_kind code ≡ Ok kind → code ≡ kind_code kind
unfolding entry_kind
kind_is_code zero kind e = ap kind_code (ok_is ModuleName kind e)
kind_is_code (suc zero) kind e = ap kind_code (ok_is ControlSection kind e)
kind_is_code (suc (suc zero)) kind e = ap kind_code (ok_is InternalSymbol kind e)
kind_is_code (suc (suc (suc zero))) kind e = ap kind_code (ok_is TransferAddress kind e)
kind_is_code (suc (suc (suc (suc zero)))) kind e = ap kind_code (ok_is GlobalSymbol kind e)
kind_is_code (suc (suc (suc (suc (suc zero))))) kind e = ap kind_code (ok_is ProgramSection kind e)
kind_is_code (suc (suc (suc (suc (suc (suc zero)))))) kind e = ap kind_code (ok_is Identification kind e)
kind_is_code (suc (suc (suc (suc (suc (suc (suc zero))))))) kind e = absurd cc
kind_is_code (suc (suc (suc (suc (suc (suc (suc (suc code)))))))) kind e = absurd cc

abbrev pub EntryReads : List ℕ → GsdEntry × List ℕ → Type 0
EntryReads bytes x = Reads entry_bytes EntryFits bytes x

entry_made : (bytes : List ℕ) (name : (ℕ × ℕ) × List ℕ) (flags code value : ℕ × List ℕ) (kind : GsdKind)
    (x : GsdEntry × List ℕ) → NameReads bytes name → ByteReads name.1 flags → ByteReads flags.1 code
    → WordReads code.1 value → entry_kind code.0 ≡ Ok kind
    → done (entry_of name.0 flags.0 kind value.0, value.1) ≡ done x → EntryReads bytes x
entry_made bytes name flags code value kind x n f c v is e =
    let last = begins_then flags.1 (code.0 ∷ []) code.1 (word_bytes value.0) value.1 c.begins v.begins in
    let others = begins_then name.1 (flags.0 ∷ []) flags.1 (code.0 ∷ word_bytes value.0) value.1 f.begins last in
    let whole =
    begins_then bytes (name_bytes name.0) name.1 (flags.0 ∷ code.0 ∷ word_bytes value.0) value.1 n.begins others in
    let made : GsdEntry × List ℕ = (entry_of name.0 flags.0 kind value.0, value.1) in
    let here : EntryReads bytes made = record {
      begins = subst (λ (k : ℕ). Begins bytes (name_bytes name.0 ++ flags.0 ∷ k ∷ word_bytes value.0) value.1)
          (kind_is_code code.0 kind is) whole;
      fits = record { name = n.fits; flags = f.fits; value = v.fits };
    } in
    subst (λ (p : GsdEntry × List ℕ). EntryReads bytes p) (ok_is made x e) here

pub entry_reads : (bytes : List ℕ) (x : GsdEntry × List ℕ) → Bytes bytes → first_entry bytes ≡ Ok x → EntryReads bytes x
unfolding first_entry
entry_reads bytes x are e =
    let name =
    bind_ok (first_name bytes)
    (λ name. first_byte name.1 >>= λ flags. first_byte flags.1 >>= λ code. entry_kind code.0 >>=
    λ kind. first_word code.1 >>= λ value. Ok (entry_of name.0 flags.0 kind value.0, value.1)) x e in
    let flags =
    bind_ok (first_byte name.0.1)
    (λ flags. first_byte flags.1 >>= λ code. entry_kind code.0 >>= λ kind. first_word code.1 >>= λ value. Ok
    (entry_of name.0.0 flags.0 kind value.0, value.1)) x name.2 in
    let code =
    bind_ok (first_byte flags.0.1)
    (λ code. entry_kind code.0 >>= λ kind. first_word code.1 >>= λ value. Ok
    (entry_of name.0.0 flags.0.0 kind value.0, value.1)) x flags.2 in
    let kind =
    bind_ok (entry_kind code.0.0)
    (λ kind. first_word code.0.1 >>= λ value. Ok (entry_of name.0.0 flags.0.0 kind value.0, value.1)) x
    code.2 in
    let value =
    bind_ok (first_word code.0.1) (λ value. Ok (entry_of name.0.0 flags.0.0 kind.0 value.0, value.1)) x kind.2 in
    let n = name_reads bytes name.0 are name.1 in
    let f = byte_reads name.0.1 flags.0 n.begins.following flags.1 in
    let c = byte_reads flags.0.1 code.0 f.begins.following code.1 in
    let v = word_reads code.0.1 value.0 c.begins.following value.1 in
    entry_made bytes name.0 flags.0 code.0 value.0 kind.0 x n f c v kind.1 value.2

-- ---- relocations

-- a target has this command, and this name and constant, if any
record TargetIs (code : ℕ) (target : Target) (name : Option (ℕ × ℕ)) (constant : Option ℕ) : Type 0 where
  command_is : (parts_of target).command ≡ code
  name_is : (parts_of target).name ≡ name
  constant_is : (parts_of target).constant ≡ constant

-- each target of the form has this command, and the fields of the form
abbrev Reports : ℕ → Form → Type 0
Reports code (Nothing target) = TargetIs code target None None
Reports code (Constant target) = (constant : ℕ) → TargetIs code (target constant) None (Some constant)
Reports code (Name target) = (name : ℕ × ℕ) → TargetIs code (target name) (Some name) None
Reports code (NameAndConstant target) =
    (name : ℕ × ℕ) (constant : ℕ) → TargetIs code (target name constant) (Some name) (Some constant)

row_reports : (code : ℕ) (form : Form) → row_of code ≡ Ok form → Reports code form
unfolding row_of
row_reports zero form e = absurd cc
row_reports (suc zero) form e =
    subst (λ (f : Form). Reports 1 f) (ok_is (Constant (λ constant. Internal constant)) form e)
    (λ constant. record { command_is = refl; name_is = refl; constant_is = refl })
row_reports (suc (suc zero)) form e =
    subst (λ (f : Form). Reports 2 f) (ok_is (Name (λ name. Global name)) form e)
    (λ name. record { command_is = refl; name_is = refl; constant_is = refl })
row_reports (suc (suc (suc zero))) form e =
    subst (λ (f : Form). Reports 3 f) (ok_is (Constant (λ constant. InternalDisplaced constant)) form e)
    (λ constant. record { command_is = refl; name_is = refl; constant_is = refl })
row_reports (suc (suc (suc (suc zero)))) form e =
    subst (λ (f : Form). Reports 4 f) (ok_is (Name (λ name. GlobalDisplaced name)) form e)
    (λ name. record { command_is = refl; name_is = refl; constant_is = refl })
row_reports (suc (suc (suc (suc (suc zero))))) form e =
    subst (λ (f : Form). Reports 5 f) (ok_is (NameAndConstant (λ name constant. GlobalAdditive name constant)) form e)
    (λ name constant. record { command_is = refl; name_is = refl; constant_is = refl })
row_reports (suc (suc (suc (suc (suc (suc zero)))))) form e =
    subst (λ (f : Form). Reports 6 f)
    (ok_is (NameAndConstant (λ name constant. GlobalAdditiveDisplaced name constant)) form e)
    (λ name constant. record { command_is = refl; name_is = refl; constant_is = refl })
row_reports (suc (suc (suc (suc (suc (suc (suc zero))))))) form e =
    subst (λ (f : Form). Reports 7 f)
    (ok_is (NameAndConstant (λ name constant. LocationCounterDefinition name constant)) form e)
    (λ name constant. record { command_is = refl; name_is = refl; constant_is = refl })
row_reports (suc (suc (suc (suc (suc (suc (suc (suc zero)))))))) form e =
    subst (λ (f : Form). Reports 8 f) (ok_is (Constant (λ constant. LocationCounterModification constant)) form e)
    (λ constant. record { command_is = refl; name_is = refl; constant_is = refl })
row_reports (suc (suc (suc (suc (suc (suc (suc (suc (suc zero))))))))) form e =
    subst (λ (f : Form). Reports 9 f) (ok_is (Nothing ProgramLimits) form e)
    (record { command_is = refl; name_is = refl; constant_is = refl })
row_reports (suc (suc (suc (suc (suc (suc (suc (suc (suc (suc zero)))))))))) form e =
    subst (λ (f : Form). Reports 10 f) (ok_is (Name (λ name. Section name)) form e)
    (λ name. record { command_is = refl; name_is = refl; constant_is = refl })
row_reports (suc (suc (suc (suc (suc (suc (suc (suc (suc (suc (suc zero))))))))))) form e = absurd cc
row_reports (suc (suc (suc (suc (suc (suc (suc (suc (suc (suc (suc (suc zero)))))))))))) form e =
    subst (λ (f : Form). Reports 12 f) (ok_is (Name (λ name. SectionDisplaced name)) form e)
    (λ name. record { command_is = refl; name_is = refl; constant_is = refl })
row_reports (suc (suc (suc (suc (suc (suc (suc (suc (suc (suc (suc (suc (suc zero))))))))))))) form e =
    subst (λ (f : Form). Reports 13 f) (ok_is (NameAndConstant (λ name constant. SectionAdditive name constant)) form e)
    (λ name constant. record { command_is = refl; name_is = refl; constant_is = refl })
row_reports (suc (suc (suc (suc (suc (suc (suc (suc (suc (suc (suc (suc (suc (suc zero)))))))))))))) form e =
    subst (λ (f : Form). Reports 14 f)
    (ok_is (NameAndConstant (λ name constant. SectionAdditiveDisplaced name constant)) form e)
    (λ name constant. record { command_is = refl; name_is = refl; constant_is = refl })
row_reports (suc (suc (suc (suc (suc (suc (suc (suc (suc (suc (suc (suc (suc (suc (suc zero))))))))))))))) form e =
    absurd cc
row_reports (suc (suc (suc (suc (suc (suc (suc (suc (suc (suc (suc (suc (suc (suc (suc (suc code)))))))))))))))) form e =
    absurd cc

form_parts : (b : Bool) (row : Result Form RecordFault) (form : Form) → cond b (Err UnknownRelocation) row ≡ Ok form
    → (row ≡ Ok form) × (b ≡ false)
form_parts true row form e = absurd cc
form_parts false row form e = (e, refl)

form_exists : (is_byte : Bool) (target : Target) → (is_byte && is_without_byte_form (parts_of target).command) ≡ false
    → FormExists is_byte target
form_exists false target e = tt
form_exists true (Internal constant) e = tt
form_exists true (Global name) e = tt
form_exists true (InternalDisplaced constant) e = tt
form_exists true (GlobalDisplaced name) e = tt
form_exists true (GlobalAdditive name constant) e = tt
form_exists true (GlobalAdditiveDisplaced name constant) e = tt
form_exists true (LocationCounterDefinition name constant) e = absurd cc
form_exists true (LocationCounterModification constant) e = absurd cc
form_exists true ProgramLimits e = absurd cc
form_exists true (Section name) e = tt
form_exists true (SectionDisplaced name) e = tt
form_exists true (SectionAdditive name constant) e = tt
form_exists true (SectionAdditiveDisplaced name constant) e = tt

-- the bytes after a displacement begin with the name and the constant of a target with this command, which are in range
record TargetStands (code : ℕ) (bytes : List ℕ) (x : Target × List ℕ) : Type 0 where
  begins : Begins bytes (optional_name (parts_of x.0).name ++ optional_word (parts_of x.0).constant) x.1
  command_is : (parts_of x.0).command ≡ code
  name : IfSome (parts_of x.0).name IsName
  constant : IfSome (parts_of x.0).constant (λ word. word < 2 ^ 16)

stands : (code : ℕ) (bytes : List ℕ) (target : Target) (rest : List ℕ) (x : Target × List ℕ) (name : Option (ℕ × ℕ))
    (constant : Option ℕ) → TargetIs code target name constant
    → Begins bytes (optional_name name ++ optional_word constant) rest → IfSome name IsName
    → IfSome constant (λ word. word < 2 ^ 16) → done (target, rest) ≡ done x → TargetStands code bytes x
stands code bytes target rest x name constant reports begins is_name fits e =
    let made : Target × List ℕ = (target, rest) in
    let N : Option (ℕ × ℕ) → Type 0 =
    λ n. Begins bytes (optional_name n ++ optional_word (parts_of target).constant) rest in
    let C : Option ℕ → Type 0 = λ c. Begins bytes (optional_name name ++ optional_word c) rest in
    let here : TargetStands code bytes made = record {
      begins = subst N (sym reports.name_is) (subst C (sym reports.constant_is) begins);
      command_is = reports.command_is;
      name = subst (λ (n : Option (ℕ × ℕ)). IfSome n IsName) (sym reports.name_is) is_name;
      constant = subst (λ (c : Option ℕ). IfSome c (λ word. word < 2 ^ 16)) (sym reports.constant_is) fits;
    } in
    subst (λ (p : Target × List ℕ). TargetStands code bytes p) (ok_is made x e) here

target_stands : (form : Form) (code : ℕ) (bytes : List ℕ) (x : Target × List ℕ) → Reports code form → Bytes bytes
    → first_target form bytes ≡ Ok x → TargetStands code bytes x
unfolding first_target
target_stands (Nothing target) code bytes x reports are e =
    stands code bytes target bytes x None None reports (record { is = refl; following = are }) tt tt e
target_stands (Constant target) code bytes x reports are e =
    let constant = bind_ok (first_word bytes) (λ constant. Ok (target constant.0, constant.1)) x e in
    let word = word_reads bytes constant.0 are constant.1 in
    stands code bytes (target constant.0.0) constant.0.1 x None (Some constant.0.0) (reports constant.0.0) word.begins tt
    word.fits constant.2
target_stands (Name target) code bytes x reports are e =
    let name = bind_ok (first_name bytes) (λ name. Ok (target name.0, name.1)) x e in
    let n = name_reads bytes name.0 are name.1 in
    stands code bytes (target name.0.0) name.0.1 x (Some name.0.0) None (reports name.0.0) n.begins n.fits tt name.2
target_stands (NameAndConstant target) code bytes x reports are e =
    let name =
    bind_ok (first_name bytes)
    (λ name. first_word name.1 >>= λ constant. Ok (target name.0 constant.0, constant.1)) x e in
    let constant = bind_ok (first_word name.0.1) (λ constant. Ok (target name.0.0 constant.0, constant.1)) x name.2 in
    let n = name_reads bytes name.0 are name.1 in
    let word = word_reads name.0.1 constant.0 n.begins.following constant.1 in
    let both =
    begins_then bytes (name_bytes name.0.0) name.0.1 (word_bytes constant.0.0) constant.0.1 n.begins word.begins in
    stands code bytes (target name.0.0 constant.0.0) constant.0.1 x (Some name.0.0) (Some constant.0.0)
    (reports name.0.0 constant.0.0) both n.fits word.fits constant.2

-- a command byte is its command plus the bit of its form
code_parts : (code : ℕ) (b : Bool) → code < 256 → nat_le 128 code ≡ b → code ≡ code % 128 + byte_form b
code_parts code true lt e = let le = leb-true 128 code e in omega arith
code_parts code false lt e = let le = leb-false 128 code e in omega arith

abbrev pub RelocationReads : List ℕ → Relocation × List ℕ → Type 0
RelocationReads bytes x = Reads relocation_bytes RelocationFits bytes x

relocation_made : (bytes : List ℕ) (code displacement : ℕ × List ℕ) (target : Target × List ℕ)
    (x : Relocation × List ℕ) → ByteReads bytes code → ByteReads code.1 displacement
    → TargetStands (code.0 % 128) displacement.1 target
    → (nat_le 128 code.0 && is_without_byte_form (code.0 % 128)) ≡ false
    → done (relocation_of code.0 displacement.0 target.0, target.1) ≡ done x → RelocationReads bytes x
relocation_made bytes code displacement target x c d t has_form e =
    let is_byte : Bool = nat_le 128 code.0 in
    let following : List ℕ = optional_name ((parts_of target.0).name) ++ optional_word ((parts_of target.0).constant) in
    let others = begins_then code.1 (displacement.0 ∷ []) displacement.1 following target.1 d.begins t.begins in
    let whole = begins_then bytes (code.0 ∷ []) code.1 (displacement.0 ∷ following) target.1 c.begins others in
    let command_byte : code.0 ≡ (parts_of target.0).command + byte_form is_byte =
    code_parts code.0 is_byte c.fits refl ∙ ap (λ (n : ℕ). n + byte_form is_byte) (sym t.command_is) in
    let exists : (is_byte && is_without_byte_form ((parts_of target.0).command)) ≡ false =
    ap (λ (n : ℕ). is_byte && is_without_byte_form n) t.command_is ∙ has_form in
    let made : Relocation × List ℕ = (relocation_of code.0 displacement.0 target.0, target.1) in
    let here : RelocationReads bytes made = record {
      begins = subst (λ (k : ℕ). Begins bytes (k ∷ displacement.0 ∷ following) target.1) command_byte whole;
      fits = record {
        form = form_exists is_byte target.0 exists;
        displacement = d.fits;
        name = t.name;
        constant = t.constant;
      };
    } in
    subst (λ (p : Relocation × List ℕ). RelocationReads bytes p) (ok_is made x e) here

pub relocation_reads : (bytes : List ℕ) (x : Relocation × List ℕ) → Bytes bytes → first_relocation bytes ≡ Ok x
    → RelocationReads bytes x
unfolding first_relocation form_of
relocation_reads bytes x are e =
    let code =
    bind_ok (first_byte bytes)
    (λ code. form_of (nat_le 128 code.0) (code.0 % 128) >>= λ form. first_byte code.1 >>=
    λ displacement. first_target form displacement.1 >>= λ target. Ok
    (relocation_of code.0 displacement.0 target.0, target.1)) x e in
    let form =
    bind_ok (form_of (nat_le 128 code.0.0) (code.0.0 % 128))
    (λ form. first_byte code.0.1 >>= λ displacement. first_target form displacement.1 >>= λ target. Ok
    (relocation_of code.0.0 displacement.0 target.0, target.1)) x code.2 in
    let displacement =
    bind_ok (first_byte code.0.1)
    (λ displacement. first_target form.0 displacement.1 >>= λ target. Ok
    (relocation_of code.0.0 displacement.0 target.0, target.1)) x form.2 in
    let target =
    bind_ok (first_target form.0 displacement.0.1)
    (λ target. Ok (relocation_of code.0.0 displacement.0.0 target.0, target.1)) x displacement.2 in
    let c = byte_reads bytes code.0 are code.1 in
    let d = byte_reads code.0.1 displacement.0 c.begins.following displacement.1 in
    let parts =
    form_parts (nat_le 128 code.0.0 && is_without_byte_form (code.0.0 % 128)) (row_of (code.0.0 % 128)) form.0
    form.1 in
    let t =
    target_stands form.0 (code.0.0 % 128) displacement.0.1 target.0 (row_reports (code.0.0 % 128) form.0 parts.0)
    d.begins.following target.1 in
    relocation_made bytes code.0 displacement.0 target.0 x c d t parts.1 target.2

-- ---- items one after another

module _ {A : Type 0} (first : List ℕ → Result (A × List ℕ) RecordFault) (write : A → List ℕ) (P : A → Type 0) where
  -- each item that is read is in the bytes as it is written
  pub record EachReads : Type 0 where
    pub at : (bytes : List ℕ) (x : A × List ℕ) → Bytes bytes → first bytes ≡ Ok x → Reads write P bytes x

  -- the bytes are these items as they are written, and each item has the property `P`
  pub record AllRead (bytes : List ℕ) (items : List A) : Type 0 where
    pub is : bytes ≡ flat_map write items
    pub fits : AllByRecursion P items

  pub items_read : (n : ℕ) (bytes : List ℕ) (items : List A) → EachReads → Shrinks first → Bytes bytes
      → length bytes ≤ n → items_within first n bytes ≡ Ok items → AllRead bytes items
  unfolding items_within
  items_read zero [] items each shrinks are le e =
      subst (λ (xs : List A). AllRead [] xs) (ok_is [] items e) (record { is = refl; fits = tt })
  items_read (suc n) [] items each shrinks are le e =
      subst (λ (xs : List A). AllRead [] xs) (ok_is [] items e) (record { is = refl; fits = tt })
  items_read zero (byte ∷ bytes) items each shrinks are le e = absurd (omega arith)
  items_read (suc n) (byte ∷ bytes) items each shrinks are le e =
      let a =
      bind_ok (first (byte ∷ bytes)) (λ item. items_within first n item.1 >>= λ others. Ok (item.0 ∷ others)) items
      e in
      let b = bind_ok (items_within first n a.0.1) (λ others. Ok (a.0.0 ∷ others)) items a.2 in
      let here = each.at (byte ∷ bytes) a.0 are a.1 in
      let less = shrinks.shorter (byte ∷ bytes) a.0 a.1 in
      let others = items_read n a.0.1 b.0 each shrinks here.begins.following (omega arith) b.1 in
      let whole : AllRead (byte ∷ bytes) (a.0.0 ∷ b.0) = record {
        is = here.begins.is ∙ ap (λ (xs : List ℕ). write a.0.0 ++ xs) others.is;
        fits = (here.fits, others.fits);
      } in
      subst (λ (xs : List A). AllRead (byte ∷ bytes) xs) (ok_is (a.0.0 ∷ b.0) items b.2) whole
