-- Unless bytes end too early, more bytes after them change nothing that is read.
use Rattle.std.proofs.Common.{◌≡◌, ◌∙◌, ◌⊎◌, ℕ, ◌%◌, ◌<◌, Bool, true, false, cond, ltb, List, [], ◌∷◌, ◌++◌, length, Result, Ok, Err, refl, sym, ap, append-nil, arith, length-append, inl, inr}
use Rattle.std.specs.Prelude.{nat_le}
use Rattle.m11_base.specs.Rad50.{word_limit}
use Rattle.m11_obj.specs.declared.fault.RecordFault.{RecordFault}
use Rattle.m11_obj.specs.declared.fault.RecordFault.TheVariants.{BadLength, BadName}
use Rattle.m11_obj.specs.declared.gsd.GsdEntry.{GsdEntry}
use Rattle.m11_obj.specs.declared.relocations.Relocation.{Relocation}
use Rattle.m11_obj.specs.Gsd.{entry_bytes, EntryFits}
use Rattle.m11_obj.specs.Relocations.{relocation_bytes, RelocationFits}
use Rattle.m11_obj.specs.Reading.{◌>>=◌, first_byte, first_word, first_name_word, first_name, entry_kind, first_entry, Form, Nothing, Constant, Name, NameAndConstant, form_of, first_target, first_relocation}
use Rattle.m11_obj.proofs.FieldsOf.{ok_is, entry_of}
use Rattle.m11_obj.proofs.ReadAgain.{entry_again}
use Rattle.m11_obj.proofs.RelocationsAgain.{relocation_again}
use Rattle.m11_obj.proofs.Steps.{relocation_of}
use Rattle.m11_obj_laws.specs.Faults.{IsCut}

-- the result of a reading with more bytes after it
abbrev pub extended : {A : Type 0} → Result (A × List ℕ) RecordFault → List ℕ → Result (A × List ℕ) RecordFault
extended (Ok x) more = Ok (x.0, x.1 ++ more)
extended (Err said) more = Err said

-- the bytes end too early, or more bytes after them change nothing
abbrev pub Extends : {A : Type 0} → Result (A × List ℕ) RecordFault → Result (A × List ℕ) RecordFault → List ℕ → Type 0
Extends r longer more = (r ≡ Err BadLength) ⊎ (longer ≡ extended r more)

pub then_extends : {A B : Type 0} (r longer : Result (A × List ℕ) RecordFault)
    (f : A × List ℕ → Result (B × List ℕ) RecordFault) (more : List ℕ) → Extends r longer more
    → ((x : A × List ℕ) → Extends (f x) (f (x.0, x.1 ++ more)) more) → Extends (r >>= f) (longer >>= f) more
then_extends (Ok x) longer f more (inl e) g = absurd cc
then_extends {A} {B} (Ok x) longer f more (inr e) g =
    elim (g x) [
      | inl early ↦ inl early
      | inr same ↦ inr (ap (λ (r : Result (A × List ℕ) RecordFault). r >>= f) e ∙ same)
    ]
then_extends (Err fault) longer f more (inl e) g = inl cc
then_extends {A} (Err fault) longer f more (inr e) g =
    inr (ap (λ (r : Result (A × List ℕ) RecordFault). r >>= f) e)

-- a step that reads no byte leaves this true
pub between_extends : {A B : Type 0} (r : Result A RecordFault) (f g : A → Result (B × List ℕ) RecordFault) (more : List ℕ)
    → ((x : A) → Extends (f x) (g x) more) → Extends (r >>= f) (r >>= g) more
between_extends (Ok x) f g more h = h x
between_extends (Err fault) f g more h = inr refl

byte_extends : (bytes more : List ℕ) → Extends (first_byte bytes) (first_byte (bytes ++ more)) more
byte_extends [] more = inl refl
byte_extends (byte ∷ rest) more = inr refl

pub word_extends : (bytes more : List ℕ) → Extends (first_word bytes) (first_word (bytes ++ more)) more
unfolding first_word
word_extends [] more = inl refl
word_extends (low ∷ []) more = inl refl
word_extends (low ∷ high ∷ rest) more = inr refl

guard_extends : {A : Type 0} (b : Bool) (x : A) (rest more : List ℕ) (said : RecordFault)
    → Extends (cond b (Ok (x, rest)) (Err said)) (cond b (Ok (x, rest ++ more)) (Err said)) more
guard_extends true x rest more said = inr refl
guard_extends false x rest more said = inr refl

name_word_extends : (bytes more : List ℕ) → Extends (first_name_word bytes) (first_name_word (bytes ++ more)) more
unfolding first_name_word
name_word_extends bytes more =
    then_extends (first_word bytes) (first_word (bytes ++ more))
    (λ word. cond (ltb word.0 word_limit) (Ok word) (Err BadName)) more (word_extends bytes more)
    (λ word. guard_extends (ltb word.0 word_limit) word.0 word.1 more BadName)

name_extends : (bytes more : List ℕ) → Extends (first_name bytes) (first_name (bytes ++ more)) more
unfolding first_name
name_extends bytes more =
    then_extends (first_name_word bytes) (first_name_word (bytes ++ more))
    (λ first. first_name_word first.1 >>= λ second. Ok ((first.0, second.0), second.1)) more (name_word_extends bytes more)
    (λ first. then_extends (first_name_word first.1) (first_name_word (first.1 ++ more))
    (λ second. Ok ((first.0, second.0), second.1)) more (name_word_extends first.1 more) (λ second. inr refl))

pub entry_extends : (bytes more : List ℕ) → Extends (first_entry bytes) (first_entry (bytes ++ more)) more
unfolding first_entry
entry_extends bytes more =
    then_extends (first_name bytes) (first_name (bytes ++ more))
    (λ name. first_byte name.1 >>= λ flags. first_byte flags.1 >>= λ code. entry_kind code.0 >>=
    λ kind. first_word code.1 >>= λ value. Ok (entry_of name.0 flags.0 kind value.0, value.1)) more
    (name_extends bytes more)
    (λ name. then_extends (first_byte name.1) (first_byte (name.1 ++ more))
    (λ flags. first_byte flags.1 >>= λ code. entry_kind code.0 >>= λ kind. first_word code.1 >>= λ value. Ok
    (entry_of name.0 flags.0 kind value.0, value.1)) more (byte_extends name.1 more)
    (λ flags. then_extends (first_byte flags.1) (first_byte (flags.1 ++ more))
    (λ code. entry_kind code.0 >>= λ kind. first_word code.1 >>= λ value. Ok
    (entry_of name.0 flags.0 kind value.0, value.1)) more (byte_extends flags.1 more)
    (λ code. between_extends (entry_kind code.0)
    (λ kind. first_word code.1 >>= λ value. Ok (entry_of name.0 flags.0 kind value.0, value.1))
    (λ kind. first_word (code.1 ++ more) >>= λ value. Ok (entry_of name.0 flags.0 kind value.0, value.1)) more
    (λ kind. then_extends (first_word code.1) (first_word (code.1 ++ more))
    (λ value. Ok (entry_of name.0 flags.0 kind value.0, value.1)) more (word_extends code.1 more)
    (λ value. inr refl)))))

target_extends : (form : Form) (bytes more : List ℕ)
    → Extends (first_target form bytes) (first_target form (bytes ++ more)) more
unfolding first_target
target_extends (Nothing target) bytes more = inr refl
target_extends (Constant target) bytes more =
    then_extends (first_word bytes) (first_word (bytes ++ more)) (λ constant. Ok (target constant.0, constant.1)) more
    (word_extends bytes more) (λ constant. inr refl)
target_extends (Name target) bytes more =
    then_extends (first_name bytes) (first_name (bytes ++ more)) (λ name. Ok (target name.0, name.1)) more
    (name_extends bytes more) (λ name. inr refl)
target_extends (NameAndConstant target) bytes more =
    then_extends (first_name bytes) (first_name (bytes ++ more))
    (λ name. first_word name.1 >>= λ constant. Ok (target name.0 constant.0, constant.1)) more (name_extends bytes more)
    (λ name. then_extends (first_word name.1) (first_word (name.1 ++ more))
    (λ constant. Ok (target name.0 constant.0, constant.1)) more (word_extends name.1 more) (λ constant. inr refl))

pub relocation_extends : (bytes more : List ℕ)
    → Extends (first_relocation bytes) (first_relocation (bytes ++ more)) more
unfolding first_relocation
relocation_extends bytes more =
    then_extends (first_byte bytes) (first_byte (bytes ++ more))
    (λ code. form_of (nat_le 128 code.0) (code.0 % 128) >>= λ form. first_byte code.1 >>=
    λ displacement. first_target form displacement.1 >>= λ target. Ok
    (relocation_of code.0 displacement.0 target.0, target.1)) more (byte_extends bytes more)
    (λ code. between_extends (form_of (nat_le 128 code.0) (code.0 % 128))
    (λ form. first_byte code.1 >>= λ displacement. first_target form displacement.1 >>= λ target. Ok
    (relocation_of code.0 displacement.0 target.0, target.1))
    (λ form. first_byte (code.1 ++ more) >>= λ displacement. first_target form displacement.1 >>= λ target. Ok
    (relocation_of code.0 displacement.0 target.0, target.1)) more
    (λ form. then_extends (first_byte code.1) (first_byte (code.1 ++ more))
    (λ displacement. first_target form displacement.1 >>= λ target. Ok
    (relocation_of code.0 displacement.0 target.0, target.1)) more (byte_extends code.1 more)
    (λ displacement. then_extends (first_target form displacement.1) (first_target form (displacement.1 ++ more))
    (λ target. Ok (relocation_of code.0 displacement.0 target.0, target.1)) more
    (target_extends form displacement.1 more) (λ target. inr refl))))

-- ---- cut bytes end too early

abbrev whole : {A : Type 0} → A → Result (A × List ℕ) RecordFault
whole x = Ok (x, [])

no_more : {A : Type 0} (x : A) (r longer : Result (A × List ℕ) RecordFault) (more : List ℕ) → 0 < length more
    → longer ≡ whole x → longer ≡ extended r more → ⊥
no_more {A} x (Ok y) longer more lt e f =
    let same : whole x ≡ Ok (y.0, y.1 ++ more) = sym e ∙ f in
    let none : [] ≡ y.1 ++ more =
    ap (λ (p : A × List ℕ). p.1) (ok_is (x, []) (y.0, y.1 ++ more) same) in
    omega (arith, ap length none, length-append y.1 more)
no_more x (Err said) longer more lt e f = let same = sym e ∙ f in cc

cut_ends : {A : Type 0} (x : A) (r longer : Result (A × List ℕ) RecordFault) (more : List ℕ) → 0 < length more
    → longer ≡ whole x → Extends r longer more → r ≡ Err BadLength
cut_ends x r longer more lt e (inl early) = early
cut_ends x r longer more lt e (inr same) = absurd (no_more x r longer more lt e same)

pub entry_cut : (entry : GsdEntry) (bytes : List ℕ) → EntryFits entry → IsCut (entry_bytes entry) bytes
    → first_entry bytes ≡ Err BadLength
entry_cut entry bytes fits cut =
    let read : first_entry (bytes ++ cut.missing) ≡ whole entry =
    ap first_entry (sym cut.split ∙ sym (append-nil (entry_bytes entry))) ∙ entry_again entry [] fits in
    cut_ends entry (first_entry bytes) (first_entry (bytes ++ cut.missing)) cut.missing cut.some read
    (entry_extends bytes cut.missing)

pub relocation_cut : (relocation : Relocation) (bytes : List ℕ) → RelocationFits relocation
    → IsCut (relocation_bytes relocation) bytes → first_relocation bytes ≡ Err BadLength
relocation_cut relocation bytes fits cut =
    let read : first_relocation (bytes ++ cut.missing) ≡ whole relocation =
    ap first_relocation (sym cut.split ∙ sym (append-nil (relocation_bytes relocation)))
    ∙ relocation_again relocation [] fits in
    cut_ends relocation (first_relocation bytes) (first_relocation (bytes ++ cut.missing)) cut.missing cut.some read
    (relocation_extends bytes cut.missing)
