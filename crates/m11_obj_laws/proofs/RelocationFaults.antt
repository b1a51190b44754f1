-- The fault of a relocation is the one that its bytes show.
use Rattle.std.proofs.Common.{◌≡◌, ◌∙◌, ◌⊎◌, ℕ, zero, suc, ◌+◌, ◌-◌, ◌*◌, ◌%◌, ◌<◌, ◌≤◌, ◌^◌, Bool, true, false, cond, List, [], ◌∷◌, ◌++◌, length, Option, Some, None, Result, Ok, Err, refl, sym, ap, subst, append-nil, arith, inl, inr}
use Rattle.std.specs.Prelude.{IsSome, ◌&&◌, nat_le}
use Rattle.std.proofs.lemmas.Bool.{leb-true, leb-false, le-leb, lt-leb}
use Rattle.m11_base.specs.Rad50.{IsName}
use Rattle.m11_obj_blocks.specs.Frames.{word_bytes}
use Rattle.m11_obj.specs.declared.fault.RecordFault.{RecordFault}
use Rattle.m11_obj.specs.declared.fault.RecordFault.TheVariants as fault
use Rattle.m11_obj.specs.declared.relocations.Target.{Target}
use Rattle.m11_obj.specs.declared.relocations.Relocation.{Relocation}
use Rattle.m11_obj.specs.Gsd.{name_bytes}
use Rattle.m11_obj.specs.Relocations.{parts_of, optional_name, optional_word, byte_form, relocation_bytes, RelocationFits}
use Rattle.m11_obj.specs.Reading.{◌>>=◌, first_byte, first_word, first_name, Form, Nothing, Constant, Name, NameAndConstant, is_without_byte_form, row_of, form_of, first_target, first_relocation}
use Rattle.m11_obj.proofs.FieldsOf.{bind_ok, done, ok_is}
use Rattle.m11_obj.proofs.ReadAgain.{word_again, name_again}
use Rattle.m11_obj.proofs.RelocationsAgain.{relocation_again}
use Rattle.m11_obj.proofs.ReadBack.{Bytes, relocation_reads}
use Rattle.m11_obj.proofs.Steps.{relocation_of}
use Rattle.m11_obj_laws.specs.Faults.{IsCut, IsNoCommand, HasNoByteForm, IsRefused, BeginsNoName, ShowsInRelocation}
use Rattle.m11_obj_laws.proofs.Steps.{bind_err, word_refuses, word_cut, cut_before, cut_after}
use Rattle.m11_obj_laws.proofs.Longer.{relocation_cut}
use Rattle.m11_obj_laws.proofs.Names.{NameStands, NameRefused, NameCut, NoName, name_stands, name_refuses, none_refused, byte_small}

-- ---- commands

-- this command is refused
data RowRefused (said : RecordFault) (command : ℕ) : Type 0 where
  NoRow : fault.UnknownRelocation ≡ said → IsNoCommand command → RowRefused said command
  ComplexRow : fault.Complex ≡ said → command ≡ 0o17 → RowRefused said command

no_zero : IsNoCommand 0
no_zero = inl refl

no_eleven : IsNoCommand 0o13
no_eleven = inr (inl refl)

above : (command : ℕ) → 0o20 ≤ command → command < 0o200 → IsNoCommand command
above command le lt = inr (inr (le, lt))

row_refuses : (said : RecordFault) (command : ℕ) → command < 0o200 → row_of command ≡ Err said → RowRefused said command
unfolding row_of
row_refuses said zero lt e = NoRow (cc) no_zero
row_refuses said (suc zero) lt e = absurd cc
row_refuses said (suc (suc zero)) lt e = absurd cc
row_refuses said (suc (suc (suc zero))) lt e = absurd cc
row_refuses said (suc (suc (suc (suc zero)))) lt e = absurd cc
row_refuses said (suc (suc (suc (suc (suc zero))))) lt e = absurd cc
row_refuses said (suc (suc (suc (suc (suc (suc zero)))))) lt e = absurd cc
row_refuses said (suc (suc (suc (suc (suc (suc (suc zero))))))) lt e = absurd cc
row_refuses said (suc (suc (suc (suc (suc (suc (suc (suc zero)))))))) lt e = absurd cc
row_refuses said (suc (suc (suc (suc (suc (suc (suc (suc (suc zero))))))))) lt e = absurd cc
row_refuses said (suc (suc (suc (suc (suc (suc (suc (suc (suc (suc zero)))))))))) lt e = absurd cc
row_refuses said (suc (suc (suc (suc (suc (suc (suc (suc (suc (suc (suc zero))))))))))) lt e =
    NoRow (cc) no_eleven
row_refuses said (suc (suc (suc (suc (suc (suc (suc (suc (suc (suc (suc (suc zero)))))))))))) lt e = absurd cc
row_refuses said (suc (suc (suc (suc (suc (suc (suc (suc (suc (suc (suc (suc (suc zero))))))))))))) lt e = absurd cc
row_refuses said (suc (suc (suc (suc (suc (suc (suc (suc (suc (suc (suc (suc (suc (suc zero)))))))))))))) lt e =
    absurd cc
row_refuses said (suc (suc (suc (suc (suc (suc (suc (suc (suc (suc (suc (suc (suc (suc (suc zero))))))))))))))) lt e =
    ComplexRow (cc) (omega arith)
row_refuses said (suc (suc (suc (suc (suc (suc (suc (suc (suc (suc (suc (suc (suc (suc (suc (suc code)))))))))))))))) lt
    e =
    NoRow (cc)
    (above (suc (suc (suc (suc (suc (suc (suc (suc (suc (suc (suc (suc (suc (suc (suc (suc code)))))))))))))))) (omega arith) lt)

-- no command from octal 20 up exists
row_above : (more : ℕ)
    → row_of (suc (suc (suc (suc (suc (suc (suc (suc (suc (suc (suc (suc (suc (suc (suc (suc more))))))))))))))))
    ≡ Err fault.UnknownRelocation
unfolding row_of
row_above more = refl

row_stops : (command : ℕ) → IsNoCommand command → row_of command ≡ Err fault.UnknownRelocation
unfolding row_of
row_stops command (inl zero_is) = ap row_of zero_is ∙ refl
row_stops command (inr (inl eleven_is)) = ap row_of eleven_is ∙ refl
row_stops command (inr (inr above)) =
    let le : 16 ≤ command = above.0 in
    let more : ℕ = command - 16 in
    let same : command
    ≡ suc (suc (suc (suc (suc (suc (suc (suc (suc (suc (suc (suc (suc (suc (suc (suc more))))))))))))))) = omega arith in
    ap row_of same ∙ row_above more

both_true : (a b : Bool) → (a && b) ≡ true → (a ≡ true) × (b ≡ true)
both_true true b e = (refl, e)
both_true false b e = absurd cc

refused_if : {A : Type 0} (b : Bool) (first said : RecordFault) (other : Result A RecordFault)
    → cond b (Err first) other ≡ Err said → ((b ≡ true) × (first ≡ said)) ⊎ (other ≡ Err said)
refused_if true first said other e = inl (refl, cc)
refused_if false first said other e = inr e

-- this command, with or without byte form, is refused
data FormRefused (said : RecordFault) (is_byte : Bool) (command : ℕ) : Type 0 where
  NoForm : fault.UnknownRelocation ≡ said → IsRefused command is_byte → FormRefused said is_byte command
  ComplexForm : fault.Complex ≡ said → command ≡ 0o17 → FormRefused said is_byte command

of_row : (said : RecordFault) (is_byte : Bool) (command : ℕ) → RowRefused said command → FormRefused said is_byte command
of_row said is_byte command (NoRow e missing) = NoForm e (inl missing)
of_row said is_byte command (ComplexRow e is) = ComplexForm e is

form_refuses : (said : RecordFault) (is_byte : Bool) (command : ℕ) → command < 0o200 → form_of is_byte command ≡ Err said
    → FormRefused said is_byte command
unfolding form_of
form_refuses said is_byte command lt e =
    elim (refused_if (is_byte && is_without_byte_form command) fault.UnknownRelocation said (row_of command) e) [
      | inl without ↦
          let parts = both_true is_byte (is_without_byte_form command) without.0 in
          let within = both_true (nat_le 7 command) (nat_le command 9) parts.1 in
          let range : HasNoByteForm command = (leb-true 7 command within.0, leb-true command 9 within.1) in
          NoForm without.1 (inr (parts.0, range))
      | inr row ↦ of_row said is_byte command (row_refuses said command lt row)
    ]

-- a command byte consists of its command and the bit of its byte form
code_parts : (code : ℕ) (is_byte : Bool) → code < 256 → nat_le 128 code ≡ is_byte
    → code ≡ code % 128 + byte_form is_byte
code_parts code true lt e = let le = leb-true 128 code e in omega arith
code_parts code false lt e = let le = leb-false 128 code e in omega arith

bit_again : (command : ℕ) (is_byte : Bool) → command < 128 → nat_le 128 (command + byte_form is_byte) ≡ is_byte
bit_again command true lt = le-leb 128 (command + 128) (omega arith)
bit_again command false lt = lt-leb 128 (command + 0) (omega arith)

command_again : (command : ℕ) (is_byte : Bool) → command < 128 → (command + byte_form is_byte) % 128 ≡ command
command_again command true lt = omega arith
command_again command false lt = omega arith

-- ---- the bytes after a command

more_bytes : (xs ys : List ℕ) → Bytes xs → Bytes ys → Bytes (xs ++ ys)
more_bytes [] ys h k = k
more_bytes (x ∷ xs) ys h k = (h.0, more_bytes xs ys h.1 k)

later : (xs ys : List ℕ) → Bytes (xs ++ ys) → Bytes ys
later [] ys h = h
later (x ∷ xs) ys h = later xs ys h.1

-- with these bytes added after them, the bytes are read as a whole target
record Filled (form : Form) (bytes filling : List ℕ) : Type 0 where
  target : Target
  are : Bytes filling
  read : first_target form (bytes ++ filling) ≡ Ok (target, [])

-- a target is refused: it is cut; or its command has a name, and there is no valid one
data TargetRefused (said : RecordFault) (form : Form) (bytes : List ℕ) : Type 0 where
  Short : (filling : List ℕ) → fault.BadLength ≡ said → 0 < length filling → Filled form bytes filling
      → TargetRefused said form bytes
  Nameless : (filling : List ℕ) → fault.BadName ≡ said → 4 ≤ length filling → Filled form [] filling
      → BeginsNoName bytes → TargetRefused said form bytes

word_filled : (target : ℕ → Target) (word : ℕ) → word < 2 ^ 16
    → first_target (Constant target) (word_bytes word) ≡ Ok (target word, [])
unfolding first_target
word_filled target word lt =
    let again : first_word (word_bytes word) ≡ Ok (word, []) =
    ap first_word (sym (append-nil (word_bytes word))) ∙ word_again word [] lt in
    rw again refl

name_filled : (target : ℕ × ℕ → Target) (name : ℕ × ℕ) → IsName name
    → first_target (Name target) (name_bytes name) ≡ Ok (target name, [])
unfolding first_target
name_filled target name is =
    let again : first_name (name_bytes name) ≡ Ok (name, []) =
    ap first_name (sym (append-nil (name_bytes name))) ∙ name_again name [] is in
    rw again refl

both_filled : (target : ℕ × ℕ → ℕ → Target) (name : ℕ × ℕ) (word : ℕ) → IsName name → word < 2 ^ 16
    → first_target (NameAndConstant target) (name_bytes name ++ word_bytes word) ≡ Ok (target name word, [])
unfolding first_target
both_filled target name word is lt =
    let again : first_word (word_bytes word) ≡ Ok (word, []) =
    ap first_word (sym (append-nil (word_bytes word))) ∙ word_again word [] lt in
    rw (name_again name (word_bytes word) is, again) refl

word_small : (word : ℕ) → Bytes (word_bytes word)
word_small word = (omega arith, (omega arith, tt))

name_small : (name : ℕ × ℕ) → Bytes (name_bytes name)
name_small name = (omega arith, (omega arith, (omega arith, (omega arith, tt))))

-- if bytes are a proper prefix of a target's bytes, a target is read from them with the missing bytes added
filled_cut : (form : Form) (target : Target) (written bytes : List ℕ) → Bytes written
    → first_target form written ≡ Ok (target, []) → (cut : IsCut written bytes) → Filled form bytes cut.missing
filled_cut form target written bytes are e cut = record {
  target = target;
  are = later bytes cut.missing (subst Bytes cut.split are);
  read = ap (first_target form) (sym cut.split) ∙ e;
}

short : (said : RecordFault) (form : Form) (target : Target) (written bytes : List ℕ) → fault.BadLength ≡ said
    → Bytes written → first_target form written ≡ Ok (target, []) → IsCut written bytes → TargetRefused said form bytes
short said form target written bytes e are read cut =
    Short cut.missing e cut.some (filled_cut form target written bytes are read cut)

-- zeros are read as a target's name and constant
filled_name : (target : ℕ × ℕ → Target) → Filled (Name target) [] (name_bytes (0, 0))
filled_name target = record {
  target = target (0, 0);
  are = name_small (0, 0);
  read = name_filled target (0, 0) (omega arith, omega arith);
}

abbrev zeros : List ℕ
zeros = name_bytes (0, 0) ++ word_bytes 0

filled_both : (target : ℕ × ℕ → ℕ → Target) → Filled (NameAndConstant target) [] zeros
filled_both target = record {
  target = target (0, 0) 0;
  are = more_bytes (name_bytes (0, 0)) (word_bytes 0) (name_small (0, 0)) (word_small 0);
  read = both_filled target (0, 0) 0 (omega arith, omega arith) (omega arith);
}

filled_none : (target : Target) → Filled (Nothing target) [] []
unfolding first_target
filled_none target = record { target = target; are = tt; read = refl }

filled_word : (target : ℕ → Target) → Filled (Constant target) [] (word_bytes 0)
filled_word target = record { target = target 0; are = word_small 0; read = word_filled target 0 (omega arith) }

some_target : (form : Form) → (written : List ℕ) × Filled form [] written
some_target (Nothing target) = ([], filled_none target)
some_target (Constant target) = (word_bytes 0, filled_word target)
some_target (Name target) = (name_bytes (0, 0), filled_name target)
some_target (NameAndConstant target) = (zeros, filled_both target)

name_refused : (said : RecordFault) (target : ℕ × ℕ → Target) (bytes : List ℕ) → NameRefused said bytes
    → TargetRefused said (Name target) bytes
name_refused said target bytes (NameCut name e is cut) =
    short said (Name target) (target name) (name_bytes name) bytes (sym e) (name_small name)
    (name_filled target name is) cut
name_refused said target bytes (NoName e nameless) =
    Nameless (name_bytes (0, 0)) (sym e) (omega arith) (filled_name target) nameless

both_refused : (said : RecordFault) (target : ℕ × ℕ → ℕ → Target) (bytes : List ℕ) → NameRefused said bytes
    → TargetRefused said (NameAndConstant target) bytes
both_refused said target bytes (NameCut name e is cut) =
    short said (NameAndConstant target) (target name 0) (name_bytes name ++ word_bytes 0) bytes (sym e)
    (more_bytes (name_bytes name) (word_bytes 0) (name_small name) (word_small 0))
    (both_filled target name 0 is (omega arith)) (cut_before (name_bytes name) (word_bytes 0) bytes cut)
both_refused said target bytes (NoName e nameless) =
    Nameless zeros (sym e) (omega arith) (filled_both target) nameless

word_refused : (said : RecordFault) (target : ℕ → Target) (bytes : List ℕ) → Bytes bytes
    → first_word bytes ≡ Err said → TargetRefused said (Constant target) bytes
word_refused said target bytes are e =
    let ends = word_refuses said bytes e in
    let w = word_cut bytes ends.1 (byte_small bytes are) in
    let low : w.0 < 256 = w.1 in
    short said (Constant target) (target w.0) (word_bytes w.0) bytes ends.0 (word_small w.0)
    (word_filled target w.0 (omega arith)) w.2

last_refused : (said : RecordFault) (target : ℕ × ℕ → ℕ → Target) (bytes : List ℕ) (name : (ℕ × ℕ) × List ℕ)
    → NameStands bytes name → first_word name.1 ≡ Err said → TargetRefused said (NameAndConstant target) bytes
last_refused said target bytes name stands e =
    let ends = word_refuses said name.1 e in
    let w = word_cut name.1 ends.1 (byte_small name.1 stands.following) in
    let low : w.0 < 256 = w.1 in
    let written : List ℕ = name_bytes name.0 ++ word_bytes w.0 in
    short said (NameAndConstant target) (target name.0 w.0) written bytes ends.0
    (more_bytes (name_bytes name.0) (word_bytes w.0) (name_small name.0) (word_small w.0))
    (both_filled target name.0 w.0 stands.fits (omega arith))
    (subst (λ (xs : List ℕ). IsCut written xs) (sym stands.is)
    (cut_after (name_bytes name.0) (word_bytes w.0) name.1 w.2))

target_refuses : (said : RecordFault) (form : Form) (bytes : List ℕ) → Bytes bytes → first_target form bytes ≡ Err said
    → TargetRefused said form bytes
unfolding first_target
target_refuses said (Nothing target) bytes are e = absurd cc
target_refuses said (Constant target) bytes are e =
    elim (bind_err (first_word bytes) (λ constant. Ok (target constant.0, constant.1)) said e) [
      | inl early ↦ word_refused said target bytes are early
      | inr constant ↦ absurd (let bad = constant.2 in cc)
    ]
target_refuses said (Name target) bytes are e =
    elim (bind_err (first_name bytes) (λ name. Ok (target name.0, name.1)) said e) [
      | inl early ↦ name_refused said target bytes (name_refuses said bytes are early)
      | inr name ↦ absurd (let bad = name.2 in cc)
    ]
target_refuses said (NameAndConstant target) bytes are e =
    elim (bind_err (first_name bytes)
    (λ name. first_word name.1 >>= λ constant. Ok (target name.0 constant.0, constant.1)) said e) [
      | inl early ↦ both_refused said target bytes (name_refuses said bytes are early)
      | inr name ↦ elim (bind_err (first_word name.0.1) (λ constant. Ok (target name.0.0 constant.0, constant.1)) said
          name.2) [
            | inl late ↦ last_refused said target bytes name.0 (name_stands bytes name.0 are name.1) late
            | inr constant ↦ absurd (let bad = constant.2 in cc)
          ]
    ]

-- ---- a refused relocation shows its fault

-- the command byte, the displacement and these bytes are those written for a relocation
record Written (code displacement : ℕ) (bytes : List ℕ) (target : Target) : Type 0 where
  fits : RelocationFits (relocation_of code displacement target)
  is : code ∷ displacement ∷ bytes ≡ relocation_bytes (relocation_of code displacement target)

relocation_read : (code displacement : ℕ) (form : Form) (bytes : List ℕ) (target : Target)
    → form_of (nat_le 128 code) (code % 128) ≡ Ok form → first_target form bytes ≡ Ok (target, [])
    → first_relocation (code ∷ displacement ∷ bytes) ≡ Ok (relocation_of code displacement target, [])
unfolding first_relocation
relocation_read code displacement form bytes target e f = rw (e, f) refl

written : (code displacement : ℕ) (form : Form) (bytes : List ℕ) (target : Target) → code < 256 → displacement < 256
    → Bytes bytes → form_of (nat_le 128 code) (code % 128) ≡ Ok form → first_target form bytes ≡ Ok (target, [])
    → Written code displacement bytes target
written code displacement form bytes target c d are e f =
    let read = relocation_reads (code ∷ displacement ∷ bytes) (relocation_of code displacement target, []) (c, (d, are))
    (relocation_read code displacement form bytes target e f) in
    record { fits = read.fits; is = read.begins.is ∙ append-nil (relocation_bytes (relocation_of code displacement target)) }

has_name : (name : Option (ℕ × ℕ)) (constant : Option ℕ) (bytes : List ℕ) → 4 ≤ length bytes
    → bytes ≡ optional_name name ++ optional_word constant → IsSome name
has_name (Some name) constant bytes le e = refl
has_name None None bytes le e = absurd (omega (arith, ap length e))
has_name None (Some constant) bytes le e = absurd (omega (arith, ap length e))

tail_is : (x y : ℕ) (xs ys : List ℕ) → x ∷ xs ≡ y ∷ ys → xs ≡ ys
tail_is x y xs ys e = cc

head_is : (x y : ℕ) (xs ys : List ℕ) → x ∷ xs ≡ y ∷ ys → x ≡ y
head_is x y xs ys e = cc

-- a proper prefix of the bytes written for a relocation shows that they end too early
cut_shows : (said : RecordFault) (code displacement : ℕ) (bytes front filling : List ℕ) (target : Target)
    → fault.BadLength ≡ said → Written code displacement bytes target → 0 < length filling
    → code ∷ displacement ∷ bytes ≡ front ++ filling → ShowsInRelocation said front
cut_shows said code displacement bytes front filling target e w some is =
    subst (λ (f : RecordFault). ShowsInRelocation f front) e (
      relocation_of code displacement target,
      w.fits,
      record { missing = filling; some = some; split = sym w.is ∙ is },
    )

form_shows : (said : RecordFault) (code : ℕ) (rest : List ℕ) → code < 256
    → FormRefused said (nat_le 128 code) (code % 128) → ShowsInRelocation said (code ∷ rest)
form_shows said code rest c (NoForm e refused) =
    subst (λ (f : RecordFault). ShowsInRelocation f (code ∷ rest)) e (
      code % 128,
      nat_le 128 code,
      rest,
      refused,
      ap (λ (n : ℕ). n ∷ rest) (code_parts code (nat_le 128 code) c refl),
    )
form_shows said code rest c (ComplexForm e is) =
    let byte : code ≡ 15 + byte_form (nat_le 128 code) =
    code_parts code (nat_le 128 code) c refl ∙ ap (λ (n : ℕ). n + byte_form (nat_le 128 code)) is in
    subst (λ (f : RecordFault). ShowsInRelocation f (code ∷ rest)) e
    (nat_le 128 code, rest, ap (λ (n : ℕ). n ∷ rest) byte)

target_shows : (said : RecordFault) (code displacement : ℕ) (form : Form) (bytes : List ℕ) → code < 256
    → displacement < 256 → Bytes bytes → form_of (nat_le 128 code) (code % 128) ≡ Ok form
    → TargetRefused said form bytes → ShowsInRelocation said (code ∷ displacement ∷ bytes)
target_shows said code displacement form bytes c d are e (Short filling b some filled) =
    let w = written code displacement form (bytes ++ filling) filled.target c d (more_bytes bytes filling are filled.are) e
    filled.read in
    cut_shows said code displacement (bytes ++ filling) (code ∷ displacement ∷ bytes) filling filled.target b w some refl
target_shows said code displacement form bytes c d are e (Nameless filling b long filled none) =
    let relocation : Relocation = relocation_of code displacement filled.target in
    let w = written code displacement form filling filled.target c d filled.are e filled.read in
    let arguments : List ℕ =
    optional_name (parts_of filled.target).name ++ optional_word (parts_of filled.target).constant in
    let byte : ℕ = (parts_of filled.target).command + byte_form (nat_le 128 code) in
    let code_is : code ≡ byte = head_is code byte (displacement ∷ filling) (displacement ∷ arguments) w.is in
    let following : displacement ∷ filling ≡ displacement ∷ arguments =
    tail_is code byte (displacement ∷ filling) (displacement ∷ arguments) w.is in
    subst (λ (f : RecordFault). ShowsInRelocation f (code ∷ displacement ∷ bytes)) b (
      relocation,
      bytes,
      w.fits,
      has_name (parts_of filled.target).name (parts_of filled.target).constant filling long
          (tail_is displacement displacement filling arguments following),
      none,
      ap (λ (n : ℕ). n ∷ displacement ∷ bytes) code_is,
    )

no_displacement : (said : RecordFault) (code : ℕ) (form : Form) → code < 256 → fault.BadLength ≡ said
    → form_of (nat_le 128 code) (code % 128) ≡ Ok form → ShowsInRelocation said (code ∷ [])
no_displacement said code form c b e =
    let some = some_target form in
    let w = written code 0 form some.0 some.1.target c (omega arith) some.1.are e some.1.read in
    cut_shows said code 0 some.0 (code ∷ []) (0 ∷ some.0) some.1.target b w (omega arith) refl

-- the reading of a relocation after a command with this form
abbrev relocation_after : ℕ → Form → List ℕ → Result (Relocation × List ℕ) RecordFault
relocation_after code form rest = first_byte rest >>= λ displacement. first_target form displacement.1 >>=
    λ target. Ok (relocation_of code displacement.0 target.0, target.1)

after_form : (said : RecordFault) (code : ℕ) (form : Form) (rest : List ℕ) → code < 256 → Bytes rest
    → form_of (nat_le 128 code) (code % 128) ≡ Ok form → relocation_after code form rest ≡ Err said
    → ShowsInRelocation said (code ∷ rest)
after_form said code form [] c are f e = no_displacement said code form c (cc) f
after_form said code form (displacement ∷ bytes) c are f e =
    elim (bind_err (first_target form bytes) (λ target. Ok (relocation_of code displacement target.0, target.1)) said e) [
      | inl refused ↦
          target_shows said code displacement form bytes c are.0 are.1 f (target_refuses said form bytes are.1 refused)
      | inr target ↦ absurd (let bad = target.2 in cc)
    ]

pub relocation_shows : (said : RecordFault) (bytes : List ℕ) → Bytes bytes → 0 < length bytes
    → first_relocation bytes ≡ Err said → ShowsInRelocation said bytes
unfolding first_relocation
relocation_shows said [] are some e = absurd (omega arith)
relocation_shows said (code ∷ rest) are some e =
    elim (bind_err (form_of (nat_le 128 code) (code % 128)) (λ form. relocation_after code form rest) said e) [
      | inl refused ↦
          form_shows said code rest are.0 (form_refuses said (nat_le 128 code) (code % 128) (omega arith) refused)
      | inr form ↦ after_form said code form.0 rest are.0 are.1 form.1 form.2
    ]

-- ---- a relocation that shows a fault is refused

command_stops : (said : RecordFault) (command : ℕ) (is_byte : Bool) (rest : List ℕ) → command < 128
    → form_of is_byte command ≡ Err said → first_relocation ((command + byte_form is_byte) ∷ rest) ≡ Err said
unfolding first_relocation
command_stops said command is_byte rest lt e =
    rw (bit_again command is_byte lt, command_again command is_byte lt, e) refl

refused_either : {A : Type 0} (b : Bool) (said : RecordFault) (other : Result A RecordFault) → other ≡ Err said
    → cond b (Err said) other ≡ Err said
refused_either true said other e = refl
refused_either false said other e = e

form_stops : (command : ℕ) (is_byte : Bool) → IsRefused command is_byte
    → form_of is_byte command ≡ Err fault.UnknownRelocation
unfolding form_of
form_stops command is_byte (inl missing) =
    refused_either (is_byte && is_without_byte_form command) fault.UnknownRelocation (row_of command)
    (row_stops command missing)
form_stops command is_byte (inr bare) =
    rw (bare.0, le-leb 7 command bare.1.0, le-leb command 9 bare.1.1) refl

command_below : (command : ℕ) (is_byte : Bool) → IsRefused command is_byte → command < 128
command_below command is_byte (inl (inl is)) = omega arith
command_below command is_byte (inl (inr (inl is))) = omega arith
command_below command is_byte (inl (inr (inr above))) = above.1
command_below command is_byte (inr bare) = omega (arith, bare.1.1)

complex_stops : (is_byte : Bool) → form_of is_byte 0o17 ≡ Err fault.Complex
unfolding form_of row_of
complex_stops true = refl
complex_stops false = refl

has_room : (name : Option (ℕ × ℕ)) (constant : Option ℕ) → IsSome name
    → 4 ≤ length ((optional_name name ++ optional_word constant) ++ [])
has_room None constant is = absurd cc
has_room (Some name) constant is = omega arith

nothing_left : {A : Type 0} (x y : A × List ℕ) → done x ≡ done y → y.1 ≡ [] → length x.1 ≤ 0
nothing_left {A} x y e none =
    omega (arith, ap length (ap (λ (p : A × List ℕ). p.1) (ok_is x y e) ∙ none))

-- if a target is read from four bytes or more, none is read from bytes without a valid name
nameless : (form : Form) (bytes bad : List ℕ) (x : Target × List ℕ) → 4 ≤ length bytes → first_target form bytes ≡ Ok x
    → x.1 ≡ [] → BeginsNoName bad → first_target form bad ≡ Err fault.BadName
unfolding first_target first_word
nameless (Nothing target) bytes bad x long e none begins =
    absurd (omega (arith, nothing_left (target, bytes) x e none))
nameless (Constant target) [] bad x long e none begins = absurd (omega arith)
nameless (Constant target) (low ∷ []) bad x long e none begins = absurd (omega arith)
nameless (Constant target) (low ∷ high ∷ bytes) bad x long e none begins =
    absurd (omega (arith, nothing_left (target (low + 256 * high), bytes) x e none))
nameless (Name target) bytes bad x long e none begins = rw (none_refused bad begins) refl
nameless (NameAndConstant target) bytes bad x long e none begins = rw (none_refused bad begins) refl

name_stops : (relocation : Relocation) (bad : List ℕ) → RelocationFits relocation
    → IsSome (parts_of relocation.target).name → BeginsNoName bad
    → first_relocation (((parts_of relocation.target).command + byte_form relocation.is_byte) ∷ relocation.displacement ∷ bad)
    ≡ Err fault.BadName
unfolding first_relocation
name_stops relocation bad fits named begins =
    let parts = parts_of relocation.target in
    let code : ℕ = parts.command + byte_form relocation.is_byte in
    let rest : List ℕ = (optional_name parts.name ++ optional_word parts.constant) ++ [] in
    let form =
    bind_ok (form_of (nat_le 128 code) (code % 128))
    (λ form. relocation_after code form (relocation.displacement ∷ rest))
    (relocation, []) (relocation_again relocation [] fits) in
    let target = bind_ok (first_target form.0 rest)
    (λ target. Ok (relocation_of code relocation.displacement target.0, target.1)) (relocation, []) form.2 in
    let left : target.0.1 ≡ [] = ap (λ (p : Relocation × List ℕ). p.1)
    (ok_is (relocation_of code relocation.displacement target.0.0, target.0.1) (relocation, []) target.2) in
    let stop = nameless form.0 rest bad target.0 (has_room parts.name parts.constant named) target.1 left begins in
    rw (form.1, stop) refl

pub relocation_refused : (said : RecordFault) (bytes : List ℕ) → ShowsInRelocation said bytes
    → first_relocation bytes ≡ Err said
relocation_refused fault.BadLength bytes s = relocation_cut s.0 bytes s.1 s.2
relocation_refused fault.UnknownRelocation bytes s =
    ap first_relocation s.4
    ∙ command_stops fault.UnknownRelocation s.0 s.1 s.2 (command_below s.0 s.1 s.3) (form_stops s.0 s.1 s.3)
relocation_refused fault.Complex bytes s =
    ap first_relocation s.2 ∙ command_stops fault.Complex 15 s.0 s.1 (omega arith) (complex_stops s.0)
relocation_refused fault.BadName bytes s = ap first_relocation s.5 ∙ name_stops s.0 s.1 s.2 s.3 s.4
relocation_refused fault.UnknownType bytes s = absurd s
relocation_refused fault.Library bytes s = absurd s
relocation_refused fault.MappedArray bytes s = absurd s
