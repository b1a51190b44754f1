-- Bytes that are refused as a name.
use Rattle.std.proofs.Common.{◌≡◌, ◌∙◌, ℕ, ◌<◌, Bool, false, true, ltb, cond, List, [], ◌∷◌, ◌++◌, length, Ok, Err, refl, sym, ap, subst, append_assoc, arith, inl, inr}
use Rattle.std.proofs.lemmas.Bool.{ltb-true, ltb-false, le-ltb, lt-ltb}
use Rattle.m11_base.specs.Rad50.{IsName, word_limit}
use Rattle.m11_obj_blocks.specs.Frames.{word_bytes}
use Rattle.m11_obj.specs.declared.fault.RecordFault.{RecordFault}
use Rattle.m11_obj.specs.declared.fault.RecordFault.TheVariants.{BadLength, BadName}
use Rattle.m11_obj.specs.Gsd.{name_bytes}
use Rattle.m11_obj.specs.Reading.{◌>>=◌, first_word, first_name_word, first_name}
use Rattle.m11_obj.proofs.FieldsOf.{bind_ok, ok_is, guard_ok}
use Rattle.m11_obj.proofs.ReadAgain.{word_again}
use Rattle.m11_obj.proofs.ReadBack.{Bytes, word_reads}
use Rattle.m11_obj_laws.specs.Faults.{IsCut, HasNoCharacters, BeginsNoName, First, Second}
use Rattle.m11_obj_laws.proofs.Steps.{bind_err, guard_err, word_refuses, word_cut, cut_before, cut_after}

-- ---- reading words and names

-- the bytes begin with those written for the value that was read
pub record Stands {A : Type 0} (write : A → List ℕ) (P : A → Type 0) (bytes : List ℕ) (x : A × List ℕ) : Type 0 where
  pub is : bytes ≡ write x.0 ++ x.1
  pub following : Bytes x.1
  pub fits : P x.0

abbrev NameWord : List ℕ → ℕ × List ℕ → Type 0
NameWord bytes x = Stands word_bytes (λ word. word < word_limit) bytes x

abbrev pub NameStands : List ℕ → (ℕ × ℕ) × List ℕ → Type 0
NameStands bytes x = Stands name_bytes IsName bytes x

guard_true : {A : Type 0} (b : Bool) (x y : A) (fault : RecordFault) → cond b (Ok x) (Err fault) ≡ Ok y → b ≡ true
guard_true true x y fault e = refl
guard_true false x y fault e = absurd cc

name_word_stands : (bytes : List ℕ) (x : ℕ × List ℕ) → Bytes bytes → first_name_word bytes ≡ Ok x → NameWord bytes x
unfolding first_name_word
name_word_stands bytes x are e =
    let b = bind_ok (first_word bytes) (λ word. cond (ltb word.0 word_limit) (Ok word) (Err BadName)) x e in
    let w = word_reads bytes b.0 are b.1 in
    let same = guard_ok (ltb b.0.0 word_limit) b.0 x BadName b.2 in
    let below = ltb-true b.0.0 word_limit (guard_true (ltb b.0.0 word_limit) b.0 x BadName b.2) in
    let here : NameWord bytes b.0 = record { is = w.begins.is; following = w.begins.following; fits = below } in
    subst (λ (p : ℕ × List ℕ). NameWord bytes p) same here

pub name_stands : (bytes : List ℕ) (x : (ℕ × ℕ) × List ℕ) → Bytes bytes → first_name bytes ≡ Ok x → NameStands bytes x
unfolding first_name
name_stands bytes x are e =
    let a =
    bind_ok (first_name_word bytes)
    (λ first. first_name_word first.1 >>= λ second. Ok ((first.0, second.0), second.1)) x e in
    let b = bind_ok (first_name_word a.0.1) (λ second. Ok ((a.0.0, second.0), second.1)) x a.2 in
    let first = name_word_stands bytes a.0 are a.1 in
    let second = name_word_stands a.0.1 b.0 first.following b.1 in
    let made : (ℕ × ℕ) × List ℕ = ((a.0.0, b.0.0), b.0.1) in
    let here : NameStands bytes made = record {
      is = first.is ∙ ap (λ (xs : List ℕ). word_bytes a.0.0 ++ xs) second.is
          ∙ sym (append_assoc (word_bytes a.0.0) (word_bytes b.0.0) b.0.1);
      following = second.following;
      fits = (first.fits, second.fits);
    } in
    subst (λ (p : (ℕ × ℕ) × List ℕ). NameStands bytes p) (ok_is made x b.2) here

-- ---- refused names

-- a name is refused: it is cut, or invalid
pub data NameRefused (said : RecordFault) (bytes : List ℕ) : Type 0 where
  NameCut : (name : ℕ × ℕ) → said ≡ BadLength → IsName name → IsCut (name_bytes name) bytes → NameRefused said bytes
  NoName : said ≡ BadName → BeginsNoName bytes → NameRefused said bytes

data WordRefused (said : RecordFault) (bytes : List ℕ) : Type 0 where
  Short : BadLength ≡ said → length bytes < 2 → WordRefused said bytes
  High : (word : ℕ) (rest : List ℕ) → BadName ≡ said → HasNoCharacters word → bytes ≡ word_bytes word ++ rest
      → WordRefused said bytes

name_word_refuses : (said : RecordFault) (bytes : List ℕ) → Bytes bytes → first_name_word bytes ≡ Err said
    → WordRefused said bytes
unfolding first_name_word
name_word_refuses said bytes are e =
    elim (bind_err (first_word bytes) (λ word. cond (ltb word.0 word_limit) (Ok word) (Err BadName)) said e) [
      | inl early ↦ let short = word_refuses said bytes early in Short short.0 short.1
      | inr w ↦
          let stands = word_reads bytes w.0 are w.1 in
          let high = guard_err (ltb w.0.0 word_limit) w.0 BadName said w.2 in
          High w.0.0 w.0.1 high.1 (ltb-false w.0.0 word_limit high.0, stands.fits) stands.begins.is
    ]

pub byte_small : (bytes : List ℕ) → Bytes bytes → (byte : ℕ) → bytes ≡ byte ∷ [] → byte < 256
byte_small bytes are byte is = let here : Bytes (byte ∷ []) = subst Bytes is are in here.0

first_refused : (said : RecordFault) (bytes : List ℕ) → Bytes bytes → WordRefused said bytes → NameRefused said bytes
first_refused said bytes are (Short e lt) =
    let w = word_cut bytes lt (byte_small bytes are) in
    let small : w.0 < 256 = w.1 in
    NameCut (w.0, 0) (sym e) (omega arith, omega arith) (cut_before (word_bytes w.0) (word_bytes 0) bytes w.2)
first_refused said bytes are (High word rest e high is) = NoName (sym e) (First word rest high is)

second_refused : (said : RecordFault) (bytes : List ℕ) (first : ℕ × List ℕ) → NameWord bytes first
    → WordRefused said first.1 → NameRefused said bytes
second_refused said bytes first stands (Short e lt) =
    let w = word_cut first.1 lt (byte_small first.1 stands.following) in
    let small : w.0 < 256 = w.1 in
    let cut : IsCut (name_bytes (first.0, w.0)) (word_bytes first.0 ++ first.1) =
    cut_after (word_bytes first.0) (word_bytes w.0) first.1 w.2 in
    NameCut (first.0, w.0) (sym e) (stands.fits, omega arith)
    (subst (λ (xs : List ℕ). IsCut (name_bytes (first.0, w.0)) xs) (sym stands.is) cut)
second_refused said bytes first stands (High word rest e high is) =
    NoName (sym e) (Second first.0 word rest stands.fits high
    (stands.is ∙ ap (λ (xs : List ℕ). word_bytes first.0 ++ xs) is))

pub name_refuses : (said : RecordFault) (bytes : List ℕ) → Bytes bytes → first_name bytes ≡ Err said
    → NameRefused said bytes
unfolding first_name
name_refuses said bytes are e =
    elim (bind_err (first_name_word bytes)
    (λ first. first_name_word first.1 >>= λ second. Ok ((first.0, second.0), second.1)) said e) [
      | inl early ↦ first_refused said bytes are (name_word_refuses said bytes are early)
      | inr a ↦
          let stands = name_word_stands bytes a.0 are a.1 in
          elim (bind_err (first_name_word a.0.1) (λ second. Ok ((a.0.0, second.0), second.1)) said a.2) [
            | inl late ↦
                second_refused said bytes a.0 stands (name_word_refuses said a.0.1 stands.following late)
            | inr b ↦ absurd (let bad = b.2 in cc)
          ]
    ]

-- ---- an invalid name is refused

word_high : (word : ℕ) (rest : List ℕ) → HasNoCharacters word
    → first_name_word (word_bytes word ++ rest) ≡ Err BadName
unfolding first_name_word
word_high word rest high = rw (word_again word rest high.1, le-ltb word word_limit high.0) refl

word_low : (word : ℕ) (rest : List ℕ) → word < word_limit
    → first_name_word (word_bytes word ++ rest) ≡ Ok (word, rest)
unfolding first_name_word
word_low word rest lt = rw (word_again word rest (omega arith), lt-ltb word word_limit lt) refl

pub none_refused : (bytes : List ℕ) → BeginsNoName bytes → first_name bytes ≡ Err BadName
unfolding first_name
none_refused bytes (First word rest high is) =
    ap first_name is ∙ rw (word_high word rest high) refl
none_refused bytes (Second first second rest lt high is) =
    let begun : first_name_word (word_bytes first ++ (word_bytes second ++ rest)) ≡ Ok (first, word_bytes second ++ rest) =
    word_low first (word_bytes second ++ rest) lt in
    ap first_name is ∙ rw (begun, word_high second rest high) refl
