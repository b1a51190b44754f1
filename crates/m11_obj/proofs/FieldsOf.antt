-- The places of a record's fields in its bytes.
use Rattle.std.proofs.Common.{◌≡◌, ℕ, zero, suc, ◌+◌, ◌*◌, ◌-◌, ◌<◌, ◌≤◌, Bool, true, false, cond, ltb, List, [], ◌∷◌, length, drop, get_or, Result, Ok, Err, refl, sym, ap, subst, ◌∙◌, arith, length-drop}
use Rattle.std.specs.Prelude.{is_ok}
use Rattle.std.proofs.lemmas.List.{drop-drop}
use Rattle.m11_base.specs.Rad50.{word_limit}
use Rattle.m11_obj.specs.declared.fault.RecordFault.{RecordFault}
use Rattle.m11_obj.specs.declared.fault.RecordFault.TheVariants.{BadName}
use Rattle.m11_obj.specs.declared.gsd.GsdKind.{GsdKind}
use Rattle.m11_obj.specs.declared.gsd.GsdEntry.{GsdEntry}
use Rattle.m11_obj.specs.declared.records.RecordKind.{RecordKind}
use Rattle.m11_obj.specs.declared.records.RecordKind.TheVariants as kind
use Rattle.m11_obj.specs.Records.{Content, Gsd, EndOfGsd, Text, Relocations, InternalSymbols, EndOfModule}
use Rattle.m11_obj.specs.Reading.{◌>>=◌, first_byte, first_word, first_name_word, first_name, entry_kind, first_entry, items_within, entries_of, relocations_of, record_kind_of, first_type, content_after, content_of, kind_in}

-- ---- steps that did not fail

pub bind_ok : {A B : Type 0} (r : Result A RecordFault) (f : A → Result B RecordFault) (y : B) → (r >>= f) ≡ Ok y
    → (x : A) × (r ≡ Ok x) × (f x ≡ Ok y)
bind_ok (Ok x) f y e = (x, refl, e)
bind_ok (Err fault) f y e = absurd cc

pub guard_ok : {A : Type 0} (b : Bool) (x y : A) (fault : RecordFault) → cond b (Ok x) (Err fault) ≡ Ok y → x ≡ y
guard_ok true x y fault e = cc
guard_ok false x y fault e = absurd cc

abbrev pub done : {A : Type 0} → A → Result A RecordFault
done x = Ok x

pub ok_is : {A : Type 0} (x y : A) → done x ≡ done y → x ≡ y
ok_is x y e = cc

-- there are at least `count` bytes, and `rest` is the bytes after them
pub record Takes (count : ℕ) (bytes rest : List ℕ) : Type 0 where
  pub enough : count ≤ length bytes
  pub following : rest ≡ drop count bytes

-- if two results are equal, and the bytes after the first are those after `count` bytes, so are those after the second
takes_same : {A : Type 0} (count : ℕ) (bytes : List ℕ) (made x : A × List ℕ) → done made ≡ done x
    → Takes count bytes made.1 → Takes count bytes x.1
takes_same {A} count bytes made x e takes =
    let same : made ≡ x = ok_is made x e in
    let following : x.1 ≡ drop count bytes = sym (ap (λ (p : A × List ℕ). p.1) same) ∙ takes.following in
    record { enough = takes.enough; following = following }

Takes-then : (m n : ℕ) (a b c : List ℕ) → Takes m a b → Takes n b c → Takes (m + n) a c
Takes-then m n a b c first second =
    let long : n ≤ length (drop m a) = subst (λ (x : List ℕ). n ≤ length x) first.following second.enough in
    record {
      enough = omega (arith, length-drop m a, first.enough);
      following = second.following ∙ ap (drop n) first.following ∙ drop-drop n m a;
    }

pub byte_takes : (bytes : List ℕ) (x : ℕ × List ℕ) → first_byte bytes ≡ Ok x → Takes 1 bytes x.1
byte_takes [] x e = absurd cc
byte_takes (byte ∷ rest) x e =
    record { enough = omega arith; following = sym (ap (λ (p : ℕ × List ℕ). p.1) (ok_is (byte, rest) x e)) }

pub word_takes : (bytes : List ℕ) (x : ℕ × List ℕ) → first_word bytes ≡ Ok x → Takes 2 bytes x.1
unfolding first_word
word_takes [] x e = absurd cc
word_takes (low ∷ []) x e = absurd cc
word_takes (low ∷ high ∷ rest) x e =
    record { enough = omega arith; following = sym (ap (λ (p : ℕ × List ℕ). p.1) (ok_is (low + 256 * high, rest) x e)) }

name_word_takes : (bytes : List ℕ) (x : ℕ × List ℕ) → first_name_word bytes ≡ Ok x → Takes 2 bytes x.1
unfolding first_name_word
name_word_takes bytes x e =
    let b = bind_ok (first_word bytes) (λ word. cond (ltb word.0 word_limit) (Ok word) (Err BadName)) x e in
    let same = guard_ok (ltb b.0.0 word_limit) b.0 x BadName b.2 in
    subst (λ (p : ℕ × List ℕ). Takes 2 bytes p.1) same (word_takes bytes b.0 b.1)

pub name_takes : (bytes : List ℕ) (x : (ℕ × ℕ) × List ℕ) → first_name bytes ≡ Ok x → Takes 4 bytes x.1
unfolding first_name
name_takes bytes x e =
    let a =
    bind_ok (first_name_word bytes)
    (λ first. first_name_word first.1 >>= λ second. Ok ((first.0, second.0), second.1)) x e in
    let b = bind_ok (first_name_word a.0.1) (λ second. Ok ((a.0.0, second.0), second.1)) x a.2 in
    let both = Takes-then 2 2 bytes a.0.1 b.0.1 (name_word_takes bytes a.0 a.1) (name_word_takes a.0.1 b.0 b.1) in
    let made : (ℕ × ℕ) × List ℕ = ((a.0.0, b.0.0), b.0.1) in
    takes_same 4 bytes made x b.2 both

-- the entry with these fields
abbrev pub entry_of : ℕ × ℕ → ℕ → GsdKind → ℕ → GsdEntry
entry_of name flags kind value = record { name = name; flags = flags; kind = kind; value = value }

pub entry_takes : (bytes : List ℕ) (x : GsdEntry × List ℕ) → first_entry bytes ≡ Ok x → Takes 8 bytes x.1
unfolding first_entry
entry_takes bytes x e =
    let name =
    bind_ok (first_name bytes)
    (λ name. first_byte name.1 >>= λ flags. first_byte flags.1 >>= λ code. entry_kind code.0 >>=
    λ kind. first_word code.1 >>= λ value. Ok (entry_of name.0 flags.0 kind value.0, value.1)) x e in
    let flags =
    bind_ok (first_byte name.0.1)
    (λ flags. first_byte flags.1 >>= λ code. entry_kind code.0 >>= λ kind. first_word code.1 >>= λ value. Ok
    (entry_of name.0.0 flags.0 kind value.0, value.1)) x name.2 in
    let code =
    bind_ok (first_byte flags.0.1)
    (λ code. entry_kind code.0 >>= λ kind. first_word code.1 >>= λ value. Ok
    (entry_of name.0.0 flags.0.0 kind value.0, value.1)) x flags.2 in
    let kind =
    bind_ok (entry_kind code.0.0)
    (λ kind. first_word code.0.1 >>= λ value. Ok (entry_of name.0.0 flags.0.0 kind value.0, value.1)) x
    code.2 in
    let value =
    bind_ok (first_word code.0.1) (λ value. Ok (entry_of name.0.0 flags.0.0 kind.0 value.0, value.1)) x kind.2 in
    let t5 =
    Takes-then 4 1 bytes name.0.1 flags.0.1 (name_takes bytes name.0 name.1)
    (byte_takes name.0.1 flags.0 flags.1) in
    let t6 = Takes-then 5 1 bytes flags.0.1 code.0.1 t5 (byte_takes flags.0.1 code.0 code.1) in
    let t8 = Takes-then 6 2 bytes code.0.1 value.0.1 t6 (word_takes code.0.1 value.0 value.1) in
    let made : GsdEntry × List ℕ = (entry_of name.0.0 flags.0.0 kind.0 value.0.0, value.0.1) in
    takes_same 8 bytes made x value.2 t8

-- ---- entries

-- if all items are read, the first one is, and then the others
others_of : (n byte : ℕ) (bytes : List ℕ) (entries : List GsdEntry)
    → items_within first_entry (suc n) (byte ∷ bytes) ≡ Ok entries
    → (first : GsdEntry × List ℕ) × (others : List GsdEntry) × (first_entry (byte ∷ bytes) ≡ Ok first)
    × (items_within first_entry n first.1 ≡ Ok others) × (first.0 ∷ others ≡ entries)
unfolding items_within
others_of n byte bytes entries e =
    let a =
    bind_ok (first_entry (byte ∷ bytes))
    (λ first. items_within first_entry n first.1 >>= λ others. Ok (first.0 ∷ others)) entries e in
    let b = bind_ok (items_within first_entry n a.0.1) (λ others. Ok (a.0.0 ∷ others)) entries a.2 in
    (a.0, b.0, a.1, b.1, ok_is (a.0.0 ∷ b.0) entries b.2)

pub entries_length : (n : ℕ) (bytes : List ℕ) (entries : List GsdEntry) → length bytes ≤ n
    → items_within first_entry n bytes ≡ Ok entries → length bytes ≡ 8 * length entries
unfolding items_within
entries_length zero [] entries le e = let none = ok_is [] entries e in omega (arith, ap length none)
entries_length zero (byte ∷ bytes) entries le e = absurd (omega arith)
entries_length (suc n) [] entries le e = let none = ok_is [] entries e in omega (arith, ap length none)
entries_length (suc n) (byte ∷ bytes) entries le e =
    let o = others_of n byte bytes entries e in
    let t = entry_takes (byte ∷ bytes) o.0 o.2 in
    let shorter : length o.0.1 ≡ length (byte ∷ bytes) - 8 = ap length t.following ∙ length-drop 8 (byte ∷ bytes) in
    let others = entries_length n o.0.1 o.1 (omega (arith, t.enough)) o.3 in
    omega (arith, t.enough, ap length o.4)

pub entry_is_at : (n i : ℕ) (bytes : List ℕ) (entries : List GsdEntry) (d : GsdEntry)
    → items_within first_entry n bytes ≡ Ok entries → i < length entries
    → (rest : List ℕ) × (first_entry (drop (8 * i) bytes) ≡ Ok (get_or entries i d, rest))
unfolding items_within
entry_is_at zero i bytes entries d e lt = let none = ok_is [] entries e in absurd (omega (arith, ap length none))
entry_is_at (suc n) i [] entries d e lt = let none = ok_is [] entries e in absurd (omega (arith, ap length none))
entry_is_at (suc n) zero (byte ∷ bytes) entries d e lt =
    let o = others_of n byte bytes entries e in
    (o.0.1, o.2 ∙ ap (λ (es : List GsdEntry). Ok (get_or es 0 d, o.0.1)) o.4)
entry_is_at (suc n) (suc i) (byte ∷ bytes) entries d e lt =
    let o = others_of n byte bytes entries e in
    let t = entry_takes (byte ∷ bytes) o.0 o.2 in
    let found = entry_is_at n i o.0.1 o.1 d o.3 (omega (arith, ap length o.4)) in
    let there : drop (8 * i) o.0.1 ≡ drop (8 * suc i) (byte ∷ bytes) =
    ap (drop (8 * i)) t.following ∙ drop-drop (8 * i) 8 (byte ∷ bytes)
    ∙ ap (λ (k : ℕ). drop k (byte ∷ bytes)) (omega arith) in
    (found.0, ap first_entry (sym there) ∙ found.1 ∙ ap (λ (es : List GsdEntry). Ok (get_or es (suc i) d, found.0)) o.4)

-- ---- records

pub ok_value : {A : Type 0} (r : Result A RecordFault) → is_ok r ≡ true → (x : A) × (r ≡ Ok x)
ok_value (Ok x) e = (x, refl)
ok_value (Err fault) e = absurd cc

pub type_takes : (bytes : List ℕ) (x : RecordKind × List ℕ) → first_type bytes ≡ Ok x → Takes 2 bytes x.1
unfolding first_type
type_takes bytes x e =
    let a = bind_ok (first_word bytes) (λ code. record_kind_of code.0 >>= λ type. Ok (type, code.1)) x e in
    let b = bind_ok (record_kind_of a.0.0) (λ type. Ok (type, a.0.1)) x a.2 in
    let made : RecordKind × List ℕ = (b.0, a.0.1) in
    takes_same 2 bytes made x b.2 (word_takes bytes a.0 a.1)

-- a content that was read for a type is of this type
kind_is : (type : RecordKind) (bytes : List ℕ) (content : Content) → content_after type bytes ≡ Ok content
    → kind_in content ≡ type
unfolding content_after
kind_is kind.Gsd bytes content e =
    let a = bind_ok (entries_of bytes) (λ entries. Ok (Gsd entries)) content e in
    sym (ap kind_in (ok_is (Gsd a.0) content a.2))
kind_is kind.EndOfGsd bytes content e = sym (ap kind_in (ok_is EndOfGsd content e))
kind_is kind.Text bytes content e =
    let a = bind_ok (first_word bytes) (λ address. Ok (Text address.0 address.1)) content e in
    sym (ap kind_in (ok_is (Text a.0.0 a.0.1) content a.2))
kind_is kind.Relocations bytes content e =
    let a = bind_ok (relocations_of bytes) (λ relocations. Ok (Relocations relocations)) content e in
    sym (ap kind_in (ok_is (Relocations a.0) content a.2))
kind_is kind.InternalSymbols bytes content e = sym (ap kind_in (ok_is InternalSymbols content e))
kind_is kind.EndOfModule bytes content e = sym (ap kind_in (ok_is EndOfModule content e))

-- a record of this content: its type, and the bytes after its type word
pub record Parts (bytes : List ℕ) (content : Content) : Type 0 where
  pub type : RecordKind
  pub rest : List ℕ
  pub typed : first_type bytes ≡ Ok (type, rest)
  pub takes : Takes 2 bytes rest
  pub says : content_after type rest ≡ Ok content
  pub same : kind_in content ≡ type

pub parts_of : (bytes : List ℕ) (content : Content) → content_of bytes ≡ Ok content → Parts bytes content
unfolding content_of
parts_of bytes content e =
    let a = bind_ok (first_type bytes) (λ type. content_after type.0 type.1) content e in
    record {
      type = a.0.0;
      rest = a.0.1;
      typed = a.1;
      takes = type_takes bytes a.0 a.1;
      says = a.2;
      same = kind_is a.0.0 a.0.1 content a.2;
    }
