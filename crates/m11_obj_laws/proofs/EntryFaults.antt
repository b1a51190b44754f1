-- The fault of a directory entry is the one that its bytes show.
use Rattle.std.proofs.Common.{◌≡◌, ◌∙◌, ℕ, zero, suc, ◌<◌, ◌^◌, List, [], ◌∷◌, ◌++◌, Result, Ok, Err, refl, sym, ap, subst, arith, inl, inr}
use Rattle.m11_base.specs.Rad50.{IsName}
use Rattle.m11_obj_blocks.specs.Frames.{word_bytes}
use Rattle.m11_obj.specs.declared.fault.RecordFault.{RecordFault}
use Rattle.m11_obj.specs.declared.fault.RecordFault.TheVariants as fault
use Rattle.m11_obj.specs.declared.gsd.GsdKind.{GsdKind}
use Rattle.m11_obj.specs.declared.gsd.GsdKind.TheVariants.{ModuleName, ControlSection, InternalSymbol, TransferAddress, GlobalSymbol, ProgramSection, Identification}
use Rattle.m11_obj.specs.declared.gsd.GsdEntry.{GsdEntry}
use Rattle.m11_obj.specs.Gsd.{kind_code, name_bytes, entry_bytes, EntryFits}
use Rattle.m11_obj.specs.Reading.{◌>>=◌, first_byte, first_word, first_name, entry_kind, first_entry}
use Rattle.m11_obj.proofs.FieldsOf.{ok_is, entry_of}
use Rattle.m11_obj.proofs.ReadAgain.{name_again}
use Rattle.m11_obj.proofs.ReadBack.{Bytes}
use Rattle.m11_obj_laws.specs.Faults.{IsCut, ShowsInEntry}
use Rattle.m11_obj_laws.proofs.Steps.{bind_err, word_refuses, word_cut, cut_before, cut_after, cut_at_once}
use Rattle.m11_obj_laws.proofs.Longer.{entry_cut}
use Rattle.m11_obj_laws.proofs.Names.{NameStands, NameRefused, NameCut, NoName, name_stands, name_refuses, none_refused, byte_small}

-- ---- types of entries

kind_is_code : (code : ℕ) (kind : GsdKind) → entry_kind code ≡ Ok kind → code ≡ kind_code kind
unfolding entry_kind
kind_is_code zero kind e = ap kind_code (ok_is ModuleName kind e)
kind_is_code (suc zero) kind e = ap kind_code (ok_is ControlSection kind e)
kind_is_code (suc (suc zero)) kind e = ap kind_code (ok_is InternalSymbol kind e)
kind_is_code (suc (suc (suc zero))) kind e = ap kind_code (ok_is TransferAddress kind e)
kind_is_code (suc (suc (suc (suc zero)))) kind e = ap kind_code (ok_is GlobalSymbol kind e)
kind_is_code (suc (suc (suc (suc (suc zero))))) kind e = ap kind_code (ok_is ProgramSection kind e)
kind_is_code (suc (suc (suc (suc (suc (suc zero)))))) kind e = ap kind_code (ok_is Identification kind e)
kind_is_code (suc (suc (suc (suc (suc (suc (suc zero))))))) kind e = absurd cc
kind_is_code (suc (suc (suc (suc (suc (suc (suc (suc code)))))))) kind e = absurd cc

-- the type with this code is refused
data KindRefused (said : RecordFault) (code : ℕ) : Type 0 where
  Mapped : fault.MappedArray ≡ said → code ≡ 7 → KindRefused said code
  Unknown : fault.UnknownType ≡ said → 7 < code → KindRefused said code

kind_refuses : (said : RecordFault) (code : ℕ) → entry_kind code ≡ Err said → KindRefused said code
unfolding entry_kind
kind_refuses said zero e = absurd cc
kind_refuses said (suc zero) e = absurd cc
kind_refuses said (suc (suc zero)) e = absurd cc
kind_refuses said (suc (suc (suc zero))) e = absurd cc
kind_refuses said (suc (suc (suc (suc zero)))) e = absurd cc
kind_refuses said (suc (suc (suc (suc (suc zero))))) e = absurd cc
kind_refuses said (suc (suc (suc (suc (suc (suc zero)))))) e = absurd cc
kind_refuses said (suc (suc (suc (suc (suc (suc (suc zero))))))) e = Mapped (cc) (omega arith)
kind_refuses said (suc (suc (suc (suc (suc (suc (suc (suc code)))))))) e = Unknown (cc) (omega arith)

kind_unknown : (code : ℕ) → 7 < code → entry_kind code ≡ Err fault.UnknownType
unfolding entry_kind
kind_unknown zero lt = absurd (omega arith)
kind_unknown (suc zero) lt = absurd (omega arith)
kind_unknown (suc (suc zero)) lt = absurd (omega arith)
kind_unknown (suc (suc (suc zero))) lt = absurd (omega arith)
kind_unknown (suc (suc (suc (suc zero)))) lt = absurd (omega arith)
kind_unknown (suc (suc (suc (suc (suc zero))))) lt = absurd (omega arith)
kind_unknown (suc (suc (suc (suc (suc (suc zero)))))) lt = absurd (omega arith)
kind_unknown (suc (suc (suc (suc (suc (suc (suc zero))))))) lt = absurd (omega arith)
kind_unknown (suc (suc (suc (suc (suc (suc (suc (suc code)))))))) lt = refl

kind_mapped : entry_kind 7 ≡ Err fault.MappedArray
unfolding entry_kind
kind_mapped = refl

-- ---- a refused entry shows its fault

cut_shows : (said : RecordFault) (bytes : List ℕ) (entry : GsdEntry) → fault.BadLength ≡ said → EntryFits entry
    → IsCut (entry_bytes entry) bytes → ShowsInEntry said bytes
cut_shows said bytes entry e fits cut =
    subst (λ (f : RecordFault). ShowsInEntry f bytes) e (entry, fits, cut)

name_shows : (said : RecordFault) (bytes : List ℕ) → NameRefused said bytes → ShowsInEntry said bytes
name_shows said bytes (NameCut name e is cut) =
    cut_shows said bytes (entry_of name 0 ModuleName 0) (sym e)
    (record { name = is; flags = omega arith; value = omega arith })
    (cut_before (name_bytes name) (0 ∷ 0 ∷ word_bytes 0) bytes cut)
name_shows said bytes (NoName e none) = subst (λ (f : RecordFault). ShowsInEntry f bytes) (sym e) none

-- if the bytes of an entry end after its name and before its end, they show that
after_name : (said : RecordFault) (bytes : List ℕ) (name : (ℕ × ℕ) × List ℕ) (kind : GsdKind) (flags value : ℕ)
    → fault.BadLength ≡ said → NameStands bytes name → flags < 256 → value < 2 ^ 16
    → IsCut (flags ∷ kind_code kind ∷ word_bytes value) name.1 → ShowsInEntry said bytes
after_name said bytes name kind flags value e stands f v cut =
    let entry : GsdEntry = entry_of name.0 flags kind value in
    let fits : EntryFits entry = record { name = stands.fits; flags = f; value = v } in
    cut_shows said bytes entry e fits
    (subst (λ (xs : List ℕ). IsCut (entry_bytes entry) xs) (sym stands.is)
    (cut_after (name_bytes name.0) (flags ∷ kind_code kind ∷ word_bytes value) name.1 cut))

kind_shows : (said : RecordFault) (bytes : List ℕ) (name : (ℕ × ℕ) × List ℕ) (flags code : ℕ) (rest : List ℕ)
    → NameStands bytes name → name.1 ≡ flags ∷ code ∷ rest → KindRefused said code → ShowsInEntry said bytes
kind_shows said bytes name flags code rest stands is (Mapped e seven) =
    subst (λ (f : RecordFault). ShowsInEntry f bytes) e (
      name.0,
      flags,
      rest,
      stands.fits,
      stands.is ∙ ap (λ (xs : List ℕ). name_bytes name.0 ++ xs) is
          ∙ ap (λ (n : ℕ). name_bytes name.0 ++ flags ∷ n ∷ rest) seven,
    )
kind_shows said bytes name flags code rest stands is (Unknown e more) =
    subst (λ (f : RecordFault). ShowsInEntry f bytes) e
    (name.0, flags, code, rest, stands.fits, more, stands.is ∙ ap (λ (xs : List ℕ). name_bytes name.0 ++ xs) is)

-- the reading of an entry after its name
abbrev entry_after : ℕ × ℕ → List ℕ → Result (GsdEntry × List ℕ) RecordFault
entry_after name rest = first_byte rest >>= λ flags. first_byte flags.1 >>= λ code. entry_kind code.0 >>=
    λ kind. first_word code.1 >>= λ value. Ok (entry_of name flags.0 kind value.0, value.1)

following : (said : RecordFault) (bytes : List ℕ) (name : (ℕ × ℕ) × List ℕ) (rest : List ℕ) → name.1 ≡ rest
    → NameStands bytes name → entry_after name.0 rest ≡ Err said → ShowsInEntry said bytes
following said bytes name [] is stands e =
    after_name said bytes name ModuleName 0 0 (cc) stands (omega arith) (omega arith)
    (subst (λ (xs : List ℕ). IsCut (0 ∷ 0 ∷ word_bytes 0) xs) (sym is) (cut_at_once 0 (0 ∷ word_bytes 0)))
following said bytes name (flags ∷ []) is stands e =
    let small : Bytes (flags ∷ []) = subst Bytes is stands.following in
    after_name said bytes name ModuleName flags 0 (cc) stands small.0 (omega arith)
    (subst (λ (xs : List ℕ). IsCut (flags ∷ 0 ∷ word_bytes 0) xs) (sym is)
    (cut_after (flags ∷ []) (0 ∷ word_bytes 0) [] (cut_at_once 0 (word_bytes 0))))
following said bytes name (flags ∷ code ∷ rest) is stands e =
    let small : Bytes (flags ∷ code ∷ rest) = subst Bytes is stands.following in
    elim (bind_err (entry_kind code)
    (λ kind. first_word rest >>= λ value. Ok (entry_of name.0 flags kind value.0, value.1)) said e) [
      | inl early ↦ kind_shows said bytes name flags code rest stands is (kind_refuses said code early)
      | inr k ↦ elim (bind_err (first_word rest) (λ value. Ok (entry_of name.0 flags k.0 value.0, value.1)) said k.2) [
        | inl late ↦
            let short = word_refuses said rest late in
            let w = word_cut rest short.1 (byte_small rest small.1.1) in
            let low : w.0 < 256 = w.1 in
            let front : List ℕ = flags ∷ kind_code k.0 ∷ [] in
            let same : name.1 ≡ front ++ rest = is ∙ ap (λ (n : ℕ). flags ∷ n ∷ rest) (kind_is_code code k.0 k.1) in
            after_name said bytes name k.0 flags w.0 short.0 stands small.0 (omega arith)
            (subst (λ (xs : List ℕ). IsCut (front ++ word_bytes w.0) xs) (sym same)
            (cut_after front (word_bytes w.0) rest w.2))
        | inr v ↦ absurd (let bad = v.2 in cc)
      ]
    ]

pub entry_shows : (said : RecordFault) (bytes : List ℕ) → Bytes bytes → first_entry bytes ≡ Err said
    → ShowsInEntry said bytes
unfolding first_entry
entry_shows said bytes are e =
    elim (bind_err (first_name bytes)
    (λ name. entry_after name.0 name.1) said e) [
      | inl early ↦ name_shows said bytes (name_refuses said bytes are early)
      | inr name ↦ following said bytes name.0 name.0.1 refl (name_stands bytes name.0 are name.1) name.2
    ]

-- ---- an entry that shows a fault is refused

none_stops : (bytes : List ℕ) → first_name bytes ≡ Err fault.BadName → first_entry bytes ≡ Err fault.BadName
unfolding first_entry
none_stops bytes e = rw e refl

kind_stops : (said : RecordFault) (name : ℕ × ℕ) (flags code : ℕ) (rest : List ℕ) → IsName name
    → entry_kind code ≡ Err said → first_entry (name_bytes name ++ flags ∷ code ∷ rest) ≡ Err said
unfolding first_entry
kind_stops said name flags code rest is e = rw (name_again name (flags ∷ code ∷ rest) is, e) refl

pub entry_refused : (said : RecordFault) (bytes : List ℕ) → ShowsInEntry said bytes → first_entry bytes ≡ Err said
entry_refused fault.BadLength bytes s = entry_cut s.0 bytes s.1 s.2
entry_refused fault.BadName bytes s = none_stops bytes (none_refused bytes s)
entry_refused fault.MappedArray bytes s =
    ap first_entry s.4 ∙ kind_stops fault.MappedArray s.0 s.1 7 s.2 s.3 kind_mapped
entry_refused fault.UnknownType bytes s =
    ap first_entry s.6 ∙ kind_stops fault.UnknownType s.0 s.1 s.2 s.3 s.4 (kind_unknown s.2 s.5)
entry_refused fault.Library bytes s = absurd s
entry_refused fault.Complex bytes s = absurd s
entry_refused fault.UnknownRelocation bytes s = absurd s
