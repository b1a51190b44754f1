-- Directory entries that are read one after another.
use Rattle.std.proofs.Common.{◌≡◌, ℕ, ◌<◌, ◌≤◌, List, [], ◌∷◌, ◌++◌, append-nil, length, Result, Ok, Err, refl, sym, ap, ◌∙◌}
use Rattle.std.proofs.Math.Seq.{append_snoc}
use Rattle.m11_obj.specs.declared.fault.RecordFault.{RecordFault}
use Rattle.m11_obj.specs.declared.gsd.GsdEntry.{GsdEntry}
use Rattle.m11_obj.specs.Reading.{◌>>=◌, entries_of, first_entry}
use Rattle.m11_obj.proofs.Items.{items_none, items_step, items_stop}
use Rattle.m11_obj.proofs.Steps.{entry_shrinks}

abbrev Found : Type 0
Found = Result (List GsdEntry) RecordFault

-- these entries were read from the beginning of all bytes, and the bytes `rest` are left
abbrev pub AreRead : List ℕ → List GsdEntry → List ℕ → Type 0
AreRead all entries rest = entries_of all ≡ (entries_of rest >>= λ others. Ok (entries ++ others))

none_before : (found : Found) → found ≡ (found >>= λ others. Ok ([] ++ others))
none_before (Ok entries) = refl
none_before (Err fault) = refl

pub none_read : (all : List ℕ) → AreRead all [] all
none_read all = none_before (entries_of all)

one_more : (entries : List GsdEntry) (entry : GsdEntry) (found : Found)
    → ◌≡◌ {A = Found} ((found >>= λ others. Ok (entry ∷ others)) >>= λ others. Ok (entries ++ others))
    (found >>= λ others. Ok ((entries ++ entry ∷ []) ++ others))
one_more entries entry (Ok others) = ap (λ (es : List GsdEntry). Ok es) (sym (append_snoc entries entry others))
one_more entries entry (Err fault) = refl

pub more_read : (all : List ℕ) (entries : List GsdEntry) (bytes rest : List ℕ) (entry : GsdEntry) → AreRead all entries bytes
    → first_entry bytes ≡ Ok (entry, rest) → AreRead all (entries ++ entry ∷ []) rest
unfolding entries_of
more_read all entries bytes rest entry read first =
    read ∙ ap (λ (r : Found). r >>= λ others. Ok (entries ++ others))
    (items_step first_entry bytes (entry, rest) entry_shrinks first)
    ∙ one_more entries entry (entries_of rest)

pub all_read : (all : List ℕ) (entries : List GsdEntry) (rest : List ℕ) → AreRead all entries rest → length rest ≤ 0
    → entries_of all ≡ Ok entries
unfolding entries_of
all_read all entries rest read le =
    read ∙ ap (λ (r : Found). r >>= λ others. Ok (entries ++ others)) (items_none first_entry rest le)
    ∙ ap (λ (es : List GsdEntry). Ok es) (append-nil entries)

pub fault_read : (all : List ℕ) (entries : List GsdEntry) (rest : List ℕ) (fault : RecordFault) → AreRead all entries rest
    → 0 < length rest → first_entry rest ≡ Err fault → entries_of all ≡ Err fault
unfolding entries_of
fault_read all entries rest fault read lt first =
    read ∙ ap (λ (r : Found). r >>= λ others. Ok (entries ++ others)) (items_stop first_entry rest fault lt first)
