-- Entries of a directory cut into records, one row after another.
use Rattle.std.proofs.Common.{◌≡◌, ◌<◌, ◌≤◌, leb, Bool, true, false, List, [], ◌∷◌, ◌++◌, length, map, refl, sym, ap, ◌∙◌, arith}
use Rattle.std.specs.Prelude.{◌&&◌}
use Rattle.std.proofs.lemmas.Bool.{false≢true, le-leb, leb-true}
use Rattle.std.proofs.lemmas.List.{append-nil, length-append, map-append}
use Rattle.m11_obj.specs.declared.gsd.GsdEntry.{GsdEntry}
use Rattle.m11_obj.specs.Records.{Content, Gsd}
use Rattle.m11_obj.specs.declared.directory.DirectoryRow.{DirectoryRow}
use Rattle.m11_obj.specs.Fronts.{fronts_of}
use Rattle.m11_obj.specs.Directory.{entry_of, is_one_record, record_cutting, directory_records, IsOpenDirectory, written_by}
use Rattle.m11_obj.proofs.Cutting.{first_front, fronts-grown, fronts-opened}

pub right_of : (a b : Bool) → (a && b) ≡ true → b ≡ true
right_of true b e = e
right_of false b e = absurd (false≢true e)

both_of : (a b : Bool) → a ≡ true → b ≡ true → (a && b) ≡ true
both_of a b e f = ap (λ (t : Bool). t && b) e ∙ f

pub nothing : is_one_record [] ≡ false
unfolding is_one_record
nothing = refl

pub fits : (x : GsdEntry) (xs : List GsdEntry) → length (x ∷ xs) ≤ 15 → is_one_record (x ∷ xs) ≡ true
unfolding is_one_record
fits x xs h = both_of (leb 1 (length (x ∷ xs))) (leb (length (x ∷ xs)) 15)
    (le-leb 1 (length (x ∷ xs)) (omega arith)) (le-leb (length (x ∷ xs)) 15 h)

pub few : (xs : List GsdEntry) → is_one_record xs ≡ true → length xs ≤ 15
unfolding is_one_record
few xs e = leb-true (length xs) 15 (right_of (leb 1 (length xs)) (leb (length xs) 15) e)

too_many : (xs : List GsdEntry) → 15 < length xs → is_one_record xs ≡ false
too_many xs h = by_test (is_one_record xs) refl
  where
    by_test : (b : Bool) → is_one_record xs ≡ b → b ≡ false
    by_test false e = refl
    by_test true e = absurd (omega (arith, few xs e))

pub beginning : (x : GsdEntry) (xs ys : List GsdEntry) → is_one_record ((x ∷ xs) ++ ys) ≡ true
    → is_one_record (x ∷ xs) ≡ true
beginning x xs ys e =
    fits x xs (omega (arith, few ((x ∷ xs) ++ ys) e, length-append (x ∷ xs) ys))

pub alone : (x : GsdEntry) → is_one_record (x ∷ []) ≡ true
alone x = fits x [] (omega arith)

entries-push : (rows : List DirectoryRow) (row : DirectoryRow)
    → record_cutting (rows ++ row ∷ []) ≡ fronts_of is_one_record (map entry_of rows ++ entry_of row ∷ [])
entries-push rows row = ap (fronts_of is_one_record) (map-append entry_of rows (row ∷ []))

-- if the waiting record has room, a row joins it
pub row_goes_in : (rows : List DirectoryRow) (written : List Content) (row : DirectoryRow) (waiting : List GsdEntry)
    → IsOpenDirectory rows written waiting → length waiting < 15
    → IsOpenDirectory (rows ++ row ∷ []) (written ++ []) (waiting ++ entry_of row ∷ [])
row_goes_in rows written row [] h room = record {
  closed = [];
  cut = ap (λ (t : List DirectoryRow). record_cutting (t ++ row ∷ [])) h.0
      ∙ first_front is_one_record nothing beginning alone (entry_of row);
  records = append-nil written ∙ h.1;
}
row_goes_in rows written row (x ∷ xs) h room = record {
  closed = h.closed;
  cut = entries-push rows row ∙ fronts-grown is_one_record nothing beginning alone (map entry_of rows) h.closed (x ∷ xs) h.cut
      (entry_of row) (fits x (xs ++ entry_of row ∷ []) (omega (arith, length-append (x ∷ xs) (entry_of row ∷ []))));
  records = append-nil written ∙ h.records;
}

-- if the waiting record is full, it is written, and the row begins another one
pub row_closes : (rows : List DirectoryRow) (written : List Content) (row : DirectoryRow) (waiting : List GsdEntry)
    → IsOpenDirectory rows written waiting → 15 ≤ length waiting
    → IsOpenDirectory (rows ++ row ∷ []) (written ++ written_by waiting) (entry_of row ∷ [])
row_closes rows written row [] h full = absurd (omega arith)
row_closes rows written row (x ∷ xs) h full = record {
  closed = h.closed ++ (x ∷ xs) ∷ [];
  cut = entries-push rows row
      ∙ fronts-opened is_one_record nothing beginning alone (map entry_of rows) h.closed (x ∷ xs) h.cut (entry_of row)
      (too_many ((x ∷ xs) ++ entry_of row ∷ []) (omega (arith, length-append (x ∷ xs) (entry_of row ∷ []))));
  records = ap (λ (t : List Content). t ++ written_by (x ∷ xs)) h.records
      ∙ sym (map-append (λ (entries : List GsdEntry). Gsd entries) h.closed ((x ∷ xs) ∷ []));
}

no_records : directory_records [] ≡ []
unfolding fronts_of
no_records = refl

pub rows_end : (rows : List DirectoryRow) (written : List Content) (waiting : List GsdEntry) → IsOpenDirectory rows written waiting
    → written ++ written_by waiting ≡ directory_records rows
rows_end rows written [] h = append-nil written ∙ h.1 ∙ sym no_records ∙ ap directory_records (sym h.0)
rows_end rows written (x ∷ xs) h =
    ap (λ (t : List Content). t ++ written_by (x ∷ xs)) h.records
    ∙ sym (map-append (λ (entries : List GsdEntry). Gsd entries) h.closed ((x ∷ xs) ∷ []))
    ∙ ap (λ (t : List (List GsdEntry)). map (λ (entries : List GsdEntry). Gsd entries) t) (sym h.cut)
