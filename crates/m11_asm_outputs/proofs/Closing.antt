-- The texts that pieces close, and the full records of the rows of a directory.
use Rattle.std.proofs.Common.{◌≡◌, ℕ, Bool, true, false, List, [], ◌∷◌, ◌++◌, length, map, Option, Some, None, refl, sym, ap, subst, ◌∙◌, append_assoc, append-nil, inl, inr}
use Rattle.std.specs.List.{flat_map}
use Rattle.std.proofs.lemmas.Grind.{flat_map-append}
use Rattle.std.proofs.lemmas.Bool.{cases_lt}
use Rattle.std.proofs.lemmas.List.{append_cancel_left, map-append}
use Rattle.m11_obj.specs.Records.{Content, EndOfModule, Gsd}
use Rattle.m11_obj.specs.declared.gsd.GsdEntry.{GsdEntry}
use Rattle.m11_obj.proofs.TextCuts.{begins, closes, goes_in}
use Rattle.m11_obj.proofs.RecordCuts.{row_closes, row_goes_in}
use Rattle.m11_obj.specs.Directory as directory
use Rattle.m11_obj.specs.Fronts.{fronts_of}
use Rattle.m11_obj.specs.OpenText.{IsOpenText, last_section, records_in, has_room_for, with_piece}
use Rattle.m11_obj.specs.Texts.{TextParts, records_of, text_of, text_records, texts_after}
use Rattle.m11_obj.specs.declared.directory.DirectoryRow.{DirectoryRow}
use Rattle.m11_obj.specs.declared.pieces.Piece.{Piece}
use Rattle.m11_asm_outputs.specs.Object.{closed_records, full_records, head_contents, IsOpenAfter, last_records, object_contents, records_closed_by, records_filled_by, rest_records, texts_of, WaitsAfter, without_last}
use Rattle.m11_asm_outputs.proofs.Growing as growing

-- ---- texts

texts-split : (before : Option (ℕ × ℕ)) (closed : List (List Piece)) (first : Piece) (rest : List Piece)
    → texts_after before (closed ++ (first ∷ rest) ∷ [])
    ≡ texts_after before closed ++ text_of (last_section before closed) first rest ∷ []
texts-split before [] first rest = refl
texts-split before ([] ∷ closed) first rest = texts-split before closed first rest
texts-split before ((x ∷ xs) ∷ closed) first rest =
    ap (λ (t : List TextParts). text_of before x xs ∷ t) (texts-split (Some x.section) closed first rest)

pub no_closed_records : closed_records [] ≡ []
unfolding closed_records fronts_of
no_closed_records = refl

-- the records written so far are those of the closed texts
pub written_is : (pieces : List Piece) (written : List Content) (text : Option TextParts) → IsOpenText pieces written text
    → written ≡ closed_records pieces
unfolding closed_records
written_is pieces written None h = h.1 ∙ sym no_closed_records ∙ ap closed_records (sym h.0)
written_is pieces written (Some text) h =
    let last = text_of (last_section None h.closed) h.first h.rest in
    h.records ∙ sym (ap (λ (t : List (List Piece)). flat_map records_of (without_last (texts_after None t))) h.cut
    ∙ ap (λ (t : List TextParts). flat_map records_of (without_last t)) (texts-split None h.closed h.first h.rest)
    ∙ ap (λ (t : List TextParts). flat_map records_of t) (growing.without_last-push (texts_after None h.closed) last))

pub nothing_open : (text : Option TextParts) → IsOpenText [] [] text → IsOpenAfter [] text
nothing_open text h =
    let P : List Content → Type 0 = λ written. IsOpenText [] written text in subst P (written_is [] [] text h) h

-- after some more records are written, the open text is the one after these pieces
record Grown (pieces : List Piece) (written : List Content) : Type 0 where
  more : List Content
  text : Option TextParts
  stands : IsOpenText pieces (written ++ more) text

one_more : (pieces : List Piece) (written : List Content) (text : Option TextParts) (p : Piece)
    → IsOpenText pieces written text → Grown (pieces ++ p ∷ []) written
one_more pieces written None p h = record {
  more = [];
  text = Some (text_of None p []);
  stands = begins pieces written p (text_of None p []) h refl;
}
one_more pieces written (Some text) p h = by_test (has_room_for text p) refl
  where
    by_test : (b : Bool) → has_room_for text p ≡ b → Grown (pieces ++ p ∷ []) written
    by_test true e = record {
      more = [];
      text = Some (with_piece text p);
      stands = goes_in pieces written p text (with_piece text p) h e refl;
    }
    by_test false e = record {
      more = records_in (Some text);
      text = Some (text_of (Some text.section) p []);
      stands = closes pieces written p text (text_of (Some text.section) p []) h e refl;
    }

grown_all : (items pieces : List Piece) (written : List Content) (text : Option TextParts) → IsOpenText pieces written text
    → Grown (pieces ++ items) written
grown_all [] pieces written text h = record {
  more = [];
  text = text;
  stands =
      let P : List Piece → Type 0 = λ these. IsOpenText these (written ++ []) text in
      let Q : List Content → Type 0 = λ these. IsOpenText pieces these text in
      subst P (sym (append-nil pieces)) (subst Q (sym (append-nil written)) h);
}
grown_all (p ∷ items) pieces written text h =
    let one = one_more pieces written text p h in
    let all = grown_all items (pieces ++ p ∷ []) (written ++ one.more) one.text one.stands in
    record {
      more = one.more ++ all.more;
      text = all.text;
      stands =
          let P : List Piece → Type 0 = λ these. IsOpenText these (written ++ (one.more ++ all.more)) all.text in
          let Q : List Content → Type 0 = λ these. IsOpenText ((pieces ++ p ∷ []) ++ items) these all.text in
          subst P (append_assoc pieces (p ∷ []) items)
          (subst Q (append_assoc written one.more all.more) all.stands);
    }

pub closed-grows : (xs ys : List Piece) → (more : List Content) × (closed_records (xs ++ ys) ≡ closed_records xs ++ more)
closed-grows xs ys =
    let before = grown_all xs [] [] None (refl, refl) in
    let all = grown_all ys xs before.more before.text before.stands in (
      all.more,
      sym (written_is (xs ++ ys) (before.more ++ all.more) all.text all.stands)
          ∙ ap (λ (t : List Content). t ++ all.more) (written_is xs before.more before.text before.stands),
    )

pub closed-append : (before pieces : List Piece)
    → closed_records (before ++ pieces) ≡ closed_records before ++ records_closed_by before pieces
closed-append before pieces = growing.made-append closed_records closed-grows before pieces

pub closed_by-nil : (before : List Piece) → records_closed_by before [] ≡ []
closed_by-nil before = sym (growing.added-nil closed_records closed-grows before)

pub closed_by-append : (before xs ys : List Piece)
    → records_closed_by before (xs ++ ys) ≡ records_closed_by before xs ++ records_closed_by (before ++ xs) ys
closed_by-append before xs ys = growing.added-append closed_records closed-grows before xs ys

pub closed_from_nothing : (pieces : List Piece) → records_closed_by [] pieces ≡ closed_records pieces
closed_from_nothing pieces =
    sym (closed-append [] pieces ∙ ap (λ (t : List Content). t ++ records_closed_by [] pieces) no_closed_records)

-- what follows for one more piece, if these further records are written and this text is open after it
module _ (pieces : List Piece) (p : Piece) (more : List Content) (text : Option TextParts)
    (h : IsOpenText (pieces ++ p ∷ []) (closed_records pieces ++ more) text) where
  pub closed_by_piece : more ≡ records_closed_by pieces (p ∷ [])
  closed_by_piece = growing.added_is closed_records closed-grows pieces (p ∷ []) more
      (sym (written_is (pieces ++ p ∷ []) (closed_records pieces ++ more) text h))

  pub open_after_piece : IsOpenAfter (pieces ++ p ∷ []) text
  open_after_piece =
      let P : List Content → Type 0 = λ written. IsOpenText (pieces ++ p ∷ []) written text in
      subst P (written_is (pieces ++ p ∷ []) (closed_records pieces ++ more) text h) h

-- the records of the closed texts and of the last text are those of all texts
pub all_records : (pieces : List Piece) → closed_records pieces ++ last_records pieces ≡ text_records pieces
unfolding closed_records last_records
all_records pieces =
    let texts = texts_of pieces in
    sym (flat_map-append records_of (without_last texts) _) ∙ ap (flat_map records_of) (growing.with_last texts)

pub last_is : (pieces : List Piece) (more : List Content) → closed_records pieces ++ more ≡ text_records pieces
    → more ≡ last_records pieces
last_is pieces more e = append_cancel_left (closed_records pieces) more (last_records pieces) (e ∙ sym (all_records pieces))

-- the whole object is its head, the records of the closed texts, those of the last text, and the end of the module
pub in_parts : (rows : List DirectoryRow) (pieces : List Piece) → object_contents rows pieces
    ≡ head_contents rows ++ (records_closed_by [] pieces ++ (last_records pieces ++ EndOfModule ∷ []))
in_parts rows pieces =
    append_assoc (head_contents rows) (text_records pieces) (EndOfModule ∷ [])
    ∙ ap (λ (t : List Content). head_contents rows ++ (t ++ EndOfModule ∷ []))
    (sym (all_records pieces) ∙ ap (λ (t : List Content). t ++ last_records pieces) (sym (closed_from_nothing pieces)))
    ∙ ap (λ (t : List Content). head_contents rows ++ t)
    (append_assoc (records_closed_by [] pieces) (last_records pieces) (EndOfModule ∷ []))

-- ---- directories

no_full_records : full_records [] ≡ []
unfolding full_records fronts_of
no_full_records = refl

pub filled_is : (rows : List DirectoryRow) (written : List Content) (waiting : List GsdEntry)
    → directory.IsOpenDirectory rows written waiting → written ≡ full_records rows
unfolding full_records
filled_is rows written [] h = h.1 ∙ sym no_full_records ∙ ap full_records (sym h.0)
filled_is rows written (first ∷ rest) h =
    let gsd : List GsdEntry → Content = λ entries. Gsd entries in
    h.records ∙ sym (ap (λ (t : List (List GsdEntry)). without_last (map gsd t)) h.cut
    ∙ ap without_last (map-append gsd h.closed ((first ∷ rest) ∷ []))
    ∙ growing.without_last-push (map gsd h.closed) (gsd (first ∷ rest)))

pub nothing_waits : (waiting : List GsdEntry) → directory.IsOpenDirectory [] [] waiting → WaitsAfter [] waiting
nothing_waits waiting h =
    let P : List Content → Type 0 = λ written. directory.IsOpenDirectory [] written waiting in
    subst P (filled_is [] [] waiting h) h

record Filled (rows : List DirectoryRow) (written : List Content) : Type 0 where
  more : List Content
  waiting : List GsdEntry
  stands : directory.IsOpenDirectory rows (written ++ more) waiting

one_filled : (rows : List DirectoryRow) (written : List Content) (waiting : List GsdEntry) (row : DirectoryRow)
    → directory.IsOpenDirectory rows written waiting → Filled (rows ++ row ∷ []) written
one_filled rows written waiting row h = elim (cases_lt (length waiting) 15) [
  | inl room ↦ record {
    more = [];
    waiting = waiting ++ directory.entry_of row ∷ [];
    stands = row_goes_in rows written row waiting h room;
  }
  | inr full ↦ record {
    more = directory.written_by waiting;
    waiting = directory.entry_of row ∷ [];
    stands = row_closes rows written row waiting h full;
  }
]

filled_all : (items rows : List DirectoryRow) (written : List Content) (waiting : List GsdEntry)
    → directory.IsOpenDirectory rows written waiting → Filled (rows ++ items) written
filled_all [] rows written waiting h = record {
  more = [];
  waiting = waiting;
  stands =
      let P : List DirectoryRow → Type 0 = λ these. directory.IsOpenDirectory these (written ++ []) waiting in
      let Q : List Content → Type 0 = λ these. directory.IsOpenDirectory rows these waiting in
      subst P (sym (append-nil rows)) (subst Q (sym (append-nil written)) h);
}
filled_all (row ∷ items) rows written waiting h =
    let one = one_filled rows written waiting row h in
    let all = filled_all items (rows ++ row ∷ []) (written ++ one.more) one.waiting one.stands in
    record {
      more = one.more ++ all.more;
      waiting = all.waiting;
      stands =
          let P : List DirectoryRow → Type 0 =
          λ these. directory.IsOpenDirectory these (written ++ (one.more ++ all.more)) all.waiting in
          let Q : List Content → Type 0 = λ these. directory.IsOpenDirectory ((rows ++ row ∷ []) ++ items) these all.waiting in
          subst P (append_assoc rows (row ∷ []) items)
          (subst Q (append_assoc written one.more all.more) all.stands);
    }

pub full-grows : (xs ys : List DirectoryRow) → (more : List Content) × (full_records (xs ++ ys) ≡ full_records xs ++ more)
full-grows xs ys =
    let before = filled_all xs [] [] [] (refl, refl) in
    let all = filled_all ys xs before.more before.waiting before.stands in (
      all.more,
      sym (filled_is (xs ++ ys) (before.more ++ all.more) all.waiting all.stands)
          ∙ ap (λ (t : List Content). t ++ all.more) (filled_is xs before.more before.waiting before.stands),
    )

pub full-append : (before rows : List DirectoryRow)
    → full_records (before ++ rows) ≡ full_records before ++ records_filled_by before rows
full-append before rows = growing.made-append full_records full-grows before rows

module _ (rows : List DirectoryRow) (row : DirectoryRow) (more : List Content) (waiting : List GsdEntry)
    (h : directory.IsOpenDirectory (rows ++ row ∷ []) (full_records rows ++ more) waiting) where
  pub filled_by_row : more ≡ records_filled_by rows (row ∷ [])
  filled_by_row = growing.added_is full_records full-grows rows (row ∷ []) more
      (sym (filled_is (rows ++ row ∷ []) (full_records rows ++ more) waiting h))

  pub waits_after_row : WaitsAfter (rows ++ row ∷ []) waiting
  waits_after_row =
      let P : List Content → Type 0 = λ written. directory.IsOpenDirectory (rows ++ row ∷ []) written waiting in
      subst P (filled_is (rows ++ row ∷ []) (full_records rows ++ more) waiting h) h

pub all_directory : (rows : List DirectoryRow) → full_records rows ++ rest_records rows ≡ directory.directory_records rows
unfolding full_records rest_records
all_directory rows = growing.with_last (directory.directory_records rows)

pub rest_is : (rows : List DirectoryRow) (more : List Content) → full_records rows ++ more ≡ directory.directory_records rows
    → more ≡ rest_records rows
rest_is rows more e = append_cancel_left (full_records rows) more (rest_records rows) (e ∙ sym (all_directory rows))

-- rows added to an empty directory fill all the full records of these rows
pub from_nothing : (rows : List DirectoryRow) → records_filled_by [] rows ≡ full_records rows
from_nothing rows = sym (full-append [] rows ∙ ap (λ (t : List Content). t ++ records_filled_by [] rows) no_full_records)
