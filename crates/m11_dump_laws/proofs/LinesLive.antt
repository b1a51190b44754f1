-- The live lines of the source that shows what memory holds: what they put into a program, its start, and that none is flagged.
use Rattle.std.proofs.Common.{◌≡◌, ◌∙◌, ℕ, ◌+◌, ◌%◌, ◌≤◌, ◌<◌, Bool, true, false, inl, inr, List, [], ◌∷◌, ◌++◌, length, map, find, Option, Some, None, option_map, refl, sym, ap, ap₂, subst, arith, append_assoc, append-nil}
use Rattle.std.specs.Prelude.{◌==◌, if◌then◌else◌, count_by, slice_index_or, sum_by}
use Rattle.std.specs.Int.RustNames.{bit_or}
use Rattle.std.specs.List.{AllByRecursion, flat_map}
use Rattle.std.proofs.lemmas.List.{map-append}
use Rattle.m11_base.specs.Devices.{Bytes}
use Rattle.m11_scan.specs.Laws.{ArePlainTexts, written}
use Rattle.m11_scan.specs.Line.{SourceLine, line_of}
use Rattle.m11_scan.specs.Lines.{most_bytes, most_lines}
use Rattle.m11_scan_expressions.specs.Quantities.{Quantity, absolute}
use Rattle.m11_scan_line_laws.specs.Laws.{HaveLines}
use Rattle.m11_scan_line_laws.specs.Laws.HasLines.{AllEnded}
use Rattle.m11_scan_line_laws.specs.Laws.HaveLines.{NoSource, OneMore}
use Rattle.m11_scan_line_laws.specs.Readings.{Reading, reading_of}
use Rattle.m11_unfold_rules.specs.Histories.{with_more}
use Rattle.m11_unfold_rules.specs.Stages.{Stage}
use Rattle.m11_unfold_rules.specs.Taking.{NothingLeft, move}
use Rattle.m11_unfold_rules.specs.Unfolding.{UnfoldedLine, Unfolds}
use Rattle.m11_asm_rules.specs.Actions.{Action, Transfer}
use Rattle.m11_asm_rules.specs.Exports.{transfer_flags}
use Rattle.m11_asm_rules.specs.Meanings.{Map, empty_map}
use Rattle.m11_asm_rules.specs.Operations.{action}
use Rattle.m11_asm_rules.specs.Placements.{LinePlacement, after_lines, placed, placed_from, placement, program_map, table_after}
use Rattle.m11_asm_rules.specs.Lines.{after_line, flags}
use Rattle.m11_asm_rules.specs.Sources.{end_flags}
use Rattle.m11_asm_rules.specs.Tables.{Table, first_table}
use Rattle.m11_asm_lines.specs.Counting.{none_used}
use Rattle.m11_asm_lines.specs.declared.counting.Counting.{Counting}
use Rattle.m11_asm_passes.specs.Ends.{EndsAfter}
use Rattle.m11_asm_passes.specs.Lines.{NumberedLine, PassLines, givens, table_at}
use Rattle.m11_asm_passes.specs.Second.{moved_after}
use Rattle.m11_asm.specs.Outcome.{Ends, Unended}
use Rattle.m11_asm.specs.Outcome.Ends.{AtEnd, WithoutEnd}
use Rattle.m11_asm.specs.Written.{EndOfSource, flagged_in, flags_after, flags_at, is_flagged, pieces_in}
use Rattle.m11_asm_outcome_laws.specs.AllLines.{AreAllLines}
use Rattle.m11_asm_outcome_laws.specs.OneText.{Repeats, program_after}

-- ---- the lines of the text

-- lines with a line feed after each
pub written_flat : (lines : List Bytes) → flat_map (λ (text : Bytes). text ++ 10 ∷ []) lines ≡ written lines
written_flat [] = refl
written_flat (line ∷ lines) =
    append_assoc line (10 ∷ []) (flat_map (λ (text : Bytes). text ++ 10 ∷ []) lines) ∙ ap (λ rest. line ++ 10 ∷ rest) (written_flat lines)

-- plain lines are read as they are
abbrev pub ReadsPlain : Type 0
ReadsPlain = (sources lines : List Bytes) → HaveLines sources lines → sum_by length sources ≤ most_bytes → length lines ≤ most_lines
    → reading_of sources ≡ record { lines = map line_of lines; fault = None }

pub text_read : ReadsPlain → (text : Bytes) (lines : List Bytes) → text ≡ written lines → ArePlainTexts lines → length text ≤ most_bytes
    → length lines ≤ most_lines → reading_of (text ∷ []) ≡ record { lines = map line_of lines; fault = None }
text_read reads text lines is plain short few =
    let P : Bytes → Type 0 = λ t. HaveLines (t ∷ []) lines in
    let Q : List Bytes → Type 0 = λ ls. HaveLines (written lines ∷ []) ls in
    let have : HaveLines (written lines ∷ []) lines =
    subst Q (append-nil lines) (OneMore (written lines) [] lines [] (AllEnded lines plain) NoSource) in
    reads (text ∷ []) lines (subst P (sym is) have) (omega (arith, short)) few

-- ---- all live lines

-- a pass that is at its end has all lines of its source
abbrev pub HasAllLines : Type 0
HasAllLines = (map_ : Map) (counting : Counting) (all source : List SourceLine) (lines : List NumberedLine) (stage : Stage)
    (end : EndsAfter map_ counting all source lines stage) → AreAllLines map_ all (givens lines) (with_more end.more stage)

-- the unfolding of a source is at an end after these live lines
pub record AreUnfolded (all : List SourceLine) (lines : List NumberedLine) : Type 0 where
  pub stage : Stage
  pub unfolds : Unfolds all (givens lines) stage
  pub rests : move stage ≡ NothingLeft

unfolded_after : HasAllLines → (all source : List SourceLine) (lines : List NumberedLine) (stage : Stage)
    → EndsAfter empty_map none_used all source lines stage → AreUnfolded all lines
unfolded_after has all source lines stage end =
    let made = has empty_map none_used all source lines stage end in
    record { stage = with_more end.more stage; unfolds = made.are.0; rests = made.rests }

pub lines_unfolded : HasAllLines → (reading : Reading) (lines : List NumberedLine) (ended : EndOfSource)
    → Ends empty_map none_used reading lines ended → AreUnfolded reading.lines lines
lines_unfolded has reading lines ended (AtEnd source more stage whole are over is) =
    unfolded_after has reading.lines source lines stage (record { lines_are = are; more = more; whole = sym whole; is_over = inl over })
lines_unfolded has reading lines ended (WithoutEnd unended no_fault is) =
    unfolded_after has reading.lines reading.lines lines unended.stage (record {
      lines_are = unended.live;
      more = [];
      whole = append-nil reading.lines;
      is_over = inr (refl, unended.left, unended.goes_on);
    })

-- ---- no line is flagged

end_none : (act : Action) → end_flags 0 act ≡ 0
end_none (Transfer tokens) = refl
end_none act = refl

pub start_unflagged : (start : ℕ) (b : Bool) → transfer_flags (if b then Some (absolute start 0) else None) ≡ 0
start_unflagged start true = refl
start_unflagged start false = refl

-- a line among others is placed with the table after those before it
placed_among : (P : LinePlacement → Type 0) (map_ : Map) (table : Table) (before : List UnfoldedLine) (this : UnfoldedLine)
    (more : List UnfoldedLine) → AllByRecursion P (placed_from map_ table (before ++ this ∷ more))
    → P (placed map_ (after_lines map_ table before) this)
placed_among P map_ table [] this more all = all.0
placed_among P map_ table (given ∷ before) this more all = placed_among P map_ (after_line map_ table given) before this more all.1

module _ (lines : List NumberedLine) (unmoved : (before more : List NumberedLine) (this : NumberedLine) → lines ≡ before ++ this ∷ more
    → moved_after (program_after lines).map before this ≡ 0)
    (unflagged : AllByRecursion (λ (line : LinePlacement). line.flags ≡ 0) (placement (program_map (givens lines)) (givens lines)))
    (transfer : transfer_flags (program_after lines).transfer ≡ 0) where
  line_unflagged : (before more : List NumberedLine) (this : NumberedLine) → lines ≡ before ++ this ∷ more
      → flags_at (program_after lines) before this ≡ 0
  line_unflagged before more this whole =
      let P : LinePlacement → Type 0 = λ line. line.flags ≡ 0 in
      let Q : List UnfoldedLine → Type 0 = λ ls. AllByRecursion P (placed_from (program_map (givens lines)) first_table ls) in
      let parts : givens lines ≡ givens before ++ this.given ∷ givens more =
      ap givens whole ∙ map-append (λ (line : NumberedLine). line.given) before (this ∷ more) in
      let own : flags (program_map (givens lines)) (table_at (program_map (givens lines)) before) this.given ≡ 0 =
      placed_among P (program_map (givens lines)) first_table (givens before) this.given (givens more) (subst Q parts unflagged) in
      ap₂ (λ f m. bit_or (bit_or f m) (end_flags (transfer_flags (program_after lines).transfer)
      (action this.given.is_own this.given.arguments this.given.live.line.text))) own (unmoved before more this whole)
      ∙ ap (λ t. bit_or 0 (end_flags t (action this.given.is_own this.given.arguments this.given.live.line.text))) transfer
      ∙ ap (bit_or 0) (end_none (action this.given.is_own this.given.arguments this.given.live.line.text))

  none_flagged : (before rest : List NumberedLine) → lines ≡ before ++ rest
      → count_by is_flagged (flags_after (program_after lines) before rest) ≡ 0
  none_flagged before [] whole = refl
  none_flagged before (this ∷ rest) whole =
      ap (λ f. count_by is_flagged (f ∷ flags_after (program_after lines) (before ++ this ∷ []) rest)) (line_unflagged before rest this whole)
      ∙ none_flagged (before ++ this ∷ []) rest (whole ∙ sym (append_assoc before (this ∷ []) rest))

  pub all_unflagged : flagged_in (program_after lines) lines ≡ 0
  unfolding flagged_in
  all_unflagged = none_flagged [] lines refl
