-- A pass over a reading has only one end, or only one fault.
use Rattle.std.proofs.Common.{◌≡◌, ◌∙◌, Bool, true, false, List, [], length, append-nil, Option, Some, None, inl, inr, refl, sym, ap}
use Rattle.m11_asm.specs.Outcome as outcome
use Rattle.m11_asm.specs.Outcome.{Ends, Refuses, Unended}
use Rattle.m11_asm_faults.specs.Faults.{of_lines}
use Rattle.m11_asm_faults.specs.declared.fault.AsmFault.{AsmFault}
use Rattle.m11_scan.specs.Line.{SourceLine}
use Rattle.m11_scan.specs.declared.fault.LineFault.{LineFault}
use Rattle.m11_asm_passes.specs.Ends.{EndsAfter, ExceedsAfter}
use Rattle.m11_asm_passes.specs.Lines.{NumberedLine}
use Rattle.m11_asm_rules.specs.Meanings.{Map}
use Rattle.m11_scan_line_laws.specs.Readings.{Reading}
use Rattle.m11_asm.specs.Written.{EndOfSource}
use Rattle.m11_unfold_rules.specs.Stages.{Stage}
use Rattle.m11_asm_lines.specs.declared.counting.Counting.{Counting}

-- ---- the end of a pass over a reading is that of a pass over its lines

abbrev pub ended_at : List SourceLine → Bool → EndOfSource
ended_at source has_end = record { read = length source; has_end = has_end }

pub record EndsSo (map : Map) (counting : Counting) (reading : Reading) (lines : List NumberedLine) (ended : EndOfSource) : Type 0 where
  pub source : List SourceLine
  pub stage : Stage
  pub after : EndsAfter map counting reading.lines source lines stage
  pub are : ended ≡ ended_at source stage.has_ended
  pub goes_on : stage.has_ended ≡ false → reading.fault ≡ None

true_false : true ≡ false → ⊥
true_false e = cc

pub none_some : (came : Option LineFault) (fault : LineFault) → came ≡ None → came ≡ Some fault → ⊥
none_some came fault none some = let both : None ≡ Some fault = sym none ∙ some in cc

module _ (map_ : Map) (counting : Counting) (reading : Reading) where
  pub unended_after : (lines : List NumberedLine) (u : Unended map_ counting reading.lines lines)
      → EndsAfter map_ counting reading.lines reading.lines lines u.stage
  unended_after lines u =
      record { lines_are = u.live; more = []; whole = append-nil reading.lines; is_over = inr (refl, u.left, u.goes_on) }

  pub ends_so : (lines : List NumberedLine) (ended : EndOfSource) → Ends map_ counting reading lines ended → EndsSo map_ counting reading lines ended
  ends_so lines ended (outcome.Ends.AtEnd source more stage whole live ends is) = record {
    source = source;
    stage = stage;
    after = record { lines_are = live; more = more; whole = sym whole; is_over = inl ends };
    are = is ∙ ap (ended_at source) (sym ends);
    goes_on = λ goes. absurd (true_false (sym ends ∙ goes));
  }
  ends_so lines ended (outcome.Ends.WithoutEnd u none is) = record {
    source = reading.lines;
    stage = u.stage;
    after = unended_after lines u;
    are = is ∙ ap (ended_at reading.lines) (sym u.goes_on);
    goes_on = λ goes. none;
  }

-- two passes at the same stage after the same source lines have the same end
pub same_ended : (source other : List SourceLine) (stage after : Stage) (ended end : EndOfSource) → source ≡ other → stage ≡ after
    → ended ≡ ended_at source stage.has_ended → end ≡ ended_at other after.has_ended → ended ≡ end
same_ended source other stage after ended end same alike are are' =
    are ∙ ap (λ (ls : List SourceLine). ended_at ls stage.has_ended) same ∙ ap (λ (s : Stage). ended_at other s.has_ended) alike ∙ sym are'

-- ---- facts about passes over lines

abbrev pub EndsOnce : Type 0
EndsOnce = (map : Map) (counting : Counting) (all source other : List SourceLine) (lines later : List NumberedLine) (stage after : Stage)
    → EndsAfter map counting all source lines stage → EndsAfter map counting all other later after
    → (source ≡ other) × (lines ≡ later) × (stage ≡ after)

abbrev pub ExceedsOnce : Type 0
ExceedsOnce = (map : Map) (counting : Counting) (all source other : List SourceLine) (lines later : List NumberedLine)
    (first second : AsmFault) → ExceedsAfter map counting all source lines first → ExceedsAfter map counting all other later second
    → (source ≡ other) × (lines ≡ later) × (first ≡ second)

abbrev pub EndsOrExceeds : Type 0
EndsOrExceeds = (map : Map) (counting : Counting) (all source other : List SourceLine) (lines later : List NumberedLine) (stage : Stage)
    (fault : AsmFault) → EndsAfter map counting all source lines stage → ExceedsAfter map counting all other later fault → ⊥

-- ---- passes over a reading

module _ (once : EndsOnce) (limit_once : ExceedsOnce) (either : EndsOrExceeds) (map_ : Map) (counting : Counting) (reading : Reading)
    (lines later : List NumberedLine) where
  pub one_end : (ended end : EndOfSource) → Ends map_ counting reading lines ended → Ends map_ counting reading later end
      → (lines ≡ later) × (ended ≡ end)
  one_end ended end ends ends' =
      let e = ends_so map_ counting reading lines ended ends in
      let e' = ends_so map_ counting reading later end ends' in
      let same = once map_ counting reading.lines e.source e'.source lines later e.stage e'.stage e.after e'.after in
      (same.1, same_ended e.source e'.source e.stage e'.stage ended end same.0 same.2 e.are e'.are)

  one_stop : (fault fault' : LineFault) → reading.fault ≡ Some fault → reading.fault ≡ Some fault' → fault ≡ fault'
  one_stop fault fault' stops stops' = let both : Some fault ≡ Some fault' = sym stops ∙ stops' in cc

  pub one_refusal : (stopped stopped' : AsmFault) → Refuses map_ counting reading lines stopped → Refuses map_ counting reading later stopped'
      → (lines ≡ later) × (stopped ≡ stopped')
  one_refusal stopped stopped' (outcome.Refuses.AtReading fault stops is u) (outcome.Refuses.AtReading fault' stops' is' u') =
      let same = once map_ counting reading.lines reading.lines reading.lines lines later u.stage u'.stage
      (unended_after map_ counting reading lines u) (unended_after map_ counting reading later u') in
      (same.1, is ∙ ap of_lines (one_stop fault fault' stops stops') ∙ sym is')
  one_refusal stopped stopped' (outcome.Refuses.AtReading fault stops is u) (outcome.Refuses.AtLimit source more limit whole exceeds is') =
      absurd (either map_ counting reading.lines reading.lines source lines later u.stage limit
      (unended_after map_ counting reading lines u) (record { exceeds = exceeds; more = more; whole = sym whole }))
  one_refusal stopped stopped' (outcome.Refuses.AtLimit source more limit whole exceeds is) (outcome.Refuses.AtReading fault stops is' u) =
      absurd (either map_ counting reading.lines reading.lines source later lines u.stage limit
      (unended_after map_ counting reading later u) (record { exceeds = exceeds; more = more; whole = sym whole }))
  one_refusal stopped stopped' (outcome.Refuses.AtLimit source more limit whole exceeds is)
      (outcome.Refuses.AtLimit source' more' limit' whole' exceeds' is') =
      let same = limit_once map_ counting reading.lines source source' lines later limit limit'
      (record { exceeds = exceeds; more = more; whole = sym whole }) (record { exceeds = exceeds'; more = more'; whole = sym whole' }) in
      (same.1, is ∙ same.2 ∙ sym is')

  pub not_both : (ended : EndOfSource) (stopped : AsmFault) → Ends map_ counting reading lines ended → Refuses map_ counting reading later stopped → ⊥
  not_both ended stopped ends (outcome.Refuses.AtReading fault stops is u) =
      let e = ends_so map_ counting reading lines ended ends in
      let same = once map_ counting reading.lines e.source reading.lines lines later e.stage u.stage e.after
      (unended_after map_ counting reading later u) in
      none_some reading.fault fault (e.goes_on (ap (λ (s : Stage). s.has_ended) same.2 ∙ u.goes_on)) stops
  not_both ended stopped ends (outcome.Refuses.AtLimit source more limit whole exceeds is) =
      let e = ends_so map_ counting reading lines ended ends in
      either map_ counting reading.lines e.source source lines later e.stage limit e.after
      (record { exceeds = exceeds; more = more; whole = sym whole })
