-- Of two passes over one text, the second has the same live lines and the same end as the first.
use Rattle.std.proofs.Common.{◌≡◌, ◌∙◌, List, ◌∷◌, ◌++◌, inl, inr, refl, sym, ap, subst}
use Rattle.m11_asm.specs.Outcome as outcome
use Rattle.m11_asm.specs.Outcome.{Ends, HasOutcome, Outcome, Refuses}
use Rattle.m11_asm_faults.specs.declared.fault.AsmFault.{AsmFault}
use Rattle.m11_scan.specs.Line.{SourceLine}
use Rattle.m11_asm_passes.specs.Ends.{EndsAfter, ExceedsAfter}
use Rattle.m11_asm_passes.specs.Second.{map_from, moved_after}
use Rattle.m11_asm_passes.specs.Lines.{NumberedLine, PassLines, givens}
use Rattle.m11_asm_rules.specs.Meanings.{Map, empty_map}
use Rattle.m11_scan_line_laws.specs.Readings.{Reading}
use Rattle.m11_asm.specs.Program.{Program, program_of}
use Rattle.m11_asm.specs.Written.{EndOfSource, flagged_count, program_writes}
use Rattle.m11_unfold_rules.specs.Stages.{Stage}
use Rattle.m11_asm_outcome_laws.specs.OneText.{IsDecidedByFirst, Repeats, program_after}
use Rattle.m11_asm_outcome_laws.proofs.EachPass.{Comes, EachEnds, comes_by}
use Rattle.m11_asm_outcome_laws.proofs.OnePass.{EndsSo, ends_so, none_some, same_ended, unended_after}
use Rattle.m11_asm_lines.specs.declared.counting.Counting.{Counting}
use Rattle.m11_asm_lines.specs.declared.counting.Counting.TheVariants.{Definitions}
use Rattle.m11_asm_lines.specs.Counting.{none_used}

-- ---- facts about two passes over the same lines

abbrev pub EndAlike : Type 0
EndAlike = (one other : Map) (counting others : Counting) (all source read : List SourceLine) (lines later : List NumberedLine)
    (stage after : Stage) → EndsAfter one counting all source lines stage → EndsAfter other others all read later after
    → (source ≡ read) × (lines ≡ later) × (stage ≡ after)

abbrev pub PassesNone : Type 0
PassesNone = (one other : Map) (counting : Counting) (all source read : List SourceLine) (lines later : List NumberedLine) (stage : Stage)
    (fault : AsmFault) → EndsAfter one counting all source lines stage
    → ExceedsAfter other Definitions all read later fault → ⊥

abbrev pub NoneMoves : Type 0
NoneMoves = (one : Map) (counting others : Counting) (all source read rest : List SourceLine) (lines later before more : List NumberedLine)
    (this : NumberedLine) (stage after : Stage) → EndsAfter one counting all source lines stage
    → PassLines (map_from lines) others read later after → read ++ rest ≡ all → later ≡ before ++ this ∷ more
    → moved_after (map_from lines) before this ≡ 0

module _ (alike : EndAlike) (passes_none : PassesNone) (reading : Reading) (lines : List NumberedLine) (ended : EndOfSource)
    (ends : Ends empty_map none_used reading lines ended) where
  abbrev map_after : Map
  map_after = (program_after lines).map

  first : EndsSo empty_map none_used reading lines ended
  first = ends_so empty_map none_used reading lines ended ends

  pub never : (others : List NumberedLine) (fault : AsmFault) → Refuses map_after Definitions reading others fault → ⊥
  never others fault (outcome.Refuses.AtReading came stops is u) =
      let same = alike empty_map map_after none_used Definitions reading.lines first.source reading.lines lines others first.stage u.stage first.after
      (unended_after map_after Definitions reading others u) in
      none_some reading.fault came (first.goes_on (ap (λ (s : Stage). s.has_ended) same.2 ∙ u.goes_on)) stops
  never others fault (outcome.Refuses.AtLimit source more limit whole exceeds is) =
      passes_none empty_map map_after none_used reading.lines first.source source lines others first.stage limit first.after (record {
        exceeds = exceeds;
        more = more;
        whole = sym whole;
      })

  -- if the second pass reaches an end, it has the same live lines as the first pass, and the same end
  pub same_end : (others : List NumberedLine) (end : EndOfSource) → Ends map_after Definitions reading others end → (lines ≡ others) × (ended ≡ end)
  same_end others end ends' =
      let second = ends_so map_after Definitions reading others end ends' in
      let same = alike empty_map map_after none_used Definitions reading.lines first.source second.source lines others first.stage second.stage
      first.after second.after in
      (same.1, same_ended first.source second.source first.stage second.stage ended end same.0 same.2 first.are second.are)

  ends_again : Comes map_after Definitions reading → Ends map_after Definitions reading lines ended
  ends_again (inl (others, end, ends')) =
      let same = same_end others end ends' in
      subst (λ (e : EndOfSource). Ends map_after Definitions reading lines e) (sym same.1)
      (subst (λ (ls : List NumberedLine). Ends map_after Definitions reading ls end) (sym same.0) ends')
  ends_again (inr (others, fault, refuses)) = absurd (never others fault refuses)

  module _ (each : EachEnds) (none_moves : NoneMoves) where
    again : Ends map_after Definitions reading lines ended
    again = ends_again (comes_by map_after Definitions reading (each map_after Definitions reading.lines))

    second_after : EndsSo map_after Definitions reading lines ended
    second_after = ends_so map_after Definitions reading lines ended again

    pub repeats : Repeats reading lines ended
    repeats = record {
      ends = again;
      unmoved = λ before more this split.
          none_moves empty_map none_used Definitions reading.lines first.source second_after.source second_after.after.more lines lines before more
          this first.stage second_after.stage first.after second_after.after.lines_are second_after.after.whole split;
    }

-- ---- the outcome

module _ (alike : EndAlike) (passes_none : PassesNone) (reading : Reading) where
  never_under : (lines others : List NumberedLine) (ended : EndOfSource) (program : Program) (fault : AsmFault)
      → Ends empty_map none_used reading lines ended → program ≡ program_of (givens lines)
      → Refuses program.map Definitions reading others fault → ⊥
  never_under lines others ended program fault ends is refuses =
      never alike passes_none reading lines ended ends others fault
      (subst (λ (p : Program). Refuses p.map Definitions reading others fault) is refuses)

  same_under : (lines others : List NumberedLine) (ended end : EndOfSource) (program : Program) → Ends empty_map none_used reading lines ended
      → program ≡ program_of (givens lines) → Ends program.map Definitions reading others end
      → (lines ≡ others) × (ended ≡ end)
  same_under lines others ended end program ends is ends' =
      same_end alike passes_none reading lines ended ends others end
      (subst (λ (p : Program). Ends p.map Definitions reading others end) is ends')

  pub told_by_first : (all : Outcome) → HasOutcome reading reading all → IsDecidedByFirst reading all
  told_by_first _ (outcome.HasOutcome.FirstRefuses lines fault refuses) = (refl, lines, refuses)
  told_by_first _ (outcome.HasOutcome.SecondRefuses lines ended program others fault ends is refuses) =
      absurd (never_under lines others ended program fault ends is refuses)
  told_by_first _ (outcome.HasOutcome.Assembles lines ended program others end ends is ends') =
      let same = same_under lines others ended end program ends is ends' in (
        lines,
        ended,
        ends,
        ap (λ (p : Program). program_writes p others end) is
            ∙ ap (λ (ls : List NumberedLine). program_writes (program_after lines) ls end) (sym same.0)
            ∙ ap (λ (e : EndOfSource). program_writes (program_after lines) lines e) (sym same.1),
        ap (λ (p : Program). flagged_count p others end.has_end) is
            ∙ ap (λ (ls : List NumberedLine). flagged_count (program_after lines) ls end.has_end) (sym same.0)
            ∙ ap (λ (e : EndOfSource). flagged_count (program_after lines) lines e.has_end) (sym same.1),
      )
