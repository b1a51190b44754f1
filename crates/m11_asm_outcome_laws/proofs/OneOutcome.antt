-- Two readings have only one outcome.
use Rattle.std.proofs.Common.{◌≡◌, ◌∙◌, List, [], sym, ap, subst}
use Rattle.m11_asm.specs.Outcome as outcome
use Rattle.m11_asm.specs.Outcome.{Assembled, Ends, HasOutcome, Outcome, Refused, Refuses}
use Rattle.m11_asm_faults.specs.declared.fault.AsmFault.{AsmFault}
use Rattle.m11_asm_passes.specs.Lines.{NumberedLine, givens}
use Rattle.m11_asm_rules.specs.Meanings.{empty_map}
use Rattle.m11_scan_line_laws.specs.Readings.{Reading}
use Rattle.m11_asm.specs.Program.{Program, program_of}
use Rattle.m11_asm.specs.Written.{EndOfSource, flagged_count, program_writes, written}
use Rattle.m11_asm_outcome_laws.proofs.OnePass.{EndsOnce, EndsOrExceeds, ExceedsOnce, not_both, one_end, one_refusal}
use Rattle.m11_asm_lines.specs.declared.counting.Counting.TheVariants.{Definitions}
use Rattle.m11_asm_lines.specs.Counting.{none_used}

-- equal lines in the first pass make equal programs
same_program : (lines later : List NumberedLine) (program program' : Program) → program ≡ program_of (givens lines)
    → program' ≡ program_of (givens later) → lines ≡ later → program ≡ program'
same_program lines later program program' is is' same = is ∙ ap (λ (ls : List NumberedLine). program_of (givens ls)) same ∙ sym is'

abbrev all_of : Program → List NumberedLine → EndOfSource → Outcome
all_of program lines ended = Assembled (program_writes program lines ended) (flagged_count program lines ended.has_end)

module _ (once : EndsOnce) (limit_once : ExceedsOnce) (either : EndsOrExceeds) (first second : Reading) where
  -- ---- the second pass, with equal programs

  module _ (program program' : Program) (same : program ≡ program') (others others' : List NumberedLine) where
    ends_under : (end : EndOfSource) → Ends program'.map Definitions second others' end
        → Ends program.map Definitions second others' end
    ends_under end = subst (λ (p : Program). Ends p.map Definitions second others' end) (sym same)

    refuses_under : (fault : AsmFault) → Refuses program'.map Definitions second others' fault
        → Refuses program.map Definitions second others' fault
    refuses_under fault = subst (λ (p : Program). Refuses p.map Definitions second others' fault) (sym same)

    same_refusal : (fault fault' : AsmFault) → Refuses program.map Definitions second others fault
        → Refuses program'.map Definitions second others' fault'
        → Refused fault (written program others) ≡ Refused fault' (written program' others')
    same_refusal fault fault' refuses refuses' =
        let alike = one_refusal once limit_once either program.map Definitions second others others' fault fault' refuses
        (refuses_under fault' refuses') in
        ap (λ (f : AsmFault). Refused f (written program others)) alike.1
        ∙ ap (λ (ls : List NumberedLine). Refused fault' (written program ls)) alike.0
        ∙ ap (λ (p : Program). Refused fault' (written p others')) same

    same_all : (end end' : EndOfSource) → Ends program.map Definitions second others end
        → Ends program'.map Definitions second others' end' → all_of program others end ≡ all_of program' others' end'
    same_all end end' ends ends' =
        let alike = one_end once limit_once either program.map Definitions second others others' end end' ends
        (ends_under end' ends') in
        ap (λ (e : EndOfSource). all_of program others e) alike.1
        ∙ ap (λ (ls : List NumberedLine). all_of program ls end') alike.0
        ∙ ap (λ (p : Program). all_of p others' end') same

    never_both : (end : EndOfSource) (fault : AsmFault) → Ends program.map Definitions second others end
        → Refuses program'.map Definitions second others' fault → ⊥
    never_both end fault ends refuses =
        not_both once limit_once either program.map Definitions second others others' end fault ends
        (refuses_under fault refuses)

  -- ---- the first pass

  first_lines : (lines later : List NumberedLine) (ended end : EndOfSource) → Ends empty_map none_used first lines ended
      → Ends empty_map none_used first later end → lines ≡ later
  first_lines lines later ended end ends ends' = (one_end once limit_once either empty_map none_used first lines later ended end ends ends').0

  first_not_both : (lines later : List NumberedLine) (ended : EndOfSource) (fault : AsmFault) → Ends empty_map none_used first lines ended
      → Refuses empty_map none_used first later fault → ⊥
  first_not_both lines later ended fault ends refuses =
      not_both once limit_once either empty_map none_used first lines later ended fault ends refuses

  pub one_outcome : (one other : Outcome) → HasOutcome first second one → HasOutcome first second other → one ≡ other
  one_outcome _ _ (outcome.HasOutcome.FirstRefuses lines fault refuses) (outcome.HasOutcome.FirstRefuses lines' fault' refuses') =
      ap (λ (f : AsmFault). Refused f [])
      (one_refusal once limit_once either empty_map none_used first lines lines' fault fault' refuses refuses').1
  one_outcome _ _ (outcome.HasOutcome.FirstRefuses lines fault refuses)
      (outcome.HasOutcome.SecondRefuses lines' ended' program' others' fault' ends' is' refuses') =
      absurd (first_not_both lines' lines ended' fault ends' refuses)
  one_outcome _ _ (outcome.HasOutcome.FirstRefuses lines fault refuses)
      (outcome.HasOutcome.Assembles lines' ended' program' others' end' ends' is' all') =
      absurd (first_not_both lines' lines ended' fault ends' refuses)
  one_outcome _ _ (outcome.HasOutcome.SecondRefuses lines ended program others fault ends is refuses)
      (outcome.HasOutcome.FirstRefuses lines' fault' refuses') =
      absurd (first_not_both lines lines' ended fault' ends refuses')
  one_outcome _ _ (outcome.HasOutcome.SecondRefuses lines ended program others fault ends is refuses)
      (outcome.HasOutcome.SecondRefuses lines' ended' program' others' fault' ends' is' refuses') =
      same_refusal program program' (same_program lines lines' program program' is is' (first_lines lines lines' ended ended' ends ends'))
      others others' fault fault' refuses refuses'
  one_outcome _ _ (outcome.HasOutcome.SecondRefuses lines ended program others fault ends is refuses)
      (outcome.HasOutcome.Assembles lines' ended' program' others' end' ends' is' all') =
      absurd (never_both program' program (same_program lines' lines program' program is' is (first_lines lines' lines ended' ended ends' ends))
      others' others end' fault all' refuses)
  one_outcome _ _ (outcome.HasOutcome.Assembles lines ended program others end ends is all)
      (outcome.HasOutcome.FirstRefuses lines' fault' refuses') =
      absurd (first_not_both lines lines' ended fault' ends refuses')
  one_outcome _ _ (outcome.HasOutcome.Assembles lines ended program others end ends is all)
      (outcome.HasOutcome.SecondRefuses lines' ended' program' others' fault' ends' is' refuses') =
      absurd (never_both program program' (same_program lines lines' program program' is is' (first_lines lines lines' ended ended' ends ends'))
      others others' end fault' all refuses')
  one_outcome _ _ (outcome.HasOutcome.Assembles lines ended program others end ends is all)
      (outcome.HasOutcome.Assembles lines' ended' program' others' end' ends' is' all') =
      same_all program program' (same_program lines lines' program program' is is' (first_lines lines lines' ended ended' ends ends'))
      others others' end end' all all'
