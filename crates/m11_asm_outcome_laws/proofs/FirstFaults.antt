-- The fault of a pass is the first one in the unfolding of all lines of its reading.
use Rattle.std.proofs.Common.{◌≡◌, ◌∙◌, Bool, true, false, List, [], ◌∷◌, ◌++◌, append-nil, map, Option, Some, None, inl, inr, refl, sym, ap, subst}
use Rattle.std.specs.Option.{option_or}
use Rattle.std.specs.Prelude.{◌⊎◌, if◌then◌else◌, option_map}
use Rattle.m11_asm_faults.specs.Faults.{of_unfolding}
use Rattle.m11_asm.specs.Outcome as outcome
use Rattle.m11_asm.specs.Outcome.{Refuses}
use Rattle.m11_asm_faults.specs.declared.fault.AsmFault.{AsmFault}
use Rattle.m11_asm_lines.specs.declared.counting.Counting.{Counting}
use Rattle.m11_asm_outcome_laws.proofs.MoreLines.{act_fault_on, gives_on, same_line}
use Rattle.m11_asm_outcome_laws.proofs.WholeEnds.{Compared, fault_on}
use Rattle.m11_asm_outcome_laws.proofs.WholeSources.{keeps, no_more, so_far}
use Rattle.m11_asm_outcome_laws.specs.FirstFaults as first
use Rattle.m11_asm_outcome_laws.specs.FirstFaults.{NextFails, IsRefusedAfter}
use Rattle.m11_asm_passes.specs.Lines.{NumberedLine, PassLines, counting_at, givens, table_at}
use Rattle.m11_asm_passes.specs.Reaching as reaching
use Rattle.m11_asm_passes.specs.Reaching.{Exceeds}
use Rattle.m11_asm_passes.specs.Refusals.{given_by, labels_fault, line_fault, placing_fault}
use Rattle.m11_asm_rules.specs.Labels.{after_labels_in}
use Rattle.m11_asm_rules.specs.Meanings.{Map}
use Rattle.m11_asm_rules.specs.Tables.{Table}
use Rattle.m11_asm_rules.specs.Unfolded.{AreLines, known_after_labels}
use Rattle.m11_scan.specs.Line.{SourceLine}
use Rattle.m11_scan_expressions.specs.Expressions.{KnownSymbols}
use Rattle.m11_scan_line_laws.specs.Readings.{Reading}
use Rattle.m11_unfold_bodies.specs.Left.{RemainingItem, Line, End}
use Rattle.m11_unfold_rules.proofs.MoreLines.{leads_on}
use Rattle.m11_unfold_rules.specs.Acting.{act, act_fault}
use Rattle.m11_unfold_rules.specs.Histories.{GoesOn, IsKnownBy, with_more}
use Rattle.m11_unfold_rules.specs.Limits.{next_fault}
use Rattle.m11_unfold_rules.specs.Stages.{Stage, line_left}
use Rattle.m11_unfold_rules.specs.Taking.{Gives, Live, NothingLeft, move}
use Rattle.m11_unfold_rules.specs.Unfolding.{UnfoldedLine, Leads, given}
use Rattle.m11_unfold_rules.specs.Unfolding as steps
use Rattle.m11_unfold_rules.specs.declared.fault.UnfoldFault.{UnfoldFault}
use Rattle.m11_unfold_rules.proofs.Cases.{fault_from, move_from}

-- ---- a line that becomes live, with and without further lines of the source

-- if the move that makes a line live is within the limits, it also is with further lines of the source left
fits_by : (more : List SourceLine) (has_ended : Bool) (left : List RemainingItem) (stage after : Stage) (live : Live)
    → (if has_ended then NothingLeft else move_from left stage) ≡ Gives live after → (if has_ended then None else fault_from left stage) ≡ None
    → (if has_ended then None else fault_from (left ++ map line_left more) (with_more more stage)) ≡ None
fits_by more true left stage after live moves fits = refl
fits_by more false [] stage after live moves fits = absurd (let bad : NothingLeft ≡ Gives live after = moves in cc)
fits_by more false (End mark ∷ left) stage after live moves fits = refl
fits_by more false (Line line ∷ left) stage after live moves fits = same_line more stage line.text ∙ fits

pub fits_on : (more : List SourceLine) (stage after : Stage) (live : Live) → next_fault stage ≡ None → move stage ≡ Gives live after
    → next_fault (with_more more stage) ≡ None
fits_on more stage after live fits moves = fits_by more stage.has_ended stage.left stage after live moves fits

-- in a list of one live line, what is known at each line is what is known at that one
known_alone : (one : UnfoldedLine) → IsKnownBy (λ earlier live. one.known) (one ∷ [])
known_alone one [] later other is = ap (λ (g : UnfoldedLine). g.known) (let same : one ≡ other = cc in sym same)
known_alone one (first ∷ []) later other is = absurd (let bad : [] ≡ other ∷ later = cc in cc)
known_alone one (first ∷ second ∷ earlier) later other is = absurd (let bad : [] ≡ second ∷ (earlier ++ other ∷ later) = cc in cc)

module _ (compare : Compared) (more : List SourceLine) where
  -- with further lines of the source left, the operator of a live line has the same result
  same_given : (known : KnownSymbols) (stage after : Stage) (live : Live) → next_fault stage ≡ None → move stage ≡ Gives live after
      → act_fault after live.line.text ≡ None → given known live (with_more more after) ≡ given known live after
  same_given known stage after live fits moves acts =
      let on : Stage = with_more more after in
      let here = leads_on more stage (act known after live.line.text).after (given known live after ∷ [])
      (steps.Leads.Giving [] stage after live known steps.Leads.Stays fits moves acts) in
      let there = steps.Leads.Giving [] (with_more more stage) on live known steps.Leads.Stays (fits_on more stage after live fits moves)
      (gives_on more stage live after moves) (act_fault_on more after live.line.text ∙ acts) in
      go (compare (λ earlier other. known) (with_more more stage) (with_more more (act known after live.line.text).after)
      (act known on live.line.text).after (given known live after ∷ []) (given known live on ∷ []) (known_alone (given known live after))
      (known_alone (given known live on)) here there)
    where
      go : GoesOn (given known live after ∷ []) (with_more more (act known after live.line.text).after)
          (given known live (with_more more after) ∷ []) (act known (with_more more after) live.line.text).after
          ⊎ GoesOn (given known live (with_more more after) ∷ []) (act known (with_more more after) live.line.text).after
          (given known live after ∷ []) (with_more more (act known after live.line.text).after)
          → given known live (with_more more after) ≡ given known live after
      go (inl on) = let whole = on.whole in cc
      go (inr on) = let whole = on.whole in cc

  -- so a live line exceeds the same limit, if any, with further lines of the source left
  module _ (map_ : Map) (table : Table) (counting : Counting) (stage after : Stage) (live : Live) (fits : next_fault stage ≡ None)
      (moves : move stage ≡ Gives live after) where
    abbrev limit : Option UnfoldFault → UnfoldedLine → Option AsmFault
    limit acting one =
        option_or (labels_fault counting table live.line.text) (option_or (option_map of_unfolding acting) (placing_fault map_ table counting one))

    abbrev before : UnfoldedLine
    before = given_by table live after

    abbrev on : UnfoldedLine
    on = given_by table live (with_more more after)

    same_by : (acting : Option UnfoldFault) → act_fault after live.line.text ≡ acting → limit acting on ≡ limit acting before
    same_by (Some fault) acts = refl
    same_by None acts =
        ap (limit None) (same_given (known_after_labels (after_labels_in table live.line.text)) stage after live fits moves acts)

    same_fault : line_fault map_ table counting live (with_more more after) ≡ line_fault map_ table counting live after
    same_fault =
        ap (λ (f : Option UnfoldFault). limit f on) (act_fault_on more after live.line.text)
        ∙ same_by (act_fault after live.line.text) refl

-- ---- the fault by which a pass is refused

module _ (compare : Compared) (map_ : Map) (counting : Counting) (reading : Reading) (placed : List NumberedLine) where
  first_lines : (source more : List SourceLine) (stage : Stage) → reading.lines ≡ source ++ more
      → PassLines map_ counting source placed stage → AreLines map_ reading.lines (givens placed) (with_more more stage)
  first_lines source more stage parts passes =
      let P : List SourceLine → Type 0 = λ s. AreLines map_ s (givens placed) (with_more more stage) in
      subst P (sym parts) (so_far map_ counting source more placed stage passes)

  exceeded : (source more : List SourceLine) (fault : AsmFault) → reading.lines ≡ source ++ more
      → Exceeds map_ counting source placed fault → IsRefusedAfter map_ counting reading (givens placed) fault
  exceeded source more fault parts (reaching.Exceeds.BeforeLine stage inner passes exceeds is) = record {
    stage = with_more more stage;
    first = first_lines source more stage parts passes;
    limits = keeps map_ counting source placed stage passes;
    next = first.NextFails.AtUnfolding inner (fault_on more stage.has_ended stage.left stage inner exceeds) is;
  }
  exceeded source more fault parts (reaching.Exceeds.AtLine stage after live passes fits moves exceeds) = record {
    stage = with_more more stage;
    first = first_lines source more stage parts passes;
    limits = keeps map_ counting source placed stage passes;
    next = first.NextFails.AtLine live (with_more more after) (fits_on more stage after live fits moves)
        (gives_on more stage live after moves)
        (same_fault compare more map_ (table_at map_ placed) (counting_at map_ counting placed) stage after live fits moves ∙ exceeds);
  }

  pub refused_after : (fault : AsmFault) → Refuses map_ counting reading placed fault → IsRefusedAfter map_ counting reading (givens placed) fault
  refused_after fault (outcome.Refuses.AtReading inner stops is unended) = record {
    stage = with_more [] unended.stage;
    first = first_lines reading.lines [] unended.stage (sym (append-nil reading.lines)) unended.live;
    limits = keeps map_ counting reading.lines placed unended.stage unended.live;
    next = first.NextFails.AtReading inner (no_more map_ counting unended.stage [] (inr (refl, unended.left, unended.goes_on))) unended.goes_on stops is;
  }
  refused_after fault (outcome.Refuses.AtLimit source more limit parts exceeds is) =
      let P : AsmFault → Type 0 = IsRefusedAfter map_ counting reading (givens placed) in
      subst P (sym is) (exceeded source more limit parts exceeds)
