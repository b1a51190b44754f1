-- If the unfolding of a whole source is complete and no line exceeds a limit, a pass ends with its live lines.
use Rattle.std.proofs.Common.{◌≡◌, ◌∙◌, Bool, true, false, List, [], ◌∷◌, ◌++◌, append_assoc, append-nil, map, Option, Some, None, inl, inr, refl, sym, ap, subst}
use Rattle.std.specs.Option.{option_or}
use Rattle.std.specs.Prelude.{◌⊎◌, if◌then◌else◌, option_map}
use Rattle.m11_asm_faults.specs.Faults.{of_unfolding}
use Rattle.m11_scan_expressions.specs.Expressions.{KnownSymbols}
use Rattle.m11_asm_faults.specs.declared.fault.AsmFault.{AsmFault}
use Rattle.m11_unfold_bodies.specs.Conditions.{OpenConditions}
use Rattle.m11_unfold_bodies.specs.Left.{RemainingItem, Line, End}
use Rattle.m11_scan.specs.Line.{SourceLine}
use Rattle.m11_asm_passes.specs.Lines.{NumberedLine, PassLines, acted, counting_at, givens, table_at}
use Rattle.m11_asm_passes.specs.Reaching.{Exceeds}
use Rattle.m11_asm_passes.specs.Reaching as reaching
use Rattle.m11_asm_passes.specs.Refusals.{given_by, labels_fault, line_fault, placing_fault}
use Rattle.m11_asm_rules.specs.Meanings.{Map}
use Rattle.m11_asm_rules.specs.Tables.{Table, first_table}
use Rattle.m11_asm_rules.specs.Unfolded.{AreLines}
use Rattle.m11_unfold_rules.proofs.Following.{follows}
use Rattle.m11_unfold_rules.proofs.MoreLines.{leads_on}
use Rattle.m11_asm_outcome_laws.proofs.MoreLines.{act_fault_on, gives_on, same_line}
use Rattle.m11_unfold_rules.specs.Acting.{act_fault}
use Rattle.m11_unfold_rules.specs.Histories.{GoesOn, IsKnownBy, with_more}
use Rattle.m11_unfold_rules.specs.Limits.{next_fault}
use Rattle.m11_unfold_rules.specs.Stages.{Opening, Stage, line_left, start}
use Rattle.m11_unfold_rules.specs.Taking.{Gives, Live, Passes, NothingLeft, line_move, move, one_taken, skipped}
use Rattle.m11_unfold_rules.specs.Unfolding.{UnfoldedLine, Leads}
use Rattle.m11_unfold_rules.specs.Unfolding as steps
use Rattle.m11_unfold_rules.specs.declared.fault.UnfoldFault.{UnfoldFault}
use Rattle.m11_unfold_rules.proofs.Cases.{fault_from, live_or_skipped, move_from}
use Rattle.m11_asm_passes.proofs.EachEnds.{has_end}
use Rattle.m11_asm_outcome_laws.proofs.WholeSources.{all_lines, kept_at, know_more, known_by, so_far, tells}
use Rattle.m11_asm_passes.specs.Ends.{EndsAfter, ExceedsAfter, HasEnd}
use Rattle.m11_asm_passes.specs.Ends as ends
use Rattle.m11_asm_outcome_laws.specs.AllLines.{AreAllLines, EndsWith, AreWithinLimits}
use Rattle.m11_asm_lines.specs.declared.counting.Counting.{Counting}

-- ---- stages from which no move is possible

pub record Halts (stage : Stage) : Type 0 where
  no_pass : (after : Stage) → next_fault stage ≡ None → move stage ≡ Passes after → ⊥
  no_line : (after : Stage) (live : Live) → next_fault stage ≡ None → move stage ≡ Gives live after
      → act_fault after live.line.text ≡ None → ⊥

pub stays : (before after : Stage) (done : List UnfoldedLine) → Halts before → Leads before done after → (done ≡ []) × (after ≡ before)
stays before _ _ halts steps.Leads.Stays = (refl, refl)
stays before after done halts (steps.Leads.Passing _ stage _ leads fits moves) =
    let earlier = stays before stage done halts leads in
    absurd (halts.no_pass after (subst (λ (s : Stage). next_fault s ≡ None) earlier.1 fits)
    (subst (λ (s : Stage). move s ≡ Passes after) earlier.1 moves))
stays before _ _ halts (steps.Leads.Giving done stage after live known leads fits moves acts) =
    let earlier = stays before stage done halts leads in
    absurd (halts.no_line after live (subst (λ (s : Stage). next_fault s ≡ None) earlier.1 fits)
    (subst (λ (s : Stage). move s ≡ Gives live after) earlier.1 moves) acts)

pub at_rest : (stage : Stage) → move stage ≡ NothingLeft → Halts stage
at_rest stage rests = record {
  no_pass = λ after fits moves. let bad : NothingLeft ≡ Passes after = sym rests ∙ moves in cc;
  no_line = λ after live fits moves acts. let bad : NothingLeft ≡ Gives live after = sym rests ∙ moves in cc;
}

-- ---- the next move exceeds a limit of unfolding

pub data IsStuck (stage : Stage) : Type 0 where
  Taking : (fault : UnfoldFault) → next_fault stage ≡ Some fault → IsStuck stage
  Acting : (fault : UnfoldFault) (live : Live) (after : Stage) → move stage ≡ Gives live after
      → act_fault after live.line.text ≡ Some fault → IsStuck stage

pub stuck_halts : (stage : Stage) → IsStuck stage → Halts stage
stuck_halts stage (Taking fault is) = record {
  no_pass = λ after fits moves. let bad : Some fault ≡ None = sym is ∙ fits in cc;
  no_line = λ after live fits moves acts. let bad : Some fault ≡ None = sym is ∙ fits in cc;
}
stuck_halts stage (Acting fault live there gives is) = record {
  no_pass = λ after fits moves. let bad : Gives live there ≡ Passes after = sym gives ∙ moves in cc;
  no_line = no_line;
}
  where
    no_line : (after : Stage) (other : Live) → next_fault stage ≡ None → move stage ≡ Gives other after
        → act_fault after other.line.text ≡ None → ⊥
    no_line after other fits moves acts =
        let both : Gives live there ≡ Gives other after = sym gives ∙ moves in
        let same_live : live ≡ other = cc in
        let same_stage : there ≡ after = cc in
        let same : act_fault there live.line.text ≡ act_fault after other.line.text
        = ap (λ (s : Stage). act_fault s live.line.text) same_stage ∙ ap (λ (l : Live). act_fault after l.line.text) same_live in
        let bad : Some fault ≡ None = sym is ∙ same ∙ acts in cc

-- if a line is left to read, there is a next move
no_rest : (conditions : Option OpenConditions) (line : SourceLine) (stage : Stage) → live_or_skipped conditions line stage ≡ NothingLeft → ⊥
no_rest (Some conditions) line stage is = let bad = is in cc
no_rest None line stage is = let bad = is in cc

no_rest_line : (opening : Option Opening) (line : SourceLine) (stage : Stage) → line_move opening line stage ≡ NothingLeft → ⊥
no_rest_line (Some opening) line stage is = let bad = is in cc
no_rest_line None line stage is = no_rest (skipped stage.conditions line.text) line stage is

no_rest_by : (has_ended : Bool) (left : List RemainingItem) (stage : Stage) (fault : UnfoldFault)
    → (if has_ended then NothingLeft else move_from left stage) ≡ NothingLeft → (if has_ended then None else fault_from left stage) ≡ Some fault → ⊥
no_rest_by true left stage fault rests is = let bad = is in cc
no_rest_by false [] stage fault rests is = let bad = is in cc
no_rest_by false (End mark ∷ left) stage fault rests is = let bad = is in cc
no_rest_by false (Line line ∷ left) stage fault rests is = no_rest_line stage.opening line (one_taken left stage) rests

pub stuck_moves : (stage : Stage) → IsStuck stage → move stage ≡ NothingLeft → ⊥
stuck_moves stage (Taking fault is) rests = no_rest_by stage.has_ended stage.left stage fault rests is
stuck_moves stage (Acting fault live after gives is) rests = let bad : Gives live after ≡ NothingLeft = sym gives ∙ rests in cc

-- with further lines of the source left, the next move exceeds the same limit
pub fault_on : (more : List SourceLine) (has_ended : Bool) (left : List RemainingItem) (stage : Stage) (fault : UnfoldFault)
    → (if has_ended then None else fault_from left stage) ≡ Some fault
    → (if has_ended then None else fault_from (left ++ map line_left more) (with_more more stage)) ≡ Some fault
fault_on more true left stage fault is = absurd (let bad = is in cc)
fault_on more false [] stage fault is = absurd (let bad = is in cc)
fault_on more false (End mark ∷ left) stage fault is = absurd (let bad = is in cc)
fault_on more false (Line line ∷ left) stage fault is = same_line more stage line.text ∙ is

stuck_on : (more : List SourceLine) (stage : Stage) → IsStuck stage → IsStuck (with_more more stage)
stuck_on more stage (Taking fault is) = Taking fault (fault_on more stage.has_ended stage.left stage fault is)
stuck_on more stage (Acting fault live after gives is) =
    Acting fault live (with_more more after) (gives_on more stage live after gives)
    (act_fault_on more after live.line.text ∙ is)

-- ---- two unfoldings of one source

abbrev pub Compared : Type 0
Compared = (tells : List UnfoldedLine → Live → KnownSymbols) (before first second : Stage) (done later : List UnfoldedLine) → IsKnownBy tells done
    → IsKnownBy tells later → Leads before done first → Leads before later second
    → GoesOn done first later second ⊎ GoesOn later second done first

abbrev pub EndsOnce : Type 0
EndsOnce = (tells : List UnfoldedLine → Live → KnownSymbols) (before first second : Stage) (done later : List UnfoldedLine) → IsKnownBy tells done
    → IsKnownBy tells later → Leads before done first → Leads before later second → move first ≡ NothingLeft → move second ≡ NothingLeft
    → (done ≡ later) × (first ≡ second)

-- a line that exceeds none of the three kinds of limits has no fault
pub no_fault : (labels : Option AsmFault) (acting : Option UnfoldFault) (placing : Option AsmFault) → labels ≡ None → acting ≡ None
    → placing ≡ None → option_or labels (option_or (option_map of_unfolding acting) placing) ≡ None
no_fault labels acting placing none none' none'' =
    ap (λ (f : Option AsmFault). option_or f (option_or (option_map of_unfolding acting) placing)) none
    ∙ ap (λ (f : Option UnfoldFault). option_or (option_map of_unfolding f) placing) none' ∙ none''

module _ (compare : Compared) (once : EndsOnce) (map_ : Map) (counting : Counting) (all : List SourceLine) where
  same_lines : (one other : List UnfoldedLine) (first second : Stage) → AreAllLines map_ all one first → AreAllLines map_ all other second
      → one ≡ other
  same_lines one other first second are are' =
      (once (tells map_) (start all) first second one other (known_by map_ one are.are.1) (known_by map_ other are'.are.1)
      are.are.0 are'.are.0 are.rests are'.rests).0

  pub just_these : (source : List SourceLine) (placed_lines : List NumberedLine) (gives : List UnfoldedLine) (stage after : Stage)
      → EndsAfter map_ counting all source placed_lines stage → AreAllLines map_ all gives after → givens placed_lines ≡ gives
  just_these source placed_lines gives stage after end whole =
      same_lines (givens placed_lines) gives (with_more end.more stage) after
      (all_lines map_ counting all source placed_lines stage end) whole

  module _ (gives : List UnfoldedLine) (after : Stage) (whole : AreAllLines map_ all gives after)
      (kept : AreWithinLimits map_ first_table counting gives) where
    -- any other unfolding goes on to this end
    on_to_end : (done : List UnfoldedLine) (stage : Stage) → AreLines map_ all done stage → GoesOn done stage gives after
    on_to_end done stage are =
        go (compare (tells map_) (start all) stage after done gives (known_by map_ done are.1) (known_by map_ gives whole.are.1)
        are.0 whole.are.0)
      where
        go : GoesOn done stage gives after ⊎ GoesOn gives after done stage → GoesOn done stage gives after
        go (inl on) = on
        go (inr on) =
            let still = stays after stage on.more (at_rest after whole.rests) on.leads in
            let P : Stage → Type 0 = λ s. Leads s [] after in record {
              more = [];
              whole = sym (append-nil done ∙ on.whole ∙ ap (λ (m : List UnfoldedLine). gives ++ m) still.0 ∙ append-nil gives);
              leads = subst P (sym still.1) steps.Leads.Stays;
            }

    -- so no unfolding of the source is stuck
    not_stuck : (done : List UnfoldedLine) (stage : Stage) → AreLines map_ all done stage → IsStuck stage → ⊥
    not_stuck done stage are stuck =
        let on : GoesOn done stage gives after = on_to_end done stage are in
        let still = stays stage after on.more (stuck_halts stage stuck) on.leads in
        stuck_moves stage stuck (ap move (sym still.1) ∙ whole.rests)

    module _ (source more : List SourceLine) (placed_lines : List NumberedLine) (parts : source ++ more ≡ all) (stage : Stage)
        (passes : PassLines map_ counting source placed_lines stage) where
      are_lines : AreLines map_ all (givens placed_lines) (with_more more stage)
      are_lines =
          let P : List SourceLine → Type 0 = λ s. AreLines map_ s (givens placed_lines) (with_more more stage) in
          subst P parts (so_far map_ counting source more placed_lines stage passes)

      no_limit : IsStuck stage → ⊥
      no_limit stuck = not_stuck (givens placed_lines) (with_more more stage) are_lines (stuck_on more stage stuck)

      module _ (there : Stage) (live : Live) (fits : next_fault stage ≡ None) (moves : move stage ≡ Gives live there) where
        abbrev table : Table
        table = table_at map_ placed_lines

        abbrev named : Counting
        named = counting_at map_ counting placed_lines

        abbrev one : UnfoldedLine
        one = given_by table live there

        -- a line whose operator exceeds no limit is one of the live lines of the source
        with_line : act_fault there live.line.text ≡ None
            → AreLines map_ all (givens placed_lines ++ one ∷ []) (with_more more (acted table live there))
        with_line acts =
            let next : Stage = acted table live there in
            let here : Leads stage (one ∷ []) next
            = steps.Leads.Giving [] stage there live one.known steps.Leads.Stays fits moves acts in (
              follows (start all) (with_more more stage) (with_more more next) (givens placed_lines) (one ∷ []) are_lines.0
                  (leads_on more stage next (one ∷ []) here),
              know_more map_ first_table (givens placed_lines) one are_lines.1 refl,
            )

        within : act_fault there live.line.text ≡ None → line_fault map_ table named live there ≡ None
        within acts =
            let on : GoesOn (givens placed_lines ++ one ∷ []) (with_more more (acted table live there)) gives after
            = on_to_end (givens placed_lines ++ one ∷ []) (with_more more (acted table live there)) (with_line acts) in
            let split : gives ≡ givens placed_lines ++ one ∷ on.more
            = on.whole ∙ append_assoc (givens placed_lines) (one ∷ []) on.more in
            let P : List UnfoldedLine → Type 0 = AreWithinLimits map_ first_table counting in
            let here = kept_at map_ first_table counting (givens placed_lines) on.more one (subst P split kept) in
            no_fault (labels_fault named table live.line.text) (act_fault there live.line.text) (placing_fault map_ table named one) here.0 acts
            here.1

        no_fault_at : (fault : AsmFault) → line_fault map_ table named live there ≡ Some fault → ⊥
        no_fault_at fault is = by (act_fault there live.line.text) refl
          where
            by : (acting : Option UnfoldFault) → act_fault there live.line.text ≡ acting → ⊥
            by (Some inner) acts = no_limit (Acting inner live there moves acts)
            by None acts = let bad : Some fault ≡ None = sym is ∙ within acts in cc

    never_exceeds : (source more : List SourceLine) (placed_lines : List NumberedLine) (fault : AsmFault) → source ++ more ≡ all
        → Exceeds map_ counting source placed_lines fault → ⊥
    never_exceeds source more placed_lines fault parts (reaching.Exceeds.BeforeLine stage inner passes exceeds is) =
        no_limit source more placed_lines parts stage passes (Taking inner exceeds)
    never_exceeds source more placed_lines fault parts (reaching.Exceeds.AtLine stage there live passes fits moves exceeds) =
        no_fault_at source more placed_lines parts stage passes there live fits moves fault exceeds

    pub ends_with : EndsWith map_ counting all gives
    ends_with = by_end (has_end map_ counting all)
      where
        by_end : HasEnd map_ counting all → EndsWith map_ counting all gives
        by_end (ends.HasEnd.AtEnd source placed_lines stage end) = record {
          source = source;
          lines = placed_lines;
          stage = stage;
          ends = end;
          are = just_these source placed_lines gives stage after end whole;
        }
        by_end (ends.HasEnd.AtLimit source placed_lines fault exceeds) =
            absurd (never_exceeds source exceeds.more placed_lines fault exceeds.whole exceeds.exceeds)
