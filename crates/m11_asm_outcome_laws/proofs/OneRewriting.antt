-- The unfolding of whole readings determines a single outcome.
use Rattle.std.proofs.Common.{◌≡◌, ◌∙◌, ℕ, Bool, true, false, List, [], ◌∷◌, ◌++◌, append_assoc, append-nil, le_antisymm, Some, None, inl, inr, refl, sym, ap, ap₂, subst}
use Rattle.std.specs.Prelude.{◌⊎◌}
use Rattle.std.proofs.lemmas.List.{map-append}
use Rattle.m11_asm.specs.Outcome.{Assembled, HasOutcome, Outcome, Refused}
use Rattle.m11_asm.specs.Program.{Program, program_of}
use Rattle.m11_asm.specs.Written.{EndOfSource, flagged_count, program_writes, written}
use Rattle.m11_asm_faults.specs.Faults.{of_lines, of_unfolding}
use Rattle.m11_asm_faults.specs.declared.fault.AsmFault.{AsmFault}
use Rattle.m11_asm_lines.specs.Counting.{none_used}
use Rattle.m11_asm_lines.specs.declared.counting.Counting.{Counting}
use Rattle.m11_asm_lines.specs.declared.counting.Counting.TheVariants.{Definitions}
use Rattle.m11_asm_outcome_laws.proofs.WholeEnds.{Compared, EndsOnce, Taking, at_rest, no_fault, stays, stuck_halts, stuck_moves}
use Rattle.m11_asm_outcome_laws.proofs.WholeSources.{kept_at, known_by, tells, told_from}
use Rattle.m11_asm_outcome_laws.specs.AllLines.{AreWithinLimits}
use Rattle.m11_asm_outcome_laws.specs.FirstFaults as first
use Rattle.m11_asm_outcome_laws.specs.FirstFaults.{AreAllRead, IsRefusedAfter, NextFails}
use Rattle.m11_asm_outcome_laws.specs.Numbers.{HaveNumbers, IsLastNumber}
use Rattle.m11_asm_outcome_laws.specs.WholeSources.{IsOfWholeSources, IsProgramOf, WritesAllLines, WritesFirstLines}
use Rattle.m11_asm_passes.specs.Lines.{NumberedLine, counting_after, givens, numbered}
use Rattle.m11_asm_passes.specs.Refusals.{given_by, labels_fault, line_fault, placing_fault}
use Rattle.m11_asm_rules.specs.Meanings.{Map, empty_map}
use Rattle.m11_asm_rules.specs.Placements.{table_after}
use Rattle.m11_asm_rules.specs.Tables.{Table, first_table}
use Rattle.m11_asm_rules.specs.Unfolded.{AreLines}
use Rattle.m11_base_writes.specs.Outputs.{Write}
use Rattle.m11_scan.specs.Line.{SourceLine}
use Rattle.m11_scan_expressions.specs.Expressions.{KnownSymbols}
use Rattle.m11_scan_line_laws.specs.Readings.{Reading}
use Rattle.m11_unfold_rules.specs.Acting.{act, act_fault}
use Rattle.m11_unfold_rules.specs.Histories.{GoesOn}
use Rattle.m11_unfold_rules.specs.Stages.{Stage, start}
use Rattle.m11_unfold_rules.specs.Taking.{Gives, Live, Passes, NothingLeft, move}
use Rattle.m11_unfold_rules.specs.Unfolding.{UnfoldedLine, Leads, given}
use Rattle.m11_unfold_rules.specs.Unfolding as steps

-- ---- numbers

module _ (map_ : Map) (source : List SourceLine) where
  one_number : (gives : List UnfoldedLine) (one other : ℕ) → IsLastNumber map_ source gives one → IsLastNumber map_ source gives other
      → one ≡ other
  one_number gives one other is is' = le_antisymm (is.least other is'.stage is'.are) (is'.least one is.stage is.are)

  moved : (before lines : List NumberedLine) (line : NumberedLine) → HaveNumbers map_ source (before ++ line ∷ lines)
      → HaveNumbers map_ source ((before ++ line ∷ []) ++ lines)
  moved before lines line have =
      let P : List NumberedLine → Type 0 = HaveNumbers map_ source in
      subst P (sym (append_assoc before (line ∷ []) lines)) have

  same_after : (before lines others : List NumberedLine) → HaveNumbers map_ source (before ++ lines)
      → HaveNumbers map_ source (before ++ others) → givens lines ≡ givens others → lines ≡ others
  same_after before [] [] have have' are = refl
  same_after before [] (other ∷ others) have have' are = absurd (let bad = are in cc)
  same_after before (line ∷ lines) [] have have' are = absurd (let bad = are in cc)
  same_after before (line ∷ lines) (other ∷ others) have have' are =
      let same : line.given ≡ other.given = cc in
      let rest : givens lines ≡ givens others = cc in
      let gives : givens (before ++ line ∷ []) ≡ givens (before ++ other ∷ [])
      = map-append (λ (line : NumberedLine). line.given) before (line ∷ []) ∙ ap (λ (g : UnfoldedLine). givens before ++ g ∷ []) same
      ∙ sym (map-append (λ (line : NumberedLine). line.given) before (other ∷ [])) in
      let P : List UnfoldedLine → Type 0 = λ gs. IsLastNumber map_ source gs line.number in
      let number : line.number ≡ other.number = one_number (givens (before ++ other ∷ [])) line.number other.number
      (subst P gives (have before lines line refl)) (have' before others other refl) in
      let is : line ≡ other = ap₂ numbered number same in
      let Q : NumberedLine → Type 0 = λ l. HaveNumbers map_ source ((before ++ l ∷ []) ++ others) in
      let all : lines ≡ others = same_after (before ++ line ∷ []) lines others (moved before lines line have)
      (subst Q (sym is) (moved before others other have')) rest in
      ap₂ (λ (l : NumberedLine) (ls : List NumberedLine). l ∷ ls) is all

  same_lines : (lines others : List NumberedLine) → HaveNumbers map_ source lines → HaveNumbers map_ source others
      → givens lines ≡ givens others → lines ≡ others
  same_lines lines others have have' are = same_after [] lines others have have' are

-- ---- after a line that becomes live next

-- the first live line of an unfolding is this one, and its operator exceeds no limit
record GivesFirst (there : Stage) (live : Live) (done : List UnfoldedLine) : Type 0 where
  known : KnownSymbols
  rest : List UnfoldedLine
  whole : done ≡ given known live there ∷ rest
  acts : act_fault there live.line.text ≡ None

gives_first : (before there : Stage) (live : Live) (after : Stage) (done : List UnfoldedLine) → move before ≡ Gives live there
    → Leads before done after → ((done ≡ []) × (after ≡ before)) ⊎ GivesFirst there live done
gives_first before there live _ _ moves steps.Leads.Stays = inl (refl, refl)
gives_first before there live after done moves (steps.Leads.Passing _ stage _ leads fits moves') =
    go (gives_first before there live stage done moves leads)
  where
    go : ((done ≡ []) × (stage ≡ before)) ⊎ GivesFirst there live done → ((done ≡ []) × (after ≡ before)) ⊎ GivesFirst there live done
    go (inl none) =
        let here : move before ≡ Passes after = ap move (sym none.1) ∙ moves' in
        let bad : Gives live there ≡ Passes after = sym moves ∙ here in absurd (cc bad)
    go (inr gives) = inr gives
gives_first before there live _ _ moves (steps.Leads.Giving done stage after other known leads fits moves' acts) =
    go (gives_first before there live stage done moves leads)
  where
    go : ((done ≡ []) × (stage ≡ before)) ⊎ GivesFirst there live done
        → ((done ++ given known other after ∷ [] ≡ []) × ((act known after other.line.text).after ≡ before))
        ⊎ GivesFirst there live (done ++ given known other after ∷ [])
    go (inl none) =
        let both : Gives live there ≡ Gives other after = sym moves ∙ ap move (sym none.1) ∙ moves' in
        let same_live : other ≡ live = cc in
        let same_stage : after ≡ there = cc in
        inr (record {
          known = known;
          rest = [];
          whole = ap (λ (ds : List UnfoldedLine). ds ++ given known other after ∷ []) none.0
              ∙ ap₂ (λ (l : Live) (s : Stage). given known l s ∷ []) same_live same_stage;
          acts = ap₂ (λ (l : Live) (s : Stage). act_fault s l.line.text) (sym same_live) (sym same_stage) ∙ acts;
        })
    go (inr gives) = inr (record {
      known = gives.known;
      rest = gives.rest ++ given known other after ∷ [];
      whole = ap (λ (ds : List UnfoldedLine). ds ++ given known other after ∷ []) gives.whole;
      acts = gives.acts;
    })

-- ---- one reading

module _ (compare : Compared) (once : EndsOnce) (map_ : Map) (counting : Counting) (reading : Reading) where
  all_alike : (gives others : List UnfoldedLine) (stage after : Stage) → AreAllRead map_ counting reading gives stage
      → AreAllRead map_ counting reading others after → (gives ≡ others) × (stage ≡ after)
  all_alike gives others stage after all all' =
      once (tells map_) (start reading.lines) stage after gives others (known_by map_ gives all.are.are.1) (known_by map_ others all'.are.are.1)
      all.are.are.0 all'.are.are.0 all.are.rests all'.are.rests

  compared : (done gives : List UnfoldedLine) (stage after : Stage) → AreLines map_ reading.lines done stage
      → AreLines map_ reading.lines gives after → GoesOn done stage gives after ⊎ GoesOn gives after done stage
  compared done gives stage after are are' =
      compare (tells map_) (start reading.lines) stage after done gives (known_by map_ done are.1) (known_by map_ gives are'.1) are.0 are'.0

  -- a live line that exceeds a limit isn't among lines that exceed none
  module _ (done gives : List UnfoldedLine) (after : Stage) (live : Live) (there : Stage) (fault : AsmFault)
      (are : AreLines map_ reading.lines gives after) (kept : AreWithinLimits map_ first_table counting gives)
      (exceeds : line_fault map_ (table_after map_ done) (counting_after map_ first_table done counting) live there ≡ Some fault) where
    abbrev table : Table
    table = table_after map_ done

    abbrev named : Counting
    named = counting_after map_ first_table done counting

    is_told : (known : KnownSymbols) (rest : List UnfoldedLine) → gives ≡ done ++ given known live there ∷ rest
        → given known live there ≡ given_by table live there
    is_told known rest whole =
        ap (λ (k : KnownSymbols). given k live there) (told_from map_ first_table gives are.1 done rest (given known live there) whole)

    not_among : (more : List UnfoldedLine) → gives ≡ done ++ more → GivesFirst there live more → ⊥
    not_among more whole is_first =
        let one : UnfoldedLine = given is_first.known live there in
        let split : gives ≡ done ++ one ∷ is_first.rest = whole ∙ ap (λ (m : List UnfoldedLine). done ++ m) is_first.whole in
        let P : List UnfoldedLine → Type 0 = AreWithinLimits map_ first_table counting in
        let here = kept_at map_ first_table counting done is_first.rest one (subst P split kept) in
        let Q : UnfoldedLine → Type 0 = λ g. placing_fault map_ table named g ≡ None in
        let placing : placing_fault map_ table named (given_by table live there) ≡ None = subst Q (is_told is_first.known is_first.rest split) here.1 in
        let none : line_fault map_ table named live there ≡ None
        = no_fault (labels_fault named table live.line.text) (act_fault there live.line.text)
        (placing_fault map_ table named (given_by table live there)) here.0 is_first.acts placing in
        let bad : Some fault ≡ None = sym exceeds ∙ none in cc

  -- after the fault of a reading, its unfolding goes no further
  no_further : (done gives : List UnfoldedLine) (stage after : Stage) (fault : AsmFault) → NextFails map_ counting reading done stage fault
      → AreLines map_ reading.lines gives after → AreWithinLimits map_ first_table counting gives → (more : List UnfoldedLine)
      → gives ≡ done ++ more → Leads stage more after → (more ≡ []) × (after ≡ stage)
  no_further done gives stage after fault (first.NextFails.AtUnfolding inner exceeds is) are kept more whole leads =
      stays stage after more (stuck_halts stage (Taking inner exceeds)) leads
  no_further done gives stage after fault (first.NextFails.AtReading inner rests goes stops is) are kept more whole leads =
      stays stage after more (at_rest stage rests) leads
  no_further done gives stage after fault (first.NextFails.AtLine live there fits moves exceeds) are kept more whole leads =
      go (gives_first stage there live after more moves leads)
    where
      go : ((more ≡ []) × (after ≡ stage)) ⊎ GivesFirst there live more → (more ≡ []) × (after ≡ stage)
      go (inl none) = none
      go (inr is_first) = absurd (not_among done gives after live there fault are kept exceeds more whole is_first)

  -- at one stage of its unfolding, a reading has only one fault
  next_alike : (done : List UnfoldedLine) (stage : Stage) (one other : AsmFault) → NextFails map_ counting reading done stage one
      → NextFails map_ counting reading done stage other → one ≡ other
  next_alike done stage one other (first.NextFails.AtUnfolding inner exceeds is) (first.NextFails.AtUnfolding inner' exceeds' is') =
      let both : Some inner ≡ Some inner' = sym exceeds ∙ exceeds' in
      let same : inner ≡ inner' = cc in
      is ∙ ap of_unfolding same ∙ sym is'
  next_alike done stage one other (first.NextFails.AtUnfolding inner exceeds is) (first.NextFails.AtLine live there fits moves exceeds') =
      let bad : Some inner ≡ None = sym exceeds ∙ fits in absurd (cc bad)
  next_alike done stage one other (first.NextFails.AtUnfolding inner exceeds is) (first.NextFails.AtReading inner' rests goes stops is') =
      absurd (stuck_moves stage (Taking inner exceeds) rests)
  next_alike done stage one other (first.NextFails.AtLine live there fits moves exceeds) (first.NextFails.AtUnfolding inner exceeds' is) =
      let bad : Some inner ≡ None = sym exceeds' ∙ fits in absurd (cc bad)
  next_alike done stage one other (first.NextFails.AtLine live there fits moves exceeds) (first.NextFails.AtLine live' there' fits' moves' exceeds') =
      let both : Gives live there ≡ Gives live' there' = sym moves ∙ moves' in
      let same_live : live ≡ live' = cc in
      let same_stage : there ≡ there' = cc in
      let same = ap₂ (λ (l : Live) (s : Stage). line_fault map_ (table_after map_ done) (counting_after map_ first_table done counting) l s)
      same_live same_stage in
      let faults : Some one ≡ Some other = sym exceeds ∙ same ∙ exceeds' in cc
  next_alike done stage one other (first.NextFails.AtLine live there fits moves exceeds) (first.NextFails.AtReading inner rests goes stops is) =
      let bad : Gives live there ≡ NothingLeft = sym moves ∙ rests in absurd (cc bad)
  next_alike done stage one other (first.NextFails.AtReading inner rests goes stops is) (first.NextFails.AtUnfolding inner' exceeds is') =
      absurd (stuck_moves stage (Taking inner' exceeds) rests)
  next_alike done stage one other (first.NextFails.AtReading inner rests goes stops is) (first.NextFails.AtLine live there fits moves exceeds) =
      let bad : Gives live there ≡ NothingLeft = sym moves ∙ rests in absurd (cc bad)
  next_alike done stage one other (first.NextFails.AtReading inner rests goes stops is) (first.NextFails.AtReading inner' rests' goes' stops' is') =
      let both : Some inner ≡ Some inner' = sym stops ∙ stops' in
      let same : inner ≡ inner' = cc in
      is ∙ ap of_lines same ∙ sym is'

  -- two unfoldings have the same live lines and the same stage
  record AreAlike (done gives : List UnfoldedLine) (stage after : Stage) : Type 0 where
    lines : done ≡ gives
    stages : after ≡ stage

  alike_by : (done gives more : List UnfoldedLine) (stage after : Stage) → gives ≡ done ++ more → (more ≡ []) × (after ≡ stage)
      → AreAlike done gives stage after
  alike_by done gives more stage after whole still = record {
    lines = sym (whole ∙ ap (λ (m : List UnfoldedLine). done ++ m) still.0 ∙ append-nil done);
    stages = still.1;
  }

  turned : (done gives : List UnfoldedLine) (stage after : Stage) → AreAlike gives done after stage → AreAlike done gives stage after
  turned done gives stage after same = record { lines = sym same.lines; stages = sym same.stages }

  one_refusal : (done gives : List UnfoldedLine) (one other : AsmFault) → IsRefusedAfter map_ counting reading done one
      → IsRefusedAfter map_ counting reading gives other → (done ≡ gives) × (one ≡ other)
  one_refusal done gives one other is is' = by (go (compared done gives is.stage is'.stage is.first is'.first))
    where
      go : GoesOn done is.stage gives is'.stage ⊎ GoesOn gives is'.stage done is.stage → AreAlike done gives is.stage is'.stage
      go (inl on) = alike_by done gives on.more is.stage is'.stage on.whole
          (no_further done gives is.stage is'.stage one is.next is'.first is'.limits on.more on.whole on.leads)
      go (inr on) = turned done gives is.stage is'.stage (alike_by gives done on.more is'.stage is.stage on.whole
          (no_further gives done is'.stage is.stage other is'.next is.first is.limits on.more on.whole on.leads))

      by : AreAlike done gives is.stage is'.stage → (done ≡ gives) × (one ≡ other)
      by same =
          let P : List UnfoldedLine → Type 0 = λ ds. NextFails map_ counting reading ds is'.stage other in
          let Q : Stage → Type 0 = λ s. NextFails map_ counting reading done s other in
          (same.lines, next_alike done is.stage one other is.next (subst Q same.stages (subst P (sym same.lines) is'.next)))

  -- if nothing is left to unfold, and the reading has no fault unless `.END` became live, no fault comes next
  not_at_rest : (done : List UnfoldedLine) (stage : Stage) (fault : AsmFault) → move stage ≡ NothingLeft
      → (stage.has_ended ≡ false → reading.fault ≡ None) → NextFails map_ counting reading done stage fault → ⊥
  not_at_rest done stage fault rests unless_end (first.NextFails.AtUnfolding inner exceeds is) = stuck_moves stage (Taking inner exceeds) rests
  not_at_rest done stage fault rests unless_end (first.NextFails.AtLine live there fits moves exceeds) =
      let bad : Gives live there ≡ NothingLeft = sym moves ∙ rests in cc
  not_at_rest done stage fault rests unless_end (first.NextFails.AtReading inner rests' goes stops is) =
      let bad : Some inner ≡ None = sym stops ∙ unless_end goes in cc

  not_both : (gives done : List UnfoldedLine) (after : Stage) (fault : AsmFault) → AreAllRead map_ counting reading gives after
      → IsRefusedAfter map_ counting reading done fault → ⊥
  not_both gives done after fault all is = by (go (compared done gives is.stage after is.first all.are.are))
    where
      go : GoesOn done is.stage gives after ⊎ GoesOn gives after done is.stage → AreAlike done gives is.stage after
      go (inl on) = alike_by done gives on.more is.stage after on.whole
          (no_further done gives is.stage after fault is.next all.are.are all.limits on.more on.whole on.leads)
      go (inr on) = turned done gives is.stage after (alike_by gives done on.more after is.stage on.whole
          (stays after is.stage on.more (at_rest after all.are.rests) on.leads))

      by : AreAlike done gives is.stage after → ⊥
      by same =
          let P : Stage → Type 0 = λ s. NextFails map_ counting reading done s fault in
          not_at_rest done after fault all.are.rests all.unless_end (subst P (sym same.stages) is.next)

-- ---- one outcome

module _ (compare : Compared) (once : EndsOnce) where
  one_program : (reading : Reading) (program other : Program) → IsProgramOf reading program → IsProgramOf reading other → program ≡ other
  one_program reading program other is is' =
      is.is ∙ ap program_of (all_alike compare once empty_map none_used reading is.gives is'.gives is.stage is'.stage is.all is'.all).0 ∙ sym is'.is

  -- the writes show whether `.END` became live and, if not, how many lines were read
  module _ (program : Program) (lines : List NumberedLine) where
    same_read : (has_end : Bool) (count other : ℕ) → (has_end ≡ false → count ≡ other)
        → program_writes program lines (record { read = count; has_end = has_end })
        ≡ program_writes program lines (record { read = other; has_end = has_end })
    same_read true count other same = refl
    same_read false count other same = ap (λ (n : ℕ). program_writes program lines (record { read = n; has_end = false })) (same refl)

    same_end : (ended other : EndOfSource) → ended.has_end ≡ other.has_end → (ended.has_end ≡ false → ended.read ≡ other.read)
        → program_writes program lines ended ≡ program_writes program lines other
    same_end ended other has_end read =
        same_read ended.has_end ended.read other.read read
        ∙ ap (λ (b : Bool). program_writes program lines (record { read = other.read; has_end = b })) has_end

  one_writing : (program : Program) (reading : Reading) (writes others : List Write) (flagged count : ℕ)
      → WritesAllLines program reading writes flagged → WritesAllLines program reading others count
      → Assembled writes flagged ≡ Assembled others count
  one_writing program reading writes others flagged count is is' =
      let both = all_alike compare once program.map Definitions reading (givens is.lines) (givens is'.lines) is.stage is'.stage is.all is'.all in
      let lines : is.lines ≡ is'.lines = same_lines program.map reading.lines is.lines is'.lines is.numbers is'.numbers both.0 in
      let has_end : is.ended.has_end ≡ is'.ended.has_end = is.has_end ∙ ap (λ (s : Stage). s.has_ended) both.1 ∙ sym is'.has_end in
      let read : is.ended.has_end ≡ false → is.ended.read ≡ is'.ended.read
      = λ goes. is.read (sym is.has_end ∙ goes) ∙ sym (is'.read (sym is'.has_end ∙ sym has_end ∙ goes)) in
      let all : writes ≡ others
      = is.are ∙ ap (λ (ls : List NumberedLine). program_writes program ls is.ended) lines
      ∙ same_end program is'.lines is.ended is'.ended has_end read ∙ sym is'.are in
      let counts : flagged ≡ count
      = is.count ∙ ap₂ (flagged_count program) lines has_end ∙ sym is'.count in
      ap₂ Assembled all counts

  one_refusing : (program : Program) (reading : Reading) (fault stopped : AsmFault) (writes others : List Write)
      → WritesFirstLines program reading fault writes → WritesFirstLines program reading stopped others
      → Refused fault writes ≡ Refused stopped others
  one_refusing program reading fault stopped writes others is is' =
      let both = one_refusal compare once program.map Definitions reading (givens is.lines) (givens is'.lines) fault stopped is.refused is'.refused in
      let lines : is.lines ≡ is'.lines = same_lines program.map reading.lines is.lines is'.lines is.numbers is'.numbers both.0 in
      ap₂ Refused both.1 (is.are ∙ ap (written program) lines ∙ sym is'.are)

  -- if two readings are assembled, they aren't refused
  not_refused : (first second : Reading) (writes others : List Write) (flagged : ℕ) (fault : AsmFault)
      → IsOfWholeSources first second (Assembled writes flagged) → IsOfWholeSources first second (Refused fault others) → ⊥
  not_refused first second writes others flagged fault (program, is, all) (inl (lines, refused, none)) =
      not_both compare once empty_map none_used first is.gives lines is.stage fault is.all refused
  not_refused first second writes others flagged fault (program, is, all) (inr (other, is', firsts)) =
      let P : Program → Type 0 = λ p. WritesFirstLines p second fault others in
      let these : WritesFirstLines program second fault others = subst P (sym (one_program first program other is is')) firsts in
      not_both compare once program.map Definitions second (givens all.lines) (givens these.lines) all.stage fault all.all these.refused

  pub one_outcome : (first second : Reading) (one other : Outcome) → IsOfWholeSources first second one → IsOfWholeSources first second other
      → one ≡ other
  one_outcome first second (Assembled writes flagged) (Assembled others count) (program, is, all) (other, is', all') =
      let P : Program → Type 0 = λ p. WritesAllLines p second others count in
      one_writing program second writes others flagged count all (subst P (sym (one_program first program other is is')) all')
  one_outcome first second (Assembled writes flagged) (Refused fault others) is is' =
      absurd (not_refused first second writes others flagged fault is is')
  one_outcome first second (Refused fault writes) (Assembled others count) is is' =
      absurd (not_refused first second others writes count fault is' is)
  one_outcome first second (Refused fault writes) (Refused stopped others) (inl (lines, refused, none)) (inl (lines', refused', none')) =
      ap₂ Refused (one_refusal compare once empty_map none_used first lines lines' fault stopped refused refused').1 (none ∙ sym none')
  one_outcome first second (Refused fault writes) (Refused stopped others) (inl (lines, refused, none)) (inr (other, is', firsts)) =
      absurd (not_both compare once empty_map none_used first is'.gives lines is'.stage fault is'.all refused)
  one_outcome first second (Refused fault writes) (Refused stopped others) (inr (program, is, firsts)) (inl (lines, refused, none)) =
      absurd (not_both compare once empty_map none_used first is.gives lines is.stage stopped is.all refused)
  one_outcome first second (Refused fault writes) (Refused stopped others) (inr (program, is, firsts)) (inr (other, is', firsts')) =
      let P : Program → Type 0 = λ p. WritesFirstLines p second stopped others in
      one_refusing program second fault stopped writes others firsts (subst P (sym (one_program first program other is is')) firsts')

  -- since two readings have an outcome, an outcome by whole sources is that outcome
  pub are_theirs : ((first second : Reading) (outcome : Outcome) → HasOutcome first second outcome → IsOfWholeSources first second outcome)
      → ((first second : Reading) → (outcome : Outcome) × HasOutcome first second outcome)
      → (first second : Reading) (outcome : Outcome) → IsOfWholeSources first second outcome → HasOutcome first second outcome
  are_theirs speaks has first second outcome is =
      let theirs = has first second in
      let P : Outcome → Type 0 = HasOutcome first second in
      subst P (one_outcome first second theirs.0 outcome (speaks first second theirs.0 theirs.1) is) theirs.1
