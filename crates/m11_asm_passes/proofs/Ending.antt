-- A pass over a source has only one end, or exceeds only one limit.
use Rattle.std.proofs.Common.{◌≡◌, ◌∙◌, List, ◌++◌, Some, None, inl, inr, sym, ap, subst}
use Rattle.m11_asm_faults.specs.Faults.{of_unfolding}
use Rattle.m11_asm_faults.specs.declared.fault.AsmFault.{AsmFault}
use Rattle.m11_scan.specs.Line.{SourceLine}
use Rattle.m11_asm_lines.specs.declared.counting.Counting.{Counting}
use Rattle.m11_asm_passes.specs.Lines.{NumberedLine, counting_at, table_at}
use Rattle.m11_asm_passes.specs.Reaching.{Exceeds}
use Rattle.m11_asm_passes.specs.Reaching as reaching
use Rattle.m11_asm_passes.specs.Refusals.{line_fault}
use Rattle.m11_asm_rules.specs.Meanings.{Map}
use Rattle.m11_unfold_rules.specs.Limits.{next_fault}
use Rattle.m11_unfold_rules.specs.Stages.{Stage}
use Rattle.m11_unfold_rules.specs.Taking.{Gives, Live, NothingLeft, move}
use Rattle.m11_unfold_rules.specs.declared.fault.UnfoldFault.{UnfoldFault}
use Rattle.m11_asm_passes.specs.Ends.{ExceedsAfter, EndsAfter, IsOver}
use Rattle.m11_asm_passes.proofs.Onward.{one_end}
use Rattle.m11_asm_passes.proofs.Stepping.{At, LeadsTo, at, begin, exceeds_at, exceeds_before, ended_fits, ended_rests, ended_stops, none_fits, none_rests, read_stops, reached, step}

-- at this stage no limit is exceeded, and nothing is left
record IsQuiet (stage : Stage) : Type 0 where
  fits : next_fault stage ≡ None
  rests : move stage ≡ NothingLeft

-- the next move fails with this fault
data NextFails (map_ : Map) (counting : Counting) (lines : List NumberedLine) (stage : Stage) (fault : AsmFault) : Type 0 where
  Before : (inner : UnfoldFault) → next_fault stage ≡ Some inner → fault ≡ of_unfolding inner → NextFails map_ counting lines stage fault
  Within : (live : Live) (after : Stage) → next_fault stage ≡ None → move stage ≡ Gives live after
      → line_fault map_ (table_at map_ lines) (counting_at map_ counting lines) live after ≡ Some fault → NextFails map_ counting lines stage fault

-- a pass over all lines stops after some of them, since the next move fails
record StopsAfter (map_ : Map) (counting : Counting) (all source : List SourceLine) (lines : List NumberedLine) (fault : AsmFault) : Type 0 where
  more : List SourceLine
  stage : Stage
  fails : NextFails map_ counting lines stage fault
  leads : LeadsTo map_ counting (begin all) (at source more lines stage)
  stops : step map_ counting (at source more lines stage) ≡ None

-- the next move has only one fault
one_fault : (map_ : Map) (counting : Counting) (lines : List NumberedLine) (stage : Stage) (fault other : AsmFault)
    → NextFails map_ counting lines stage fault → NextFails map_ counting lines stage other → fault ≡ other
one_fault map_ counting lines stage fault other (Before inner fails is) (Before inner' fails' is') =
    let both : Some inner ≡ Some inner' = sym fails ∙ fails' in
    let same : inner ≡ inner' = cc in
    is ∙ ap of_unfolding same ∙ sym is'
one_fault map_ counting lines stage fault other (Before inner fails is) (Within live after fits moves refused) =
    let both : Some inner ≡ None = sym fails ∙ fits in absurd (cc both)
one_fault map_ counting lines stage fault other (Within live after fits moves refused) (Before inner fails is) =
    let both : Some inner ≡ None = sym fails ∙ fits in absurd (cc both)
one_fault map_ counting lines stage fault other (Within live after fits moves refused) (Within live' after' fits' moves' refused') =
    let both : Gives live after ≡ Gives live' after' = sym moves ∙ moves' in
    let same_live : live ≡ live' = cc in
    let same_after : after ≡ after' = cc in
    let P : Live → Type 0 = λ l. line_fault map_ (table_at map_ lines) (counting_at map_ counting lines) l after ≡ Some fault in
    let Q : Stage → Type 0 = λ s. line_fault map_ (table_at map_ lines) (counting_at map_ counting lines) live' s ≡ Some fault in
    let here = subst Q same_after (subst P same_live refused) in
    let faults : Some fault ≡ Some other = sym here ∙ refused' in cc

-- the next move has no fault if no limit is exceeded and nothing is left
none_fails : (map_ : Map) (counting : Counting) (lines : List NumberedLine) (stage : Stage) (fault : AsmFault) → IsQuiet stage
    → NextFails map_ counting lines stage fault → ⊥
none_fails map_ counting lines stage fault quiet (Before inner fails is) =
    let both : None ≡ Some inner = sym quiet.fits ∙ fails in cc
none_fails map_ counting lines stage fault quiet (Within live after fits moves refused) =
    let both : NothingLeft ≡ Gives live after = sym quiet.rests ∙ moves in cc

module _ (map_ : Map) (counting : Counting) where
  is_quiet : (more : List SourceLine) (stage : Stage) → IsOver more stage → IsQuiet stage
  is_quiet more stage (inl ended) = record { fits = ended_fits stage ended; rests = ended_rests stage ended }
  is_quiet more stage (inr (all, none, goes)) = record { fits = none_fits stage none goes; rests = none_rests stage none goes }

  pub over_stops : (here : At) → IsOver here.more here.stage → step map_ counting here ≡ None
  over_stops here (inl ended) = ended_stops map_ counting here ended
  over_stops here (inr (all, none, goes)) = read_stops map_ counting here all none goes

  -- a pass at its end, and a pass at a limit
  module _ (all source : List SourceLine) (lines : List NumberedLine) where
    abbrev end_of : (stage : Stage) → EndsAfter map_ counting all source lines stage → At
    end_of stage end = at source end.more lines stage

    comes : (stage : Stage) (end : EndsAfter map_ counting all source lines stage) → LeadsTo map_ counting (begin all) (end_of stage end)
    comes stage end = reached map_ counting all source end.more lines stage end.lines_are end.whole

    stays_there : (stage : Stage) (end : EndsAfter map_ counting all source lines stage) → step map_ counting (end_of stage end) ≡ None
    stays_there stage end = over_stops (end_of stage end) end.is_over

    stands_by : (fault : AsmFault) (more : List SourceLine) → source ++ more ≡ all → Exceeds map_ counting source lines fault
        → StopsAfter map_ counting all source lines fault
    stands_by fault more whole (reaching.Exceeds.BeforeLine stage inner passed exceeds is) = record {
      more = more;
      stage = stage;
      fails = Before inner exceeds is;
      leads = reached map_ counting all source more lines stage passed whole;
      stops = exceeds_before map_ counting (at source more lines stage) inner exceeds;
    }
    stands_by fault more whole (reaching.Exceeds.AtLine stage after live passed fits moves refused) = record {
      more = more;
      stage = stage;
      fails = Within live after fits moves refused;
      leads = reached map_ counting all source more lines stage passed whole;
      stops = exceeds_at map_ counting (at source more lines stage) live after fault fits moves refused;
    }

    stands : (fault : AsmFault) → ExceedsAfter map_ counting all source lines fault → StopsAfter map_ counting all source lines fault
    stands fault exceeds = stands_by fault exceeds.more exceeds.whole exceeds.exceeds

  -- ---- the laws

  pub one_end_of_all : (all source other : List SourceLine) (lines later : List NumberedLine) (stage after : Stage)
      → EndsAfter map_ counting all source lines stage → EndsAfter map_ counting all other later after
      → (source ≡ other) × (lines ≡ later) × (stage ≡ after)
  one_end_of_all all source other lines later stage after end end' =
      let same = one_end At (step map_ counting) (begin all) (end_of all source lines stage end) (end_of all other later after end')
      (stays_there all source lines stage end) (stays_there all other later after end')
      (comes all source lines stage end) (comes all other later after end') in (
        ap (λ (a : At). a.source) same,
        ap (λ (a : At). a.lines) same,
        ap (λ (a : At). a.stage) same,
      )

  same_limit : (all source other : List SourceLine) (lines later : List NumberedLine) (fault fault' : AsmFault)
      → StopsAfter map_ counting all source lines fault → StopsAfter map_ counting all other later fault'
      → (source ≡ other) × (lines ≡ later) × (fault ≡ fault')
  same_limit all source other lines later fault fault' first second =
      let here : At = at source first.more lines first.stage in
      let there : At = at other second.more later second.stage in
      let same : here ≡ there
      = one_end At (step map_ counting) (begin all) here there first.stops second.stops first.leads second.leads in
      let P : At → Type 0 = λ a. NextFails map_ counting a.lines a.stage fault in
      let fails : NextFails map_ counting later second.stage fault = subst P same first.fails in (
        ap (λ (a : At). a.source) same,
        ap (λ (a : At). a.lines) same,
        one_fault map_ counting later second.stage fault fault' fails second.fails,
      )

  pub one_limit : (all source other : List SourceLine) (lines later : List NumberedLine) (fault fault' : AsmFault)
      → ExceedsAfter map_ counting all source lines fault → ExceedsAfter map_ counting all other later fault'
      → (source ≡ other) × (lines ≡ later) × (fault ≡ fault')
  one_limit all source other lines later fault fault' exceeds exceeds' =
      same_limit all source other lines later fault fault' (stands all source lines fault exceeds) (stands all other later fault' exceeds')

  not_both : (all source other : List SourceLine) (lines later : List NumberedLine) (stage : Stage) (fault : AsmFault)
      → EndsAfter map_ counting all source lines stage → StopsAfter map_ counting all other later fault → ⊥
  not_both all source other lines later stage fault end second =
      let here : At = end_of all source lines stage end in
      let there : At = at other second.more later second.stage in
      let same : here ≡ there
      = one_end At (step map_ counting) (begin all) here there (stays_there all source lines stage end) second.stops
      (comes all source lines stage end) second.leads in
      let quiet : IsQuiet second.stage
      = subst (λ (a : At). IsQuiet a.stage) same (is_quiet end.more stage end.is_over) in
      none_fails map_ counting later second.stage fault quiet second.fails

  pub end_or_limit : (all source other : List SourceLine) (lines later : List NumberedLine) (stage : Stage) (fault : AsmFault)
      → EndsAfter map_ counting all source lines stage → ExceedsAfter map_ counting all other later fault → ⊥
  end_or_limit all source other lines later stage fault end exceeds =
      not_both all source other lines later stage fault end (stands all other later fault exceeds)
