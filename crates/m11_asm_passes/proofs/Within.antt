-- A second pass over the lines of a first one exceeds no limit.
use Rattle.std.proofs.Common.{◌≡◌, ◌∙◌, List, [], ◌∷◌, ◌++◌, Option, Some, None, inl, inr, refl, sym, ap, subst}
use Rattle.std.proofs.lemmas.List.{map-append}
use Rattle.m11_asm_faults.specs.declared.fault.AsmFault.{AsmFault}
use Rattle.m11_base.specs.Rad50.{Name}
use Rattle.m11_scan.specs.Line.{SourceLine}
use Rattle.m11_asm_lines.specs.declared.counting.Counting.{Counting}
use Rattle.m11_asm_lines.specs.declared.counting.Counting.TheVariants.{Definitions}
use Rattle.m11_asm_passes.specs.Lines.{NumberedLine, PassLines, counting_after, counting_at, givens, table_at}
use Rattle.m11_asm_passes.specs.Reaching.{Exceeds}
use Rattle.m11_asm_passes.specs.Reaching as reaching
use Rattle.m11_asm_passes.specs.Refusals.{line_fault}
use Rattle.m11_asm_rules.specs.Limits.{names_after}
use Rattle.m11_asm_rules.specs.Lines.{after_line}
use Rattle.m11_asm_rules.specs.Meanings.{Map}
use Rattle.m11_asm_rules.specs.Tables.{Table, first_table}
use Rattle.m11_unfold_rules.specs.Limits.{next_fault}
use Rattle.m11_unfold_rules.specs.Stages.{Stage}
use Rattle.m11_unfold_rules.specs.Taking.{Gives, Live, move}
use Rattle.m11_unfold_rules.specs.Unfolding.{UnfoldedLine}
use Rattle.m11_unfold_rules.specs.declared.fault.UnfoldFault.{UnfoldFault}
use Rattle.m11_asm_passes.specs.Beginnings.{BeginWith}
use Rattle.m11_asm_passes.specs.Ends.{EndsAfter, ExceedsAfter, IsOver}
use Rattle.m11_asm_passes.proofs.Fitting.{fits, fits_too}
use Rattle.m11_asm_passes.proofs.Freely.{begins_with, came_by, freely, is_freer, next_freely, over_freely, placed_at}
use Rattle.m11_asm_passes.proofs.Named.{AllThere, lines_add_none, lines_before, lines_there, there_alike}
use Rattle.m11_asm_passes.proofs.Onward.{next_of, stays}
use Rattle.m11_asm_passes.proofs.Stepping.{At, LeadsTo, at, ended_fits, exceeds_before, moved, none_fits, places, step}
use Rattle.m11_asm_passes.proofs.KnownAlike.{PlaceAlike}

-- ---- the names that some lines use are among those that all lines use

module _ (alike : PlaceAlike) (one other : Map) (names : List Name) (all : List NumberedLine) where
  abbrev full : List Name
  full = names_after one first_table (givens all) names

  there : (before further : List NumberedLine) → all ≡ before ++ further → AllThere other first_table (givens before) full
  there before further whole =
      let P : List UnfoldedLine → Type 0 = λ ls. AllThere one first_table ls full in
      there_alike alike one other full (givens before)
      (lines_before one first_table (givens before) (givens further) full
      (subst P (ap givens whole ∙ map-append (λ (line : NumberedLine). line.given) before further) (lines_there one first_table (givens all) names)))

  -- the first of the lines add no names to those of all lines
  add_none : (before : List NumberedLine) → BeginWith all before → names_after other first_table (givens before) full ≡ full
  add_none before begins = lines_add_none other first_table (givens before) full (there before begins.0 begins.1)

-- ---- limits

over_fits : (more : List SourceLine) (stage : Stage) → IsOver more stage → next_fault stage ≡ None
over_fits more stage (inl ended) = ended_fits stage ended
over_fits more stage (inr (all, none, goes)) = none_fits stage none goes

places_fit : (map : Map) (counting : Counting) (fault : Option AsmFault) (live : Live) (after : Stage) (here next : At)
    → places map counting fault live after here ≡ Some next → fault ≡ None
places_fit map counting (Some fault) live after here next goes = absurd (cc)
places_fit map counting None live after here next goes = refl

-- if only definitions are counted, lines don't change the counting
none_counted : (map : Map) (table : Table) (all : List UnfoldedLine) → counting_after map table all Definitions ≡ Definitions
none_counted map table [] = refl
none_counted map table (given ∷ all) = none_counted map (after_line map table given) all

module _ (alike : PlaceAlike) (one other : Map) (counting : Counting) (all source read rest : List SourceLine)
    (lines later : List NumberedLine) (stage : Stage) (end : EndsAfter one counting all source lines stage) (whole : read ++ rest ≡ all) where
  abbrev last : At
  last = at source end.more lines stage

  abbrev stood : Stage → At
  stood stage' = at read rest later stage'

  comes : (stage' : Stage) → PassLines other Definitions read later stage' → LeadsTo one counting (stood stage') last
  comes stage' passes = came_by alike one other counting Definitions all source lines stage end read rest later stage' passes whole

  none_before : (stage' : Stage) (inner : UnfoldFault) → PassLines other Definitions read later stage' → next_fault stage' ≡ Some inner → ⊥
  none_before stage' inner passes exceeds =
      let same : last ≡ stood stage'
      = stays At (step one counting) (stood stage') last (exceeds_before one counting (stood stage') inner exceeds) (comes stage' passes) in
      let both : None ≡ Some inner
      = sym (over_fits end.more stage end.is_over) ∙ ap (λ (a : At). next_fault a.stage) same ∙ exceeds in
      cc

  module _ (stage' after : Stage) (live : Live) (passes : PassLines other Definitions read later stage')
      (fits_so : next_fault stage' ≡ None) (moves : move stage' ≡ Gives live after) where
    goes : (next : At) → freely one (stood stage') ≡ Some next → (step one counting (stood stage') ≡ Some next) × LeadsTo one counting next last
    goes next freely_so =
        next_of At (step one counting) (freely one) (is_freer one counting) (stood stage') last next freely_so
        (over_freely one last end.is_over) (comes stage' passes)

    fits_first : (next : At) → step one counting (stood stage') ≡ Some next
        → line_fault one (table_at one later) (counting_at one counting later) live after ≡ None
    fits_first next steps =
        places_fit one counting (line_fault one (table_at one later) (counting_at one counting later) live after) live after (stood stage') next
        (sym (moved one counting (stood stage') (Gives live after) fits_so moves) ∙ steps)

    fits_again : line_fault one (table_at one later) (counting_at one counting later) live after ≡ None
        → line_fault other (table_at other later) (counting_at other Definitions later) live after ≡ None
    fits_again fits_one =
        ap (λ (c : Counting). line_fault other (table_at other later) c live after) (none_counted other first_table (givens later))
        ∙ fits_too alike one other later live after (counting_at one counting later)
        (fits one (table_at one later) (counting_at one counting later) live after fits_one)

    pub fits_there : line_fault other (table_at other later) (counting_at other Definitions later) live after ≡ None
    fits_there =
        let next : At = placed_at one live after (stood stage') in
        let led = goes next (next_freely one (stood stage') live after fits_so moves) in
        fits_again (fits_first next led.0)

  none_within : (fault : AsmFault) → Exceeds other Definitions read later fault → ⊥
  none_within fault (reaching.Exceeds.BeforeLine stage' inner passes exceeds is) = none_before stage' inner passes exceeds
  none_within fault (reaching.Exceeds.AtLine stage' after live passes fits_so moves exceeds) =
      let both : None ≡ Some fault = sym (fits_there stage' after live passes fits_so moves) ∙ exceeds in
      cc

pub no_limit : PlaceAlike → (one other : Map) (counting : Counting) (all source read : List SourceLine) (lines later : List NumberedLine)
    (stage : Stage) (fault : AsmFault) → EndsAfter one counting all source lines stage
    → ExceedsAfter other Definitions all read later fault → ⊥
no_limit alike one other counting all source read lines later stage fault ends exceeds =
    none_within alike one other counting all source read exceeds.more lines later stage ends exceeds.whole fault exceeds.exceeds

pub no_name : PlaceAlike → (one other : Map) (counting : Counting) (names : List Name) (all source read rest : List SourceLine)
    (lines later : List NumberedLine) (stage after : Stage) → EndsAfter one counting all source lines stage
    → PassLines other Definitions read later after → read ++ rest ≡ all
    → names_after other first_table (givens later) (names_after one first_table (givens lines) names)
    ≡ names_after one first_table (givens lines) names
no_name alike one other counting names all source read rest lines later stage after ends passes whole =
    add_none alike one other names lines later
    (begins_with alike one other counting Definitions all source lines stage ends read rest later after passes whole)
