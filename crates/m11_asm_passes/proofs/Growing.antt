-- Of two passes over prefixes of one source, the live lines of one begin with those of the other.
use Rattle.std.proofs.Common.{◌≡◌, ◌∙◌, Bool, true, false, List, [], ◌∷◌, ◌++◌, length, append_assoc, append-nil, Option, Some, None, inl, inr, refl, sym, ap, subst}
use Rattle.std.specs.Prelude.{◌⊎◌}
use Rattle.m11_asm_faults.specs.declared.fault.AsmFault.{AsmFault}
use Rattle.m11_scan.specs.Line.{SourceLine}
use Rattle.m11_asm_lines.specs.declared.counting.Counting.{Counting}
use Rattle.m11_asm_passes.specs.Lines.{NumberedLine, PassLines, counting_at, numbered, table_at}
use Rattle.m11_asm_passes.specs.Refusals.{given_by, line_fault}
use Rattle.m11_asm_rules.specs.Meanings.{Map}
use Rattle.m11_unfold_rules.specs.Limits.{next_fault}
use Rattle.m11_unfold_rules.specs.Stages.{Stage}
use Rattle.m11_unfold_rules.specs.Taking.{Gives, Live, Move, Passes, NothingLeft, move}
use Rattle.m11_unfold_rules.specs.declared.fault.UnfoldFault.{UnfoldFault}
use Rattle.m11_asm_passes.specs.Beginnings.{BeginWith}
use Rattle.m11_asm_passes.proofs.Onward.{Onward, in_order}
use Rattle.m11_asm_passes.proofs.Onward as onward
use Rattle.m11_asm_passes.proofs.Stepping.{At, at, begin, LeadsTo, moves_by, places, reached, reads, step, within}

-- a step adds live lines at the end, or none
abbrev pub Grows : At → Option At → Type 0
Grows before None = Unit {0}
Grows before (Some after) = BeginWith after.lines before.lines

pub grows_read : (has_ended : Bool) (more : List SourceLine) (here : At) → Grows here (reads has_ended more here)
grows_read true more here = tt
grows_read false [] here = tt
grows_read false (line ∷ more) here = ([], sym (append-nil here.lines))

-- so any number of steps adds live lines at the end, or none
module _ (go : At → Option At) (grows : (here : At) → Grows here (go here)) where
  further : (first middle last : List NumberedLine) → BeginWith middle first → BeginWith last middle → BeginWith last first
  further first middle last (more, whole) (others, whole') =
      (more ++ others, whole' ∙ ap (λ (ls : List NumberedLine). ls ++ others) whole ∙ append_assoc first more others)

  pub grown_by : (before after : At) → Onward At go before after → BeginWith after.lines before.lines
  grown_by before _ onward.Onward.Stays = ([], sym (append-nil before.lines))
  grown_by before after (onward.Onward.Goes middle _ leads steps) =
      further before.lines middle.lines after.lines (grown_by before middle leads) (subst (Grows middle) steps (grows middle))

module _ (map_ : Map) (counting : Counting) where
  grows_placed : (fault : Option AsmFault) (live : Live) (after : Stage) (here : At)
      → Grows here (places map_ counting fault live after here)
  grows_placed (Some fault) live after here = tt
  grows_placed None live after here =
      (numbered (length here.source) (given_by (table_at map_ here.lines) live after) ∷ [], refl)

  grows_moved : (next : Move) (here : At) → Grows here (moves_by map_ counting next here)
  grows_moved NothingLeft here = grows_read here.stage.has_ended here.more here
  grows_moved (Passes after) here = ([], sym (append-nil here.lines))
  grows_moved (Gives live after) here =
      grows_placed (line_fault map_ (table_at map_ here.lines) (counting_at map_ counting here.lines) live after) live after here

  grows_within : (fault : Option UnfoldFault) (here : At) → Grows here (within map_ counting fault here)
  grows_within (Some fault) here = tt
  grows_within None here = grows_moved (move here.stage) here

  grows_by : (here : At) → Grows here (step map_ counting here)
  unfolding step
  grows_by here = grows_within (next_fault here.stage) here

  pub grown : (before after : At) → LeadsTo map_ counting before after → BeginWith after.lines before.lines
  grown before after leads = grown_by (step map_ counting) grows_by before after leads

  pub goes_on : (all source other more rest : List SourceLine) (first second : List NumberedLine) (stage after : Stage)
      → PassLines map_ counting source first stage → PassLines map_ counting other second after → source ++ more ≡ all → other ++ rest ≡ all
      → BeginWith second first ⊎ BeginWith first second
  goes_on all source other more rest first second stage after lines lines' whole whole' =
      go (in_order At (step map_ counting) (begin all) here there (reached map_ counting all source more first stage lines whole)
      (reached map_ counting all other rest second after lines' whole'))
    where
      here : At
      here = at source more first stage

      there : At
      there = at other rest second after

      go : LeadsTo map_ counting here there ⊎ LeadsTo map_ counting there here → BeginWith second first ⊎ BeginWith first second
      go (inl on) = inl (grown here there on)
      go (inr on) = inr (grown there here on)
