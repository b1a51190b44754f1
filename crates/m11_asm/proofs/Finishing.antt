-- The second pass before its first line and after its last one.
use Rattle.std.proofs.Common.{◌≡◌, ◌∙◌, ◌≤◌, Bool, true, false, if◌then◌else◌, List, [], ◌∷◌, ◌++◌, length, Option, None, Result, IfOk, refl, sym, ap, subst, arith}
use Rattle.std.proofs.lemmas.List.Sums.{count_by-le-length}
use Rattle.std.specs.Prelude.{OnOk}
use Rattle.m11_asm_outputs.specs.Object.{AllFit, object_contents}
use Rattle.m11_asm_faults.specs.declared.fault.AsmFault.{AsmFault}
use Rattle.m11_asm_outputs.specs.Outputs.{Gains, Writes, assembly}
use Rattle.m11_base_writes.specs.Outputs.{AreFlushed, Outputs, Write}
use Rattle.m11_asm.specs.Facts.{Facts}
use Rattle.m11_asm.specs.First.{Symbols}
use Rattle.m11_scan.specs.Line.{SourceLine}
use Rattle.m11_asm_passes.specs.Lines.{NumberedLine}
use Rattle.m11_asm_passes.specs.States.{PassState, PassAfter}
use Rattle.m11_asm_passes.proofs.LinesCounted.{at_most}
use Rattle.m11_asm_rules.specs.Meanings.{Map, map_of}
use Rattle.m11_asm_rules.specs.Tables.{Table, location}
use Rattle.m11_asm_lines.specs.UsedSymbols.{UsedNames}
use Rattle.m11_unfold_rules.specs.Limits.{most_lines}
use Rattle.m11_unfold_rules.specs.Stages.{start}
use Rattle.m11_base_writes.proofs.Writing.{writes_then}
use Rattle.m11_asm.specs.Program.{Program, program_in, program_by}
use Rattle.m11_asm.specs.Second.{SecondEnds, SecondAfter, SecondState, Wrote, ended_with}
use Rattle.m11_asm.specs.Writing.{Writing, WritingAfter, most_counted}
use Rattle.m11_asm.specs.Written.{flagged_count, flagged_in, is_flagged, last_location, last_writes, flags_after, pieces_in, written}
use Rattle.m11_asm.specs.declared.done.AsmDone.{AsmDone}
use Rattle.m11_asm.proofs.LinesWritten.{nothing_written}
use Rattle.m11_asm.proofs.Taking.{stands_first}
use Rattle.m11_asm_lines.specs.declared.counting.Counting.TheVariants.{Definitions}

-- ---- before the first line

module _ (table : Table) (used_names : UsedNames) (facts : Facts) (pass_state : PassState) (writing : Writing) (fault : Option AsmFault)
    (stands : (map : Map) → PassAfter map Definitions [] [] pass_state) (first_stage : pass_state.unfolder.stage ≡ start [])
    (keeps : WritingAfter (program_by table used_names facts) [] writing) (goes : fault ≡ None) where
  begun : (first now : Outputs) → Gains first now []
      → SecondAfter (program_in (record { table = table; used_names = used_names; facts = facts })) [] first now
      (record { map = map_of table; pass_state = pass_state; writing = writing; read = 0; has_ended = false; fault = fault })
  begun first now gains =
      let program = program_in (record { table = table; used_names = used_names; facts = facts }) in
      record {
        map_is = refl;
        stands = stands_first program.map Definitions (Wrote program first now writing) pass_state fault (stands (map_of table)) (record {
          keeps = keeps;
          gains = subst (λ (ws : List Write). Gains first now ws) (sym (nothing_written program)) gains;
        }) first_stage goes;
      }

  pub second_begins : (symbols : Symbols) → table ≡ symbols.table → used_names ≡ symbols.used_names → facts ≡ symbols.facts
      → (first now : Outputs) → Gains first now []
      → SecondAfter (program_in symbols) [] first now
      (record { map = map_of table; pass_state = pass_state; writing = writing; read = 0; has_ended = false; fault = fault })
  second_begins symbols table_is gathered_is facts_are first now gains =
      let symbols_are : record { table = table; used_names = used_names; facts = facts } ≡ symbols =
      ap (λ (t : Table). record { table = t; used_names = used_names; facts = facts }) table_is
      ∙ ap (λ (g : UsedNames). record { table = symbols.table; used_names = g; facts = facts }) gathered_is
      ∙ ap (λ (f : Facts). record { table = symbols.table; used_names = symbols.used_names; facts = f }) facts_are in
      let P : Symbols → Type 0 = λ s. SecondAfter (program_in s) [] first now
      (record { map = map_of table; pass_state = pass_state; writing = writing; read = 0; has_ended = false; fault = fault }) in
      subst P symbols_are (begun first now gains)

-- ---- after the last line

flags_counted : (program : Program) (before all : List NumberedLine) → length (flags_after program before all) ≡ length all
flags_counted program before [] = refl
flags_counted program before (line ∷ all) =
    let rest = flags_counted program (before ++ line ∷ []) all in omega (arith, rest)

flagged_few : (program : Program) (lines : List NumberedLine) → flagged_in program lines ≤ length lines
unfolding flagged_in
flagged_few program lines =
    let few = count_by-le-length is_flagged (flags_after program [] lines) in omega (arith, few, flags_counted program [] lines)

least_added : (has_end : Bool) → (if has_end then 0 else 1) ≤ 1
least_added true = omega arith
least_added false = omega arith

pub count_few : (program : Program) (lines : List NumberedLine) (has_end : Bool) → length lines ≤ most_lines
    → flagged_count program lines has_end ≤ most_counted
count_few program lines has_end few = omega (arith, few, flagged_few program lines, least_added has_end)

module _ (program : Program) (source : List SourceLine) (first now : Outputs) (state : SecondState)
    (stands : SecondAfter program source first now state) where
  pub location_is : location state.pass_state.table ≡ last_location program stands.stands.lines
  location_is = ap (λ (t : Table). location t) stands.stands.taken.stands.table

  pub few_flagged : flagged_count program stands.stands.lines state.has_ended ≤ most_counted
  few_flagged =
      count_few program stands.stands.lines state.has_ended
      (at_most program.map Definitions source stands.stands.lines state.pass_state.unfolder.stage stands.stands.taken.stands.lines_are)

  pub second_finishes : (new : Outputs) (result : Result AsmDone AsmFault) → Writes now new (last_writes program stands.stands.lines (ended_with state)) result
      → IfOk result (λ done. done.flagged ≡ flagged_count program stands.stands.lines state.has_ended)
      → OnOk result (AllFit (object_contents program.rows (pieces_in program.map stands.stands.lines)))
      → OnOk result (AreFlushed new) → SecondEnds program source first new state result
  second_finishes new result writes count fit flushed = record {
    lines = stands.stands.lines;
    stage = state.pass_state.unfolder.stage;
    live = stands.stands.taken.stands.lines_are;
    read = stands.stands.read;
    ended = stands.stands.ended;
    needs = stands.stands.needs;
    writes = writes_then assembly first now new (written program stands.stands.lines) (last_writes program stands.stands.lines (ended_with state)) result
        stands.stands.taken.done.gains writes;
    count = count;
    fit = fit;
    flushed = flushed;
  }
