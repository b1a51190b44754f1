-- Under maps that agree, a source has the same live lines, with the same table, counted names and limits after each of them.
use Rattle.std.proofs.Common.{◌≡◌, ◌∙◌, List, [], ◌∷◌, ◌++◌, length, refl, sym, ap, subst}
use Rattle.m11_asm_faults.specs.declared.fault.AsmFault.{AsmFault}
use Rattle.m11_scan.specs.Line.{SourceLine}
use Rattle.m11_unfold_rules.specs.Stages.{Stage}
use Rattle.m11_unfold_rules.specs.Taking.{Live}
use Rattle.m11_unfold_rules.specs.Unfolding.{UnfoldedLine}
use Rattle.m11_asm_rules.specs.Lines.{after_line}
use Rattle.m11_asm_rules.specs.Meanings.{Map}
use Rattle.m11_asm_rules.specs.SymbolUses.{symbol_uses}
use Rattle.m11_asm_rules.specs.Placements.{after_lines}
use Rattle.m11_asm_rules.specs.Tables.{Table, first_table}
use Rattle.m11_asm_lines.specs.Counting.{with_counted}
use Rattle.m11_asm_lines.specs.declared.counting.Counting.{Counting}
use Rattle.m11_asm_passes.specs.Lines.{NumberedLine, PassLines, acted, counting_after, counting_at, givens, numbered, table_at}
use Rattle.m11_asm_passes.specs.Lines as lines
use Rattle.m11_asm_passes.specs.Reaching.{Exceeds}
use Rattle.m11_asm_passes.specs.Reaching as reaching
use Rattle.m11_asm_passes.specs.Refusals.{given_by, line_fault}
use Rattle.m11_asm_passes.specs.Maps.{MapsAgree}
use Rattle.m11_asm_passes.proofs.MapsAlike.{after_line_same, line_fault_same}

module _ (one other : Map) (same : MapsAgree one other) where
  -- ---- after some lines

  after_lines_same : (all : List UnfoldedLine) (table : Table) → after_lines one table all ≡ after_lines other table all
  after_lines_same [] table = refl
  after_lines_same (given ∷ all) table =
      ap (λ (t : Table). after_lines one t all) (after_line_same one other same table given)
      ∙ after_lines_same all (after_line other table given)

  counting_after_same : (all : List UnfoldedLine) (table : Table) (counting : Counting)
      → counting_after one table all counting ≡ counting_after other table all counting
  counting_after_same [] table counting = refl
  counting_after_same (given ∷ all) table counting =
      ap (λ (t : Table). counting_after one t all (with_counted (symbol_uses table given) counting)) (after_line_same one other same table given)
      ∙ counting_after_same all (after_line other table given) (with_counted (symbol_uses table given) counting)

  pub table_at_same : (all : List NumberedLine) → table_at one all ≡ table_at other all
  table_at_same all = after_lines_same (givens all) first_table

  pub counting_at_same : (counting : Counting) (all : List NumberedLine) → counting_at one counting all ≡ counting_at other counting all
  counting_at_same counting all = counting_after_same (givens all) first_table counting

  module _ (counting : Counting) where
    -- ---- the next line

    next_fault_same : (all : List NumberedLine) (live : Live) (after : Stage)
        → line_fault one (table_at one all) (counting_at one counting all) live after
        ≡ line_fault other (table_at other all) (counting_at other counting all) live after
    next_fault_same all live after =
        line_fault_same one other same (table_at one all) (counting_at one counting all) live after
        ∙ ap (λ (t : Table). line_fault other t (counting_at one counting all) live after) (table_at_same all)
        ∙ ap (λ (c : Counting). line_fault other (table_at other all) c live after) (counting_at_same counting all)

    -- ---- the lines of a source

    pub pass_lines_same : (source : List SourceLine) (all : List NumberedLine) (stage : Stage)
        → PassLines one counting source all stage → PassLines other counting source all stage
    pass_lines_same _ _ _ lines.PassLines.Begins = lines.PassLines.Begins
    pass_lines_same _ _ _ (lines.PassLines.Reading source all stage line before none goes) =
        lines.PassLines.Reading source all stage line (pass_lines_same source all stage before) none goes
    pass_lines_same _ _ _ (lines.PassLines.Passing source all before after so_far passed) =
        lines.PassLines.Passing source all before after (pass_lines_same source all before so_far) passed
    pass_lines_same _ _ _ (lines.PassLines.Placing source all before after live so_far within gives fits) =
        let P : Table → Type 0 = λ t.
        PassLines other counting source (all ++ numbered (length source) (given_by t live after) ∷ []) (acted t live after) in
        subst P (sym (table_at_same all))
        (lines.PassLines.Placing source all before after live (pass_lines_same source all before so_far) within gives
        (sym (next_fault_same all live after) ∙ fits))

    pub exceeds_same : (source : List SourceLine) (all : List NumberedLine) (fault : AsmFault)
        → Exceeds one counting source all fault → Exceeds other counting source all fault
    exceeds_same source all fault (reaching.Exceeds.BeforeLine stage inner so_far passes is) =
        reaching.Exceeds.BeforeLine stage inner (pass_lines_same source all stage so_far) passes is
    exceeds_same source all fault (reaching.Exceeds.AtLine stage after live so_far within gives refused) =
        reaching.Exceeds.AtLine stage after live (pass_lines_same source all stage so_far) within gives
        (sym (next_fault_same all live after) ∙ refused)
