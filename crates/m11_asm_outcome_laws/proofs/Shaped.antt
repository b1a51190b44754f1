-- The live lines of a reading are those of its shape.
use Rattle.std.proofs.Common.{◌≡◌, ◌∙◌, ℕ, List, ap, subst}
use Rattle.m11_asm.specs.Outcome.{Assembled, HasOutcome, Outcome}
use Rattle.m11_asm.specs.Program.{Program, program_of}
use Rattle.m11_asm_outcome_laws.specs.AllLines.{AreAllLines}
use Rattle.m11_asm_outcome_laws.specs.Shapes.{HasShapeUnder, WritesTheLines}
use Rattle.m11_asm_outcome_laws.specs.WholeSources.{IsOfWholeSources, WritesAllLines}
use Rattle.m11_asm_outcome_laws.proofs.WholeSources.{known_by, tells}
use Rattle.m11_asm_passes.specs.Lines.{givens}
use Rattle.m11_asm_rules.specs.Meanings.{Map, empty_map}
use Rattle.m11_base_writes.specs.Outputs.{Write}
use Rattle.m11_scan.specs.Line.{SourceLine}
use Rattle.m11_scan_expressions.specs.Expressions.{KnownSymbols}
use Rattle.m11_scan_line_laws.specs.Readings.{Reading}
use Rattle.m11_unfold_laws.specs.Levels.{Situation, beginning, source_level}
use Rattle.m11_unfold_laws.specs.Shapes.{Ending, Shape}
use Rattle.m11_unfold_rules.specs.Histories.{IsKnownBy}
use Rattle.m11_unfold_rules.specs.Stages.{Stage}
use Rattle.m11_unfold_rules.specs.Taking.{Live, NothingLeft, move}
use Rattle.m11_unfold_rules.specs.Unfolding.{UnfoldedLine, Unfolds}

-- the law that a source has just the live lines of its shape
abbrev pub JustThese : Type 0
JustThese = (known_by : List UnfoldedLine → Live → KnownSymbols) (source : List SourceLine) (gives done : List UnfoldedLine)
    (after : Situation) (ending : Ending) (stage : Stage) → Shape source_level beginning source gives after ending → IsKnownBy known_by gives
    → IsKnownBy known_by done → Unfolds source done stage → move stage ≡ NothingLeft → done ≡ gives

module _ (just_these : JustThese) where
  -- all the live lines of a source are those of its shape under the same map
  lines_are : (map_ : Map) (source : List SourceLine) (gives done : List UnfoldedLine) (stage : Stage) → HasShapeUnder map_ source gives
      → AreAllLines map_ source done stage → done ≡ gives
  lines_are map_ source gives done stage shaped all =
      just_these (tells map_) source gives done shaped.after shaped.ending stage shaped.shape (known_by map_ gives shaped.known)
      (known_by map_ done all.are.1) all.are.0 all.rests

  pub shapes_written : ((first second : Reading) (outcome : Outcome) → HasOutcome first second outcome → IsOfWholeSources first second outcome)
      → (first second : Reading) (gives later : List UnfoldedLine) (writes : List Write) (flagged : ℕ)
      → HasShapeUnder empty_map first.lines gives → HasShapeUnder (program_of gives).map second.lines later
      → HasOutcome first second (Assembled writes flagged) → WritesTheLines (program_of gives) second later writes flagged
  shapes_written whole first second gives later writes flagged one other has =
      let (program, made, wrote) = whole first second (Assembled writes flagged) has in
      let same : program ≡ program_of gives = made.is ∙ ap program_of (lines_are empty_map first.lines gives made.gives made.stage one made.all.are) in
      let P : Program → Type 0 = λ p. WritesAllLines p second writes flagged in
      let all : WritesAllLines (program_of gives) second writes flagged = subst P same wrote in
      record {
        lines = all.lines;
        lines_are = lines_are (program_of gives).map second.lines later (givens all.lines) all.stage other all.all.are;
        numbers = all.numbers;
        ended = all.ended;
        writes_are = all.are;
        count = all.count;
      }
