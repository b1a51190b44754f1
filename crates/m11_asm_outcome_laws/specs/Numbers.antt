-- The numbers of live lines in the listing and the messages, from the unfolding of the source alone. Lines of a called macro have the
-- number of the call, and those of a repeat the number of the line that closes its body. (MACRO-11 Language Reference Manual, "Macro
-- directives", "Conditional assembly directives" and "Listing control directives". That expanded lines have these numbers is this
-- project's own choice.)
use Rattle.std.specs.Prelude.{◌≡◌, ◌≤◌, ℕ, List, [], ◌∷◌, ◌++◌, take}
use Rattle.m11_scan.specs.Line.{SourceLine}
use Rattle.m11_asm_passes.specs.Lines.{NumberedLine, givens}
use Rattle.m11_asm_rules.specs.Meanings.{Map}
use Rattle.m11_asm_rules.specs.Unfolded.{AreLines}
use Rattle.m11_unfold_rules.specs.Stages.{Stage}
use Rattle.m11_unfold_rules.specs.Unfolding.{UnfoldedLine}

-- this is the number of the last live line in a list: this many lines from the start of the source unfold to the whole list, and fewer
-- lines don't
pub record IsLastNumber (map : Map) (source : List SourceLine) (gives : List UnfoldedLine) (number : ℕ) : Type 0 where
  pub stage : Stage
  pub are : AreLines map (take number source) gives stage
  pub least : (count : ℕ) (other : Stage) → AreLines map (take count source) gives other → number ≤ count

-- each of these first live lines of a source has its right number
abbrev pub HaveNumbers : Map → List SourceLine → List NumberedLine → Type 0
HaveNumbers map source lines = (before after : List NumberedLine) (line : NumberedLine) → lines ≡ before ++ line ∷ after
    → IsLastNumber map source (givens (before ++ line ∷ [])) line.number
