-- Lines that unfolding leaves alone, one after another.
use Rattle.std.proofs.Common.{◌≡◌, ◌∙◌, ℕ, ◌≤◌, false, List, [], ◌∷◌, ◌++◌, length, map, Option, Some, None, refl, sym, ap, ap₂, subst, append_assoc, append-nil}
use Rattle.std.specs.Prelude.{if◌then◌else◌}
use Rattle.std.specs.List.{AllByRecursion}
use Rattle.std.proofs.lemmas.List.{map-append, take_all}
use Rattle.m11_base.specs.Devices.{Bytes}
use Rattle.m11_base.specs.Instructions.{instruction_of}
use Rattle.m11_base.specs.declared.instruction_list.Row.{Row}
use Rattle.m11_base_disassembly.specs.Instructions.{operands_of, statement_by, statement_of, whole_row}
use Rattle.m11_base_disassembly.specs.declared.symbols.Symbol.{Symbol}
use Rattle.m11_asm_dump_laws.specs.Lines.{AreRead}
use Rattle.m11_asm_dump_laws.specs.Knowledge.{IsSpelled}
use Rattle.m11_asm_dump_laws.specs.Texts.{line_text}
use Rattle.m11_scan.specs.Line.{SourceLine, line_limit, line_of}
use Rattle.m11_scan_expressions.specs.Expressions.{KnownSymbols}
use Rattle.m11_scan_expressions.specs.Remarks.{no_remarks}
use Rattle.m11_unfold_bodies.specs.Conditions.{OpenConditions, no_conditions}
use Rattle.m11_unfold_bodies.specs.Left.{End, Line, RemainingItem, is_expanding}
use Rattle.m11_unfold_rules.specs.Acting.{Acted, Foreign, act, acted_by, foreign, operation}
use Rattle.m11_unfold_rules.specs.Stages.{Stage, line_left, start}
use Rattle.m11_unfold_rules.specs.Taking.{Gives, Live, Move, NothingLeft, Passes, ended, line_move, move, one_taken, skipped}
use Rattle.m11_unfold_rules.specs.Unfolding.{Leads, UnfoldedLine, Unfolds, given}
use Rattle.m11_unfold_rules.specs.Unfolding.Leads.{Giving, Passing, Stays}
use Rattle.m11_asm_dump_laws.proofs.LeftAlone.{word_foreign}
use Rattle.m11_asm_dump_laws.proofs.ReadLines.{name_parts}
use Rattle.m11_asm_dump_laws.proofs.RowNames.{IsPadded, OfFound, row_padded}
use Rattle.m11_asm_dump_laws.proofs.Widths.{line_width, word_width}

-- ---- lines that unfolding leaves alone

-- a line isn't one of unfolding where no condition is open and no macro is defined
abbrev pub IsLeft : SourceLine → Type 0
IsLeft line = operation no_conditions [] line.text ≡ Foreign

pub left_alone : (text : Bytes) → length text ≤ line_limit → operation no_conditions [] text ≡ Foreign → IsLeft (line_of text)
left_alone text most foreign_ = ap (operation no_conditions []) (take_all line_limit text most) ∙ foreign_

pub statement_width : (symbols : List Symbol) → AllByRecursion IsSpelled symbols → (row : Option Row) (location word : ℕ) (more : List ℕ) → OfFound IsPadded row
    → length (line_text symbols (statement_by row location word more)) ≤ line_limit
statement_width symbols spelled None location word more padded = word_width symbols spelled word
statement_width symbols spelled (Some row) location word more padded =
    line_width symbols spelled row.name (operands_of location more (instruction_of word)) (name_parts row.name padded).short

-- ---- stages with nothing open

-- these lines are left at a stage, no condition and no body is open, no macro is defined, and no `.END` became live
pub record IsAt (stage : Stage) (lines : List SourceLine) : Type 0 where
  pub left : stage.left ≡ map line_left lines
  pub conditions : stage.conditions ≡ no_conditions
  pub opening : stage.opening ≡ None
  pub macros : stage.macros ≡ []
  pub goes_on : stage.has_ended ≡ false

abbrev pub by_left : Stage → List RemainingItem → Move
by_left stage left = elim left [
  | [] ↦ NothingLeft
  | End mark ∷ rest ↦ Passes (ended mark rest stage)
  | Line line ∷ rest ↦ line_move stage.opening line (one_taken rest stage)
]

abbrev by_skipped : SourceLine → Stage → Option OpenConditions → Move
by_skipped line stage found = elim found [
  | Some conditions ↦ Passes (record stage { conditions = conditions })
  | None ↦ Gives (record { line = line; is_expanded = is_expanding stage.left }) stage
]

-- the stage after the next line was read, and that line as a live one
abbrev pub next_stage : Stage → List SourceLine → Stage
next_stage stage lines = one_taken (map line_left lines) stage

abbrev pub next_live : SourceLine → List SourceLine → Live
next_live line lines = record { line = line; is_expanded = is_expanding (map line_left lines) }

pub next_move : (stage : Stage) (line : SourceLine) (lines : List SourceLine) → IsAt stage (line ∷ lines)
    → move stage ≡ Gives (next_live line lines) (next_stage stage lines)
next_move stage line lines at =
    ap (λ b. if b then NothingLeft else by_left stage stage.left) at.goes_on
    ∙ ap (by_left stage) at.left
    ∙ ap (λ o. line_move o line (next_stage stage lines)) at.opening
    ∙ ap (λ c. by_skipped line (next_stage stage lines) (skipped c line.text)) at.conditions

no_move : (stage : Stage) → IsAt stage [] → move stage ≡ NothingLeft
no_move stage at = ap (λ b. if b then NothingLeft else by_left stage stage.left) at.goes_on ∙ ap (by_left stage) at.left

pub next_at : (stage : Stage) (line : SourceLine) (lines : List SourceLine) → IsAt stage (line ∷ lines) → IsAt (next_stage stage lines) lines
next_at stage line lines at =
    record { left = refl; conditions = at.conditions; opening = at.opening; macros = at.macros; goes_on = at.goes_on }

pub acts_alone : (known : KnownSymbols) (stage : Stage) (line : SourceLine) (lines : List SourceLine) → IsAt stage lines → IsLeft line
    → act known stage line.text ≡ foreign stage
acts_alone known stage line lines at is =
    ap₂ (λ c m. acted_by known line.text stage (operation c m line.text)) at.conditions at.macros
    ∙ ap (acted_by known line.text stage) is

pub no_pass : (stage after : Stage) (lines : List SourceLine) → IsAt stage lines → move stage ≡ Passes after → ⊥
no_pass stage after [] at passes = let e : NothingLeft ≡ Passes after = sym (no_move stage at) ∙ passes in cc
no_pass stage after (line ∷ lines) at passes =
    let e : Gives (next_live line lines) (next_stage stage lines) ≡ Passes after = sym (next_move stage line lines at) ∙ passes in cc

-- ---- the live lines so far

-- a live line isn't one of unfolding, and has no remarks
abbrev pub IsAlone : UnfoldedLine → Type 0
IsAlone line = (line.is_own ≡ false) × (line.remarks ≡ no_remarks)

abbrev pub line_in : UnfoldedLine → SourceLine
line_in line = line.live.line

pub one_more : (done : List UnfoldedLine) (line : UnfoldedLine) → AllByRecursion IsAlone done → IsAlone line
    → AllByRecursion IsAlone (done ++ line ∷ [])
one_more [] line all is = (is, tt)
one_more (first ∷ done) line all is = (all.0, one_more done line all.1 is)

pub read_by : (done : List UnfoldedLine) (texts : List Bytes) → map line_of texts ≡ map line_in done → AllByRecursion IsAlone done
    → AreRead done texts
read_by [] [] same alone = tt
read_by [] (text ∷ texts) same alone = absurd (cc)
read_by (one ∷ done) [] same alone = absurd (cc)
read_by (one ∷ done) (text ∷ texts) same alone =
    let here : line_of text ≡ line_in one = cc in
    let others : map line_of texts ≡ map line_in done = cc in
    (record { line = sym here; own = alone.0.0 }, read_by done texts others alone.1)
