-- Text is skipped.
use Rattle.std.proofs.Common.{◌≡◌, ◌∙◌, ℕ, suc, ◌+◌, Bool, true, false, List, [], ◌∷◌, ◌++◌, length, map, Option, Some, None, refl, ap, arith}
use Rattle.std.specs.Prelude.{◌==◌, ◌-◌, ◌||◌, not, if◌then◌else◌}
use Rattle.std.proofs.lemmas.Bool.Decides.{nat_tests}
use Rattle.m11_scan.specs.Line.{SourceLine}
use Rattle.m11_unfold_rules.specs.Directives.{directive}
use Rattle.m11_unfold_rules.specs.declared.directives.Directive.{Directive}
use Rattle.m11_unfold_rules.specs.declared.directives.Directive.TheVariants as word
use Rattle.m11_unfold_bodies.specs.Conditions.{OpenConditions, is_live_inside}
use Rattle.m11_unfold_bodies.specs.Left.{RemainingItem, Line}
use Rattle.m11_unfold_rules.specs.Stages.{Stage, line_left}
use Rattle.m11_unfold_rules.specs.Taking.{Passes, move, skipped_by}
use Rattle.m11_unfold_rules.proofs.Cases.{live_or_skipped}
use Rattle.m11_unfold_laws.specs.Levels.{Level, Situation, counting, stage_of}
use Rattle.m11_unfold_laws.specs.Shapes.{IsText, is_plain}
use Rattle.m11_unfold_laws.specs.Shapes as shapes
use Rattle.m11_unfold_laws.proofs.Runs.{Runs, passes_on, stays, weakened}

module _ (is_past : Bool) (level : Level) where
  abbrev skipping : ℕ → OpenConditions
  skipping inner = record { entered = level.entered; nested = inner; is_past = is_past }

  -- the stage in skipped text with this many inner conditions open
  abbrev pub text_stage : ℕ → Situation → List RemainingItem → Stage
  text_stage inner situation left = record (stage_of level situation left) { conditions = skipping inner }

  -- ---- directives

  bad : {A : Type 0} → false ≡ true → A
  bad is = absurd (let no : false ≡ true = is in cc)

  no_part : (inner : ℕ) → (past : Bool) → (none : Bool) → past || not none ≡ true
      → (if past then Some (skipping inner) else (if none then None else Some (skipping inner))) ≡ Some (skipping inner)
  no_part inner true none is = refl
  no_part inner false true is = bad is
  no_part inner false false is = refl

  plain_word : (inner : ℕ) (word : Option Directive) → is_plain is_past inner word ≡ true
      → skipped_by (skipping inner) word ≡ Some (skipping inner)
  plain_word inner None is = refl
  plain_word inner (Some word.If) is = bad is
  plain_word inner (Some word.Endc) is = bad is
  plain_word inner (Some word.Iff) is = no_part inner is_past (inner == 0) is
  plain_word inner (Some word.Ift) is = no_part inner is_past (inner == 0) is
  plain_word inner (Some word.Iftf) is = no_part inner is_past (inner == 0) is
  plain_word inner (Some word.Iif) is = refl
  plain_word inner (Some word.Macro) is = refl
  plain_word inner (Some word.Endm) is = refl
  plain_word inner (Some word.Rept) is = refl
  plain_word inner (Some word.Endr) is = refl
  plain_word inner (Some word.Irp) is = refl
  plain_word inner (Some word.Irpc) is = refl
  plain_word inner (Some word.Mexit) is = refl
  plain_word inner (Some word.Narg) is = refl
  plain_word inner (Some word.Nchr) is = refl
  plain_word inner (Some word.End) is = refl

  one_more : (inner : ℕ) → skipped_by (skipping inner) (Some word.If) ≡ Some (skipping (suc inner))
  one_more inner =
      let sum : inner + 1 ≡ suc inner = omega arith in
      ap (λ (n : ℕ). Some (skipping n)) sum

  one_less : (inner : ℕ) → skipped_by (skipping (suc inner)) (Some word.Endc) ≡ Some (skipping inner)
  one_less inner =
      let some : (suc inner == 0) ≡ false = grind (arith, nat_tests) in
      let less : suc inner - 1 ≡ inner = omega arith in
      ap (λ (b : Bool). if b then None else Some (skipping (suc inner - 1))) some ∙ ap (λ (n : ℕ). Some (skipping n)) less

  -- ---- lines

  skips_line : (inner next : ℕ) (situation : Situation) (line : SourceLine) (left : List RemainingItem)
      → is_past || not (is_live_inside level.entered) ≡ true
      → skipped_by (skipping inner) (directive line.text) ≡ Some (skipping next)
      → move (text_stage inner situation (Line line ∷ left)) ≡ Passes (text_stage next (counting 1 situation) left)
  skips_line inner next situation line left skips is =
      let here : Stage = text_stage inner (counting 1 situation) left in
      ap (λ (b : Bool). live_or_skipped (if b then skipped_by (skipping inner) (directive line.text) else None) line here) skips
      ∙ ap (λ (c : Option OpenConditions). live_or_skipped c line here) is

  abbrev Skips : ℕ → ℕ → List SourceLine → Situation → List RemainingItem → Type 0
  Skips inner last lines situation left = Runs (text_stage inner situation (map line_left lines ++ left)) []
      (λ s. s ≡ text_stage last (counting (length lines) situation) left)

  one_skipped : (inner next last : ℕ) (line : SourceLine) (lines : List SourceLine) (situation : Situation) (left : List RemainingItem)
      → is_past || not (is_live_inside level.entered) ≡ true
      → skipped_by (skipping inner) (directive line.text) ≡ Some (skipping next)
      → Skips next last lines (counting 1 situation) left → Skips inner last (line ∷ lines) situation left
  one_skipped inner next last line lines situation left skips is more =
      let all : List RemainingItem = map line_left lines ++ left in
      let P : Stage → Type 0 = λ s. s ≡ text_stage last (counting (length (line ∷ lines)) situation) left in
      let sum : situation.taken + 1 + length lines ≡ situation.taken + suc (length lines) = omega arith in
      let same : text_stage last (counting (length lines) (counting 1 situation)) left
      ≡ text_stage last (counting (length (line ∷ lines)) situation) left
      = ap (λ (n : ℕ). text_stage last (record situation { taken = n }) left) sum in
      passes_on P (text_stage inner situation (Line line ∷ all)) (text_stage next (counting 1 situation) all) []
      (skips_line inner next situation line all skips is)
      (weakened (λ s. s ≡ text_stage last (counting (length lines) (counting 1 situation)) left) P
      (text_stage next (counting 1 situation) all) [] (λ s stands. stands ∙ same) more)

  pub skips_text : (inner : ℕ) (lines : List SourceLine) (last : ℕ) → IsText is_past inner lines last → (situation : Situation)
      (left : List RemainingItem) → is_past || not (is_live_inside level.entered) ≡ true → Skips inner last lines situation left
  skips_text _ _ _ (shapes.IsText.Nothing inner) situation left skips =
      let none : situation.taken ≡ situation.taken + 0 = omega arith in
      stays (λ s. s ≡ text_stage inner (counting 0 situation) left) (text_stage inner situation left)
      (ap (λ (n : ℕ). text_stage inner (record situation { taken = n }) left) none)
  skips_text _ _ _ (shapes.IsText.Plain inner last line lines is text) situation left skips =
      one_skipped inner inner last line lines situation left skips (plain_word inner (directive line.text) is)
      (skips_text inner lines last text (counting 1 situation) left skips)
  skips_text _ _ _ (shapes.IsText.If inner last line lines is text) situation left skips =
      one_skipped inner (suc inner) last line lines situation left skips (ap (skipped_by (skipping inner)) is ∙ one_more inner)
      (skips_text (suc inner) lines last text (counting 1 situation) left skips)
  skips_text _ _ _ (shapes.IsText.EndCondition inner last line lines is text) situation left skips =
      one_skipped (suc inner) inner last line lines situation left skips (ap (skipped_by (skipping (suc inner))) is
      ∙ one_less inner)
      (skips_text inner lines last text (counting 1 situation) left skips)
