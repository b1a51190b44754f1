-- How a live line fails. For lack of memory it fails only before a limit is exceeded: an operator that unfolding doesn't execute reads no
-- symbols there, and one that it executes selects no section.
use Rattle.std.proofs.Common.{◌≡◌, ◌∙◌, ℕ, Bool, true, false, if◌then◌else◌, [], Option, Some, None, true≢false, refl, sym, ap}
use Rattle.m11_asm_faults.specs.Faults.{of_unfolding}
use Rattle.m11_asm_faults.specs.declared.fault.AsmFault.{AsmFault}
use Rattle.m11_asm_faults.specs.declared.fault.AsmFault.TheVariants.{Read, Write, TooManySymbols, TooManySections, Unfold, TooMuchSource, NoMemory}
use Rattle.m11_base.specs.Devices.{Bytes}
use Rattle.m11_scan_expressions.specs.Expressions.{KnownSymbols}
use Rattle.m11_scan_expressions.specs.Remarks.{Remarks, no_remarks}
use Rattle.m11_unfold_bodies.specs.Conditions.{has_none}
use Rattle.m11_unfold_bodies.specs.Left.{is_expanding}
use Rattle.m11_unfold.specs.Steps.{FailsGrowing, executes}
use Rattle.m11_unfold_rules.specs.Acting.{Acted, Operation, Calls, OwnDirective, Foreign, act, act_fault, acted_by, operation}
use Rattle.m11_unfold_rules.specs.Limits.{has_room}
use Rattle.m11_unfold_rules.specs.Stages.{Stage}
use Rattle.m11_unfold_rules.specs.Taking.{Live}
use Rattle.m11_unfold_rules.specs.declared.directives.Directive.{Directive}
use Rattle.m11_unfold_rules.specs.declared.directives.Directive.TheVariants as word
use Rattle.m11_unfold_rules.specs.declared.fault.UnfoldFault.{UnfoldFault}
use Rattle.m11_unfold_rules.specs.declared.fault.UnfoldFault.TheVariants as limit
use Rattle.m11_asm_rules.specs.Meanings.{Map}
use Rattle.m11_asm_rules.specs.Operations.{action}
use Rattle.m11_asm_rules.specs.Tables.{Table}
use Rattle.m11_asm_lines.specs.Actions.{selects}
use Rattle.m11_asm_lines.specs.declared.counting.Counting.{Counting}
use Rattle.m11_asm_passes.specs.Faults.{Fails, FailsAtLine}
use Rattle.m11_asm_passes.specs.Faults as faults
use Rattle.m11_asm_passes.specs.Labelled.{FitUpToOne}
use Rattle.m11_asm_passes.specs.Refusals.{labels_fault, line_fault}

-- what belongs to unfolding, or else has no remarks
abbrev IsSilent : Acted → Type 0
IsSilent acted = acted.is_own ≡ false → acted.remarks ≡ no_remarks

own_silent : (acted : Acted) → acted.is_own ≡ true → IsSilent acted
own_silent acted is = λ other. absurd (true≢false (sym is ∙ other))

choice_silent : (b : Bool) (one other : Acted) → one.is_own ≡ true → other.is_own ≡ true → IsSilent (if b then one else other)
choice_silent true one other first second = own_silent one first
choice_silent false one other first second = own_silent other second

directive_silent : (known : KnownSymbols) (text : Bytes) (column : ℕ) (stage : Stage) (of : Directive)
    → IsSilent (acted_by known text stage (OwnDirective of column))
directive_silent known text column stage word.If = choice_silent (has_room stage) _ _ refl refl
directive_silent known text column stage word.Iff = choice_silent (has_none stage.conditions) _ _ refl refl
directive_silent known text column stage word.Ift = choice_silent (has_none stage.conditions) _ _ refl refl
directive_silent known text column stage word.Iftf = choice_silent (has_none stage.conditions) _ _ refl refl
directive_silent known text column stage word.Endc = choice_silent (has_none stage.conditions) _ _ refl refl
directive_silent known text column stage word.Iif = λ other. absurd (true≢false other)
directive_silent known text column stage word.Macro = λ other. absurd (true≢false other)
directive_silent known text column stage word.Endm = λ other. absurd (true≢false other)
directive_silent known text column stage word.Rept = λ other. absurd (true≢false other)
directive_silent known text column stage word.Endr = λ other. absurd (true≢false other)
directive_silent known text column stage word.Irp = λ other. absurd (true≢false other)
directive_silent known text column stage word.Irpc = λ other. absurd (true≢false other)
directive_silent known text column stage word.Mexit = choice_silent (is_expanding stage.left) _ _ refl refl
directive_silent known text column stage word.Narg = λ other. refl
directive_silent known text column stage word.Nchr = λ other. refl
directive_silent known text column stage word.End = λ other. refl

operation_silent : (known : KnownSymbols) (text : Bytes) (stage : Stage) (of : Operation) → IsSilent (acted_by known text stage of)
operation_silent known text stage Foreign = λ other. refl
operation_silent known text stage (Calls macro column) = λ other. absurd (true≢false other)
operation_silent known text stage (OwnDirective of column) = directive_silent known text column stage of

-- a line that unfolding leaves to the assembler has no remarks of unfolding
pub foreign_silent : (known : KnownSymbols) (stage : Stage) (text : Bytes) → (act known stage text).is_own ≡ false
    → (act known stage text).remarks ≡ no_remarks
foreign_silent known stage text = operation_silent known text stage (operation stage.conditions stage.macros text)

-- a line selects no section if none is selected where unfolding has read no symbols
pub selects_none : (is_own : Bool) (remarks : Remarks) (arguments : Option ℕ) (text : Bytes) → (is_own ≡ false → remarks ≡ no_remarks)
    → (remarks.symbols ≡ [] → selects (action is_own arguments text) ≡ false) → selects (action is_own arguments text) ≡ false
selects_none true remarks arguments text silent none = refl
selects_none false remarks arguments text silent none = none (ap (λ (r : Remarks). r.symbols) (silent refl))

-- ---- the first half of a line

module _ (map_ : Map) (table : Table) (counting : Counting) (live : Live) (stage : Stage) where
  -- the first limit that is exceeded is the one reported
  first_or : (fault : AsmFault) → labels_fault counting table live.line.text ≡ Some fault
      → line_fault map_ table counting live stage ≡ Some fault
  first_or fault is = rw is refl

  pub label_fails : (fault : AsmFault) → Fails (labels_fault counting table live.line.text) fault
      → (fault ≡ NoMemory → FitUpToOne counting table live.line.text) → FailsAtLine map_ table counting live stage fault
  label_fails NoMemory is fits = faults.LacksMemory.AtLabel (fits refl)
  label_fails Read is fits = first_or Read is
  label_fails (Write output) is fits = first_or (Write output) is
  label_fails TooManySymbols is fits = first_or TooManySymbols is
  label_fails TooManySections is fits = first_or TooManySections is
  label_fails (Unfold inner) is fits = first_or (Unfold inner) is
  label_fails TooMuchSource is fits = first_or TooMuchSource is

  module _ (fits : labels_fault counting table live.line.text ≡ None) where
    then_or : (inner : UnfoldFault) → act_fault stage live.line.text ≡ Some inner
        → line_fault map_ table counting live stage ≡ Some (of_unfolding inner)
    then_or inner is = rw (fits, is) refl

    pub act_fails : (inner : UnfoldFault) → FailsGrowing (act_fault stage live.line.text) (executes stage live.line.text) inner
        → FailsAtLine map_ table counting live stage (of_unfolding inner)
    act_fails limit.NoMemory fails = faults.LacksMemory.AtOperator fits fails.0 fails.1
    act_fails limit.TooDeep fails = then_or limit.TooDeep fails
    act_fails limit.TooManyLines fails = then_or limit.TooManyLines fails
    act_fails limit.TooMuchText fails = then_or limit.TooMuchText fails
    act_fails limit.TooManyMacros fails = then_or limit.TooManyMacros fails
