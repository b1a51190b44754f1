-- The number of lines of a source, and the latch of a fault.
use Rattle.std.proofs.Common.{◌≡◌, ◌∙◌, ◌+◌, List, [], ◌∷◌, ◌++◌, length, Option, None, Result, Ok, ap, sym, length-append}
use Rattle.std.specs.Option.{option_or}
use Rattle.std.specs.Result.{result_err}
use Rattle.m11_asm_faults.specs.declared.fault.AsmFault.{AsmFault}
use Rattle.m11_scan.specs.Line.{SourceLine}

pub one_longer : (source : List SourceLine) (line : SourceLine) → length (source ++ line ∷ []) ≡ length source + 1
one_longer source line = length-append source (line ∷ [])

-- an empty latch stays empty after a call that returns Ok
pub keeps_none : {A : Type 0} (kept old : Option AsmFault) (came : Result A AsmFault) (value : A) → kept ≡ option_or old (result_err came)
    → old ≡ None → Ok value ≡ came → kept ≡ None
keeps_none {A} kept old came value kept_is none same =
    kept_is ∙ ap (λ (f : Option AsmFault). option_or f (result_err came)) none
    ∙ ap (λ (r : Result A AsmFault). result_err r) (sym same)
