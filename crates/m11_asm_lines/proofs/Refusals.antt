-- A fault that a call passes on means what it meant where it arose; and what is within the limits when memory is refused.
use Rattle.std.proofs.Common.{◌≡◌, ◌<◌, ◌≤◌, ℕ, ◌+◌, List, [], ◌∷◌, ◌++◌, length, Option, Some, None, Result, Ok, Err, IfErr, IsErrAnd, refl, sym, subst, arith}
use Rattle.std.proofs.lemmas.List.{length-append}
use Rattle.m11_asm_rules.specs.Changes.{with_new}
use Rattle.m11_asm_rules.specs.declared.sections.Section.{Section}
use Rattle.m11_asm_faults.specs.declared.fault.AsmFault.{AsmFault}
use Rattle.m11_asm_faults.specs.declared.fault.AsmFault.TheVariants.{NoMemory}

pub handed_on : {A : Type 0} (P : AsmFault → Type 0) (fault : AsmFault) (result : Result A AsmFault) → P fault
    → IsErrAnd result (λ f. f ≡ fault) → IfErr result P
handed_on P fault (Ok value) holds is = tt
handed_on P fault (Err other) holds is = subst P (sym is) holds

-- ---- where memory is refused

-- a fact that holds in any case holds if memory is refused
pub fits_anyway : {A : Type 0} (fits : Type 0) (result : Result A AsmFault) → fits → IfErr result (λ fault. fault ≡ NoMemory → fits)
fits_anyway fits (Ok value) holds = tt
fits_anyway fits (Err fault) holds = λ none. holds

pub refused_so : {A : Type 0} (result : Result A AsmFault) (one other : Type 0) → (one → other)
    → IfErr result (λ fault. fault ≡ NoMemory → one) → IfErr result (λ fault. fault ≡ NoMemory → other)
refused_so (Ok value) one other so fits = tt
refused_so (Err fault) one other so fits = λ none. so (fits none)

-- there are at most 64 sections after one is selected, if it is known or there is room for it
new_fits : (found : Option ℕ) (new : Section) (sections : List Section) → length sections ≤ 64 → (found ≡ None → length sections < 64)
    → length (with_new found new sections) ≤ 64
new_fits (Some number) new sections few room = few
new_fits None new sections few room =
    let one_more : length (sections ++ new ∷ []) ≡ length sections + 1 = length-append sections (new ∷ []) in
    let fewer : length sections < 64 = room refl in
    omega (arith, one_more, fewer)
