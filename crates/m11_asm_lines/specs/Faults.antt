-- The meaning of a fault: a limit is exceeded, or memory was refused. (This project's own.)
use Rattle.std.specs.Prelude.{◌≡◌, ◌<◌, ◌≤◌, true, false, length}
use Rattle.m11_asm_faults.specs.declared.fault.AsmFault.{AsmFault}
use Rattle.m11_asm_faults.specs.declared.fault.AsmFault.TheVariants.{TooManySymbols, TooManySections, NoMemory}
use Rattle.m11_asm_rules.specs.Limits.{has_too_many, most_sections}
use Rattle.m11_asm_rules.specs.Tables.{Table}

-- a line can have this fault: `TooManySymbols` only if the first condition holds, `TooManySections` only if the second one does, and
-- `NoMemory` at any time; a line has no other fault
abbrev pub Refuses : AsmFault → Type 0 → Type 0 → Type 0
Refuses TooManySymbols symbols sections = symbols
Refuses TooManySections symbols sections = sections
Refuses NoMemory symbols sections = Unit {0}
Refuses fault symbols sections = ⊥

-- a change is refused: the table after it would have too many names, local symbols or sections; or memory is refused, and the table
-- after it would exceed none of these limits
abbrev pub Overfills : AsmFault → Table → Type 0
Overfills TooManySymbols after = has_too_many after ≡ true
Overfills TooManySections after = most_sections < length after.sections
Overfills NoMemory after = (has_too_many after ≡ false) × (length after.sections ≤ most_sections)
Overfills fault after = ⊥

-- definitions are refused: the table after them would have too many names or local symbols, or memory is refused
abbrev pub HasTooMany : AsmFault → Table → Type 0
HasTooMany fault after = Refuses fault (has_too_many after ≡ true) ⊥

-- definitions are refused, with their limits checked before anything grows: memory is refused only if no limit is exceeded
pub record OverfillsFirst (fault : AsmFault) (after : Table) : Type 0 where
  pub overfills : HasTooMany fault after
  pub limits_first : fault ≡ NoMemory → has_too_many after ≡ false
