-- The faults of an unfolding, each with its number and its name. (This project's own: no manual defines them.)
use Rattle.std.specs.Prelude.{ℕ, List, codes}
use Rattle.m11_unfold_rules.specs.declared.fault.UnfoldFault.{UnfoldFault}
use Rattle.m11_unfold_rules.specs.declared.fault.UnfoldFault.TheVariants.{TooDeep, TooManyLines, TooMuchText, TooManyMacros, NoMemory}

abbrev pub number_of : UnfoldFault → ℕ
number_of TooDeep = 1
number_of TooManyLines = 2
number_of TooMuchText = 3
number_of TooManyMacros = 4
number_of NoMemory = 90

abbrev pub name_of : UnfoldFault → List ℕ
name_of TooDeep = codes "TooDeep"
name_of TooManyLines = codes "TooManyLines"
name_of TooMuchText = codes "TooMuchText"
name_of TooManyMacros = codes "TooManyMacros"
name_of NoMemory = codes "NoMemory"
