-- Whole lists of parts: when the rules accept them, when they are in order, and when they are files of whole modules. (This project's
-- own.)
use Rattle.std.specs.Prelude.{◌≡◌, true, List, ◌∷◌, ◌++◌, Some, None, Result, Ok, Err}
use Rattle.m11_link_modules.specs.declared.fault.ModuleFault.{ModuleFault}
use Rattle.m11_link_modules.specs.declared.fault.ModuleFault.TheVariants.{NoMemory}
use Rattle.m11_link_modules.specs.Grammar.{Module, files_parts}
use Rattle.m11_link_modules.specs.Parts.{Part}
use Rattle.m11_link_modules.specs.Positions.{RulesState, known_of, stage_after}
use Rattle.m11_link_modules.specs.Rules.{StopsAtName, first_fault, may_occur}

-- parts were accepted after the earlier ones, and `new` is the state after the earlier parts and these; or their first fault was
-- returned; or memory was refused at a part that adds a name, and neither that part nor one before it has a fault
abbrev pub AcceptsAfter : List Part → RulesState → List Part → Result (Unit {0}) ModuleFault → Type 0
AcceptsAfter before new parts (Ok done) = (first_fault before parts ≡ None) × (new ≡ known_of (before ++ parts))
AcceptsAfter before new parts (Err NoMemory) = StopsAtName (first_fault before) parts
AcceptsAfter before new parts (Err fault) = first_fault before parts ≡ Some fault

-- each part may come at the stage after the parts before it
abbrev pub AreInOrder : List Part → Type 0
AreInOrder parts = (before : List Part) (part : Part) (following : List Part) → parts ≡ before ++ part ∷ following
    → may_occur part (stage_after before) ≡ true

-- these parts are those of files of whole modules
abbrev pub AreFiles : List Part → Type 0
AreFiles parts = (files : List (List Module)) × (parts ≡ files_parts files)
