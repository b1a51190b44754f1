-- The globals of a link of objects, as symbols. (The definition of a link says which they are. Their order, that of first definitions, is this
-- project's own.)
use Rattle.std.specs.Prelude.{◌≡◌, ℕ, List, ◌++◌, map, Result, Ok, Err}
use Rattle.m11_base.specs.Feed.{NoneFailed}
use Rattle.m11_base_disassembly.specs.declared.symbols.Scope.TheVariants.{Unknown}
use Rattle.m11_base_disassembly.specs.declared.symbols.Symbol.{Symbol}
use Rattle.m11_base_writes.specs.Passes.{Pass}
use Rattle.m11_link.specs.Objects.{Item, GiveItems, outcome}
use Rattle.m11_link_layout.specs.Globals.{globals_of}
use Rattle.m11_link_layout.specs.declared.planned.PlannedGlobal.{PlannedGlobal}
use Rattle.m11_link_modules.specs.Parts.{Part}
use Rattle.m11_link_load_map.specs.Stopping.{IsRefused}
use Rattle.m11_link_load_map.specs.declared.fault.ObjectsFault.{ObjectsFault}

abbrev pub symbol_of : PlannedGlobal → Symbol
symbol_of global = record { name = global.name; value = global.value; scope = Unknown }

-- a link accepts the parts of the objects that the feeds yielded, with relocatable sections beginning at `bottom`, and these are its
-- globals
abbrev pub HasGlobals : {F : Type 0} → Pass F → ℕ → List Symbol → Type 0
HasGlobals pass bottom symbols = NoneFailed pass.faults pass.old pass.new
    × (items : List Item) × GiveItems pass.text pass.old items
    × (parts : List Part) × (outcome bottom items ≡ Ok parts) × (symbols ≡ map symbol_of (globals_of bottom parts))

-- the globals of a link were added to other symbols; or a link refuses the objects, or memory was refused
abbrev pub AddsGlobals : {F : Type 0} → Pass F → ℕ → List Symbol → List Symbol → Result (Unit {0}) ObjectsFault → Type 0
AddsGlobals pass bottom old new (Ok done) = (more : List Symbol) × HasGlobals pass bottom more × (new ≡ old ++ more)
AddsGlobals pass bottom old new (Err stopped) = IsRefused pass bottom stopped
