-- The load map of objects in files. (This project's own.)
use Rattle.std.specs.Prelude.{◌≡◌, ◌<◌, ℕ, List, Option, Some, None, Result, Ok, Err, slice_get, ⊤}
use Rattle.m11_base.specs.Devices.{Bytes}
use Rattle.m11_base.specs.Feed.{Text}
use Rattle.m11_dumper.specs.declared.stop.Stop.{Stop}
use Rattle.m11_dumper.specs.declared.stop.Stop.TheVariants.{NotOpened, InFile, NotTape, SeveralFiles, InObject, InMap, NoSymbols, Write, NoMemory}
use Rattle.m11_base_files.specs.Opens.{AreFiles, Files, IsFirstLacking}
use Rattle.m11_base_writes.specs.Passes.{pass_of}
use Rattle.m11_link_load_map.specs.Run.{LoadMapRuns}
use Rattle.m11_link_load_map.specs.declared.fault.LoadMapFault.{LoadMapFault}
use Rattle.m11_link_load_map.specs.declared.fault.LoadMapFault.TheVariants as map
use Rattle.m11_link_load_map.specs.declared.fault.ObjectsFault.{ObjectsFault}
use Rattle.m11_link_layout.specs.declared.fault.LinkFault.{LinkFault}
use Rattle.m11_base_writes.specs.States.{OutputState}

-- a run for the load map of the objects in the files at these paths has this result, and the output has these states before and after it
abbrev pub Runs : {I : Type 0} → (I → Option Text) → (I → ℕ) → ℕ → Option Files → List Bytes → OutputState → OutputState
    → Result (Unit {0}) LoadMapFault → Type 0
Runs {I} text faults bottom files paths out out' result = (objects : List I) × (objects' : List I)
    × AreFiles text files paths objects × LoadMapRuns (pass_of text faults objects objects') bottom out out' result

-- the fault of the object with this index, and a fault of all objects together
abbrev pub of_one : ℕ → LinkFault → ObjectsFault
of_one index fault = record { object_index = Some index; fault = fault }

abbrev pub of_all : LinkFault → ObjectsFault
of_all fault = record { object_index = None; fault = fault }

-- the load map was shown; or there is none, because of the object at the named path or of all objects together; or it couldn't be
-- written; or the named file is the first that can't be opened; or memory was refused, and nothing was written
abbrev pub ShowsMap : {I : Type 0} → (I → Option Text) → (I → ℕ) → ℕ → Option Files → List Bytes → OutputState → OutputState
    → Result (Unit {0}) Stop → Type 0
ShowsMap text faults bottom files paths out out' (Ok done) = Runs text faults bottom files paths out out' (Ok done)
ShowsMap text faults bottom files paths out out' (Err (InObject named fault)) = (index : ℕ)
    × (slice_get paths index ≡ Some named.now) × Runs text faults bottom files paths out out' (Err (map.Objects (of_one index fault)))
ShowsMap text faults bottom files paths out out' (Err (InMap fault)) =
    Runs text faults bottom files paths out out' (Err (map.Objects (of_all fault)))
ShowsMap text faults bottom files paths out out' (Err Write) = Runs text faults bottom files paths out out' (Err map.Write)
ShowsMap text faults bottom files paths out out' (Err (NotOpened named)) =
    IsFirstLacking files paths named.now × (out' ≡ out)
ShowsMap text faults bottom files paths out out' (Err NoMemory) = out' ≡ out
ShowsMap text faults bottom files paths out out' (Err (InFile named placed)) = ⊥
ShowsMap text faults bottom files paths out out' (Err (NotTape named)) = ⊥
ShowsMap text faults bottom files paths out out' (Err SeveralFiles) = ⊥
ShowsMap text faults bottom files paths out out' (Err (NoSymbols named fault)) = ⊥

-- ---- the object at fault

-- the index, if there is one, is below this count
abbrev pub IsBelow : Option ℕ → ℕ → Type 0
IsBelow None count = ⊤
IsBelow (Some index) count = index < count

-- a fault of objects becomes this stop: with the path of the object at fault, or without one if no single object is at fault
abbrev pub Tells : List Bytes → ObjectsFault → Stop → Type 0
Tells paths stopped (InObject named fault) =
    (index : ℕ) × (slice_get paths index ≡ Some named.now) × (stopped ≡ of_one index fault)
Tells paths stopped (InMap fault) = stopped ≡ of_all fault
Tells paths stopped stop = ⊥
