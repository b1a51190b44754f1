-- The result of a run: the load map of objects, the fault of a link's first pass, or a failed write. (This project's own.)
use Rattle.std.specs.Prelude.{◌≡◌, ℕ, List, Result, Ok, Err}
use Rattle.std.specs.Io.KnownBytes.{Appends}
use Rattle.m11_base.specs.Devices.{Bytes, Rises}
use Rattle.m11_base.specs.Feed.{NoneFailed}
use Rattle.m11_base.specs.Sink.{AppendsPrefix}
use Rattle.m11_link_modules.specs.Parts.{Part}
use Rattle.m11_link_layout.specs.Plan.{PlanTables}
use Rattle.m11_link_layout.specs.declared.planned.PlannedGlobal.{PlannedGlobal}
use Rattle.m11_link_layout.specs.Plan.{planned_base, planned_globals, planned_module}
use Rattle.m11_base_writes.specs.Passes.{Pass}
use Rattle.m11_link.specs.Objects.{Item, GiveItems, outcome}
use Rattle.m11_link_load_map.specs.LoadMap.{Contribution, IsByValue, IsLoadMap, contribution_line, map_text}
use Rattle.m11_link_load_map.specs.Noted.{contributions_from}
use Rattle.m11_link_load_map.specs.Stopping.{IsRefused}
use Rattle.m11_link_load_map.specs.declared.fault.LoadMapFault.{LoadMapFault}
use Rattle.m11_link_load_map.specs.declared.fault.LoadMapFault.TheVariants.{Objects, Write}
use Rattle.m11_link_load_map.specs.declared.fault.ObjectsFault.{ObjectsFault}
use Rattle.m11_link_load_map.specs.declared.noted.MapFact.{MapFact}
use Rattle.m11_base_writes.specs.States.{OutputState}

-- a link accepts the parts of the objects that the feeds yielded, and this is their map
abbrev pub Maps : {F : Type 0} → Pass F → ℕ → Bytes → Type 0
Maps pass bottom text = NoneFailed pass.faults pass.old pass.new
    × (items : List Item) × GiveItems pass.text pass.old items
    × (parts : List Part) × (outcome bottom items ≡ Ok parts) × IsLoadMap bottom parts text

-- the map of objects; or the fault of the first pass of a link, and the object at fault
abbrev pub MakesMap : {F : Type 0} → Pass F → ℕ → Result Bytes ObjectsFault → Type 0
MakesMap pass bottom (Ok text) = Maps pass bottom text
MakesMap pass bottom (Err stopped) = IsRefused pass bottom stopped

-- the output gained the map of the objects; or a link refuses them or memory was refused, and the output is unchanged; or the output
-- failed after a prefix of the map was written
abbrev pub LoadMapRuns : {F : Type 0} → Pass F → ℕ → OutputState → OutputState → Result (Unit {0}) LoadMapFault → Type 0
LoadMapRuns pass bottom out out' (Ok done) =
    (text : Bytes) × Maps pass bottom text × Appends out.text out'.text text × (out'.faults ≡ out.faults)
LoadMapRuns pass bottom out out' (Err (Objects stopped)) = IsRefused pass bottom stopped × (out' ≡ out)
LoadMapRuns pass bottom out out' (Err Write) =
    (text : Bytes) × Maps pass bottom text × AppendsPrefix out.text out'.text text × Rises out.faults out'.faults

-- ---- the map from a plan

-- the line for a contribution, with its address in the plan
abbrev pub planned_line : PlanTables → Contribution → Bytes
planned_line plan = contribution_line (λ index name. planned_base plan index name) (λ index. planned_module plan index)

-- the map, from a plan and the facts recorded about the parts
abbrev pub IsMapBy : PlanTables → List MapFact → Bytes → Type 0
IsMapBy plan noted text = (order : List PlannedGlobal) × IsByValue (planned_globals plan) order
    × (text ≡ map_text (λ index name. planned_base plan index name) (λ index. planned_module plan index) plan.bottom plan.top
    (contributions_from 0 noted) order)
