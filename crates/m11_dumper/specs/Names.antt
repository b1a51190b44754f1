-- Files shown with names of addresses. (This project's own.)
use Rattle.std.specs.Prelude.{◌≡◌, ◌⊎◌, ℕ, List, Option, Result, Err}
use Rattle.m11_base.specs.Devices.{Bytes}
use Rattle.m11_base.specs.Feed.{Text}
use Rattle.m11_link_load_map.specs.NameFiles.{Names, NoneNamed}
use Rattle.m11_link_load_map.specs.declared.name_files.NoNames.{NoNames}
use Rattle.m11_link_load_map.specs.declared.name_files.NoNames.TheVariants as none
use Rattle.m11_base_disassembly.specs.ListedLines.{PlacedListing}
use Rattle.m11_base_disassembly.specs.declared.kept.Kept.TheVariants as kept
use Rattle.m11_base_disassembly.specs.declared.symbols.Symbol.{Symbol}
use Rattle.m11_base_files.specs.Opens.{Files}
use Rattle.m11_base_writes.specs.States.{OutputState}
use Rattle.m11_dumper.specs.Showing.{ShowsAll}
use Rattle.m11_dumper.specs.declared.paths.Look.{Look}
use Rattle.m11_dumper.specs.declared.stop.Stop.{Stop}
use Rattle.m11_dumper.specs.declared.stop.Stop.TheVariants.{NotOpened, NoSymbols}

-- why nothing is shown, given the reason why there are no names
abbrev pub stop_of : NoNames → Stop
stop_of (none.NotOpened path) = NotOpened path
stop_of (none.InFile path fault) = NoSymbols path fault

-- the files at `paths` are shown, with the names in the files at `names`; or the files at `names` give no names, and nothing is shown
abbrev pub ShowsNamed : {I : Type 0} → (I → Option Text) → (I → ℕ) → Look → ℕ → List Bytes → Option Files → List Bytes → OutputState
    → OutputState → Result (Unit {0}) Stop → Type 0
ShowsNamed text faults look bottom names files paths out out' result =
    ((symbols : List Symbol) × (listings : List PlacedListing) × Names text faults kept.Names bottom files names symbols listings
    × ShowsAll look symbols files paths out out' result)
    ⊎ ((none : NoNames) × NoneNamed text faults kept.Names bottom files names none × (result ≡ Err (stop_of none)) × (out' ≡ out))
