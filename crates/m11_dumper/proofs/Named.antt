-- Files that are shown with names of addresses.
use Rattle.std.proofs.Common.{◌≡◌, ℕ, List, Option, Result, inl, subst}
use Rattle.m11_link_load_map.specs.NameFiles.{Names}
use Rattle.m11_base.specs.Feed.{Text}
use Rattle.m11_base_disassembly.specs.ListedLines.{PlacedListing}
use Rattle.m11_base_disassembly.specs.declared.kept.Kept.TheVariants as kept
use Rattle.m11_base_disassembly.specs.declared.symbols.Symbol.{Symbol}
use Rattle.m11_base_files.specs.Opens.{Files}
use Rattle.m11_base_writes.specs.States.{OutputState}
use Rattle.m11_dumper.specs.Names.{ShowsNamed}
use Rattle.m11_dumper.specs.Showing.{ShowsAll}
use Rattle.m11_dumper.specs.declared.paths.Look.{Look}
use Rattle.m11_dumper.specs.declared.stop.Stop.{Stop}

-- if names were found, and finding them changed no file, the files are shown with these names
pub shown_with : {I : Type 0} (text : I → Option Text) (faults : I → ℕ) (look : Look) (bottom : ℕ) (names : List (List ℕ)) (files middle : Option Files) (paths : List (List ℕ))
    (symbols : List Symbol) (listings : List PlacedListing) (out out' : OutputState) (result : Result (Unit {0}) Stop)
    → Names text faults kept.Names bottom files names symbols listings
    → middle ≡ files → ShowsAll look symbols middle paths out out' result
    → ShowsNamed text faults look bottom names files paths out out' result
shown_with text faults look bottom names files middle paths symbols listings out out' result given same h =
    let P : Option Files → Type 0 = λ f. ShowsAll look symbols f paths out out' result in inl (symbols, listings, given, subst P same h)
