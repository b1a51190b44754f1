-- What is true of the feeds of a link is true of their inputs, which are the texts and counts of failures of the feeds.
use Rattle.std.proofs.Common.{◌≡◌, ◌∙◌, ℕ, List, [], ◌∷◌, inl, inr, refl, ap, option_map, Option, Some, None, Result, Ok, Err}
use Rattle.std.proofs.lemmas.List.{map-append}
use Rattle.std.specs.Borrow.{Bor}
use Rattle.m11_cpu_machine.specs.Dialogue.{Input, input_of}
use Rattle.m11_base.specs.Devices.{Bytes}
use Rattle.m11_base.specs.Feed.{NoneFailed, Text}
use Rattle.m11_base.specs.Sink.{handed_on}
use Rattle.m11_base.specs.declared.sink.Sink.{Ghosts}
use Rattle.m11_base_files.specs.Opens.{Files, IsEmptiedSome, keeping_some}
use Rattle.m11_link_modules.specs.Parts.{Part}
use Rattle.m11_link_layout.specs.declared.fault.LinkFault.{LinkFault}
use Rattle.m11_link_layout.specs.declared.fault.LinkFault.TheVariants as fault
use Rattle.m11_base_writes.specs.Passes.{pass_of}
use Rattle.m11_link.specs.FirstPass.{AtFeed, LacksMemory, ReadsFirst}
use Rattle.m11_link.specs.Objects.{Item, GiveItems, FailAfter}
use Rattle.m11_link.specs.SecondPass.{ReadsSecond, LinkRuns}
use Rattle.m11_base_writes.specs.States.{OutputState, optional_output, output_of}
use Rattle.m11_base_writes.specs.Outputs.{Outputs}
use Rattle.m11_link.specs.declared.emit.LinkDone.{LinkDone}
use Rattle.m11_link_text.specs.Findings.{Findings, findings_of}
use Rattle.m11_cli.specs.Driver.{got, known}
use Rattle.m11_cli.proofs.Sources.{give, none, one, seen}

-- the state of an output that may be missing
abbrev pub seen_output : {S : Type 0} → Ghosts S → Option S → Option OutputState
seen_output sinks map = option_map (output_of sinks) map

-- the bytes that a sink has passed on
abbrev pub handed_on_by : {S : Type 0} → Ghosts S → S → Option Bytes
handed_on_by sinks sink = handed_on (sinks.text sink) (sinks.held sink)

pub same_output : {S : Type 0} (sinks : Ghosts S) (map : Option S)
    → optional_output sinks map ≡ optional_output known (seen_output sinks map)
same_output sinks None = refl
same_output sinks (Some s) = refl

-- if an optional output is empty, so is its state; handed back, both leave the same files
pub emptied : {S : Type 0} (sinks : Ghosts S) (files : Option Files) (path : Option (Bor (List ℕ))) (map : Option S)
    → IsEmptiedSome sinks.text files path map
    → IsEmptiedSome (λ output. output.text) files path (seen_output sinks map)
emptied sinks files None None h = tt
emptied sinks files None (Some s) h = absurd h
emptied sinks files (Some path) None h = absurd h
emptied sinks files (Some path) (Some s) h = h

pub kept : {S : Type 0} (sinks : Ghosts S) (path : Option (Bor (List ℕ))) (map : Option S) (files : Option Files)
    → keeping_some (handed_on_by sinks) path map files ≡ keeping_some got path (seen_output sinks map) files
kept sinks None None files = refl
kept sinks None (Some s) files = refl
kept sinks (Some path) None files = refl
kept sinks (Some path) (Some s) files = refl

module _ {F : Type 0} (text : F → Option Text) (faults : F → ℕ) where
  given : (feeds : List F) (items : List Item) → GiveItems text feeds items
      → GiveItems (λ s. s.text) (seen text faults feeds) items
  given feeds items h =
      record { sources = h.sources; given = give text faults feeds h.sources h.given; are = h.are }

  failed : (olds news : List F) (items : List Item) → FailAfter text faults olds news items
      → FailAfter (λ s. s.text) (λ s. s.faults) (seen text faults olds) (seen text faults news) items
  failed olds news items h = record {
    sources = h.sources;
    beginning = h.beginning;
    failed = one text faults olds news h.sources h.beginning h.failed;
    before = h.before;
    own = h.own;
    are = h.are;
    begun = h.begun;
    items-are = h.items-are;
  }

  carried : (olds news : List F) (P : List Item → Type 0)
      → NoneFailed faults olds news × (items : List Item) × GiveItems text olds items × P items
      → NoneFailed (λ s. s.faults) (seen text faults olds) (seen text faults news)
      × (items : List Item) × GiveItems (λ s. s.text) (seen text faults olds) items × P items
  carried olds news P h = (none text faults olds news h.0, h.1, given olds h.1 h.2, h.3)

  -- where memory was refused
  at_feed : (olds news : List F) (before : List Part) → AtFeed (pass_of text faults olds news) before
      → AtFeed (pass_of (λ s. s.text) (λ s. s.faults) (seen text faults olds) (seen text faults news)) before
  at_feed olds news before h =
      let input : F → Input = λ x. input_of (text x) (faults x) in (
        seen text faults h.0,
        seen text faults h.1,
        seen text faults h.2,
        input h.3,
        input h.4,
        ap (seen text faults) h.5 ∙ map-append input h.0 (h.3 ∷ h.2),
        ap (seen text faults) h.6 ∙ map-append input h.1 (h.4 ∷ h.2),
        h.7,
        given h.0 h.7 h.8,
        h.9,
        h.10,
        h.11,
      )

  lacks : (olds news : List F) → LacksMemory (pass_of text faults olds news)
      → LacksMemory (pass_of (λ s. s.text) (λ s. s.faults) (seen text faults olds) (seen text faults news))
  lacks olds news (inl h) = inl (at_feed olds news [] h)
  lacks olds news (inr h) = inr (h.0, given olds h.0 h.1, h.2)

  first : (olds news : List F) (bottom : ℕ) (result : Result (List Part) LinkFault)
      → ReadsFirst (pass_of text faults olds news) bottom result
      → ReadsFirst (pass_of (λ s. s.text) (λ s. s.faults) (seen text faults olds) (seen text faults news)) bottom result
  first olds news bottom (Ok parts) h = (none text faults olds news h.0, h.1, given olds h.1 h.2, h.3)
  first olds news bottom (Err fault.Read) h = (h.0, failed olds news h.0 h.1, h.2)
  first olds news bottom (Err (fault.Block inner)) h = carried olds news _ h
  first olds news bottom (Err (fault.Record inner)) h = carried olds news _ h
  first olds news bottom (Err fault.BadOrder) h = carried olds news _ h
  first olds news bottom (Err fault.NoText) h = carried olds news _ h
  first olds news bottom (Err fault.BadDisplacement) h = carried olds news _ h
  first olds news bottom (Err fault.UnknownSection) h = carried olds news _ h
  first olds news bottom (Err fault.TooLarge) h = carried olds news _ h
  first olds news bottom (Err fault.TooManyGlobals) h = carried olds news _ h
  first olds news bottom (Err fault.TooManySections) h = carried olds news _ h
  first olds news bottom (Err fault.TooManyModules) h = carried olds news _ h
  first olds news bottom (Err fault.TooMuch) h = carried olds news _ h
  first olds news bottom (Err fault.TextOutside) h = carried olds news _ h
  first olds news bottom (Err (fault.Write output)) h = carried olds news _ h
  first olds news bottom (Err fault.NoMemory) h = (none text faults olds news h.0, lacks olds news h.1)

  second : (olds news : List F) (found : Findings) (old new : Outputs) (result : Result LinkDone LinkFault)
      → ReadsSecond (pass_of text faults olds news) found old new result
      → ReadsSecond (pass_of (λ s. s.text) (λ s. s.faults) (seen text faults olds) (seen text faults news)) found old new result
  second olds news found old new (Ok done) h =
      (none text faults olds news h.0, h.1, given olds h.1 h.2, h.3, h.4, h.5, h.6, h.7)
  second olds news found old new (Err fault.Read) h = (h.0, failed olds news h.0 h.1, h.2)
  second olds news found old new (Err (fault.Block inner)) h = (none text faults olds news h.0, h.1, given olds h.1 h.2, h.3)
  second olds news found old new (Err (fault.Record inner)) h = (none text faults olds news h.0, h.1, given olds h.1 h.2, h.3)
  second olds news found old new (Err fault.BadOrder) h = (none text faults olds news h.0, h.1, given olds h.1 h.2, h.3)
  second olds news found old new (Err fault.NoText) h = (none text faults olds news h.0, h.1, given olds h.1 h.2, h.3)
  second olds news found old new (Err fault.BadDisplacement) h = (none text faults olds news h.0, h.1, given olds h.1 h.2, h.3)
  second olds news found old new (Err fault.UnknownSection) h = (none text faults olds news h.0, h.1, given olds h.1 h.2, h.3)
  second olds news found old new (Err fault.TooLarge) h = (none text faults olds news h.0, h.1, given olds h.1 h.2, h.3)
  second olds news found old new (Err fault.TooManyGlobals) h = (none text faults olds news h.0, h.1, given olds h.1 h.2, h.3)
  second olds news found old new (Err fault.TooManySections) h = (none text faults olds news h.0, h.1, given olds h.1 h.2, h.3)
  second olds news found old new (Err fault.TooManyModules) h = (none text faults olds news h.0, h.1, given olds h.1 h.2, h.3)
  second olds news found old new (Err fault.TooMuch) h = (none text faults olds news h.0, h.1, given olds h.1 h.2, h.3)
  second olds news found old new (Err fault.TextOutside) h = (none text faults olds news h.0, h.1, given olds h.1 h.2, h.3)
  second olds news found old new (Err (fault.Write output)) h =
      (none text faults olds news h.0, h.1, given olds h.1 h.2, h.3, h.4, h.5)
  second olds news found old new (Err fault.NoMemory) h =
      (none text faults olds news h.0, h.1, given olds h.1 h.2, h.3, h.4, h.5, lacks olds news h.6)

  pub link_runs : (olds news again later : List F) (bottom : ℕ) (old new : Outputs) (result : Result LinkDone LinkFault)
      → LinkRuns (pass_of text faults olds news) (pass_of text faults again later) bottom old new result
      → LinkRuns (pass_of (λ s. s.text) (λ s. s.faults) (seen text faults olds) (seen text faults news))
      (pass_of (λ s. s.text) (λ s. s.faults) (seen text faults again) (seen text faults later)) bottom old new result
  link_runs olds news again later bottom old new (Ok done) h =
      (h.0, first olds news bottom (Ok h.0) h.1, second again later (findings_of bottom h.0) old new (Ok done) h.2)
  link_runs olds news again later bottom old new (Err stopped) (inl h) =
      inl (first olds news bottom (Err stopped) h.0, ap (seen text faults) h.1, h.2)
  link_runs olds news again later bottom old new (Err stopped) (inr h) =
      inr (h.0, first olds news bottom (Ok h.0) h.1, second again later (findings_of bottom h.0) old new (Err stopped) h.2)
