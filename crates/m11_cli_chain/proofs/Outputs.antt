-- The outputs of runs in memory with new sinks.
use Rattle.std.proofs.Common.{◌≡◌, ◌≢◌, ◌∙◌, ◌⊎◌, ℕ, List, [], ◌++◌, Option, Some, None, Result, Ok, Err, refl, sym, ap, subst, inl, inr}
use Rattle.std.specs.Io.KnownBytes.{Appends}
use Rattle.m11_asm_faults.specs.declared.fault.AsmFault.{AsmFault}
use Rattle.m11_asm_faults.specs.declared.fault.AsmFault.TheVariants as assembly
use Rattle.m11_base_writes.specs.declared.outputs.Output.TheVariants.{Product}
use Rattle.m11_base_writes.specs.Outputs.{Outputs}
use Rattle.m11_base.specs.Devices.{Bytes}
use Rattle.m11_link_layout.specs.declared.fault.LinkFault.{LinkFault}
use Rattle.m11_link_layout.specs.declared.fault.LinkFault.TheVariants as fault
use Rattle.m11_link.specs.Objects.{AreItems, Item, outcome}
use Rattle.m11_link.specs.declared.emit.LinkDone.{LinkDone}
use Rattle.m11_link_laws.specs.Runs.{IsDecided, IsRefusal, MayStop}
use Rattle.m11_link_modules.specs.Parts.{Part}
use Rattle.m11_asm_outcome_laws.specs.Beginnings as assemblies
use Rattle.m11_asm_outcome_laws.specs.Live.{AreRefused}
use Rattle.m11_cli_chain.specs.Assemblies.{WritesObject}
use Rattle.m11_cli_chain.specs.Steps.{AssemblyFails, IsObjectOf, IsTapeOfObjects, LinkFails, of_assembly, of_link}
use Rattle.m11_cli_chain.specs.declared.fault.ChainFault.{ChainFault}

same_text : (one other : Bytes) → ◌≡◌ {A = Option Bytes} (Some one) (Some other) → one ≡ other
same_text one other e = cc

-- a sink that was empty has exactly the bytes appended
appended : (old new : Option Bytes) (bytes written : Bytes) → old ≡ Some [] → new ≡ Some bytes → Appends old new written
    → bytes ≡ written
appended (Some before) (Some after) bytes written e f h =
    sym (same_text after bytes f) ∙ h ∙ ap (λ (bs : Bytes). bs ++ written) (same_text before [] e)
appended (Some before) None bytes written e f h = absurd cc
appended None new bytes written e f h = absurd cc

-- ---- an assembly

pub is_object : (texts : List Bytes) (old new : Outputs) → WritesObject texts old new → (object : Bytes) → (old Product).text ≡ Some []
    → (new Product).text ≡ Some object → IsObjectOf texts object
is_object texts old new w object empty has = record {
  lines = w.lines;
  live = w.live;
  fits = w.fits;
  object_is = appended (old Product).text (new Product).text object _ empty has w.appends;
}

fails_by : (texts : List Bytes) (stopped : AsmFault) → stopped ≢ assembly.Read → assemblies.MayStop stopped ⊎ AreRefused texts stopped
    → AssemblyFails texts (of_assembly stopped)
fails_by texts assembly.Read unread h = absurd (unread refl)
fails_by texts (assembly.Write output) unread h = tt
fails_by texts assembly.NoMemory unread h = tt
fails_by texts stopped unread (inl may) = absurd may
fails_by texts stopped unread (inr refused) = (tt, refused)

pub assembly_fails : (texts : List Bytes) (stopped : AsmFault) (given : ChainFault) → given ≡ of_assembly stopped
    → stopped ≢ assembly.Read → assemblies.MayStop stopped ⊎ AreRefused texts stopped → AssemblyFails texts given
assembly_fails texts stopped given same unread h =
    subst (λ (f : ChainFault). AssemblyFails texts f) (sym same) (fails_by texts stopped unread h)

-- ---- a link

module _ (bottom : ℕ) (objects : List Bytes) (items : List Item) (are : AreItems objects items) (old new : Outputs) where
  is_tape : (came : Result (List Part) LinkFault) → outcome bottom items ≡ came → (done : LinkDone) → IsDecided bottom came old new (Ok done)
      → (tape : Bytes) → (old Product).text ≡ Some [] → (new Product).text ≡ Some tape → IsTapeOfObjects bottom objects tape
  is_tape (Ok parts) comes done h tape empty has = record {
    items = items;
    are = are;
    parts = parts;
    parts_are = comes;
    tape_is = appended (old Product).text (new Product).text tape _ empty has (h.0.texts Product);
  }
  is_tape (Err stopped) comes done h tape empty has = absurd h

  stops : (stopped : LinkFault) → stopped ≢ fault.Read → MayStop stopped → LinkFails bottom objects (of_link stopped)
  stops fault.Read unread may = absurd (unread refl)
  stops (fault.Write output) unread may = tt
  stops fault.NoMemory unread may = tt
  stops stopped unread may = absurd may

  refusal : (refused stopped : LinkFault) → stopped ≢ fault.Read → outcome bottom items ≡ Err refused → IsRefusal refused stopped
      → LinkFails bottom objects (of_link stopped)
  refusal refused fault.Read unread comes h = absurd (unread refl)
  refusal refused (fault.Write output) unread comes h = tt
  refusal refused fault.NoMemory unread comes h = tt
  refusal refused stopped unread comes h =
      (tt, record { items = items; are = are; refused = comes ∙ ap (λ (f : LinkFault). Err f) (sym h) })

  fails_so : (came : Result (List Part) LinkFault) → outcome bottom items ≡ came → (stopped : LinkFault) → stopped ≢ fault.Read
      → IsDecided bottom came old new (Err stopped) → LinkFails bottom objects (of_link stopped)
  fails_so (Ok parts) comes stopped unread h = stops stopped unread h.0
  fails_so (Err refused) comes stopped unread h = refusal refused stopped unread comes h.0

  pub writes_tape : (done : LinkDone) → IsDecided bottom (outcome bottom items) old new (Ok done) → (tape : Bytes)
      → (old Product).text ≡ Some [] → (new Product).text ≡ Some tape → IsTapeOfObjects bottom objects tape
  writes_tape done h tape empty has = is_tape (outcome bottom items) refl done h tape empty has

  pub link_fails : (stopped : LinkFault) (given : ChainFault) → given ≡ of_link stopped → stopped ≢ fault.Read
      → IsDecided bottom (outcome bottom items) old new (Err stopped) → LinkFails bottom objects given
  link_fails stopped given same unread h =
      subst (λ (f : ChainFault). LinkFails bottom objects f) (sym same) (fails_so (outcome bottom items) refl stopped unread h)
