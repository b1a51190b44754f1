-- A call of `asm` leaves the object of its sources.
use Rattle.std.proofs.Common.{◌≡◌, ◌∙◌, ◌-◌, ℕ, List, [], ◌∷◌, ◌++◌, length, take, Option, Some, None, Result, Ok, refl, ap, ap₂, subst, arith}
use Rattle.std.proofs.lemmas.Grind.{common_steps}
use Rattle.std.specs.Io.KnownBytes.{Appends}
use Rattle.clap.specs.Words.{Text}
use Rattle.m11_asm.specs.Run.{AsmRuns}
use Rattle.m11_asm.specs.declared.done.AsmDone.{AsmDone}
use Rattle.m11_asm_faults.specs.declared.fault.AsmFault.{AsmFault}
use Rattle.m11_base.specs.Devices.{Bytes}
use Rattle.m11_base.specs.Sink.{handed_on}
use Rattle.m11_base_files.specs.Opens.{Files, IsEmptied}
use Rattle.m11_base_writes.specs.Outputs.{Outputs}
use Rattle.m11_base_writes.specs.Passes.{AreKnown, Pass, pass_of}
use Rattle.m11_base_writes.specs.States.{OutputState}
use Rattle.m11_base_writes.specs.declared.outputs.Output.TheVariants.{Product}
use Rattle.m11_cpu_machine.specs.Dialogue.{Input}
use Rattle.m11_cli.specs.Driver.{Assembles, Obeys, got, outputs}
use Rattle.m11_cli.specs.declared.outcome.Outcome.TheVariants as outcome
use Rattle.m11_cli_chain.specs.Assemblies.{AssemblyYields}
use Rattle.m11_cli_chain.specs.Sources.{source_of}
use Rattle.m11_cli_image.specs.Objects.{object_of}
use Rattle.m11_cli_reports.specs.Streams.{Store, Streams}
use Rattle.m11_cli_tasks.specs.Opened.{asm_inputs, optional}
use Rattle.m11_cli_tasks.specs.Tasks.{Plans}
use Rattle.m11_cli_tasks.specs.declared.tasks.AsmTask.{AsmTask}
use Rattle.m11_cli_tasks.specs.declared.tasks.Task.TheVariants as task
use Rattle.m11_cli_chain.specs.Commands.{LeavesObject}
use Rattle.m11_cli_chain.specs.Stores.{AreAt, IsFresh, IsNoneOf, bytes_at}
use Rattle.m11_cli_chain.proofs.CommandsObeyed.{obeyed_asm}
use Rattle.m11_cli_chain.proofs.FilesOpened.{all_known}
use Rattle.m11_cli_chain.proofs.TasksPlanned.{same_asm}
use Rattle.m11_cli_chain.proofs.FilesWritten.{Fresh, fresh_files, none_is, others_are, product_is, some_is}

-- ---- the bytes of a file that was written

abbrev pub pass : List Input → List Input → Pass Input
pass old new = pass_of (λ s. s.text) (λ s. s.faults) old new

pub written : (old new : Option Bytes) (bytes : Bytes) → old ≡ Some [] → Appends old new bytes → new ≡ Some bytes
written (Some before) (Some after) bytes e h =
    ap (λ (these : Bytes). Some these) (h ∙ ap (λ (these : Bytes). these ++ bytes) (some_is before [] e))
written (Some before) None bytes e h = absurd h
written None new bytes e h = absurd (none_is [] e)

take_all : (bytes : Bytes) → take (length bytes - 0) bytes ≡ bytes
take_all bytes = grind (arith, common_steps)

-- a new file of which nothing is held back has all bytes that were written to it
pub got_all : (old new : Option Bytes) (held : ℕ) (bytes : Bytes) → old ≡ Some [] → Appends old new bytes → held ≡ 0
    → handed_on new held ≡ Some bytes
got_all old new held bytes empty h none =
    ap (λ (text : Option Bytes). handed_on text held) (written old new bytes empty h)
    ∙ ap (λ (n : ℕ). handed_on (Some bytes) n) none
    ∙ ap (λ (these : Bytes). Some these) (take_all bytes)

pub is_empty : (files : Option Files) → Fresh files → (text : Option Bytes) → IsEmptied files text → text ≡ Some []
is_empty files fresh text h =
    let so = fresh_files files fresh in
    let P : Option Files → Type 0 = λ fs. IsEmptied fs text in subst P so.1 h

-- ---- the call

-- if both passes read the same known texts, these decide the assembly
abbrev pub YieldsLaw : Type 0
YieldsLaw = (texts : List Bytes) (first again second later : List Input) (old new : Outputs) (returned : Result AsmDone AsmFault)
    → AreKnown (λ s. s.text) first texts → AreKnown (λ s. s.text) second texts
    → AsmRuns (pass first again) (pass second later) old new returned → AssemblyYields texts old new returned

nothing_held : (first second : Pass Input) (old new : Outputs) (done : AsmDone) → AsmRuns first second old new (Ok done) → (new Product).held ≡ 0
nothing_held first second old new done (lines, reads, (reading, reads', all)) = all.flushed.0

module _ (yields : YieldsLaw) (texts : List Bytes) (old new : Store) (fresh : IsFresh old) (done : AsmDone) where
  assembled : (asm : AsmTask) (reported reported' : OutputState) → AreAt old (asm_inputs asm) texts
      → IsNoneOf asm.object.now (optional asm.listing) → Assembles asm old new reported reported' (Ok done) → LeavesObject texts asm old new
  assembled asm reported reported' are apart a =
      let w = yields texts a.first a.first' a.second a.second' (outputs a.object a.listing reported)
      (outputs a.object' a.listing' reported') (Ok done)
      (all_known (λ s. s.text) old.files fresh (asm_inputs asm) a.first texts a.read are)
      (all_known (λ s. s.text) old.files fresh (asm_inputs asm) a.second texts a.read-again are) a.runs in
      record {
        object = object_of (source_of w.lines);
        is_object = record { lines = w.lines; live = w.live; fits = w.fits; object_is = refl };
        left = product_is got asm.object.now (got a.object') asm.listing a.listing' apart old.files new.files fresh a.kept
            ∙ got_all a.object.text a.object'.text a.object'.held (object_of (source_of w.lines))
            (is_empty old.files fresh a.object.text a.emptied) w.appends
            (nothing_held _ _ (outputs a.object a.listing reported) (outputs a.object' a.listing' reported') done a.runs);
        others = others_are got asm.object.now (got a.object') asm.listing a.listing' apart old.files new.files fresh a.kept;
      }

  pub leaves_object : (words : List Text) (asm : AsmTask) (before after : Streams) → Plans words (Ok (task.Asm asm))
      → Obeys words (outcome.Asm (Ok done)) old new before after → AreAt old (asm_inputs asm) texts
      → IsNoneOf asm.object.now (optional asm.listing) → LeavesObject texts asm old new
  leaves_object words asm before after planned obeys are apart =
      let did = obeyed_asm words old new done before after obeys in
      let other = did.1.0 in
      let same = same_asm words asm other planned did.1.1 in
      let left = assembled other before.reported did.0 (subst (λ (ps : List Bytes). AreAt old ps texts) same.sources are)
      (subst (λ (p : Bytes). IsNoneOf p (optional other.listing)) same.object
      (subst (λ (ps : List Bytes). IsNoneOf asm.object.now ps) same.listing apart)) did.1.2 in
      record {
        object = left.object;
        is_object = left.is_object;
        left = ap (bytes_at new) same.object ∙ left.left;
        others = λ path none. left.others path (subst (λ (ps : List Bytes). IsNoneOf path ps)
            (ap₂ (λ (p : Bytes) (ps : List Bytes). p ∷ ps) same.object same.listing) none);
      }
