-- The outputs of a successful run with known objects.
use Rattle.std.proofs.Common.{◌≡◌, ◌∙◌, ℕ, List, Option, Ok, subst}
use Rattle.std.specs.Io.KnownBytes.{Appends}
use Rattle.m11_base.specs.Feed.{Text}
use Rattle.m11_obj_blocks.specs.Tapes.{IsTape}
use Rattle.m11_link_modules.specs.Parts.{Part}
use Rattle.m11_link_layout.specs.Transfers.{transfer_address}
use Rattle.m11_base_writes.specs.declared.outputs.Output.TheVariants.{Product, Report, Messages}
use Rattle.m11_link_text.specs.Findings.{findings_of}
use Rattle.m11_base_writes.specs.Passes.{AreKnown, pass_of}
use Rattle.m11_link.specs.Objects.{AreItems, Item, outcome}
use Rattle.m11_link.specs.Outputs.{Gains}
use Rattle.m11_base_writes.specs.Outputs.{AreFlushed, Outputs}
use Rattle.m11_link.specs.SecondPass.{LinkRuns}
use Rattle.m11_link.specs.Written.{counted, link_writes}
use Rattle.m11_link.specs.declared.emit.LinkDone.{LinkDone}
use Rattle.m11_link.proofs.ItemsAccepted.{PartsOrFault}
use Rattle.m11_link_laws.specs.Left.{Leaves}
use Rattle.m11_link_laws.specs.LinkedTexts.{tape_blocks}
use Rattle.m11_link_laws.specs.Runs.{IsDecided}
use Rattle.m11_link_laws.proofs.LinesWritten.{lines_counted, map_of_lines, messages_of_lines}
use Rattle.m11_link_laws.proofs.RunsDecided.{run_decided}
use Rattle.m11_link_laws.proofs.TapesOfObjects.{objects_make_a_tape, tape_of_objects}

leaves : (bottom : ℕ) (sources : List (List ℕ)) (items : List Item) (parts : List Part) (old new : Outputs)
    (done : LinkDone) → AreItems sources items → outcome bottom items ≡ Ok parts
    → Gains old new (link_writes (findings_of bottom parts) parts)
    → done.messages ≡ counted 0 (link_writes (findings_of bottom parts) parts) → AreFlushed new
    → Leaves bottom parts old new done
leaves bottom sources items parts old new done are e gains count flushed =
    let found = findings_of bottom parts in
    let is = tape_of_objects bottom sources items parts are e in
    let T : List ℕ → Type 0 = λ bytes. Appends (old Product).text (new Product).text bytes in
    let R : List ℕ → Type 0 = λ bytes. IsTape (tape_blocks found parts) (transfer_address bottom parts) bytes in
    let M : List ℕ → Type 0 = λ bytes. Appends (old Report).text (new Report).text bytes in
    let S : List ℕ → Type 0 = λ bytes. Appends (old Messages).text (new Messages).text bytes in
    record {
      tape = subst T is (gains.texts Product);
      again = subst R is (objects_make_a_tape bottom sources items parts are e);
      map = subst M (map_of_lines found parts) (gains.texts Report);
      messages = subst S (messages_of_lines found parts) (gains.texts Messages);
      count = count ∙ lines_counted found parts;
      flushed = flushed;
    }

pub run_leaves : {F : Type 0} (text : F → Option Text) (faults : F → ℕ) (first first' second second' : List F)
    (bottom : ℕ) (sources : List (List ℕ)) (items : List Item) (parts : List Part) (old new : Outputs) (done : LinkDone)
    → AreItems sources items → AreKnown text first sources → AreKnown text second sources
    → outcome bottom items ≡ Ok parts
    → LinkRuns (pass_of text faults first first') (pass_of text faults second second') bottom old new (Ok done)
    → Leaves bottom parts old new done
run_leaves text faults first first' second second' bottom sources items parts old new done are known again e h =
    let P : PartsOrFault → Type 0 = λ o. IsDecided bottom o old new (Ok done) in
    let decided = subst P e
    (run_decided text faults first first' second second' bottom sources items old new (Ok done) are known again h) in
    leaves bottom sources items parts old new done are e decided.0 decided.1 decided.2
