-- A call of `link` leaves the tape of its objects.
use Rattle.std.proofs.Common.{◌≡◌, ◌∙◌, ℕ, List, [], ◌∷◌, Some, Result, Ok, Err, refl, sym, ap, ap₂, subst}
use Rattle.clap.specs.Words.{Text}
use Rattle.m11_base.specs.Devices.{Bytes}
use Rattle.m11_base_writes.specs.Outputs.{Outputs}
use Rattle.m11_base_writes.specs.States.{OutputState}
use Rattle.m11_base_writes.specs.Writes.{gained}
use Rattle.m11_base_writes.specs.declared.outputs.Output.TheVariants.{Product}
use Rattle.m11_link.specs.Objects.{AreItems, Item, outcome}
use Rattle.m11_link.specs.Outputs.{link}
use Rattle.m11_link.specs.Written.{link_writes}
use Rattle.m11_link.specs.declared.emit.LinkDone.{LinkDone}
use Rattle.m11_link_laws.specs.Runs.{IsDecided}
use Rattle.m11_link_laws.proofs.RunsDecided.{run_decided}
use Rattle.m11_link_layout.specs.declared.fault.LinkFault.{LinkFault}
use Rattle.m11_link_modules.specs.Parts.{Part}
use Rattle.m11_link_text.specs.Findings.{findings_of}
use Rattle.m11_cli.specs.Driver.{Links, Obeys, got, outputs}
use Rattle.m11_cli.specs.declared.outcome.Outcome.TheVariants as outcomes
use Rattle.m11_cli_chain.specs.Steps.{IsTapeOfObjects}
use Rattle.m11_cli_reports.specs.Streams.{Store, Streams}
use Rattle.m11_cli_tasks.specs.Opened.{link_inputs, optional}
use Rattle.m11_cli_tasks.specs.Tasks.{Plans}
use Rattle.m11_cli_tasks.specs.declared.tasks.LinkTask.{LinkTask}
use Rattle.m11_cli_tasks.specs.declared.tasks.Task.TheVariants as task
use Rattle.m11_cli_chain.specs.Commands.{LeavesTape}
use Rattle.m11_cli_chain.specs.Stores.{AreAt, IsFresh, IsNoneOf, bytes_at}
use Rattle.m11_cli_chain.proofs.ObjectsLeft.{got_all, is_empty}
use Rattle.m11_cli_chain.proofs.CommandsObeyed.{obeyed_link}
use Rattle.m11_cli_chain.proofs.FilesOpened.{all_known}
use Rattle.m11_cli_chain.proofs.TasksPlanned.{same_link}
use Rattle.m11_cli_chain.proofs.FilesWritten.{others_are, product_is}

-- any objects yield items
abbrev pub ItemsLaw : Type 0
ItemsLaw = (objects : List Bytes) → (items : List Item) × AreItems objects items

-- the tape that a link wrote, all of which is in its file
record HasTape (bottom : ℕ) (objects : List Bytes) (old new : OutputState) : Type 0 where
  pub tape : Bytes
  pub is_tape : IsTapeOfObjects bottom objects tape
  pub has : got new ≡ Some tape

module _ (bottom : ℕ) (objects : List Bytes) (items : List Item) (are : AreItems objects items) (old new : Outputs)
    (empty : (old Product).text ≡ Some []) (done : LinkDone) where
  has_tape : (came : Result (List Part) LinkFault) → outcome bottom items ≡ came → IsDecided bottom came old new (Ok done)
      → HasTape bottom objects (old Product) (new Product)
  has_tape (Ok parts) comes h = record {
    tape = gained link Product (link_writes (findings_of bottom parts) parts);
    is_tape = record { items = items; are = are; parts = parts; parts_are = comes; tape_is = refl };
    has = got_all (old Product).text (new Product).text (new Product).held _ empty (h.0.texts Product) h.2.0;
  }
  has_tape (Err stopped) comes h = absurd h

module _ (yield : ItemsLaw) (objects : List Bytes) (old new : Store) (fresh : IsFresh old) (done : LinkDone) where
  linked : (t : LinkTask) (reported reported' : OutputState) → AreAt old (link_inputs t) objects
      → IsNoneOf t.tape.now (optional t.map) → Links t old new reported reported' (Ok done) → LeavesTape objects t old new
  linked t reported reported' are apart l =
      let items = yield objects in
      let h = has_tape t.bottom objects items.0 items.1 (outputs l.tape l.map reported) (outputs l.tape' l.map' reported')
      (is_empty old.files fresh l.tape.text l.emptied) done (outcome t.bottom items.0) refl
      (run_decided (λ s. s.text) (λ s. s.faults) l.first l.first' l.second l.second' t.bottom objects items.0
      (outputs l.tape l.map reported) (outputs l.tape' l.map' reported') (Ok done) items.1
      (all_known (λ s. s.text) old.files fresh (link_inputs t) l.first objects l.read are)
      (all_known (λ s. s.text) old.files fresh (link_inputs t) l.second objects l.read-again are) l.runs) in
      record {
        tape = h.tape;
        is_tape = h.is_tape;
        left = product_is got t.tape.now (got l.tape') t.map l.map' apart old.files new.files fresh l.kept ∙ h.has;
        others = others_are got t.tape.now (got l.tape') t.map l.map' apart old.files new.files fresh l.kept;
      }

  pub leaves_tape : (words : List Text) (t : LinkTask) (before after : Streams) → Plans words (Ok (task.Link t))
      → Obeys words (outcomes.Link (Ok done)) old new before after → AreAt old (link_inputs t) objects
      → IsNoneOf t.tape.now (optional t.map) → LeavesTape objects t old new
  leaves_tape words t before after planned obeys are apart =
      let did = obeyed_link words old new done before after obeys in
      let other = did.1.0 in
      let same = same_link words t other planned did.1.1 in
      let left = linked other before.reported did.0 (subst (λ (ps : List Bytes). AreAt old ps objects) same.objects are)
      (subst (λ (p : Bytes). IsNoneOf p (optional other.map)) same.tape
      (subst (λ (ps : List Bytes). IsNoneOf t.tape.now ps) same.map_path apart)) did.1.2 in
      record {
        tape = left.tape;
        is_tape = subst (λ (b : ℕ). IsTapeOfObjects b objects left.tape) (sym same.bottom) left.is_tape;
        left = ap (bytes_at new) same.tape ∙ left.left;
        others = λ path none. left.others path (subst (λ (ps : List Bytes). IsNoneOf path ps)
            (ap₂ (λ (p : Bytes) (ps : List Bytes). p ∷ ps) same.tape same.map_path) none);
      }
