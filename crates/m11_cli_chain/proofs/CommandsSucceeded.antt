-- A planned command that ends with status 0 has succeeded.
use Rattle.std.proofs.Common.{◌≡◌, ◌∙◌, true, false, List, [], Option, Some, None, Result, Ok, Err, codes, refl, sym, subst}
use Rattle.std.proofs.lemmas.Slice.Eq.{bytes_eq-Decides}
use Rattle.std.specs.Str.{bytes_eq}
use Rattle.clap.specs.Words.{IsAmong, Row, Text}
use Rattle.clap.specs.Kinds.{Kinds}
use Rattle.clap.specs.declared.error.kind.ErrorKind.{ErrorKind}
use Rattle.clap.specs.declared.error.kind.ErrorKind.TheVariants as kind
use Rattle.m11_asm.specs.declared.done.AsmDone.{AsmDone}
use Rattle.m11_asm_faults.specs.declared.fault.AsmFault.{AsmFault}
use Rattle.m11_asm_faults.specs.declared.fault.AsmFault.TheVariants as asm_fault
use Rattle.m11_cpu.specs.declared.fault.LoadFault.TheVariants as load_fault
use Rattle.m11_cpu.specs.declared.fault.SimFault.{SimFault}
use Rattle.m11_cpu.specs.declared.fault.SimFault.TheVariants as sim_fault
use Rattle.m11_cpu.specs.declared.simulation.SimDone.{SimDone}
use Rattle.m11_link.specs.declared.emit.LinkDone.{LinkDone}
use Rattle.m11_link_layout.specs.declared.fault.LinkFault.{LinkFault}
use Rattle.m11_link_layout.specs.declared.fault.LinkFault.TheVariants as link_fault
use Rattle.m11_obj_blocks.specs.declared.tape_fault.TapeFault.{TapeFault}
use Rattle.m11_obj_blocks.specs.declared.tape_fault.TapeFault.TheVariants as tape_fault
use Rattle.m11_cli.specs.Driver.{Carries, Obeys}
use Rattle.m11_cli.specs.Outcome.{asm_status, status_of}
use Rattle.m11_cli.specs.declared.outcome.Outcome.{Outcome}
use Rattle.m11_cli.specs.declared.outcome.Outcome.TheVariants as outcome
use Rattle.m11_cli_reports.specs.Links.{link_status}
use Rattle.m11_cli_reports.specs.Runs.{sim_status, tape_status}
use Rattle.m11_cli_reports.specs.Streams.{Store, Streams}
use Rattle.m11_cli_reports.specs.Usage.{usage_status}
use Rattle.m11_cli_tasks.specs.Tasks.{IsTask, Plans}
use Rattle.m11_cli_tasks.specs.declared.tasks.AsmTask.{AsmTask}
use Rattle.m11_cli_tasks.specs.declared.tasks.LinkTask.{LinkTask}
use Rattle.m11_cli_tasks.specs.declared.tasks.SimTask.{SimTask}
use Rattle.m11_cli_tasks.specs.declared.tasks.Task.{Task}
use Rattle.m11_cli_tasks.specs.declared.tasks.Task.TheVariants as task
use Rattle.m11_cli_tasks.specs.declared.usage.UsageFault.{UsageFault}
use Rattle.m11_cli_tasks.specs.declared.usage.UsageFault.TheVariants as usage

-- ---- the status of a fault isn't 0

none_among : (k : ErrorKind) (kinds : Kinds) → kinds ≡ [] → IsAmong k kinds → ⊥
none_among k kinds e h = let P : Kinds → Type 0 = λ ks. IsAmong k ks in subst P e h

usage_fails : (words : List Text) (t : Task) (fault : UsageFault) → Plans words (Ok t) → Plans words (Err fault) → usage_status fault ≡ 0 → ⊥
usage_fails words t (usage.Help error) (none, h) (is, among) e = none_among kind.DisplayHelp _ none among
usage_fails words t (usage.Words error) p q e = cc
usage_fails words t usage.BadOctal p q e = cc
usage_fails words t usage.OddAddress p q e = cc
usage_fails words t usage.BadAddress p q e = cc
usage_fails words t usage.BadCount p q e = cc
usage_fails words t usage.NoMemory p q e = cc

asm_fails : (fault : AsmFault) → asm_status fault ≡ 0 → ⊥
asm_fails asm_fault.Read e = cc
asm_fails (asm_fault.Write output) e = cc
asm_fails asm_fault.TooManySymbols e = cc
asm_fails asm_fault.TooManySections e = cc
asm_fails (asm_fault.Unfold inner) e = cc
asm_fails asm_fault.TooMuchSource e = cc
asm_fails asm_fault.NoMemory e = cc

link_fails : (fault : LinkFault) → link_status fault ≡ 0 → ⊥
link_fails link_fault.Read e = cc
link_fails (link_fault.Block inner) e = cc
link_fails (link_fault.Record inner) e = cc
link_fails link_fault.BadOrder e = cc
link_fails link_fault.NoText e = cc
link_fails link_fault.BadDisplacement e = cc
link_fails link_fault.UnknownSection e = cc
link_fails link_fault.TooLarge e = cc
link_fails link_fault.TooManyGlobals e = cc
link_fails link_fault.TooManySections e = cc
link_fails link_fault.TooManyModules e = cc
link_fails link_fault.TooMuch e = cc
link_fails link_fault.TextOutside e = cc
link_fails (link_fault.Write output) e = cc
link_fails link_fault.NoMemory e = cc

tape_fails : (fault : TapeFault) → tape_status fault ≡ 0 → ⊥
tape_fails tape_fault.Device e = cc
tape_fails tape_fault.Truncated e = cc
tape_fails tape_fault.BadSum e = cc
tape_fails tape_fault.BadStart e = cc
tape_fails tape_fault.TooShort e = cc
tape_fails tape_fault.Failed e = cc
tape_fails tape_fault.NoTransfer e = cc
tape_fails tape_fault.TooMuch e = cc

sim_fails : (fault : SimFault) → sim_status fault ≡ 0 → ⊥
sim_fails (sim_fault.Load (load_fault.Tape fault)) e = tape_fails fault e
sim_fails (sim_fault.Load load_fault.OutsideMemory) e = cc
sim_fails sim_fault.Write e = cc
sim_fails sim_fault.NoMemory e = cc

-- ---- a command line has one kind of task

other_name : (one other : Text) → bytes_eq one other ≡ false → one ≡ other → ⊥
other_name one other differ e = let same : false ≡ true = sym differ ∙ (bytes_eq-Decides one other).1 e in cc

asm_or_link : (entered : Option (Text × List Row)) (asm : AsmTask) (link : LinkTask) → IsTask entered (task.Asm asm)
    → IsTask entered (task.Link link) → ⊥
asm_or_link None asm link h k = h
asm_or_link (Some entered) asm link (named, h) (named', k) = other_name (codes "asm") (codes "link") refl (sym named ∙ named')

asm_or_sim : (entered : Option (Text × List Row)) (asm : AsmTask) (sim : SimTask) → IsTask entered (task.Asm asm)
    → IsTask entered (task.Sim sim) → ⊥
asm_or_sim None asm sim h k = h
asm_or_sim (Some entered) asm sim (named, h) (named', k) = other_name (codes "asm") (codes "sim") refl (sym named ∙ named')

link_or_sim : (entered : Option (Text × List Row)) (link : LinkTask) (sim : SimTask) → IsTask entered (task.Link link)
    → IsTask entered (task.Sim sim) → ⊥
link_or_sim None link sim h k = h
link_or_sim (Some entered) link sim (named, h) (named', k) = other_name (codes "link") (codes "sim") refl (sym named ∙ named')

-- ---- the outcome

abbrev Assembled : Outcome → Type 0
Assembled came = (done : AsmDone) × (came ≡ outcome.Asm (Ok done))

abbrev DidLink : Outcome → Type 0
DidLink came = (done : LinkDone) × (came ≡ outcome.Link (Ok done))

abbrev DidRun : Outcome → Type 0
DidRun came = (done : SimDone) × (came ≡ outcome.Sim (Ok done))

module _ (words : List Text) (old new : Store) (before after : Streams) where
  -- the outcome of a link isn't that of another task, and so on

  link_of : (t : Task) (r : Result LinkDone LinkFault) → Carries t (outcome.Link r) old new before after → (link : LinkTask) × (t ≡ task.Link link)
  link_of (task.Asm asm) r h = absurd h
  link_of (task.Link link) r h = (link, refl)
  link_of (task.Sim sim) r h = absurd h

  asm_of : (t : Task) (r : Result AsmDone AsmFault) → Carries t (outcome.Asm r) old new before after → (asm : AsmTask) × (t ≡ task.Asm asm)
  asm_of (task.Asm asm) r h = (asm, refl)
  asm_of (task.Link link) r h = absurd h
  asm_of (task.Sim sim) r h = absurd h

  sim_of : (t : Task) (r : Result SimDone SimFault) → Carries t (outcome.Sim r) old new before after → (sim : SimTask) × (t ≡ task.Sim sim)
  sim_of (task.Asm asm) r h = absurd h
  sim_of (task.Link link) r h = absurd h
  sim_of (task.Sim sim) r h = (sim, refl)

  as_task : (one other : Task) → Plans words (Ok one) → one ≡ other → Plans words (Ok other)
  as_task one other planned e = let P : Task → Type 0 = λ t. Plans words (Ok t) in subst P e planned

module _ (words : List Text) (old new : Store) (before after : Streams) where
  pub asm_succeeds : (asm : AsmTask) (came : Outcome) → Plans words (Ok (task.Asm asm)) → Obeys words came old new before after
      → status_of came ≡ 0 → Assembled came
  asm_succeeds asm (outcome.Usage fault) planned (reported, (refused, unchanged, unread, explains), reports) e =
      absurd (usage_fails words (task.Asm asm) fault planned refused e)
  asm_succeeds asm (outcome.Asm (Ok done)) planned h e = (done, refl)
  asm_succeeds asm (outcome.Asm (Err fault)) planned h e = absurd (asm_fails fault e)
  asm_succeeds asm (outcome.Link r) planned (reported, (t, other, carries), reports) e =
      let is = link_of words old new before (record after { reported = reported }) t r carries in
      absurd (asm_or_link _ asm is.0 planned.1 (as_task words old new before after t (task.Link is.0) other is.1).1)
  asm_succeeds asm (outcome.Sim r) planned (reported, (t, other, carries), reports) e =
      let is = sim_of words old new before (record after { reported = reported }) t r carries in
      absurd (asm_or_sim _ asm is.0 planned.1 (as_task words old new before after t (task.Sim is.0) other is.1).1)
  asm_succeeds asm outcome.NotOpened planned h e = absurd cc

  pub link_succeeds : (link : LinkTask) (came : Outcome) → Plans words (Ok (task.Link link)) → Obeys words came old new before after
      → status_of came ≡ 0 → DidLink came
  link_succeeds link (outcome.Usage fault) planned (reported, (refused, unchanged, unread, explains), reports) e =
      absurd (usage_fails words (task.Link link) fault planned refused e)
  link_succeeds link (outcome.Link (Ok done)) planned h e = (done, refl)
  link_succeeds link (outcome.Link (Err fault)) planned h e = absurd (link_fails fault e)
  link_succeeds link (outcome.Asm r) planned (reported, (t, other, carries), reports) e =
      let is = asm_of words old new before (record after { reported = reported }) t r carries in
      absurd (asm_or_link _ is.0 link (as_task words old new before after t (task.Asm is.0) other is.1).1 planned.1)
  link_succeeds link (outcome.Sim r) planned (reported, (t, other, carries), reports) e =
      let is = sim_of words old new before (record after { reported = reported }) t r carries in
      absurd (link_or_sim _ link is.0 planned.1 (as_task words old new before after t (task.Sim is.0) other is.1).1)
  link_succeeds link outcome.NotOpened planned h e = absurd cc

  pub sim_succeeds : (sim : SimTask) (came : Outcome) → Plans words (Ok (task.Sim sim)) → Obeys words came old new before after
      → status_of came ≡ 0 → DidRun came
  sim_succeeds sim (outcome.Usage fault) planned (reported, (refused, unchanged, unread, explains), reports) e =
      absurd (usage_fails words (task.Sim sim) fault planned refused e)
  sim_succeeds sim (outcome.Sim (Ok done)) planned h e = (done, refl)
  sim_succeeds sim (outcome.Sim (Err fault)) planned h e = absurd (sim_fails fault e)
  sim_succeeds sim (outcome.Asm r) planned (reported, (t, other, carries), reports) e =
      let is = asm_of words old new before (record after { reported = reported }) t r carries in
      absurd (asm_or_sim _ is.0 sim (as_task words old new before after t (task.Asm is.0) other is.1).1 planned.1)
  sim_succeeds sim (outcome.Link r) planned (reported, (t, other, carries), reports) e =
      let is = link_of words old new before (record after { reported = reported }) t r carries in
      absurd (link_or_sim _ is.0 sim (as_task words old new before after t (task.Link is.0) other is.1).1 planned.1)
  sim_succeeds sim outcome.NotOpened planned h e = absurd cc
