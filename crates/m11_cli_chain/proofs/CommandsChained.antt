-- Assemblies, a link and a run, one after another.
use Rattle.std.proofs.Common.{◌≡◌, ◌∙◌, ℕ, List, [], ◌∷◌, map, Option, Some, Ok, refl, sym, ap, ap₂, subst}
use Rattle.std.specs.List.{AllByRecursion}
use Rattle.std.specs.Prelude.{⊤}
use Rattle.clap.specs.Words.{Text}
use Rattle.m11_asm.specs.declared.done.AsmDone.{AsmDone}
use Rattle.m11_base.specs.Devices.{Bytes}
use Rattle.m11_cpu.specs.declared.simulation.SimDone.{SimDone}
use Rattle.m11_link.specs.declared.emit.LinkDone.{LinkDone}
use Rattle.m11_cli.specs.Driver.{Obeys}
use Rattle.m11_cli.specs.declared.outcome.Outcome.TheVariants as outcome
use Rattle.m11_cli_chain.specs.Steps.{AreObjectsOf, IsTapeOfObjects}
use Rattle.m11_cli_chain.proofs.Assembling.{one_more}
use Rattle.m11_cli_chain.proofs.Joined.{LoadLaw, PartsLaw, SizeLaw, WithinLaw, tape_linked}
use Rattle.m11_cli_reports.specs.Streams.{Store, Streams}
use Rattle.m11_cli_tasks.specs.Opened.{asm_inputs, asm_outputs, link_inputs, optional}
use Rattle.m11_cli_tasks.specs.Tasks.{Plans}
use Rattle.m11_cli_tasks.specs.declared.tasks.AsmTask.{AsmTask}
use Rattle.m11_cli_tasks.specs.declared.tasks.LinkTask.{LinkTask}
use Rattle.m11_cli_tasks.specs.declared.tasks.SimTask.{SimTask}
use Rattle.m11_cli_tasks.specs.declared.tasks.Task.TheVariants as task
use Rattle.m11_cli_chain.specs.CommandChain.{AreAllApart, AreInTurn, AreTexts, AsmCall, CommandsChain, IsApart, LinkCall, SimCall, YieldsChain, object_path}
use Rattle.m11_cli_chain.specs.Commands.{LeavesObject, LeavesTape, RunsChain}
use Rattle.m11_cli_chain.specs.Stores.{AreApart, AreAt, IsFresh, IsNoneOf, bytes_at}

-- ---- the laws of single commands

abbrev pub AsmLaw : Type 0
AsmLaw = (words : List Text) (asm : AsmTask) (done : AsmDone) (old new : Store) (before after : Streams) (texts : List Bytes)
    → Plans words (Ok (task.Asm asm)) → Obeys words (outcome.Asm (Ok done)) old new before after → IsFresh old
    → AreAt old (asm_inputs asm) texts → IsNoneOf asm.object.now (optional asm.listing) → LeavesObject texts asm old new

abbrev pub LinkLaw : Type 0
LinkLaw = (words : List Text) (link : LinkTask) (done : LinkDone) (old new : Store) (before after : Streams) (objects : List Bytes)
    → Plans words (Ok (task.Link link)) → Obeys words (outcome.Link (Ok done)) old new before after → IsFresh old
    → AreAt old (link_inputs link) objects → IsNoneOf link.tape.now (optional link.map) → LeavesTape objects link old new

abbrev pub SimLaw : Type 0
SimLaw = (words : List Text) (sim : SimTask) (done : SimDone) (old new : Store) (before after : Streams) (texts : List (List Bytes))
    (bottom : ℕ) (objects : List Bytes) (tape : Bytes) → Plans words (Ok (task.Sim sim))
    → Obeys words (outcome.Sim (Ok done)) old new before after → IsFresh old → AreObjectsOf texts objects
    → IsTapeOfObjects bottom objects tape → bytes_at old sim.tape.now ≡ Some tape
    → (new ≡ old) × RunsChain texts bottom sim before after done

-- ---- files that stay

map_same : (f g : Bytes → Option Bytes) → ((path : Bytes) → f path ≡ g path) → (paths : List Bytes) → map f paths ≡ map g paths
map_same f g same [] = refl
map_same f g same (path ∷ paths) = ap₂ (λ (x : Option Bytes) (xs : List (Option Bytes)). x ∷ xs) (same path) (map_same f g same paths)

map_apart : (f g : Bytes → Option Bytes) (written : List Bytes) → ((path : Bytes) → IsNoneOf path written → f path ≡ g path)
    → (paths : List Bytes) → AreApart paths written → map f paths ≡ map g paths
map_apart f g written same [] apart = refl
map_apart f g written same (path ∷ paths) (none, apart) =
    ap₂ (λ (x : Option Bytes) (xs : List (Option Bytes)). x ∷ xs) (same path none) (map_apart f g written same paths apart)

texts_stay : (call : AsmCall) (first new : Store)
    → ((path : Bytes) → IsNoneOf path (asm_outputs call.asm) → bytes_at new path ≡ bytes_at first path)
    → (calls : List AsmCall) (texts : List (List Bytes)) → AllByRecursion (IsApart call) calls → AreTexts first calls texts
    → AreTexts new calls texts
texts_stay call first new same [] [] apart are = tt
texts_stay call first new same [] (texts ∷ more) apart are = are
texts_stay call first new same (later ∷ calls) [] apart are = are
texts_stay call first new same (later ∷ calls) (texts ∷ more) (here, apart) (at, are) = (
  map_apart (bytes_at new) (bytes_at first) (asm_outputs call.asm) same (asm_inputs later.asm) here.sources ∙ at,
  texts_stay call first new same calls more apart are,
)

-- ---- the assemblies

-- each of these assemblies left the object of its texts
AllLeave : List AsmCall → List (List Bytes) → Type 0
AllLeave [] [] = ⊤
AllLeave [] (texts ∷ more) = ⊥
AllLeave (call ∷ calls) [] = ⊥
AllLeave (call ∷ calls) (texts ∷ more) = LeavesObject texts call.asm call.old call.new × AllLeave calls more

module _ (asm_law : AsmLaw) where
  all_leave : (calls : List AsmCall) (texts : List (List Bytes)) (first last : Store) → AreInTurn first calls last → AreAllApart calls
      → AreTexts first calls texts → AllLeave calls texts
  unfolding AllLeave
  all_leave [] [] first last turn apart are = tt
  all_leave [] (texts ∷ more) first last turn apart are = are
  all_leave (call ∷ calls) [] first last turn apart are = are
  all_leave (call ∷ calls) (texts ∷ more) first last (follows, turn) (own, later, apart) (at, are) =
      let here = asm_law call.words call.asm call.done call.old call.new call.before call.after texts call.plans call.obeys follows.fresh
      (map_same (bytes_at call.old) (bytes_at first) follows.same (asm_inputs call.asm) ∙ at) own in (
        here,
        all_leave calls more call.new last turn apart
            (texts_stay call first call.new (λ path none. here.others path none ∙ follows.same path) calls more later are),
      )

stays : (calls : List AsmCall) (texts : List (List Bytes)) (first last : Store) → AreInTurn first calls last → AllLeave calls texts
    → (path : Bytes) → AllByRecursion (λ call. IsNoneOf path (asm_outputs call.asm)) calls → bytes_at last path ≡ bytes_at first path
unfolding AllLeave
stays [] [] first last turn left path none = ap (λ (s : Store). bytes_at s path) turn
stays [] (texts ∷ more) first last turn left path none = absurd left
stays (call ∷ calls) [] first last turn left path none = absurd left
stays (call ∷ calls) (texts ∷ more) first last (follows, turn) (here, left) path (none, others) =
    stays calls more call.new last turn left path others ∙ here.others path none ∙ follows.same path

spared : (call : AsmCall) (calls : List AsmCall) → AllByRecursion (IsApart call) calls
    → AllByRecursion (λ later. IsNoneOf (object_path call) (asm_outputs later.asm)) calls
spared call [] apart = tt
spared call (later ∷ calls) (here, apart) = (here.object, spared call calls apart)

-- the objects that assemblies left in their files
record HaveObjects (calls : List AsmCall) (texts : List (List Bytes)) (last : Store) : Type 0 where
  objects : List Bytes
  are : AreObjectsOf texts objects
  at : AreAt last (map object_path calls) objects

have_objects : (calls : List AsmCall) (texts : List (List Bytes)) (first last : Store) → AreInTurn first calls last → AreAllApart calls
    → AllLeave calls texts → HaveObjects calls texts last
unfolding AllLeave
have_objects [] [] first last turn apart left =
    record { objects = []; are = record { lines = []; live = tt; fit = tt; objects_are = refl }; at = refl }
have_objects [] (texts ∷ more) first last turn apart left = absurd left
have_objects (call ∷ calls) [] first last turn apart left = absurd left
have_objects (call ∷ calls) (texts ∷ more) first last (follows, turn) (own, later, apart) (here, left) =
    let rest = have_objects calls more call.new last turn apart left in
    record {
      objects = here.object ∷ rest.objects;
      are = one_more texts more here.object rest.objects here.is_object rest.are;
      at = ap₂ (λ (x : Option Bytes) (xs : List (Option Bytes)). x ∷ xs)
          (stays calls more call.new last turn left (object_path call) (spared call calls later) ∙ here.left) rest.at;
    }

-- ---- the whole chain

pub yields_chain : AsmLaw → LinkLaw → SimLaw → PartsLaw → LoadLaw → WithinLaw → SizeLaw → (first : Store) (assemblies : List AsmCall) (linking : LinkCall)
    (running : SimCall) (texts : List (List Bytes)) → CommandsChain first assemblies linking running → AreTexts first assemblies texts
    → YieldsChain texts linking running
yields_chain asm_law link_law sim_law parts_law load_law within_law size_law first assemblies linking running texts c are =
    let left = all_leave asm_law assemblies texts first c.assembled c.in_turn c.apart are in
    let objects = have_objects assemblies texts first c.assembled c.in_turn c.apart left in
    let at = map_same (bytes_at linking.old) (bytes_at c.assembled) c.then_link.same (map object_path assemblies) ∙ objects.at in
    let tape = link_law linking.words linking.link linking.done linking.old linking.new linking.before linking.after objects.objects
    linking.plans linking.obeys c.then_link.fresh
    (subst (λ (ps : List Bytes). AreAt linking.old ps objects.objects) (sym c.objects) at) c.own_map in
    let has = c.then_run.same linking.link.tape.now ∙ tape.left in
    let run = sim_law running.words running.sim running.done running.old running.new running.before running.after texts linking.link.bottom
    objects.objects tape.tape running.plans running.obeys c.then_run.fresh objects.are tape.is_tape (ap (bytes_at running.old) c.tape ∙ has) in
    record {
      tape = tape_linked parts_law load_law within_law size_law texts linking.link.bottom running.sim.words objects.objects tape.tape objects.are tape.is_tape
          (λ bytes. bytes_at running.new linking.link.tape.now ≡ Some bytes)
          (ap (λ (s : Store). bytes_at s linking.link.tape.now) run.0 ∙ has);
      run = run.1;
    }
