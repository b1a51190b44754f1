-- The opening of a task's files: first its inputs, in order, and then its outputs. (This project's own.)
use Rattle.std.specs.Prelude.{◌≡◌, ◌++◌, ◌⊎◌, List, [], ◌∷◌, ℕ, map, Option, Some, None, Result, Ok, Err, ⊤}
use Rattle.std.specs.Borrow.{Bor}
use Rattle.m11_base.specs.Devices.{Bytes, Rises}
use Rattle.m11_base_files.specs.Opens.{Files, HasAll, IsFirstLacking, Lacks, creating}
use Rattle.m11_cli_tasks.specs.declared.opened.OpenFault.{OpenFault}
use Rattle.m11_cli_tasks.specs.declared.opened.OpenFault.TheVariants.{NotOpened, NoMemory}
use Rattle.m11_base_files.specs.declared.opens.OpenRefusal.{OpenRefusal}
use Rattle.m11_base_files.specs.declared.opens.OpenRefusal.TheVariants as refused
use Rattle.m11_cli_tasks.specs.declared.tasks.AsmTask.{AsmTask}
use Rattle.m11_cli_tasks.specs.declared.tasks.LinkTask.{LinkTask}
use Rattle.m11_cli_tasks.specs.declared.tasks.SimTask.{SimTask}

abbrev pub texts : List (Bor Bytes) → List Bytes
texts paths = map (λ path. path.now) paths

-- the path as a list; empty if there is no path
abbrev pub optional : Option (Bor Bytes) → List Bytes
optional None = []
optional (Some path) = path.now ∷ []

-- the paths of the files that a task reads, and of those that it writes
abbrev pub asm_inputs : AsmTask → List Bytes
asm_inputs task = texts task.sources.items

abbrev pub asm_outputs : AsmTask → List Bytes
asm_outputs task = task.object.now ∷ optional task.listing

abbrev pub link_inputs : LinkTask → List Bytes
link_inputs task = texts task.objects.items

abbrev pub link_outputs : LinkTask → List Bytes
link_outputs task = task.tape.now ∷ optional task.map

abbrev pub sim_inputs : SimTask → List Bytes
sim_inputs task = task.tape.now ∷ []

-- all inputs exist, and none, some or all of the outputs were created, in order
abbrev pub CreatesSome : Option Files → Option Files → List Bytes → List Bytes → Type 0
CreatesSome old new inputs outputs = HasAll old inputs × (before : List Bytes) × (more : List Bytes)
    × (outputs ≡ before ++ more) × (new ≡ creating before old)

-- the path at which opening stopped: the first input that doesn't exist, before anything was created; or an output, after all inputs were
-- opened and all outputs before it were created
abbrev pub StopsAt : Option Files → Option Files → List Bytes → List Bytes → Bytes → Type 0
StopsAt old new inputs outputs path = (IsFirstLacking old inputs path × (new ≡ old))
    ⊎ (HasAll old inputs × (before : List Bytes) × (more : List Bytes)
    × (outputs ≡ before ++ path ∷ more) × (new ≡ creating before old))

-- the reason why opening stopped, and the files afterwards: a file couldn't be opened or created; or memory was refused, before or after
-- some outputs were created
abbrev pub Stops : Option Files → Option Files → List Bytes → List Bytes → OpenFault → Type 0
Stops old new inputs outputs (NotOpened path) = StopsAt old new inputs outputs path.now
Stops old new inputs outputs NoMemory = (new ≡ old) ⊎ CreatesSome old new inputs outputs

-- a count of refusals rises if a file couldn't be opened or created, and is unchanged if memory was refused
abbrev pub Counts : ℕ → ℕ → OpenFault → Type 0
Counts old new (NotOpened path) = Rises old new
Counts old new NoMemory = new ≡ old

abbrev pub CountsOpening : {A : Type 0} → ℕ → ℕ → Result A OpenFault → Type 0
CountsOpening old new (Ok opened) = new ≡ old
CountsOpening old new (Err fault) = Counts old new fault

-- ---- parts of the opening

-- the reason why one input can't be opened: there is no file at its path, which is reported; or memory was refused
abbrev pub LacksOne : Option Files → Bytes → OpenFault → Type 0
LacksOne files path (NotOpened reported) = (reported.now ≡ path) × Lacks files path
LacksOne files path NoMemory = ⊤

-- the reason why several inputs can't all be opened: the reported path is the first one at which there is no file; or memory was
-- refused
abbrev pub LacksFirst : Option Files → List Bytes → OpenFault → Type 0
LacksFirst files paths (NotOpened reported) = IsFirstLacking files paths reported.now
LacksFirst files paths NoMemory = ⊤

-- the fault of creating the output whose path is the only one in the list: `NotOpened` with that path, or `NoMemory`
abbrev pub Names : List Bytes → OpenFault → Type 0
Names paths (NotOpened reported) = paths ≡ reported.now ∷ []
Names paths NoMemory = ⊤

-- a refusal to open or create the file at this path, as a fault
abbrev pub fault_at : OpenRefusal → Bor Bytes → OpenFault
fault_at refused.NotOpened path = NotOpened path
fault_at refused.NoMemory path = NoMemory
