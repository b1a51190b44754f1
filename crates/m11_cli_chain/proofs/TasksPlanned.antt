-- All tasks of one command line have the same paths and numbers.
use Rattle.std.proofs.Common.{◌≡◌, ◌∙◌, List, [], ◌∷◌, Option, Some, None, option_map, Result, Ok, refl, sym, ap}
use Rattle.std.specs.Borrow.{Bor}
use Rattle.clap.specs.Words.{Row, Text}
use Rattle.m11_base.specs.Devices.{Bytes}
use Rattle.m11_cli_tasks.specs.Opened.{asm_inputs, link_inputs, optional}
use Rattle.m11_cli_tasks.specs.Tasks.{IsTask, Plans}
use Rattle.m11_cli_tasks.specs.declared.tasks.AsmTask.{AsmTask}
use Rattle.m11_cli_tasks.specs.declared.tasks.LinkTask.{LinkTask}
use Rattle.m11_cli_tasks.specs.declared.tasks.SimTask.{SimTask}
use Rattle.m11_cli_tasks.specs.declared.tasks.Task.TheVariants as task
use Rattle.m11_cli_tasks.specs.declared.usage.UsageFault.{UsageFault}

-- ---- options

same_some : {A : Type 0} (one other : A) → ◌≡◌ {A = Option A} (Some one) (Some other) → one ≡ other
same_some one other e = cc

no_some : {A : Type 0} (one : A) → ◌≡◌ {A = Option A} None (Some one) → ⊥
no_some one e = cc

some_no : {A : Type 0} (one : A) → ◌≡◌ {A = Option A} (Some one) None → ⊥
some_no one e = cc

same_ok : {A : Type 0} (one other : A) → ◌≡◌ {A = Result A UsageFault} (Ok one) (Ok other) → one ≡ other
same_ok one other e = cc

abbrev path_of : Option (Bor Bytes) → Option Bytes
path_of path = option_map (λ p. p.now) path

same_optional : (one other : Option (Bor Bytes)) → path_of one ≡ path_of other → optional one ≡ optional other
same_optional None None e = refl
same_optional None (Some other) e = absurd (no_some other.now e)
same_optional (Some one) None e = absurd (some_no one.now e)
same_optional (Some one) (Some other) e = ap (λ (p : Bytes). p ∷ []) (same_some one.now other.now e)

-- ---- assemblies

pub record SameAsm (one other : AsmTask) : Type 0 where
  pub object : one.object.now ≡ other.object.now
  pub listing : optional one.listing ≡ optional other.listing
  pub sources : asm_inputs one ≡ asm_inputs other

asm_entered : (entered : Option (Text × List Row)) (one other : AsmTask) → IsTask entered (task.Asm one) → IsTask entered (task.Asm other)
    → SameAsm one other
asm_entered None one other h k = absurd h
asm_entered (Some entered) one other (named, h) (named', k) = record {
  object = h.object ∙ sym k.object;
  listing = same_optional one.listing other.listing (h.listing_path ∙ sym k.listing_path);
  sources = h.sources ∙ sym k.sources;
}

pub same_asm : (words : List Text) (one other : AsmTask) → Plans words (Ok (task.Asm one)) → Plans words (Ok (task.Asm other))
    → SameAsm one other
same_asm words one other (taken, h) (taken', k) = asm_entered _ one other h k

-- ---- links

pub record SameLink (one other : LinkTask) : Type 0 where
  pub tape : one.tape.now ≡ other.tape.now
  pub map_path : optional one.map ≡ optional other.map
  pub bottom : one.bottom ≡ other.bottom
  pub objects : link_inputs one ≡ link_inputs other

link_entered : (entered : Option (Text × List Row)) (one other : LinkTask) → IsTask entered (task.Link one)
    → IsTask entered (task.Link other) → SameLink one other
link_entered None one other h k = absurd h
link_entered (Some entered) one other (named, h) (named', k) = record {
  tape = h.tape ∙ sym k.tape;
  map_path = same_optional one.map other.map (h.map_path ∙ sym k.map_path);
  bottom = same_ok one.bottom other.bottom (sym h.bottom ∙ k.bottom);
  objects = h.objects ∙ sym k.objects;
}

pub same_link : (words : List Text) (one other : LinkTask) → Plans words (Ok (task.Link one)) → Plans words (Ok (task.Link other))
    → SameLink one other
same_link words one other (taken, h) (taken', k) = link_entered _ one other h k

-- ---- runs

pub record SameSim (one other : SimTask) : Type 0 where
  pub tape : one.tape.now ≡ other.tape.now
  pub start : one.start ≡ other.start
  pub words : one.words ≡ other.words
  pub limit : one.limit ≡ other.limit

sim_entered : (entered : Option (Text × List Row)) (one other : SimTask) → IsTask entered (task.Sim one) → IsTask entered (task.Sim other)
    → SameSim one other
sim_entered None one other h k = absurd h
sim_entered (Some entered) one other (named, h) (named', k) = record {
  tape = h.tape ∙ sym k.tape;
  start = same_ok one.start other.start (sym h.start ∙ k.start);
  words = h.words ∙ sym k.words;
  limit = h.limit ∙ sym k.limit;
}

pub same_sim : (words : List Text) (one other : SimTask) → Plans words (Ok (task.Sim one)) → Plans words (Ok (task.Sim other))
    → SameSim one other
same_sim words one other (taken, h) (taken', k) = sim_entered _ one other h k
