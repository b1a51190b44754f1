-- Files in memory that are handed on to the next command.
use Rattle.std.proofs.Common.{◌≡◌, ◌∙◌, ℕ, Bool, true, false, if◌then◌else◌, List, [], ◌∷◌, ◌++◌, map, Option, Some, option_map, refl, sym, ap}
use Rattle.std.specs.Prelude.{string_bytes}
use Rattle.std.specs.Str.{bytes_eq}
use Rattle.m11_base.specs.Devices.{Bytes}
use Rattle.m11_base.specs.Feed.{Text}
use Rattle.m11_base_files.specs.MemoryFiles.{files_of, held_among, made_of, text_of}
use Rattle.m11_base_files.specs.Opens.{CreatedFile}
use Rattle.m11_base_files.specs.declared.memory_files.MadeFile.{MadeFile}
use Rattle.m11_base_files.specs.declared.memory_files.MemoryFile.{MemoryFile}
use Rattle.m11_cli_reports.specs.Streams.{store}
use Rattle.m11_cli_chain.specs.Stores.{Follows, created_as, created_or}

abbrev bytes_of : Option Text → Option Bytes
bytes_of text = option_map (λ t. t.bytes) text

either : (b : Bool) (here : Text) (rest : Option Text) (later : Option Bytes) → bytes_of rest ≡ later
    → bytes_of (if b then Some here else rest) ≡ (if b then Some here.bytes else later)
either true here rest later e = refl
either false here rest later e = e

joined : (given stored : List MemoryFile) (path : Bytes)
    → bytes_of (held_among (given ++ stored) path) ≡ created_or (bytes_of (held_among stored path)) path (map created_as given)
joined [] stored path = refl
joined (file ∷ more) stored path =
    either (bytes_eq (string_bytes file.path) path) (text_of file) (held_among (more ++ stored) path)
    (created_or (bytes_of (held_among stored path)) path (map created_as more)) (joined more stored path)

pub handed_on : (stored given : List MemoryFile) (made : List MadeFile) (refusals refusals' : ℕ) → map made_of made ≡ map created_as given
    → Follows (store (Some (files_of stored made)) refusals) (store (Some (files_of (given ++ stored) [])) refusals')
handed_on stored given made refusals refusals' same = record {
  fresh = refl;
  same = λ path. joined given stored path
      ∙ ap (λ (these : List CreatedFile). created_or (bytes_of (held_among stored path)) path these) (sym same);
}
