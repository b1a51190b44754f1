-- Answers, from what a command leaves.
use Rattle.std.proofs.Common.{◌≡◌, ℕ, List, [], Option, Some, subst}
use Rattle.std.specs.Prelude.{option_map}
use Rattle.m11_base.specs.Devices.{Bytes}
use Rattle.m11_base.specs.Feed.{Ends, Text}
use Rattle.m11_base_files.specs.MemoryFiles.{files_of}
use Rattle.m11_base_files.specs.Opens.{CreatedFile, Files}
use Rattle.m11_base_files.specs.declared.memory_files.MemoryFile.{MemoryFile}
use Rattle.m11_cli_reports.specs.Streams.{Store, Streams, store}
use Rattle.m11_cpu_machine.specs.Dialogue.{input_of}
use Rattle.m11_web.specs.Answers.{CarriedOut, Command, IsAnswer, before}

-- the streams before a command, part by part
abbrev pub streams_of : Option Text → ℕ → Option Bytes → ℕ → ℕ → Option Bytes → ℕ → ℕ → Streams
streams_of text faults printed p_faults p_held reported r_faults r_held = record {
  input = input_of text faults;
  printed = record { text = printed; faults = p_faults; held = p_held };
  reported = record { text = reported; faults = r_faults; held = r_held };
}

-- the streams before a command that can read this, whose outputs are empty
pub streams_so : (input : Bytes) (text : Option Text) (faults : ℕ) (p : Option Bytes) (pf : ℕ) (r : Option Bytes) (rf : ℕ)
    → text ≡ Some (record { bytes = input; ending = Ends }) → faults ≡ 0 → p ≡ Some [] → pf ≡ 0 → r ≡ Some [] → rf ≡ 0
    → streams_of text faults p pf 0 r rf 0 ≡ before input
streams_so input text faults p pf r rf et ef ep epf er erf = rw (et, ef, ep, epf, er, erf)

pub carried : (Obeyed : Command) (words : List Bytes) (files : List MemoryFile) (input : Bytes) (known : Option Files) (refusals : ℕ)
    (old : Streams) (new : Store) (after : Streams) (status : ℕ) (printed reported : Bytes) (made : List CreatedFile) (answer : Bytes)
    → known ≡ Some (files_of files []) → refusals ≡ 0 → old ≡ before input → Obeyed words status (store known refusals) new old after
    → after.printed.text ≡ Some printed → after.reported.text ≡ Some reported
    → option_map (λ files. files.made) new.files ≡ Some made → IsAnswer status printed reported made answer
    → CarriedOut Obeyed words files input answer
carried Obeyed words files input known refusals old new after status printed reported made answer ek er eo obeyed hp hr hm is =
    let P : Option Files → ℕ → Streams → Type 0 = λ k r o. Obeyed words status (store k r) new o after in
    let so : P (Some (files_of files [])) 0 (before input) =
    subst (λ (o : Streams). P (Some (files_of files [])) 0 o) eo (subst (λ (r : ℕ). P (Some (files_of files [])) r old) er
    (subst (λ (k : Option Files). P k refusals old) ek obeyed)) in
    (status, new, after, printed, reported, made, so, hp, hr, hm, is)
