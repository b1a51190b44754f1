-- What a map shows about modules and globals.
use Rattle.std.proofs.Common.{◌≡◌, ◌∙◌, ℕ, ◌+◌, nat_eq, Bool, true, false, not, ◌&&◌, if◌then◌else◌, List, [], ◌∷◌, Option, Some, None, refl, sym, ap, option_map, arith}
use Rattle.std.specs.List.{cons_option, filter, filter_map}
use Rattle.std.specs.List.Sorted.{IsStableByKey}
use Rattle.std.specs.Ordering.{is_lt, nat_cmp}
use Rattle.std.proofs.lemmas.Bool.Decides.{nat_tests}
use Rattle.m11_link_modules.specs.Parts.{Part, Directory, Entry, EndOfDirectory, Text, Relocations, Relocated, EndOfModule, EndOfFile}
use Rattle.m11_link_modules.specs.Positions.{section_by, section_in, sections_in}
use Rattle.m11_obj.specs.declared.gsd.GsdKind.{GsdKind}
use Rattle.m11_obj.specs.declared.gsd.GsdKind.TheVariants.{ModuleName, ControlSection, InternalSymbol, TransferAddress, GlobalSymbol, ProgramSection, Identification}
use Rattle.m11_obj.specs.declared.gsd.GsdEntry.{GsdEntry}
use Rattle.m11_link_layout.specs.Modules.{indexed, module_at, part_at}
use Rattle.m11_link_layout.specs.declared.planned.PlannedGlobal.{PlannedGlobal}
use Rattle.m11_link_load_map.specs.LoadMap.{Contribution, contribution, contribution_at, contribution_in, contributions_of, lies_at}
use Rattle.m11_link_load_map.specs.Noted.{contributions_from, noted_by, noted_in, noted_of}

-- ---- contributions

one_shown : (index own : ℕ) (section : Option ((ℕ × ℕ) × ℕ)) (b : Bool) (more : List ((ℕ × ℕ) × ℕ)) (rest : List Contribution)
    → nat_eq own index ≡ b → filter_map (contribution_in index) rest ≡ more
    → filter_map (contribution_in index) (cons_option (option_map (contribution own) section) rest)
    ≡ (if b then cons_option section more else more)
one_shown index own None true more rest e h = h
one_shown index own None false more rest e h = h
one_shown index own (Some section) b more rest e h =
    ap (λ (t : Bool). cons_option (if t then Some section else None) (filter_map (contribution_in index) rest)) e
    ∙ ap (λ (these : List ((ℕ × ℕ) × ℕ)). cons_option (if b then Some section else None) these) h
    ∙ by_test b
  where
    by_test : (b : Bool) → cons_option (if b then Some section else None) more ≡ (if b then (section ∷ more) else more)
    by_test true = refl
    by_test false = refl

one_kept : (part : Part) (b : Bool) (parts : List Part)
    → filter_map section_in (cons_option (if b then Some part else None) parts)
    ≡ (if b then cons_option (section_in part) (filter_map section_in parts) else filter_map section_in parts)
one_kept part true parts = refl
one_kept part false parts = refl

shown_among : (index : ℕ) (these : List (ℕ × Part))
    → filter_map (contribution_in index) (filter_map contribution_at these)
    ≡ filter_map section_in (filter_map (part_at index) these)
shown_among index [] = refl
shown_among index (this ∷ these) =
    one_shown index this.0 (section_in this.1) (nat_eq this.0 index)
    (filter_map section_in (filter_map (part_at index) these)) (filter_map contribution_at these) refl (shown_among index these)
    ∙ sym (one_kept this.1 (nat_eq this.0 index) (filter_map (part_at index) these))

pub each_shown : (parts : List Part) (index : ℕ)
    → filter_map (contribution_in index) (contributions_of parts) ≡ sections_in (module_at parts index)
unfolding contributions_of module_at sections_in
each_shown parts index = shown_among index (indexed 0 parts)

-- ---- the recorded facts

entry_from : (index : ℕ) (kind : GsdKind) (entry : GsdEntry) (parts : List Part) (all : List Contribution)
    → contributions_from index (filter_map noted_in parts) ≡ all
    → contributions_from index (cons_option (noted_by kind entry) (filter_map noted_in parts))
    ≡ cons_option (option_map (contribution index) (section_by kind entry)) all
entry_from index ModuleName entry parts all h = h
entry_from index ControlSection entry parts all h =
    ap (λ (these : List Contribution). contribution index (entry.name, entry.value) ∷ these) h
entry_from index InternalSymbol entry parts all h = h
entry_from index TransferAddress entry parts all h = h
entry_from index GlobalSymbol entry parts all h = h
entry_from index ProgramSection entry parts all h =
    ap (λ (these : List Contribution). contribution index (entry.name, entry.value) ∷ these) h
entry_from index Identification entry parts all h = h

contributions_are : (index : ℕ) (parts : List Part)
    → contributions_from index (filter_map noted_in parts) ≡ filter_map contribution_at (indexed index parts)
contributions_are index [] = refl
contributions_are index (Directory ∷ parts) = contributions_are index parts
contributions_are index (Entry entry ∷ parts) =
    entry_from index entry.kind entry parts (filter_map contribution_at (indexed index parts)) (contributions_are index parts)
contributions_are index (EndOfDirectory ∷ parts) = contributions_are index parts
contributions_are index (Text address bytes ∷ parts) = contributions_are index parts
contributions_are index (Relocations ∷ parts) = contributions_are index parts
contributions_are index (Relocated relocation ∷ parts) = contributions_are index parts
contributions_are index (EndOfModule ∷ parts) = contributions_are (index + 1) parts
contributions_are index (EndOfFile ∷ parts) = contributions_are index parts

pub noted_contributions : (parts : List Part) → contributions_from 0 (noted_of parts) ≡ contributions_of parts
unfolding noted_of contributions_of
noted_contributions parts = contributions_are 0 parts

-- ---- globals of equal value

tied : (a b : ℕ) → (not (is_lt (nat_cmp a b)) && not (is_lt (nat_cmp b a))) ≡ nat_eq b a
tied a b = grind (arith, nat_tests)

at_address : ℕ → PlannedGlobal
at_address address = record { name = (0, 0); value = address; module_name = (0, 0) }

pub ties_are : (globals order : List PlannedGlobal)
    → IsStableByKey (λ (global : PlannedGlobal). global.value) nat_cmp globals order
    → (address : ℕ) → filter (lies_at address) order ≡ filter (lies_at address) globals
unfolding at_address
ties_are globals order stable address =
    let test : (λ (global : PlannedGlobal). not (is_lt (nat_cmp address global.value)) && not (is_lt (nat_cmp global.value address)))
    ≡ lies_at address = λ i global. tied address global.value i in
    ap (λ (p : PlannedGlobal → Bool). filter p order) (sym test) ∙ stable (at_address address)
    ∙ ap (λ (p : PlannedGlobal → Bool). filter p globals) test
