-- The section that a module entered last.
use Rattle.std.proofs.Common.{◌≡◌, ℕ, false, List, [], ◌∷◌, ◌++◌, append-nil, Option, Some, None, refl, sym, ap, ◌∙◌}
use Rattle.std.specs.List.{cons_option, filter_map}
use Rattle.std.specs.Map.{keys_of}
use Rattle.std.proofs.lemmas.List.{map-append}
use Rattle.std.proofs.lemmas.List.Elements.{filter_map-append}
use Rattle.m11_obj.specs.declared.gsd.GsdEntry.{GsdEntry}
use Rattle.m11_obj.specs.declared.gsd.GsdKind.{GsdKind}
use Rattle.m11_obj.specs.declared.gsd.GsdKind.TheVariants.{ModuleName, ControlSection, InternalSymbol, TransferAddress, GlobalSymbol, ProgramSection, Identification}
use Rattle.m11_link_modules.specs.Parts.{Part, Directory, Entry, EndOfDirectory, Text, Relocations, Relocated, EndOfModule, EndOfFile}
use Rattle.m11_link_modules.specs.Positions.{ends_module, global_of, section_by, section_in, sections_in, this_module}
use Rattle.m11_link_modules.proofs.KnownAfter.{this_module_ended, this_module_goes_on}
use Rattle.m11_link_layout.specs.Tables.{LayoutTables, collected_after, nothing_collected, with_entry}
use Rattle.m11_link_layout.specs.Globals.{last_of, last_section}
use Rattle.m11_link_layout.proofs.Keeping.{relocated_keeps, symbol_keeps}

last_more : {X : Type 0} (xs : List X) (x : X) → last_of (xs ++ x ∷ []) ≡ Some x
last_more [] x = refl
last_more (first ∷ []) x = refl
last_more (first ∷ second ∷ xs) x = last_more (second ∷ xs) x

last_section_more : (own : List Part) (part : Part)
    → last_section (own ++ part ∷ []) ≡ last_of (keys_of (sections_in own) ++ keys_of (sections_in (part ∷ [])))
unfolding last_section sections_in
last_section_more own part =
    ap (λ reported. last_of (keys_of reported)) (filter_map-append section_in own (part ∷ []))
    ∙ ap last_of (map-append (λ e. e.0) (filter_map section_in own) (filter_map section_in (part ∷ [])))

section_kept : (before : List Part) (part : Part) (old new : Option (ℕ × ℕ)) → ends_module part ≡ false
    → filter_map section_in (part ∷ []) ≡ []
    → new ≡ old → old ≡ last_section (this_module before) → new ≡ last_section (this_module (before ++ part ∷ []))
unfolding last_section sections_in
section_kept before part old new e s same is =
    let own = this_module before in
    same ∙ is ∙ ap last_of (sym (append-nil (keys_of (filter_map section_in own))))
    ∙ ap (λ reported. last_of (keys_of (filter_map section_in own) ++ keys_of reported)) (sym s)
    ∙ sym (last_section_more own part) ∙ ap (λ parts. last_section parts) (sym (this_module_goes_on before part e))

section_entered : (before : List Part) (part : Part) (name : ℕ × ℕ) (size : ℕ) → ends_module part ≡ false
    → filter_map section_in (part ∷ []) ≡ (name, size) ∷ []
    → Some name ≡ last_section (this_module (before ++ part ∷ []))
unfolding last_section sections_in
section_entered before part name size e s =
    let own = this_module before in
    sym (last_more (keys_of (filter_map section_in own)) name)
    ∙ ap (λ reported. last_of (keys_of (filter_map section_in own) ++ keys_of reported)) (sym s)
    ∙ sym (last_section_more own part) ∙ ap (λ parts. last_section parts) (sym (this_module_goes_on before part e))

abbrev section_reported : LayoutTables → Option (ℕ × ℕ)
section_reported g = g.section

section_entry : (bottom : ℕ) (before : List Part) (g : LayoutTables) (kind : GsdKind) (entry : GsdEntry)
    → filter_map section_in (Entry entry ∷ []) ≡ cons_option (section_by kind entry) []
    → g.section ≡ last_section (this_module before)
    → (with_entry bottom kind entry g).section ≡ last_section (this_module (before ++ Entry entry ∷ []))
section_entry bottom before g ControlSection entry s is =
    section_entered before (Entry entry) entry.name entry.value refl s
section_entry bottom before g ProgramSection entry s is =
    section_entered before (Entry entry) entry.name entry.value refl s
section_entry bottom before g ModuleName entry s is = section_kept before (Entry entry) g.section _ refl s refl is
section_entry bottom before g InternalSymbol entry s is = section_kept before (Entry entry) g.section _ refl s refl is
section_entry bottom before g TransferAddress entry s is = section_kept before (Entry entry) g.section _ refl s refl is
section_entry bottom before g GlobalSymbol entry s is =
    section_kept before (Entry entry) g.section _ refl s
    (symbol_keeps section_reported g (λ definitions references weak. refl) entry) is
section_entry bottom before g Identification entry s is = section_kept before (Entry entry) g.section _ refl s refl is

section_ended : (before : List Part) → None ≡ last_section (this_module (before ++ EndOfModule ∷ []))
unfolding last_section sections_in
section_ended before = ap (λ parts. last_section parts) (sym (this_module_ended before))

pub section_step : (bottom : ℕ) (before : List Part) (g : LayoutTables) (part : Part)
    → g.section ≡ last_section (this_module before)
    → (collected_after bottom g part).section ≡ last_section (this_module (before ++ part ∷ []))
unfolding collected_after
section_step bottom before g Directory is = section_kept before Directory g.section _ refl refl refl is
section_step bottom before g (Entry entry) is = section_entry bottom before g entry.kind entry refl is
section_step bottom before g EndOfDirectory is = section_kept before EndOfDirectory g.section _ refl refl refl is
section_step bottom before g (Text address bytes) is =
    section_kept before (Text address bytes) g.section _ refl refl refl is
section_step bottom before g Relocations is = section_kept before Relocations g.section _ refl refl refl is
section_step bottom before g (Relocated relocation) is =
    section_kept before (Relocated relocation) g.section _ refl refl
    (relocated_keeps section_reported g (λ definitions references weak. refl) (global_of relocation.target)) is
section_step bottom before g EndOfModule is = section_ended before
section_step bottom before g EndOfFile is = section_kept before EndOfFile g.section _ refl refl refl is

pub section_none : nothing_collected.section ≡ last_section (this_module [])
unfolding last_section sections_in this_module
section_none = refl
