-- The contributions that are gathered are those of the modules, each at its offset.
use Rattle.std.proofs.Common.{◌≡◌, ℕ, Bool, cond, List, [], ◌∷◌, ◌++◌, length, Option, Some, None, refl, sym, ap, ◌∙◌, subst}
use Rattle.std.specs.Int.RustNames.{bit_and}
use Rattle.std.specs.List.{cons_option, filter_map}
use Rattle.std.specs.Map.{lookup}
use Rattle.std.specs.Option.{is_some}
use Rattle.indexmap.specs.IndexMap.{insert_entry}
use Rattle.m11_base.specs.Rad50.{is_same_name}
use Rattle.m11_obj.specs.declared.gsd.GsdEntry.{GsdEntry}
use Rattle.m11_obj.specs.declared.gsd.GsdKind.{GsdKind}
use Rattle.m11_obj.specs.declared.gsd.GsdKind.TheVariants.{ModuleName, ControlSection, InternalSymbol, TransferAddress, GlobalSymbol, ProgramSection, Identification}
use Rattle.m11_link_modules.specs.declared.fault.ModuleFault.TheVariants.{BadOrder, TooManySections}
use Rattle.m11_link_modules.specs.Parts.{Part, Directory, Entry, EndOfDirectory, Text, Relocations, Relocated, EndOfModule, EndOfFile}
use Rattle.m11_link_modules.specs.Positions.{global_of, known_of, modules_in, section_by, section_in, sections_in, this_module}
use Rattle.m11_link_modules.specs.Rules.{entry_fault, fault_known, fault_of, first_there, is_past, most_sections}
use Rattle.m11_link_layout.specs.Tables.{LayoutTables, collected_after, is_contribution, next_offset, nothing_collected, with_entry}
use Rattle.m11_link_layout.specs.Modules.{module_at}
use Rattle.m11_link_layout.specs.Sections.{attribute_bits, attributes_by, attributes_in, control_attributes}
use Rattle.m11_link_layout.proofs.OneContribution.{contribution_entered, contribution_kept}
use Rattle.m11_link_layout.proofs.Finding.{is_contribution_itself, is_contribution_same, lookup_inserted}
use Rattle.m11_link_layout.proofs.Keeping.{relocated_keeps, symbol_keeps}
use Rattle.m11_link_layout.proofs.Offsets.{contribution_of}
use Rattle.m11_link_layout.proofs.SectionsCollected.{SectionsOf}

abbrev Contributions : Type 0
Contributions = List ((ℕ × (ℕ × ℕ)) × ℕ)

-- these contributions are those that the modules of the parts make
abbrev pub ContributionsOf : List Part → List ((ℕ × (ℕ × ℕ)) × ℕ) → Type 0
ContributionsOf before contributions =
    (index : ℕ) (name : ℕ × ℕ) → lookup (is_contribution (index, name)) contributions
    ≡ contribution_of before index name

-- ---- one more part gathered

kept : (before : List Part) (part : Part) (old new : Contributions) → new ≡ old
    → filter_map attributes_in (part ∷ []) ≡ []
    → filter_map section_in (part ∷ []) ≡ [] → ContributionsOf before old → ContributionsOf (before ++ part ∷ []) new
kept before part old new e a s c =
    let P : Contributions → Type 0 = λ contributions. ContributionsOf (before ++ part ∷ []) contributions in
    subst P (sym e) (λ index name. c index name ∙ sym (contribution_kept before part index name a s))

entered : (before : List Part) (part : Part) (g : LayoutTables) (new : Contributions) (name : ℕ × ℕ) (attributes size : ℕ)
    → new ≡ insert_entry is_contribution g.contributions (length g.names, name)
    (next_offset (lookup (is_same_name name) g.sections))
    → filter_map attributes_in (part ∷ []) ≡ (name, attributes) ∷ []
    → filter_map section_in (part ∷ []) ≡ (name, size) ∷ []
    → lookup (is_same_name name) (sections_in (this_module before)) ≡ None → length g.names ≡ modules_in before
    → SectionsOf before g.sections
    → ContributionsOf before g.contributions → ContributionsOf (before ++ part ∷ []) new
entered before part g new name attributes size e a s n l sections c =
    let P : Contributions → Type 0 = λ contributions. ContributionsOf (before ++ part ∷ []) contributions in
    let offset = next_offset (lookup (is_same_name name) g.sections) in
    subst P (sym e) (λ index other.
    lookup_inserted is_contribution is_contribution_same is_contribution_itself (index, other)
    (length g.names, name) offset g.contributions
    ∙ (λ j. cond (is_contribution (index, other) (l j, name)) (Some offset) (c index other j))
    ∙ contribution_entered before part index other name attributes size offset a s n
    (ap (λ found. next_offset found) (sections.totals name)))

none_there : (found : Option ℕ) (past : Bool) → first_there
    ((is_some found, BadOrder) ∷ (past, TooManySections) ∷ []) ≡ None → found ≡ None
none_there None past e = refl
none_there (Some size) past e = search

abbrev contributions_reported : LayoutTables → Contributions
contributions_reported g = g.contributions

entry_step : (bottom : ℕ) (before : List Part) (g : LayoutTables) (kind : GsdKind) (entry : GsdEntry)
    → filter_map attributes_in (Entry entry ∷ []) ≡ cons_option (attributes_by kind entry) []
    → filter_map section_in (Entry entry ∷ []) ≡ cons_option (section_by kind entry) []
    → entry_fault kind entry (sections_in (this_module before)) (known_of before).sections (known_of before).globals
    ≡ None
    → length g.names ≡ modules_in before → SectionsOf before g.sections
    → ContributionsOf before g.contributions → ContributionsOf (before ++ Entry entry ∷ [])
    (with_entry bottom kind entry g).contributions
entry_step bottom before g ControlSection entry a s n l t c =
    entered before (Entry entry) g _ entry.name (control_attributes entry.name) entry.value refl a s
    (none_there (lookup (is_same_name entry.name) (sections_in (this_module before)))
    (is_past most_sections (known_of before).sections entry.name) n) l t c
entry_step bottom before g ProgramSection entry a s n l t c =
    entered before (Entry entry) g _ entry.name (bit_and entry.flags attribute_bits) entry.value refl a s
    (none_there (lookup (is_same_name entry.name) (sections_in (this_module before)))
    (is_past most_sections (known_of before).sections entry.name) n) l t c
entry_step bottom before g ModuleName entry a s n l t c = kept before (Entry entry) g.contributions _ refl a s c
entry_step bottom before g InternalSymbol entry a s n l t c = kept before (Entry entry) g.contributions _ refl a s c
entry_step bottom before g TransferAddress entry a s n l t c = kept before (Entry entry) g.contributions _ refl a s c
entry_step bottom before g GlobalSymbol entry a s n l t c =
    kept before (Entry entry) g.contributions _ (symbol_keeps contributions_reported g
    (λ definitions references weak. refl) entry) a s c
entry_step bottom before g Identification entry a s n l t c = kept before (Entry entry) g.contributions _ refl a s c

pub no_fault : (before : List Part) (entry : GsdEntry) → fault_of before (Entry entry) ≡ None
    → entry_fault entry.kind entry (sections_in (this_module before)) (known_of before).sections
    (known_of before).globals ≡ None
unfolding fault_known known_of
no_fault before entry n = n

pub contributions_step : (bottom : ℕ) (before : List Part) (g : LayoutTables) (part : Part) → fault_of before part ≡ None
    → length g.names ≡ modules_in before → SectionsOf before g.sections → ContributionsOf before g.contributions
    → ContributionsOf (before ++ part ∷ []) (collected_after bottom g part).contributions
unfolding collected_after
contributions_step bottom before g Directory n l t c = kept before Directory g.contributions _ refl refl refl c
contributions_step bottom before g (Entry entry) n l t c =
    entry_step bottom before g entry.kind entry refl refl (no_fault before entry n) l t c
contributions_step bottom before g EndOfDirectory n l t c =
    kept before EndOfDirectory g.contributions _ refl refl refl c
contributions_step bottom before g (Text address bytes) n l t c =
    kept before (Text address bytes) g.contributions _ refl refl refl c
contributions_step bottom before g Relocations n l t c = kept before Relocations g.contributions _ refl refl refl c
contributions_step bottom before g (Relocated relocation) n l t c =
    kept before (Relocated relocation) g.contributions _
    (relocated_keeps contributions_reported g (λ definitions references weak. refl)
    (global_of relocation.target)) refl refl c
contributions_step bottom before g EndOfModule n l t c = kept before EndOfModule g.contributions _ refl refl refl c
contributions_step bottom before g EndOfFile n l t c = kept before EndOfFile g.contributions _ refl refl refl c

pub contributions_none : ContributionsOf [] nothing_collected.contributions
unfolding module_at sections_in
contributions_none index name = refl
