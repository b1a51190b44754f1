-- The sections that are gathered are those of all parts, each with its total.
use Rattle.std.proofs.Common.{◌≡◌, ℕ, min, true, cond, List, [], ◌∷◌, ◌++◌, map, is_some, Option, Some, None, refl, sym, ap, ◌∙◌, subst, true≢false}
use Rattle.std.specs.Int.RustNames.{bit_and}
use Rattle.std.specs.List.{cons_option, filter_map, list_any}
use Rattle.std.specs.Option.{unwrap_or}
use Rattle.std.specs.Map.{keys_of, lookup}
use Rattle.std.proofs.lemmas.Map.Made.{is_some-lookup}
use Rattle.indexmap.specs.IndexMap.{insert_entry}
use Rattle.indexmap.specs.IndexSet.{insert_key}
use Rattle.indexmap.proofs.SetLemmas.{keys_insert_entry}
use Rattle.m11_base.specs.Rad50.{is_same_name}
use Rattle.m11_base.proofs.SameNames.{same_name_itself, same_name_equal}
use Rattle.m11_obj.specs.declared.gsd.GsdEntry.{GsdEntry}
use Rattle.m11_obj.specs.declared.gsd.GsdKind.{GsdKind}
use Rattle.m11_obj.specs.declared.gsd.GsdKind.TheVariants.{ModuleName, ControlSection, InternalSymbol, TransferAddress, GlobalSymbol, ProgramSection, Identification}
use Rattle.m11_link_modules.specs.Parts.{Part, Directory, Entry, EndOfDirectory, Text, Relocations, Relocated, EndOfModule, EndOfFile}
use Rattle.m11_link_modules.specs.Positions.{RulesState, distinct, global_of, known_of, section_by, section_in, section_names, sections_in}
use Rattle.m11_link_modules.specs.Rules.{fault_of, first_fault}
use Rattle.m11_link_modules.specs.Steps.{known_after}
use Rattle.m11_link_modules.specs.Steps as steps
use Rattle.m11_link_modules.proofs.KnownAfter.{known_after_part}
use Rattle.m11_link_layout.specs.Tables.{LayoutTables, collected_after, collected_after_all, nothing_collected, size_cap, total_after, with_entry}
use Rattle.m11_link_layout.specs.Sections.{attribute_bits, attributes_by, attributes_in, control_attributes, first_attributes, flags_of, section_size, sizes_of, total}
use Rattle.m11_link_layout.specs.declared.definition.Total.{Total}
use Rattle.m11_link_layout.proofs.Finding.{Apart, apart_inserted, lookup_inserted, pairs_found}
use Rattle.m11_link_layout.proofs.Keeping.{relocated_keeps, symbol_keeps}
use Rattle.m11_link_layout.proofs.Sizing.{attributes_found, total_entered, total_from, total_in, total_kept, total_of, totals_in}
use Rattle.m11_link_layout.proofs.Walking.{walked}

-- these sections, whose names are distinct, are those of the parts
pub record SectionsOf (before : List Part) (sections : List ((ℕ × ℕ) × Total)) : Type 0 where
  pub names : keys_of sections ≡ (known_of before).sections
  pub apart : Apart is_same_name (keys_of sections)
  pub totals : (name : ℕ × ℕ) → lookup (is_same_name name) sections ≡ total_of before name

abbrev Sections : Type 0
Sections = List ((ℕ × ℕ) × Total)

kept : (before : List Part) (part : Part) (old new : Sections) → new ≡ old
    → (known_after (known_of before) part).sections ≡ (known_of before).sections
    → filter_map attributes_in (part ∷ []) ≡ [] → filter_map section_in (part ∷ []) ≡ [] → fault_of before part ≡ None
    → SectionsOf before old → SectionsOf (before ++ part ∷ []) new
kept before part old new e k a f n s =
    let P : Sections → Type 0 = λ sections. SectionsOf (before ++ part ∷ []) sections in
    subst P (sym e) (record {
      names = s.names ∙ sym k ∙ sym (ap (λ known. known.sections) (known_after_part before part n));
      apart = s.apart;
      totals = λ name. s.totals name ∙ sym (total_kept before part name a f);
    })

entered : (before : List Part) (part : Part) (old new : Sections) (name : ℕ × ℕ) (attributes size : ℕ)
    → new ≡ insert_entry is_same_name old name (total_after (lookup (is_same_name name) old) attributes size)
    → (known_after (known_of before) part).sections ≡ insert_key is_same_name (known_of before).sections name
    → filter_map attributes_in (part ∷ []) ≡ (name, attributes) ∷ []
    → filter_map section_in (part ∷ []) ≡ (name, size) ∷ []
    → fault_of before part ≡ None → SectionsOf before old → SectionsOf (before ++ part ∷ []) new
entered before part old new name attributes size e k a f n s =
    let P : Sections → Type 0 = λ sections. SectionsOf (before ++ part ∷ []) sections in
    let total = total_after (lookup (is_same_name name) old) attributes size in
    let keys = keys_insert_entry is_same_name old name total in
    let Q : List (ℕ × ℕ) → Type 0 = λ names. Apart is_same_name names in
    subst P (sym e) (record {
      names = keys ∙ ap (λ names. insert_key is_same_name names name) s.names ∙ sym k
          ∙ sym (ap (λ known. known.sections) (known_after_part before part n));
      apart = subst Q (sym keys) (apart_inserted is_same_name same_name_equal same_name_itself (keys_of old) name s.apart);
      totals = λ other. lookup_inserted is_same_name same_name_equal same_name_itself other name total old
          ∙ (λ j. cond (is_same_name other name) (Some (total_after (s.totals name j) attributes size)) (s.totals other j))
          ∙ sym (total_entered before part other name attributes size a f);
    })

abbrev sections_reported : LayoutTables → Sections
sections_reported g = g.sections

entry_step : (bottom : ℕ) (before : List Part) (g : LayoutTables) (kind : GsdKind) (entry : GsdEntry)
    → (known_after (known_of before) (Entry entry)).sections ≡ (steps.with_entry kind entry (known_of before)).sections
    → filter_map attributes_in (Entry entry ∷ []) ≡ cons_option (attributes_by kind entry) []
    → filter_map section_in (Entry entry ∷ []) ≡ cons_option (section_by kind entry) []
    → fault_of before (Entry entry) ≡ None
    → SectionsOf before g.sections → SectionsOf (before ++ Entry entry ∷ []) (with_entry bottom kind entry g).sections
entry_step bottom before g ControlSection entry k a f n s =
    entered before (Entry entry) g.sections _ entry.name (control_attributes entry.name) entry.value refl k a f n s
entry_step bottom before g ProgramSection entry k a f n s =
    entered before (Entry entry) g.sections _ entry.name (bit_and entry.flags attribute_bits) entry.value refl k a f n s
entry_step bottom before g ModuleName entry k a f n s = kept before (Entry entry) g.sections _ refl k a f n s
entry_step bottom before g InternalSymbol entry k a f n s = kept before (Entry entry) g.sections _ refl k a f n s
entry_step bottom before g TransferAddress entry k a f n s = kept before (Entry entry) g.sections _ refl k a f n s
entry_step bottom before g GlobalSymbol entry k a f n s =
    kept before (Entry entry) g.sections _ (symbol_keeps sections_reported g
    (λ definitions references weak. refl) entry) k a f n s
entry_step bottom before g Identification entry k a f n s = kept before (Entry entry) g.sections _ refl k a f n s

target_known : (global : Option (ℕ × ℕ)) (known : RulesState)
    → (steps.with_optional_global global known).sections ≡ known.sections
target_known None known = refl
target_known (Some name) known = refl

pub sections_step : (bottom : ℕ) (before : List Part) (g : LayoutTables) (part : Part) → fault_of before part ≡ None
    → SectionsOf before g.sections → SectionsOf (before ++ part ∷ []) (collected_after bottom g part).sections
unfolding collected_after known_after
sections_step bottom before g Directory n s = kept before Directory g.sections _ refl refl refl refl n s
sections_step bottom before g (Entry entry) n s = entry_step bottom before g entry.kind entry refl refl refl n s
sections_step bottom before g EndOfDirectory n s = kept before EndOfDirectory g.sections _ refl refl refl refl n s
sections_step bottom before g (Text address bytes) n s =
    kept before (Text address bytes) g.sections _ refl refl refl refl n s
sections_step bottom before g Relocations n s = kept before Relocations g.sections _ refl refl refl refl n s
sections_step bottom before g (Relocated relocation) n s =
    kept before (Relocated relocation) g.sections _
    (relocated_keeps sections_reported g (λ definitions references weak. refl) (global_of relocation.target))
    (target_known (global_of relocation.target) _) refl refl n s
sections_step bottom before g EndOfModule n s = kept before EndOfModule g.sections _ refl refl refl refl n s
sections_step bottom before g EndOfFile n s = kept before EndOfFile g.sections _ refl refl refl refl n s

pub sections_none : SectionsOf [] nothing_collected.sections
unfolding known_of section_names sections_in distinct sizes_of
sections_none = record { names = refl; apart = tt; totals = λ name. refl }

-- ---- the list of sections

there : (parts : List Part) (name : ℕ × ℕ) (found : Option ℕ) → attributes_found parts name ≡ found
    → is_some (total_from found (sizes_of parts name)) ≡ true
    → total_of parts name ≡ Some (total_in parts name)
unfolding first_attributes section_size
there parts name None e t = absurd (true≢false (sym t))
there parts name (Some attributes) e t =
    let P : Option ℕ → Type 0 = λ found. total_from found (sizes_of parts name)
    ≡ Some (record {
      attributes = flags_of (unwrap_or found 0);
      size = min size_cap
          (total (unwrap_or found 0) (sizes_of parts name));
    }) in
    subst P (sym e) refl

is_there : (parts : List Part) (sections : Sections) (name : ℕ × ℕ) → SectionsOf parts sections
    → list_any (is_same_name name) (keys_of sections) ≡ true
    → lookup (is_same_name name) sections ≡ Some (total_in parts name)
is_there parts sections name s t =
    s.totals name ∙ there parts name (attributes_found parts name) refl
    (sym (ap is_some (s.totals name)) ∙ is_some-lookup (is_same_name name) sections ∙ t)

pub sections_are : (parts : List Part) (sections : Sections) → SectionsOf parts sections → sections ≡ totals_in parts
unfolding known_of
sections_are parts sections s =
    pairs_found is_same_name same_name_equal same_name_itself (total_in parts) sections s.apart
    (λ name t. is_there parts sections name s t)
    ∙ ap (λ names. map (λ name. (name, total_in parts name)) names) s.names

-- the sections gathered from parts without a fault are those of the parts
pub sections_gathered : (bottom : ℕ) (parts : List Part) → first_fault [] parts ≡ None
    → SectionsOf parts (collected_after_all bottom nothing_collected parts).sections
sections_gathered bottom parts n =
    walked bottom (λ before g. SectionsOf before g.sections)
    (λ before g part f s. sections_step bottom before g part f s) [] parts nothing_collected n sections_none
