-- The definitions that are gathered are the first ones of all parts.
use Rattle.std.proofs.Common.{◌≡◌, ℕ, Bool, true, false, cond, is_some, true≢false, if◌then◌else◌, List, [], ◌∷◌, ◌++◌, length, append-nil, Option, Some, None, refl, sym, ap, ◌∙◌, subst}
use Rattle.std.specs.List.{cons_option}
use Rattle.std.specs.Map.{keys_of, lookup}
use Rattle.m11_base.specs.Rad50.{is_same_name}
use Rattle.m11_base.proofs.SameNames.{same_name_itself, same_name_equal}
use Rattle.m11_obj.specs.declared.gsd.GsdEntry.{GsdEntry}
use Rattle.m11_obj.specs.declared.gsd.GsdKind.{GsdKind}
use Rattle.m11_obj.specs.declared.gsd.GsdKind.TheVariants.{ModuleName, ControlSection, InternalSymbol, TransferAddress, GlobalSymbol, ProgramSection, Identification}
use Rattle.m11_link_modules.specs.Parts.{Part, Directory, Entry, EndOfDirectory, Text, Relocations, Relocated, EndOfModule, EndOfFile}
use Rattle.m11_link_modules.specs.Positions.{distinct, global_of, modules_in, this_module}
use Rattle.m11_link_modules.specs.Rules.{defines}
use Rattle.m11_obj.specs.Gsd.{has_bits}
use Rattle.m11_link_layout.specs.Tables.{LayoutTables, collected_after, nothing_collected, with_definition, with_entry, with_first, with_reference, with_relocated, with_weak}
use Rattle.m11_link_layout.specs.Globals.{definition_by, definition_in, definitions_of, first_definition, last_section, location_of}
use Rattle.m11_link_layout.specs.declared.definition.Definition.{Definition}
use Rattle.std.specs.Option.{option_or}
use Rattle.std.proofs.lemmas.Map.Made.{is_some-lookup}
use Rattle.indexmap.specs.IndexMap.{insert_entry}
use Rattle.indexmap.specs.IndexSet.{insert_key}
use Rattle.indexmap.proofs.SetLemmas.{keys_insert_entry}
use Rattle.m11_link_layout.proofs.Finding.{lookup_append, lookup_inserted}
use Rattle.m11_link_layout.proofs.Sizing.{or_none}
use Rattle.m11_link_layout.proofs.Reporting.{names_more, reported_more}

abbrev Definitions : Type 0
Definitions = List ((ℕ × ℕ) × Definition)

-- these definitions are the first ones of the parts
pub record DefinitionsOf (before : List Part) (table : List ((ℕ × ℕ) × Definition)) : Type 0 where
  pub names : keys_of table ≡ distinct (keys_of (definitions_of before))
  pub found : (name : ℕ × ℕ) → lookup (is_same_name name) table ≡ first_definition before name

definitions_more : (before : List Part) (part : Part)
    → definitions_of (before ++ part ∷ []) ≡ definitions_of before ++ cons_option (definition_in before part) []
unfolding definitions_of
definitions_more before part = reported_more definition_in before part

-- if a further pair is added only where its name is new, the names are those so far with its name inserted
first_keys : (b : Bool) (table : Definitions) (pair : (ℕ × ℕ) × Definition)
    → is_some (lookup (is_same_name pair.0) table) ≡ b
    → keys_of (if b then table else insert_entry is_same_name table pair.0 pair.1)
    ≡ insert_key is_same_name (keys_of table) pair.0
first_keys true table pair e =
    ap (λ b. if b then keys_of table else keys_of table ++ pair.0 ∷ [])
    (sym (sym (is_some-lookup (is_same_name pair.0) table) ∙ e))
first_keys false table pair e = keys_insert_entry is_same_name table pair.0 pair.1

found_first : (b c : Bool) (found : Option Definition) (value : Definition)
    → (b ≡ true → c ≡ true → is_some found ≡ true) → (b ≡ false → c ≡ true → found ≡ None)
    → (if b then found else cond c (Some value) found) ≡ option_or found (cond c (Some value) None)
found_first true true (Some x) value h k = refl
found_first true true None value h k = absurd (true≢false (sym (h refl refl)))
found_first true false found value h k = sym (or_none found)
found_first false true found value h k =
    let P : Option Definition → Type 0 = λ o. Some value ≡ option_or o (Some value) in
    subst P (sym (k refl refl)) refl
found_first false false found value h k = sym (or_none found)

not_some : (found : Option Definition) → is_some found ≡ false → found ≡ None
not_some None e = refl
not_some (Some x) e = absurd (true≢false e)

first_found : (b : Bool) (table : Definitions) (pair : (ℕ × ℕ) × Definition) (name : ℕ × ℕ)
    → is_some (lookup (is_same_name pair.0) table) ≡ b
    → lookup (is_same_name name) (if b then table else insert_entry is_same_name table pair.0 pair.1)
    ≡ option_or (lookup (is_same_name name) table) (cond (is_same_name name pair.0) (Some pair.1) None)
first_found b table pair name e =
    either b ∙ found_first b (is_same_name name pair.0) (lookup (is_same_name name) table) pair.1
    (λ t c. ap (λ n. is_some (lookup (is_same_name n) table)) (same_name_equal name pair.0 c) ∙ e ∙ t)
    (λ f c. ap (λ n. lookup (is_same_name n) table) (same_name_equal name pair.0 c)
    ∙ not_some (lookup (is_same_name pair.0) table) (e ∙ f))
  where
    either : (b : Bool) → lookup (is_same_name name) (if b then table else insert_entry is_same_name table pair.0 pair.1)
        ≡ (if b then lookup (is_same_name name) table else cond (is_same_name name pair.0) (Some pair.1)
        (lookup (is_same_name name) table))
    either true = refl
    either false = lookup_inserted is_same_name same_name_equal same_name_itself name pair.0 pair.1 table

pair_more : (pairs table : Definitions) (reported : Option ((ℕ × ℕ) × Definition))
    → keys_of table ≡ distinct (keys_of pairs)
    → keys_of (with_first table reported) ≡ distinct (keys_of (pairs ++ cons_option reported []))
pair_more pairs table None e = e ∙ ap (λ these. distinct (keys_of these)) (sym (append-nil pairs))
pair_more pairs table (Some pair) e =
    first_keys (is_some (lookup (is_same_name pair.0) table)) table pair refl
    ∙ ap (λ names. insert_key is_same_name names pair.0) e ∙ sym (names_more pairs pair)

pair_found : (pairs table : Definitions) (reported : Option ((ℕ × ℕ) × Definition)) (name : ℕ × ℕ)
    → lookup (is_same_name name) table ≡ lookup (is_same_name name) pairs
    → lookup (is_same_name name) (with_first table reported) ≡ lookup (is_same_name name) (pairs ++ cons_option reported [])
pair_found pairs table None name e = e ∙ ap (λ these. lookup (is_same_name name) these) (sym (append-nil pairs))
pair_found pairs table (Some pair) name e =
    first_found (is_some (lookup (is_same_name pair.0) table)) table pair name refl
    ∙ ap (λ found. option_or found (cond (is_same_name name pair.0) (Some pair.1) None)) e
    ∙ sym (lookup_append (is_same_name name) pairs (pair ∷ []))

symbol_definitions : (b c : Bool) (entry : GsdEntry) (g : LayoutTables)
    → (if b then with_definition entry g else if c then with_weak entry.name g else with_reference entry.name true
    g).definitions
    ≡ with_first g.definitions
    (if b then Some (entry.name, record { module_index = length g.names; location = location_of g.section entry })
    else None)
symbol_definitions true c entry g = refl
symbol_definitions false true entry g = refl
symbol_definitions false false entry g = refl

entry_definitions : (bottom : ℕ) (kind : GsdKind) (entry : GsdEntry) (g : LayoutTables)
    → (with_entry bottom kind entry g).definitions
    ≡ with_first g.definitions (definition_by kind entry (length g.names) g.section)
entry_definitions bottom ControlSection entry g = refl
entry_definitions bottom ProgramSection entry g = refl
entry_definitions bottom ModuleName entry g = refl
entry_definitions bottom InternalSymbol entry g = refl
entry_definitions bottom TransferAddress entry g = refl
entry_definitions bottom GlobalSymbol entry g = symbol_definitions (defines entry) (has_bits 1 entry.flags) entry g
entry_definitions bottom Identification entry g = refl

relocated_definitions : (global : Option (ℕ × ℕ)) (g : LayoutTables) → (with_relocated global g).definitions ≡ g.definitions
relocated_definitions None g = refl
relocated_definitions (Some name) g = refl

reported_definitions : (bottom : ℕ) (before : List Part) (g : LayoutTables) (part : Part) → length g.names ≡ modules_in before
    → g.section ≡ last_section (this_module before)
    → (collected_after bottom g part).definitions ≡ with_first g.definitions (definition_in before part)
unfolding collected_after
reported_definitions bottom before g Directory l s = refl
reported_definitions bottom before g (Entry entry) l s =
    entry_definitions bottom entry.kind entry g
    ∙ (λ j. with_first g.definitions (definition_by entry.kind entry (l j) (s j)))
reported_definitions bottom before g EndOfDirectory l s = refl
reported_definitions bottom before g (Text address bytes) l s = refl
reported_definitions bottom before g Relocations l s = refl
reported_definitions bottom before g (Relocated relocation) l s = relocated_definitions (global_of relocation.target) g
reported_definitions bottom before g EndOfModule l s = refl
reported_definitions bottom before g EndOfFile l s = refl

pub definitions_step : (bottom : ℕ) (before : List Part) (g : LayoutTables) (part : Part)
    → length g.names ≡ modules_in before
    → g.section ≡ last_section (this_module before) → DefinitionsOf before g.definitions
    → DefinitionsOf (before ++ part ∷ []) (collected_after bottom g part).definitions
definitions_step bottom before g part l s d =
    let reported = reported_definitions bottom before g part l s in
    let more = definitions_more before part in
    record {
      names = ap (λ table. keys_of table) reported ∙ pair_more (definitions_of before) g.definitions
          (definition_in before part) d.names
          ∙ ap (λ pairs. distinct (keys_of pairs)) (sym more);
      found = λ name. ap (λ table. lookup (is_same_name name) table) reported
          ∙ pair_found (definitions_of before) g.definitions (definition_in before part) name (d.found name)
          ∙ ap (λ pairs. lookup (is_same_name name) pairs) (sym more);
    }

pub definitions_none : DefinitionsOf [] nothing_collected.definitions
unfolding definitions_of distinct
definitions_none = record { names = refl; found = λ name. refl }
