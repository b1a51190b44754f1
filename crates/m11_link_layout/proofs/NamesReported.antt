-- Names that parts define or refer to are among the global names in the parts.
use Rattle.std.proofs.Common.{◌≡◌, ℕ, Bool, true, false, ◌&&◌, ◌||◌, not, if◌then◌else◌, List, [], ◌∷◌, ◌++◌, Option, Some, None, refl, sym, ap, subst}
use Rattle.std.specs.List.{cons_option, filter_map, list_any}
use Rattle.std.specs.Map.{keys_of}
use Rattle.m11_base.specs.Rad50.{is_same_name}
use Rattle.m11_obj.specs.declared.gsd.GsdEntry.{GsdEntry}
use Rattle.m11_obj.specs.declared.gsd.GsdKind.{GsdKind}
use Rattle.m11_obj.specs.declared.gsd.GsdKind.TheVariants.{ModuleName, ControlSection, InternalSymbol, TransferAddress, GlobalSymbol, ProgramSection, Identification}
use Rattle.m11_link_modules.specs.Names.{is_among}
use Rattle.m11_link_modules.specs.Parts.{Part, Directory, Entry, EndOfDirectory, Text, Relocations, Relocated, EndOfModule, EndOfFile}
use Rattle.m11_link_modules.specs.Positions.{ends_module, global_by, global_in, global_of, modules_in, this_module}
use Rattle.m11_link_modules.specs.Rules.{defines}
use Rattle.m11_obj.specs.Gsd.{has_bits}
use Rattle.m11_link_layout.specs.Globals.{definition_by, definition_in, definitions_of, last_section, reference_by, reference_in, references_of, relocated_reference, weak_by, weak_in, weak_names}
use Rattle.m11_link_layout.specs.Modules.{reported_after}
use Rattle.m11_link_layout.specs.declared.definition.Definition.{Definition}
use Rattle.m11_link_layout.proofs.Finding.{or_true}
use Rattle.m11_link_layout.proofs.FewerNames.{Within}

abbrev Name : Type 0
Name = ℕ × ℕ

-- the global names in the parts, each as often as it occurs
abbrev Named : List Part → List Name
Named parts = filter_map global_in parts

-- ---- what is reported part by part

or_either : (a b c : Bool) → (b ≡ true → c ≡ true) → (a || b) ≡ true → (a || c) ≡ true
or_either true b c h e = refl
or_either false b c h e = h e

module _ {X : Type 0} (report : List Part → Part → Option (Name × X))
    (named : (before : List Part) (part : Part) (pair : Name × X) → report before part ≡ Some pair
    → global_in part ≡ Some pair.0) where
  one_reported : (reported : Option (Name × X)) (global : Option Name) (pairs : List (Name × X)) (names : List Name)
      (name : Name)
      → ((pair : Name × X) → reported ≡ Some pair → global ≡ Some pair.0)
      → (is_among (keys_of pairs) name ≡ true → is_among names name ≡ true)
      → is_among (keys_of (cons_option reported pairs)) name ≡ true → is_among (cons_option global names) name ≡ true
  one_reported None None pairs names name h k a = k a
  one_reported None (Some global) pairs names name h k a = or_true (is_same_name name global) (is_among names name) (k a)
  one_reported (Some pair) global pairs names name h k a =
      let P : Option Name → Type 0 = λ o. is_among (cons_option o names) name ≡ true in
      subst P (sym (h pair refl)) (or_either (is_same_name name pair.0) (is_among (keys_of pairs) name) (is_among names name)
      k a)

  pub reported_within : (before parts : List Part) → Within (keys_of (reported_after report before parts)) (Named parts)
  reported_within before [] name a = a
  reported_within before (part ∷ parts) name a =
      one_reported (report before part) (global_in part) (reported_after report (before ++ part ∷ []) parts) (Named parts) name
      (named before part) (reported_within (before ++ part ∷ []) parts name) a

-- ---- definitions and references

same_some : {X : Type 0} (x y : X) → Some x ≡ Some y → x ≡ y
same_some x y e = cc

same_pair : {X : Type 0} (name : Name) (x : X) (pair : Name × X) → Some (name, x) ≡ Some pair → Some name ≡ Some pair.0
same_pair name x pair e = ap (λ reported. Some reported.0) (same_some (name, x) pair e)

none_some : {X : Type 0} (x : X) → None ≡ Some x → ⊥
none_some x e = cc

defined_if : {X : Type 0} (b : Bool) (name : Name) (x : X) (pair : Name × X)
    → (if b then Some (name, x) else None) ≡ Some pair → Some name ≡ Some pair.0
defined_if true name x pair e = same_pair name x pair e
defined_if false name x pair e = absurd (none_some pair e)

referred_if : {X : Type 0} (b : Bool) (name : Name) (x : X) (pair : Name × X)
    → (if b then None else Some (name, x)) ≡ Some pair → Some name ≡ Some pair.0
referred_if true name x pair e = absurd (none_some pair e)
referred_if false name x pair e = same_pair name x pair e

defined_by : (kind : GsdKind) (entry : GsdEntry) (modules : ℕ) (section : Option Name) (pair : Name × Definition)
    → definition_by kind entry modules section ≡ Some pair → global_by kind entry ≡ Some pair.0
defined_by GlobalSymbol entry modules section pair e = defined_if (defines entry) entry.name _ pair e
defined_by ModuleName entry modules section pair e = absurd (none_some pair e)
defined_by ControlSection entry modules section pair e = absurd (none_some pair e)
defined_by InternalSymbol entry modules section pair e = absurd (none_some pair e)
defined_by TransferAddress entry modules section pair e = absurd (none_some pair e)
defined_by ProgramSection entry modules section pair e = absurd (none_some pair e)
defined_by Identification entry modules section pair e = absurd (none_some pair e)

defined_in : (before : List Part) (part : Part) (pair : Name × Definition) → definition_in before part ≡ Some pair
    → global_in part ≡ Some pair.0
defined_in before (Entry entry) pair e =
    defined_by entry.kind entry (modules_in before) (last_section (this_module before)) pair e
defined_in before Directory pair e = absurd (none_some pair e)
defined_in before EndOfDirectory pair e = absurd (none_some pair e)
defined_in before (Text address bytes) pair e = absurd (none_some pair e)
defined_in before Relocations pair e = absurd (none_some pair e)
defined_in before (Relocated relocation) pair e = absurd (none_some pair e)
defined_in before EndOfModule pair e = absurd (none_some pair e)
defined_in before EndOfFile pair e = absurd (none_some pair e)

pub definitions_within : (parts : List Part) → Within (keys_of (definitions_of parts)) (filter_map global_in parts)
unfolding definitions_of
definitions_within parts = reported_within definition_in defined_in [] parts

referred_by : (kind : GsdKind) (entry : GsdEntry) (pair : Name × Bool) → reference_by kind entry ≡ Some pair
    → global_by kind entry ≡ Some pair.0
referred_by GlobalSymbol entry pair e = referred_if (defines entry) entry.name (not (has_bits 1 entry.flags)) pair e
referred_by ModuleName entry pair e = absurd (none_some pair e)
referred_by ControlSection entry pair e = absurd (none_some pair e)
referred_by InternalSymbol entry pair e = absurd (none_some pair e)
referred_by TransferAddress entry pair e = absurd (none_some pair e)
referred_by ProgramSection entry pair e = absurd (none_some pair e)
referred_by Identification entry pair e = absurd (none_some pair e)

relocated_by : (weak : List Name) (global : Option Name) (pair : Name × Bool)
    → relocated_reference weak global ≡ Some pair → global ≡ Some pair.0
relocated_by weak None pair e = absurd (none_some pair e)
relocated_by weak (Some name) pair e = same_pair name (not (is_among weak name)) pair e

referred_in : (before : List Part) (part : Part) (pair : Name × Bool) → reference_in before part ≡ Some pair
    → global_in part ≡ Some pair.0
referred_in before (Entry entry) pair e = referred_by entry.kind entry pair e
referred_in before (Relocated relocation) pair e =
    relocated_by (weak_names (this_module before)) (global_of relocation.target) pair e
referred_in before Directory pair e = absurd (none_some pair e)
referred_in before EndOfDirectory pair e = absurd (none_some pair e)
referred_in before (Text address bytes) pair e = absurd (none_some pair e)
referred_in before Relocations pair e = absurd (none_some pair e)
referred_in before EndOfModule pair e = absurd (none_some pair e)
referred_in before EndOfFile pair e = absurd (none_some pair e)

pub references_within : (parts : List Part) → Within (keys_of (references_of parts)) (filter_map global_in parts)
unfolding references_of
references_within parts = reported_within reference_in referred_in [] parts

-- ---- weak names

one_weak : (reported global : Option Name) (weak names : List Name) (name : Name)
    → ((noted : Name) → reported ≡ Some noted → global ≡ Some noted)
    → (is_among weak name ≡ true → is_among names name ≡ true)
    → is_among (cons_option reported weak) name ≡ true → is_among (cons_option global names) name ≡ true
one_weak None None weak names name h k a = k a
one_weak None (Some global) weak names name h k a = or_true (is_same_name name global) (is_among names name) (k a)
one_weak (Some noted) global weak names name h k a =
    let P : Option Name → Type 0 = λ o. is_among (cons_option o names) name ≡ true in
    subst P (sym (h noted refl)) (or_either (is_same_name name noted) (is_among weak name) (is_among names name) k a)

weak_if : (b : Bool) (name noted : Name) → (if b then Some name else None) ≡ Some noted → Some name ≡ Some noted
weak_if true name noted e = e
weak_if false name noted e = absurd (none_some noted e)

weak_named : (kind : GsdKind) (entry : GsdEntry) (noted : Name) → weak_by kind entry ≡ Some noted
    → global_by kind entry ≡ Some noted
weak_named GlobalSymbol entry noted e = weak_if (not (defines entry) && has_bits 1 entry.flags) entry.name noted e
weak_named ModuleName entry noted e = absurd (none_some noted e)
weak_named ControlSection entry noted e = absurd (none_some noted e)
weak_named InternalSymbol entry noted e = absurd (none_some noted e)
weak_named TransferAddress entry noted e = absurd (none_some noted e)
weak_named ProgramSection entry noted e = absurd (none_some noted e)
weak_named Identification entry noted e = absurd (none_some noted e)

weak_reported : (part : Part) (noted : Name) → weak_in part ≡ Some noted → global_in part ≡ Some noted
weak_reported (Entry entry) noted e = weak_named entry.kind entry noted e
weak_reported Directory noted e = absurd (none_some noted e)
weak_reported EndOfDirectory noted e = absurd (none_some noted e)
weak_reported (Text address bytes) noted e = absurd (none_some noted e)
weak_reported Relocations noted e = absurd (none_some noted e)
weak_reported (Relocated relocation) noted e = absurd (none_some noted e)
weak_reported EndOfModule noted e = absurd (none_some noted e)
weak_reported EndOfFile noted e = absurd (none_some noted e)

all_weak : (parts : List Part) → Within (filter_map weak_in parts) (Named parts)
all_weak [] name a = a
all_weak (part ∷ parts) name a =
    one_weak (weak_in part) (global_in part) (filter_map weak_in parts) (Named parts) name (weak_reported part)
    (all_weak parts name) a

one_named : (global : Option Name) (names : List Name) (name : Name) → is_among names name ≡ true
    → is_among (cons_option global names) name ≡ true
one_named None names name a = a
one_named (Some global) names name a = or_true (is_same_name name global) (is_among names name) a

-- the weak names of the current module are among the global names in all parts
pub weak_within : (parts : List Part) → Within (weak_names (this_module parts)) (filter_map global_in parts)
unfolding weak_names this_module
weak_within [] name a = a
weak_within (part ∷ parts) name a =
    by (list_any ends_module (part ∷ parts)) (weak_within parts name) (all_weak (part ∷ parts) name) a
  where
    by : (b : Bool)
        → (is_among (filter_map weak_in (this_module parts)) name ≡ true → is_among (Named parts) name ≡ true)
        → (is_among (filter_map weak_in (part ∷ parts)) name ≡ true → is_among (Named (part ∷ parts)) name ≡ true)
        → is_among (filter_map weak_in (if b then this_module parts else part ∷ parts)) name ≡ true
        → is_among (Named (part ∷ parts)) name ≡ true
    by true later all h = one_named (global_in part) (Named parts) name (later h)
    by false later all h = all h
