-- Texts that no relocation changes are the blocks of the tape.
use Rattle.std.proofs.Common.{◌≡◌, ℕ, ◌+◌, ◌-◌, Bool, true, false, ◌&&◌, not, if◌then◌else◌, List, [], ◌∷◌, ◌++◌, map, flat_map, append-nil, Option, Some, None, refl, sym, ap, ap₂, ◌∙◌}
use Rattle.std.specs.List.{list_any}
use Rattle.m11_obj_blocks.specs.Tapes.{tape_block}
use Rattle.m11_obj.specs.declared.gsd.GsdEntry.{GsdEntry}
use Rattle.m11_obj.specs.declared.gsd.GsdKind.{GsdKind}
use Rattle.m11_obj.specs.declared.gsd.GsdKind.TheVariants as kind
use Rattle.m11_obj.specs.declared.relocations.Relocation.{Relocation}
use Rattle.m11_obj.specs.declared.relocations.Target.{Target}
use Rattle.m11_obj.specs.declared.relocations.Target.TheVariants as target
use Rattle.m11_link_modules.proofs.KnownAfter.{stage_append}
use Rattle.m11_link_modules.specs.declared.fault.ModuleFault.{ModuleFault}
use Rattle.m11_link_modules.specs.declared.fault.ModuleFault.TheVariants.{BadOrder}
use Rattle.m11_link_modules.specs.declared.stage.Stage.{Stage}
use Rattle.m11_link_modules.specs.declared.stage.Stage.TheVariants.{Between, InDirectory, InBody}
use Rattle.m11_link_modules.specs.Names.{is_among}
use Rattle.m11_link_modules.specs.Parts.{Part, Directory, Entry, EndOfDirectory, Text, Relocations, Relocated, EndOfModule, EndOfFile}
use Rattle.m11_link_modules.specs.Positions.{current_section, known_of, modules_in, stage_after, stage_from, this_module}
use Rattle.m11_link_modules.specs.Rules.{defines, fault_known, fault_of, first_fault, may_occur}
use Rattle.m11_link_layout.specs.Modules.{reported_after}
use Rattle.m11_link_layout.specs.Sections.{attributes_by}
use Rattle.m11_base_writes.specs.declared.outputs.Output.TheVariants.{Product}
use Rattle.m11_link_layout.proofs.Finding.{neither}
use Rattle.m11_link_layout.proofs.Walking.{head_none, rest_none}
use Rattle.m11_link_text.specs.Findings.{Findings}
use Rattle.m11_link.specs.Front.{front_writes, global_write, global_writes, last_writes, map_writes, name_write, name_writes, section_write, section_writes, undefined_names, undefined_write, undefined_writes, weak_writes}
use Rattle.m11_link_text.specs.Relocation.{modulo, stored_bytes}
use Rattle.m11_link_text.proofs.Stored.{none_relocated}
use Rattle.m11_base_writes.specs.Writes.{gained, gained_by}
use Rattle.m11_base_writes.proofs.Writing.{gained-append}
use Rattle.m11_link.specs.Outputs.{link}
use Rattle.m11_base_writes.specs.Outputs.{Write, to_product}
use Rattle.m11_link.specs.Written.{PlacedText, attributes_agree, block_at, defined_names, different_writes, ended_writes, entry_writes, has_ended, link_writes, parts_writes, placed_text, relocations_after, text_writes, with_relocation, with_relocations, writes_at, writes_after, writes_by}
use Rattle.m11_link_laws.specs.Texts.{block_of, data_block, only_selects, stores, text_in, texts_of}

-- ---- writes to the tape

-- none of these writes is to the tape
abbrev pub Elsewhere : List Write → Type 0
Elsewhere writes = gained link Product writes ≡ []

both : (xs ys : List Write) → Elsewhere xs → Elsewhere ys → Elsewhere (xs ++ ys)
both xs ys e f = gained-append link Product xs ys ∙ ap₂ (λ bytes more. bytes ++ more) e f

module _ {X : Type 0} (write : X → Write) where
  each_elsewhere : ((x : X) → gained_by link Product (write x) ≡ []) → (xs : List X)
      → Elsewhere (map write xs)
  unfolding gained
  each_elsewhere h [] = refl
  each_elsewhere h (x ∷ xs) = ap₂ (λ bytes more. bytes ++ more) (h x) (each_elsewhere h xs)

sections_elsewhere : (found : Findings) → Elsewhere (section_writes found.sections)
unfolding section_writes
sections_elsewhere found = each_elsewhere section_write (λ x. refl) found.sections

globals_elsewhere : (found : Findings) → Elsewhere (global_writes found.globals)
unfolding global_writes
globals_elsewhere found = each_elsewhere global_write (λ x. refl) found.globals

names_elsewhere : (found : Findings) (is_strong : Bool) → Elsewhere (name_writes found is_strong found.references)
unfolding name_writes
names_elsewhere found is_strong =
    each_elsewhere name_write (λ x. refl) (undefined_names found is_strong found.references)

undefined_elsewhere : (found : Findings) → Elsewhere (undefined_writes found found.references)
unfolding undefined_writes
undefined_elsewhere found = each_elsewhere undefined_write (λ x. refl) (undefined_names found true found.references)

weak_elsewhere : (writes : List Write) → Elsewhere writes → Elsewhere (weak_writes writes)
unfolding gained
weak_elsewhere [] e = refl
weak_elsewhere (write ∷ writes) e = e

last_elsewhere : (found : Findings) → Elsewhere (last_writes found)
unfolding gained
last_elsewhere found = refl

headed : (write : Write) (writes : List Write) → gained_by link Product write ≡ [] → Elsewhere writes
    → Elsewhere (write ∷ writes)
unfolding gained
headed write writes e f = ap₂ (λ bytes more. bytes ++ more) e f

map_elsewhere : (found : Findings) → Elsewhere (map_writes found)
unfolding map_writes
map_elsewhere found =
    both _ _ (headed _ _ refl (sections_elsewhere found))
    (both _ _ (headed _ _ refl (globals_elsewhere found))
    (both _ _ (headed _ _ refl (names_elsewhere found true))
    (both _ _ (weak_elsewhere (name_writes found false found.references) (names_elsewhere found false))
    (last_elsewhere found))))

pub front_elsewhere : (found : Findings) → Elsewhere (front_writes found)
unfolding front_writes
front_elsewhere found = both _ _ (undefined_elsewhere found) (map_elsewhere found)

-- ---- entries report messages only

unless : (b : Bool) (write : Write) → gained_by link Product write ≡ []
    → Elsewhere (if b then [] else write ∷ [])
unfolding gained
unless true write e = refl
unless false write e = headed write [] e refl

only_if : (b : Bool) (write : Write) → gained_by link Product write ≡ []
    → Elsewhere (if b then write ∷ [] else [])
unfolding gained
only_if true write e = headed write [] e refl
only_if false write e = refl

different_elsewhere : (found : Findings) (module_index : ℕ) (section : Option ((ℕ × ℕ) × ℕ))
    → Elsewhere (different_writes found module_index section)
unfolding gained
different_elsewhere found module_index None = refl
different_elsewhere found module_index (Some section) = unless (attributes_agree (found.attributes section.0) section.1) _ refl

pub entry_elsewhere : (k : GsdKind) (found : Findings) (module_index : ℕ) (defined : List (ℕ × ℕ)) (entry : GsdEntry)
    → Elsewhere (writes_by k found module_index defined entry)
entry_elsewhere kind.GlobalSymbol found module_index defined entry =
    only_if (defines entry && is_among defined entry.name) _ refl
entry_elsewhere kind.ModuleName found module_index defined entry =
    different_elsewhere found module_index (attributes_by kind.ModuleName entry)
entry_elsewhere kind.ControlSection found module_index defined entry =
    different_elsewhere found module_index (attributes_by kind.ControlSection entry)
entry_elsewhere kind.InternalSymbol found module_index defined entry =
    different_elsewhere found module_index (attributes_by kind.InternalSymbol entry)
entry_elsewhere kind.TransferAddress found module_index defined entry =
    different_elsewhere found module_index (attributes_by kind.TransferAddress entry)
entry_elsewhere kind.ProgramSection found module_index defined entry =
    different_elsewhere found module_index (attributes_by kind.ProgramSection entry)
entry_elsewhere kind.Identification found module_index defined entry =
    different_elsewhere found module_index (attributes_by kind.Identification entry)

-- ---- texts that no relocation changes

bytes_stored : (found : Findings) (module_index own location : ℕ) (is_byte : Bool) (t : Target)
    → not (only_selects t) ≡ false → stored_bytes found module_index own location is_byte t ≡ []
bytes_stored found module_index own location is_byte (target.LocationCounterDefinition name constant) e = refl
bytes_stored found module_index own location is_byte (target.LocationCounterModification constant) e = refl
bytes_stored found module_index own location is_byte other e = absurd cc

pub same_text : (found : Findings) (text : PlacedText) (relocation : Relocation)
    → not (only_selects relocation.target) ≡ false → with_relocation found text relocation ≡ text
same_text found text relocation e = ap (λ bytes. let t : PlacedText = record text { bytes = bytes } in t)
    (none_relocated found text.module_index text.base text.address relocation text.bytes
    (bytes_stored found text.module_index text.base (modulo (text.address + (relocation.displacement - 4)))
    relocation.is_byte relocation.target e))

unchanged : (found : Findings) (text : PlacedText) (parts : List Part) → list_any stores parts ≡ false
    → with_relocations found text (relocations_after parts) ≡ text
unchanged found text [] e = refl
unchanged found text (Relocations ∷ parts) e = unchanged found text parts e
unchanged found text (Relocated relocation ∷ parts) e =
    let n = neither (not (only_selects relocation.target)) (list_any stores parts) e in
    ap (λ t. with_relocations found t (relocations_after parts)) (same_text found text relocation n.0)
    ∙ unchanged found text parts n.1
unchanged found text (part ∷ parts) e = refl

-- ---- texts that have ended

in_body : (stage : Stage) (address : ℕ) (bytes : List ℕ) (fault : Option ModuleFault)
    → (if may_occur (Text address bytes) stage then fault else Some BadOrder) ≡ None → stage ≡ InBody
in_body Between address bytes fault e = absurd cc
in_body InDirectory address bytes fault e = absurd cc
in_body InBody address bytes fault e = refl

at_end : (stage : Stage) (fault : Option ModuleFault)
    → (if may_occur EndOfFile stage then fault else Some BadOrder) ≡ None → stage ≡ Between
at_end Between fault e = refl
at_end InDirectory fault e = absurd cc
at_end InBody fault e = absurd cc

-- if parts lead from the body of a module to its end, they end a text before them
pub ended : (parts : List Part) → stage_from InBody parts ≡ Between → has_ended parts ≡ true
ended [] e = absurd cc
ended (Relocations ∷ parts) e = ended parts e
ended (Relocated relocation ∷ parts) e = ended parts e
ended (part ∷ parts) e = refl

stage_moves : (stage : Stage) (part : Part) (parts : List Part)
    → stage_from (stage_from stage (part ∷ [])) parts ≡ stage_from stage (part ∷ parts)
stage_moves stage Directory parts = refl
stage_moves stage EndOfDirectory parts = refl
stage_moves stage EndOfModule parts = refl
stage_moves stage part parts = refl

-- the stage after further parts is found from the stage after the first of them
pub one_more : (before : List Part) (part : Part) (parts : List Part)
    → stage_from (stage_after (before ++ part ∷ [])) parts ≡ stage_from (stage_after before) (part ∷ parts)
unfolding stage_after
one_more before part parts =
    ap (λ stage. stage_from stage parts) (stage_append Between before (part ∷ []))
    ∙ stage_moves (stage_from Between before) part parts

-- ---- the tape

pub block_gained : (address : ℕ) (bytes : List ℕ) → gained link Product (block_at address bytes) ≡ data_block address bytes
unfolding gained
block_gained address [] = refl
block_gained address (byte ∷ bytes) = append-nil (tape_block address (byte ∷ bytes))

text_gained : (found : Findings) (text : PlacedText) (parts : List Part) → list_any stores parts ≡ false
    → has_ended parts ≡ true
    → gained link Product (ended_writes found text parts) ≡ data_block text.address text.bytes
text_gained found text parts n e =
    ap (λ b. gained link Product (if b then text_writes (with_relocations found text (relocations_after parts)) else [])) e
    ∙ ap (λ t. gained link Product (text_writes t)) (unchanged found text parts n)
    ∙ block_gained text.address text.bytes

-- writes elsewhere add nothing to the tape before other writes
pub skipped : (xs ys : List Write) (bytes : List ℕ) → Elsewhere xs → gained link Product ys ≡ bytes → gained link Product (xs ++ ys) ≡ bytes
skipped xs ys bytes e f = gained-append link Product xs ys ∙ ap₂ (λ some more. some ++ more) e f

-- a text without a fault comes in the body of a module
pub text_in_body : (before : List Part) (address : ℕ) (bytes : List ℕ) → fault_of before (Text address bytes) ≡ None
    → stage_after before ≡ InBody
unfolding fault_known known_of
text_in_body before address bytes e = in_body (stage_after before) address bytes _ e

pub closed : (parts : List Part) → fault_of parts EndOfFile ≡ None → stage_after parts ≡ Between
unfolding fault_known known_of
closed parts e = at_end (stage_after parts) _ e

following : (found : Findings) (before parts : List Part) → first_fault before parts ≡ None
    → stage_from (stage_after before) parts ≡ Between → list_any stores parts ≡ false
    → gained link Product (writes_after found before parts) ≡ flat_map block_of (reported_after (text_in found) before parts)
unfolding writes_at first_fault gained
following found before [] h s n = refl
following found before (Text address bytes ∷ parts) h s n =
    let all = before ++ Text address bytes ∷ [] in
    let head = head_none (fault_of before (Text address bytes)) (first_fault all parts) h in
    let rest = rest_none (fault_of before (Text address bytes)) (first_fault all parts) h in
    let text = placed_text found (modules_in before) (current_section (this_module before)) address bytes in
    let e = ended parts
    (ap (λ stage. stage_from stage parts) (sym (text_in_body before address bytes head)) ∙ s) in
    gained-append link Product (ended_writes found text parts) (writes_after found all parts)
    ∙ ap₂ (λ some more. some ++ more) (text_gained found text parts n e)
    (following found all parts rest (one_more before (Text address bytes) parts ∙ s) n)
following found before (Entry entry ∷ parts) h s n =
    let all = before ++ Entry entry ∷ [] in
    let rest = rest_none (fault_of before (Entry entry)) (first_fault all parts) h in
    skipped (entry_writes found (modules_in before) (defined_names before) entry) (writes_after found all parts) _
    (entry_elsewhere entry.kind found (modules_in before) (defined_names before) entry)
    (following found all parts rest (one_more before (Entry entry) parts ∙ s) n)
following found before (Relocated relocation ∷ parts) h s n =
    let all = before ++ Relocated relocation ∷ [] in
    let rest = rest_none (fault_of before (Relocated relocation)) (first_fault all parts) h in
    let m = neither (not (only_selects relocation.target)) (list_any stores parts) n in
    following found all parts rest (one_more before (Relocated relocation) parts ∙ s) m.1
following found before (part ∷ parts) h s n =
    let all = before ++ part ∷ [] in
    let rest = rest_none (fault_of before part) (first_fault all parts) h in
    following found all parts rest (one_more before part parts ∙ s) n

pub last_gained : (bytes : List ℕ) → gained link Product (to_product bytes ∷ []) ≡ bytes
unfolding gained
last_gained bytes = append-nil bytes

pub tape_of_texts : (found : Findings) (parts : List Part) → first_fault [] parts ≡ None
    → fault_of parts EndOfFile ≡ None → list_any stores parts ≡ false
    → gained link Product (link_writes found parts) ≡ flat_map block_of (texts_of found parts) ++ tape_block found.transfer []
unfolding texts_of parts_writes stage_after
tape_of_texts found parts h e n =
    let last = to_product (tape_block found.transfer []) ∷ [] in
    gained-append link Product (front_writes found ++ parts_writes found parts) last
    ∙ ap₂ (λ some more. some ++ more)
    (skipped (front_writes found) (parts_writes found parts) _ (front_elsewhere found)
    (following found [] parts h (closed parts e) n))
    (last_gained (tape_block found.transfer []))
