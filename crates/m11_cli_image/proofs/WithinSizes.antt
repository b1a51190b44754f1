-- If a link of the objects of sources refuses nothing, the sources exceed no limit.
use Rattle.std.proofs.Common.{◌≡◌, ◌∙◌, ℕ, ◌+◌, ◌≤◌, false, List, [], ◌∷◌, ◌++◌, length, map, flat_map, None, Ok, refl, sym, ap, ap₂, subst, arith}
use Rattle.std.proofs.lemmas.Bool.{or_from}
use Rattle.std.proofs.lemmas.Bool.Decides.{nat_tests}
use Rattle.std.specs.Prelude.{nat_lt}
use Rattle.std.specs.List.{AllByRecursion, list_any}
use Rattle.m11_asm_directory.specs.Rows.{directory_rows}
use Rattle.m11_asm_outputs.specs.Object.{texts_of}
use Rattle.m11_base.specs.Rad50.{Name}
use Rattle.m11_obj_blocks.specs.Limited.{most_bytes}
use Rattle.m11_link.specs.Objects.{AreItems, BlockOf, Item, ObjectItems, outcome, taken, accepted_item}
use Rattle.m11_link.specs.Objects as objects
use Rattle.m11_link.proofs.ItemsAccepted.{bind_ok}
use Rattle.m11_link_laws.proofs.RunsDecided.{taken_of}
use Rattle.m11_link_laws.proofs.WholeObjects.{taken_both}
use Rattle.m11_link_layout.proofs.KnownBounded.{modules_within}
use Rattle.m11_link_layout.proofs.TablesBounded.{tables_of}
use Rattle.m11_link_layout.specs.Sections.{is_too_large}
use Rattle.m11_link_modules.specs.Grammar.{directory_parts}
use Rattle.m11_link_modules.specs.Parts.{Part, Directory, Entry, EndOfDirectory, EndOfFile, EndOfModule, Relocated, Text, Relocations, parts_of}
use Rattle.m11_link_modules.specs.Positions.{global_names, known_of, modules_in, section_names, stage_after}
use Rattle.m11_link_modules.specs.Rules.{first_fault, most_globals, most_modules, most_sections}
use Rattle.m11_obj.specs.Directory.{record_cutting}
use Rattle.m11_obj.specs.Records as records
use Rattle.m11_obj.specs.Records.{Content}
use Rattle.m11_obj.specs.Texts.{text_records}
use Rattle.m11_obj.specs.declared.gsd.GsdEntry.{GsdEntry}
use Rattle.m11_obj.specs.declared.relocations.Relocation.{Relocation}
use Rattle.m11_cli_image.specs.Objects.{SourceFits, link_parts, object_of, object_parts, source_parts}
use Rattle.m11_cli_image.specs.Refusals.{IsWithinSizes, is_long}
use Rattle.m11_cli_image.specs.Sources.{Source}
use Rattle.m11_cli_image.proofs.GlobalsNamed.{globals_same}
use Rattle.m11_cli_image.proofs.LastLocation.{none_fill}
use Rattle.m11_cli_image.proofs.LinkedLocations.{large_same, names_same}
use Rattle.m11_cli_image.proofs.LinkedTapes.{are_linked}
use Rattle.m11_cli_image.proofs.ReadModules.{IsBody, split, texts_are_body}

-- ---- each source is one module

modules_both : (some more : List Part) → modules_in (some ++ more) ≡ modules_in some + modules_in more
unfolding modules_in
modules_both [] more = omega arith
modules_both (EndOfModule ∷ some) more = let rest = modules_both some more in omega (arith, rest)
modules_both (Directory ∷ some) more = modules_both some more
modules_both (Entry entry ∷ some) more = modules_both some more
modules_both (EndOfDirectory ∷ some) more = modules_both some more
modules_both (Text address bytes ∷ some) more = modules_both some more
modules_both (Relocations ∷ some) more = modules_both some more
modules_both (Relocated relocation ∷ some) more = modules_both some more
modules_both (EndOfFile ∷ some) more = modules_both some more

entries_none : (entries : List GsdEntry) → modules_in (map (λ entry. Entry entry) entries) ≡ 0
unfolding modules_in
entries_none [] = refl
entries_none (entry ∷ entries) = entries_none entries

relocations_none : (relocations : List Relocation) → modules_in (map (λ one. Relocated one) relocations) ≡ 0
unfolding modules_in
relocations_none [] = refl
relocations_none (one ∷ relocations) = relocations_none relocations

cuts_none : (cuts : List (List GsdEntry)) → modules_in (flat_map directory_parts cuts) ≡ 0
unfolding modules_in
cuts_none [] = refl
cuts_none (entries ∷ cuts) =
    modules_both (map (λ entry. Entry entry) entries) (flat_map directory_parts cuts)
    ∙ ap₂ (λ (some more : ℕ). some + more) (entries_none entries) (cuts_none cuts)

body_none : (contents : List Content) → AllByRecursion IsBody contents → modules_in (flat_map parts_of contents) ≡ 0
unfolding modules_in
body_none [] h = refl
body_none (records.Text address bytes ∷ contents) h = body_none contents h.1
body_none (records.Relocations relocations ∷ contents) h =
    modules_both (map (λ one. Relocated one) relocations) (flat_map parts_of contents)
    ∙ ap₂ (λ (some more : ℕ). some + more) (relocations_none relocations) (body_none contents h.1)
body_none (records.Gsd entries ∷ contents) h = absurd h.0
body_none (records.EndOfGsd ∷ contents) h = absurd h.0
body_none (records.InternalSymbols ∷ contents) h = absurd h.0
body_none (records.EndOfModule ∷ contents) h = absurd h.0

texts_none : (texts : List Part) → modules_in texts ≡ 0 → modules_in (EndOfDirectory ∷ texts) ≡ 0
unfolding modules_in
texts_none texts e = e

module_one : modules_in (EndOfModule ∷ []) ≡ 1
unfolding modules_in
module_one = refl

file_none : modules_in (EndOfFile ∷ []) ≡ 0
unfolding modules_in
file_none = refl

source_one : (source : Source) → modules_in (object_parts source) ≡ 1
source_one source =
    let directory = flat_map directory_parts (record_cutting (directory_rows source.facts)) in
    let texts = flat_map parts_of (text_records source.pieces) in
    let body = body_none (text_records source.pieces) (texts_are_body (texts_of source.pieces)) in
    let sum : ℕ → ℕ → ℕ = λ some more. some + more in
    modules_both (source_parts source) (EndOfFile ∷ [])
    ∙ ap₂ sum (ap modules_in (split source)
    ∙ modules_both (directory ++ EndOfDirectory ∷ texts) (EndOfModule ∷ [])
    ∙ ap₂ sum (modules_both directory (EndOfDirectory ∷ texts)
    ∙ ap₂ sum (cuts_none (record_cutting (directory_rows source.facts))) (texts_none texts body)) module_one) file_none

nothing_none : modules_in [] ≡ 0
unfolding modules_in
nothing_none = refl

modules_same : (sources : List Source) → modules_in (link_parts sources) ≡ length sources
modules_same [] = nothing_none
modules_same (source ∷ sources) =
    let first = modules_both (object_parts source) (link_parts sources) in
    let one = source_one source in
    let rest = modules_same sources in
    omega (arith, first, one, rest)

-- ---- the limits of the parts

-- modules, names of sections and names of globals are within their limits
record PartsWithin (parts : List Part) : Type 0 where
  modules : modules_in parts ≤ most_modules
  sections : length (section_names parts) ≤ most_sections
  globals : length (global_names parts) ≤ most_globals

parts_within : (parts : List Part) → first_fault [] parts ≡ None → PartsWithin parts
unfolding known_of
parts_within parts sound =
    let tables = tables_of 0 parts sound in
    record {
      modules = modules_within (stage_after parts) (modules_in parts) tables.known.modules;
      sections = tables.known.sections;
      globals = tables.known.globals;
    }

-- ---- the lengths of the objects

object_within : (room : ℕ) (bytes : List ℕ) (own : List Item) (before parts : List Part) → ObjectItems room bytes own
    → taken before own ≡ Ok parts → length bytes ≤ room
object_within room bytes _ before parts
    (objects.ObjectItems.Begins {left = left} {rest = rest} {content = content} {items = items} e f more) t =
    let first = bind_ok (accepted_item before (BlockOf content)) (λ these. taken these items) parts t in
    let shorter = object_within left rest items first.0 parts more first.2 in
    omega (arith, f, shorter)
object_within room bytes _ before parts (objects.ObjectItems.Ends e le) t = le
object_within room bytes _ before parts (objects.ObjectItems.IsCut e le) t = absurd cc
object_within room bytes _ before parts (objects.ObjectItems.IsBad e le) t = absurd cc
object_within room bytes _ before parts (objects.ObjectItems.Passes lt short) t = absurd cc

not_longer : (bytes : ℕ) → bytes ≤ most_bytes → nat_lt most_bytes bytes ≡ false
not_longer bytes le = grind (arith, nat_tests)

first_within : (source : Source) (sources : List Source) (items : List Item) (before parts : List Part)
    → AreItems (object_of source ∷ map object_of sources) items → taken before items ≡ Ok parts
    → ((others : List Item) (between : List Part) → AreItems (map object_of sources) others → taken between others ≡ Ok parts
    → list_any is_long sources ≡ false) → list_any is_long (source ∷ sources) ≡ false
first_within source sources _ before parts (objects.AreItems.Object {own = own} {items = others} o h) t later =
    let halves = taken_both before own others parts t in
    or_from (is_long source) (list_any is_long sources)
    (not_longer (length (object_of source)) (object_within most_bytes (object_of source) own before halves.0 o halves.1))
    (later others halves.0 h halves.2)

none_long : (sources : List Source) (items : List Item) (before parts : List Part) → AreItems (map object_of sources) items
    → taken before items ≡ Ok parts → list_any is_long sources ≡ false
none_long [] items before parts are t = refl
none_long (source ∷ sources) items before parts are t =
    first_within source sources items before parts are t
    (λ others between h u. none_long sources others between parts h u)

-- ---- a link that refuses nothing

pub are_within : (bottom : ℕ) (sources : List Source) (items : List Item) (parts : List Part) → AllByRecursion SourceFits sources
    → AreItems (map object_of sources) items → outcome bottom items ≡ Ok parts → IsWithinSizes bottom sources
are_within bottom sources items parts fit are e =
    let linked = are_linked bottom sources items parts fit are e in
    let Sound : List Part → Type 0 = λ these. first_fault [] these ≡ None in
    let Low : List Part → Type 0 = λ these. is_too_large bottom these ≡ false in
    let Modules : ℕ → Type 0 = λ count. count ≤ most_modules in
    let Sections : List Name → Type 0 = λ names. length names ≤ most_sections in
    let Globals : List Name → Type 0 = λ names. length names ≤ most_globals in
    let within = parts_within (link_parts sources) (subst Sound linked.parts_are linked.sound) in
    record {
      modules = subst Modules (modules_same sources) within.modules;
      sections = subst Sections (names_same sources) within.sections;
      globals = subst Globals (globals_same sources) within.globals;
      objects = none_long sources items [] parts are (taken_of bottom (taken [] items) parts e);
      low = sym (large_same sources bottom) ∙ subst Low linked.parts_are linked.low;
      inside = none_fill bottom sources items parts fit are e;
    }
