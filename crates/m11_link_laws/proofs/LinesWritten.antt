-- The map is its lines one after another, and so are the messages.
use Rattle.std.proofs.Common.{◌≡◌, ℕ, suc, ◌+◌, ◌≤◌, min, arith, length, length-append, Bool, true, false, ◌&&◌, if◌then◌else◌, List, [], ◌∷◌, ◌++◌, map, append-nil, Option, Some, None, refl, sym, ap, ap₂, subst, ◌∙◌}
use Rattle.std.specs.List.{concat, cons_option, filter}
use Rattle.std.proofs.lemmas.List.Folds.{concat-append}
use Rattle.std.proofs.lemmas.List.Elements.{filter-append}
use Rattle.m11_base.specs.Rad50.{Name}
use Rattle.m11_obj_blocks.specs.Tapes.{tape_block}
use Rattle.m11_obj.specs.declared.gsd.GsdEntry.{GsdEntry}
use Rattle.m11_obj.specs.declared.gsd.GsdKind.{GsdKind}
use Rattle.m11_obj.specs.declared.gsd.GsdKind.TheVariants as kind
use Rattle.m11_link_modules.specs.Names.{is_among}
use Rattle.m11_link_modules.specs.Parts.{Part, Entry, Text}
use Rattle.m11_link_modules.specs.Positions.{current_section, modules_in, this_module}
use Rattle.m11_link_modules.specs.Rules.{defines}
use Rattle.m11_link_layout.specs.Modules.{reported_after}
use Rattle.m11_link_layout.specs.Sections.{attributes_by}
use Rattle.m11_base_writes.specs.declared.outputs.Output.{Output}
use Rattle.m11_base_writes.specs.declared.outputs.Output.TheVariants.{Product, Report, Messages}
use Rattle.m11_link_text.specs.Findings.{Findings}
use Rattle.m11_link_text.specs.Lines.{different_line, multiple_line, name_line, undefined_line}
use Rattle.m11_link.specs.Front.{front_writes, global_write, global_writes, map_writes, name_write, name_writes, section_write, section_writes, undefined_names, undefined_write, undefined_writes, weak_writes}
use Rattle.m11_base_writes.specs.Writes.{gained}
use Rattle.m11_base_writes.proofs.Writing.{gained-append}
use Rattle.m11_link.specs.Outputs.{link}
use Rattle.m11_base_writes.specs.Outputs.{Write, is_output, to_messages, to_product}
use Rattle.m11_link.specs.Written.{PlacedText, attributes_agree, block_at, counted, is_message, is_to_messages, most_messages, one_more as one_count, defined_names, different_writes, ended_writes, entry_writes, has_ended, link_writes, parts_writes, placed_text, relocations_after, text_writes, with_relocations, writes_at, writes_after, writes_by}
use Rattle.m11_link_laws.specs.Lines.{different_of, entry_line, line_by, line_of_global, line_of_section, map_lines, message_lines, weak_lines}

-- ---- lines one after another

-- the number of writes to this output
abbrev writes_to : Output → List Write → ℕ
writes_to output writes = length (filter (λ write. is_output output write.output) writes)

-- these writes add exactly these lines to the output, one write for each
record Makes (output : Output) (writes : List Write) (lines : List (List ℕ)) : Type 0 where
  text : gained link output writes ≡ concat lines
  count : writes_to output writes ≡ length lines

module _ (output : Output) where
  abbrev IsTo : Write → Type 0
  IsTo write = is_output output write.output ≡ true

  abbrev IsApart : Write → Type 0
  IsApart write = is_output output write.output ≡ false

  none_made : Makes output [] []
  unfolding gained
  none_made = record { text = refl; count = refl }

  line_made : (write : Write) (writes : List Write) (lines : List (List ℕ)) → IsTo write → Makes output writes lines
      → Makes output (write ∷ writes) (write.bytes ∷ lines)
  unfolding gained
  line_made write writes lines e made = record {
    text = ap₂ (λ (b : Bool) others. (if b then write.bytes else []) ++ others) e made.text;
    count = ap (λ (b : Bool). length (if b then write ∷ others writes else others writes)) e
        ∙ ap (λ (n : ℕ). suc n) made.count;
  }
    where
      others : List Write → List Write
      others writes = filter (λ write. is_output output write.output) writes

  skipped : (write : Write) (writes : List Write) (lines : List (List ℕ)) → IsApart write → Makes output writes lines
      → Makes output (write ∷ writes) lines
  unfolding gained
  skipped write writes lines e made = record {
    text = ap₂ (λ (b : Bool) others. (if b then write.bytes else []) ++ others) e made.text;
    count = ap (λ (b : Bool). length (if b then write ∷ others writes else others writes)) e ∙ made.count;
  }
    where
      others : List Write → List Write
      others writes = filter (λ write. is_output output write.output) writes

  both_count : (xs ys : List Write) → writes_to output (xs ++ ys) ≡ writes_to output xs + writes_to output ys
  both_count xs ys =
      ap length (filter-append (λ write. is_output output write.output) xs ys)
      ∙ length-append (filter (λ write. is_output output write.output) xs)
      (filter (λ write. is_output output write.output) ys)

  then_made : (xs ys : List Write) (lines more : List (List ℕ)) → Makes output xs lines → Makes output ys more
      → Makes output (xs ++ ys) (lines ++ more)
  then_made xs ys lines more first second = record {
    text = gained-append link output xs ys ∙ ap₂ (λ some others. some ++ others) first.text second.text
        ∙ sym (concat-append lines more);
    count = both_count xs ys ∙ ap₂ (λ (n m : ℕ). n + m) first.count second.count ∙ sym (length-append lines more);
  }

  then_skipped : (xs ys : List Write) (lines : List (List ℕ)) → Makes output xs lines → Makes output ys []
      → Makes output (xs ++ ys) lines
  then_skipped xs ys lines first second =
      subst (λ (all : List (List ℕ)). Makes output (xs ++ ys) all) (append-nil lines)
      (then_made xs ys lines [] first second)

  module _ {X : Type 0} (write : X → Write) where
    each_made : ((x : X) → IsTo (write x)) → (xs : List X)
        → Makes output (map write xs) (map (λ x. (write x).bytes) xs)
    each_made h [] = none_made
    each_made h (x ∷ xs) = line_made (write x) (map write xs) (map (λ x. (write x).bytes) xs) (h x) (each_made h xs)

    each_skipped : ((x : X) → IsApart (write x)) → (xs : List X) → Makes output (map write xs) []
    each_skipped h [] = none_made
    each_skipped h (x ∷ xs) = skipped (write x) (map write xs) [] (h x) (each_skipped h xs)

-- ---- the writes before those of the parts

sections_made : (found : Findings) → Makes Report (section_writes found.sections) (map line_of_section found.sections)
unfolding section_writes
sections_made found = each_made Report section_write (λ x. refl) found.sections

globals_made : (found : Findings) → Makes Report (global_writes found.globals) (map line_of_global found.globals)
unfolding global_writes
globals_made found = each_made Report global_write (λ x. refl) found.globals

names_made : (found : Findings) (is_strong : Bool) → Makes Report (name_writes found is_strong found.references)
    (map name_line (undefined_names found is_strong found.references))
unfolding name_writes
names_made found is_strong =
    each_made Report name_write (λ x. refl) (undefined_names found is_strong found.references)

weak_named : (names : List Name) → Makes Report (weak_writes (map name_write names)) (weak_lines names)
weak_named [] = none_made Report
weak_named (name ∷ names) =
    line_made Report _ _ _ refl (each_made Report name_write (λ x. refl) (name ∷ names))

weak_made : (found : Findings) → Makes Report (weak_writes (name_writes found false found.references))
    (weak_lines (undefined_names found false found.references))
unfolding name_writes
weak_made found = weak_named (undefined_names found false found.references)

map_made : (found : Findings) → Makes Report (map_writes found) (map_lines found)
unfolding map_writes
map_made found =
    then_made Report _ _ _ _ (line_made Report _ _ _ refl (sections_made found))
    (then_made Report _ _ _ _ (line_made Report _ _ _ refl (globals_made found))
    (then_made Report _ _ _ _ (line_made Report _ _ _ refl (names_made found true))
    (then_made Report _ _ _ _ (weak_made found)
    (line_made Report _ _ _ refl (line_made Report _ _ _ refl (none_made Report))))))

front_of_map : (found : Findings) → Makes Report (front_writes found) (map_lines found)
unfolding front_writes undefined_writes
front_of_map found =
    then_made Report _ _ [] _
    (each_skipped Report undefined_write (λ x. refl) (undefined_names found true found.references)) (map_made found)

-- the writes to the map add no line to the messages
sections_silent : (found : Findings) → Makes Messages (section_writes found.sections) []
unfolding section_writes
sections_silent found = each_skipped Messages section_write (λ x. refl) found.sections

globals_silent : (found : Findings) → Makes Messages (global_writes found.globals) []
unfolding global_writes
globals_silent found = each_skipped Messages global_write (λ x. refl) found.globals

names_silent : (found : Findings) (is_strong : Bool) → Makes Messages (name_writes found is_strong found.references) []
unfolding name_writes
names_silent found is_strong =
    each_skipped Messages name_write (λ x. refl) (undefined_names found is_strong found.references)

weak_silent : (writes : List Write) → Makes Messages writes [] → Makes Messages (weak_writes writes) []
weak_silent [] made = none_made Messages
weak_silent (write ∷ writes) made = skipped Messages _ _ _ refl made

map_silent : (found : Findings) → Makes Messages (map_writes found) []
unfolding map_writes
map_silent found =
    then_skipped Messages _ _ _ (skipped Messages _ _ _ refl (sections_silent found))
    (then_skipped Messages _ _ _ (skipped Messages _ _ _ refl (globals_silent found))
    (then_skipped Messages _ _ _ (skipped Messages _ _ _ refl (names_silent found true))
    (then_skipped Messages _ _ _
    (weak_silent (name_writes found false found.references) (names_silent found false))
    (skipped Messages _ _ _ refl (skipped Messages _ _ _ refl (none_made Messages))))))

front_of_messages : (found : Findings)
    → Makes Messages (front_writes found) (map undefined_line (undefined_names found true found.references))
unfolding front_writes undefined_writes
front_of_messages found =
    then_skipped Messages _ _ _
    (each_made Messages undefined_write (λ x. refl) (undefined_names found true found.references))
    (map_silent found)

-- ---- the writes of the parts

-- a write to the tape adds no line to another output
module _ (output : Output) (apart : is_output output Product ≡ false) where
  block_skipped : (address : ℕ) (bytes : List ℕ) → Makes output (block_at address bytes) []
  block_skipped address [] = none_made output
  block_skipped address (byte ∷ bytes) =
      skipped output (to_product (tape_block address (byte ∷ bytes))) [] [] apart
      (none_made output)

  ended_skipped : (found : Findings) (text : PlacedText) (parts : List Part) (b : Bool) → has_ended parts ≡ b
      → Makes output (ended_writes found text parts) []
  ended_skipped found text parts b e =
      let whole = with_relocations found text (relocations_after parts) in
      let here = either b whole in
      subst (λ (c : Bool). Makes output (if c then text_writes whole else []) []) (sym e) here
    where
      either : (c : Bool) (whole : PlacedText) → Makes output (if c then text_writes whole else []) []
      either true whole = block_skipped whole.address whole.bytes
      either false whole = none_made output

-- the message about an entry, if there is one, adds no line to the map
unless_silent : (b : Bool) (bytes : List ℕ) → Makes Report (if b then [] else to_messages bytes ∷ []) []
unless_silent true bytes = none_made Report
unless_silent false bytes = skipped Report _ _ _ refl (none_made Report)

if_silent : (b : Bool) (bytes : List ℕ) → Makes Report (if b then to_messages bytes ∷ [] else []) []
if_silent true bytes = skipped Report _ _ _ refl (none_made Report)
if_silent false bytes = none_made Report

different_silent : (found : Findings) (module_index : ℕ) (section : Option (Name × ℕ))
    → Makes Report (different_writes found module_index section) []
different_silent found module_index None = none_made Report
different_silent found module_index (Some section) =
    unless_silent (attributes_agree (found.attributes section.0) section.1)
    (different_line section.0 (found.module_name module_index))

entry_silent : (k : GsdKind) (found : Findings) (module_index : ℕ) (defined : List Name) (entry : GsdEntry)
    → Makes Report (writes_by k found module_index defined entry) []
entry_silent kind.GlobalSymbol found module_index defined entry =
    if_silent (defines entry && is_among defined entry.name) (multiple_line entry.name (found.module_name module_index))
entry_silent k found module_index defined entry = different_silent found module_index (attributes_by k entry)

parts_of_map : (found : Findings) (before parts : List Part) → Makes Report (writes_after found before parts) []
unfolding writes_at
parts_of_map found before [] = none_made Report
parts_of_map found before (Entry entry ∷ parts) =
    then_skipped Report _ _ _ (entry_silent entry.kind found (modules_in before) (defined_names before) entry)
    (parts_of_map found (before ++ Entry entry ∷ []) parts)
parts_of_map found before (Text address bytes ∷ parts) =
    then_skipped Report _ _ _
    (ended_skipped Report refl found
    (placed_text found (modules_in before) (current_section (this_module before)) address bytes) parts (has_ended parts) refl)
    (parts_of_map found (before ++ Text address bytes ∷ []) parts)
parts_of_map found before (part ∷ parts) = parts_of_map found (before ++ part ∷ []) parts

-- the message about an entry, if there is one, as a list of lines
abbrev lines_of : Option (List ℕ) → List (List ℕ)
lines_of None = []
lines_of (Some line) = line ∷ []

unless_made : (b : Bool) (bytes : List ℕ)
    → Makes Messages (if b then [] else to_messages bytes ∷ []) (lines_of (if b then None else Some bytes))
unless_made true bytes = none_made Messages
unless_made false bytes = line_made Messages _ _ _ refl (none_made Messages)

if_made : (b : Bool) (bytes : List ℕ)
    → Makes Messages (if b then to_messages bytes ∷ [] else []) (lines_of (if b then Some bytes else None))
if_made true bytes = line_made Messages _ _ _ refl (none_made Messages)
if_made false bytes = none_made Messages

different_made : (found : Findings) (before : List Part) (section : Option (Name × ℕ))
    → Makes Messages (different_writes found (modules_in before) section) (lines_of (different_of found before section))
different_made found before None = none_made Messages
different_made found before (Some section) =
    unless_made (attributes_agree (found.attributes section.0) section.1)
    (different_line section.0 (found.module_name (modules_in before)))

entry_made : (k : GsdKind) (found : Findings) (before : List Part) (entry : GsdEntry)
    → Makes Messages (writes_by k found (modules_in before) (defined_names before) entry)
    (lines_of (line_by k found before entry))
entry_made kind.GlobalSymbol found before entry =
    if_made (defines entry && is_among (defined_names before) entry.name)
    (multiple_line entry.name (found.module_name (modules_in before)))
entry_made k found before entry = different_made found before (attributes_by k entry)

one_more : (line : Option (List ℕ)) (lines : List (List ℕ)) → lines_of line ++ lines ≡ cons_option line lines
one_more None lines = refl
one_more (Some line) lines = refl

parts_of_messages : (found : Findings) (before parts : List Part)
    → Makes Messages (writes_after found before parts) (reported_after (entry_line found) before parts)
unfolding writes_at
parts_of_messages found before [] = none_made Messages
parts_of_messages found before (Entry entry ∷ parts) =
    let all = before ++ Entry entry ∷ [] in
    let line : Option (List ℕ) = line_by entry.kind found before entry in
    let more : List (List ℕ) = reported_after (entry_line found) all parts in
    subst (λ (lines : List (List ℕ)). Makes Messages
    (entry_writes found (modules_in before) (defined_names before) entry ++ writes_after found all parts) lines)
    (one_more line more)
    (then_made Messages (entry_writes found (modules_in before) (defined_names before) entry)
    (writes_after found all parts) (lines_of line) more (entry_made entry.kind found before entry)
    (parts_of_messages found all parts))
parts_of_messages found before (Text address bytes ∷ parts) =
    then_made Messages _ _ [] _
    (ended_skipped Messages refl found
    (placed_text found (modules_in before) (current_section (this_module before)) address bytes) parts (has_ended parts) refl)
    (parts_of_messages found (before ++ Text address bytes ∷ []) parts)
parts_of_messages found before (part ∷ parts) = parts_of_messages found (before ++ part ∷ []) parts

-- ---- the whole link

pub map_of_lines : (found : Findings) (parts : List Part)
    → gained link Report (link_writes found parts) ≡ concat (map_lines found)
unfolding parts_writes
map_of_lines found parts =
    let made = then_skipped Report (front_writes found ++ parts_writes found parts) _ (map_lines found)
    (then_skipped Report (front_writes found) (parts_writes found parts) (map_lines found) (front_of_map found)
    (parts_of_map found [] parts)) (skipped Report (to_product (tape_block found.transfer [])) [] [] refl (none_made Report)) in
    made.text

messages_made : (found : Findings) (parts : List Part)
    → Makes Messages (link_writes found parts) (message_lines found parts)
unfolding parts_writes
messages_made found parts =
    then_skipped Messages (front_writes found ++ parts_writes found parts) _ (message_lines found parts)
    (then_made Messages (front_writes found) (parts_writes found parts) _ _ (front_of_messages found)
    (parts_of_messages found [] parts))
    (skipped Messages (to_product (tape_block found.transfer [])) [] [] refl (none_made Messages))

pub messages_of_lines : (found : Findings) (parts : List Part)
    → gained link Messages (link_writes found parts) ≡ concat (message_lines found parts)
messages_of_lines found parts = (messages_made found parts).text

-- ---- the count of messages

counts_on : (count more most : ℕ) → min (min (count + 1) most + more) most ≡ min (count + suc more) most
counts_on count more most = omega arith

same_test : (output : Output) → is_to_messages output ≡ is_output Messages output
same_test Product = refl
same_test Report = refl
same_test Messages = refl

one_counted : (b : Bool) (count : ℕ) (write : Write) (writes : List Write) → count ≤ most_messages
    → min (one_count count b + length writes) most_messages
    ≡ min (count + length (if b then write ∷ writes else writes)) most_messages
one_counted true count write writes le = counts_on count (length writes) most_messages
one_counted false count write writes le = refl

still_most : (b : Bool) (count : ℕ) → count ≤ most_messages → one_count count b ≤ most_messages
still_most true count le = below_min (count + 1) most_messages
  where
    below_min : (n most : ℕ) → min n most ≤ most
    below_min n most = omega arith
still_most false count le = le

within : (count most : ℕ) → count ≤ most → count ≡ min (count + 0) most
within count most le = omega arith

counted_writes : (count : ℕ) (writes : List Write) → count ≤ most_messages
    → counted count writes ≡ min (count + writes_to Messages writes) most_messages
counted_writes count [] le = within count most_messages le
counted_writes count (write ∷ writes) le =
    counted_writes (one_count count (is_message write)) writes (still_most (is_message write) count le)
    ∙ one_counted (is_message write) count write (filter (λ w. is_output Messages w.output) writes) le
    ∙ ap (λ (b : Bool). min (count + length (if b then write ∷ filter (λ w. is_output Messages w.output) writes
    else filter (λ w. is_output Messages w.output) writes)) most_messages) (same_test write.output)

none_before : (n : ℕ) → 0 + n ≡ n
none_before n = omega arith

pub lines_counted : (found : Findings) (parts : List Part)
    → counted 0 (link_writes found parts) ≡ min (length (message_lines found parts)) most_messages
lines_counted found parts =
    counted_writes 0 (link_writes found parts) (omega arith)
    ∙ ap (λ (n : ℕ). min n most_messages)
    (none_before (writes_to Messages (link_writes found parts)) ∙ (messages_made found parts).count)
