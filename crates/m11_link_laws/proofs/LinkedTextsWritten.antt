-- The tape of whole modules consists of a block for each text, with the values that its relocations store, and the transfer block.
use Rattle.std.proofs.Common.{◌≡◌, true, if◌then◌else◌, List, [], ◌∷◌, ◌++◌, map, flat_map, None, refl, sym, ap, ap₂, ◌∙◌}
use Rattle.m11_obj_blocks.specs.Tapes.{tape_block}
use Rattle.m11_link_modules.specs.declared.stage.Stage.TheVariants.{Between}
use Rattle.m11_link_modules.specs.Parts.{Part, Entry, EndOfFile, Text}
use Rattle.m11_link_modules.specs.Positions.{current_section, modules_in, stage_after, stage_from, this_module}
use Rattle.m11_link_modules.specs.Rules.{fault_of, first_fault}
use Rattle.m11_base_writes.specs.declared.outputs.Output.TheVariants.{Product}
use Rattle.m11_link_layout.proofs.Walking.{head_none, rest_none}
use Rattle.m11_link_text.specs.Findings.{Findings}
use Rattle.m11_link.specs.Front.{front_writes}
use Rattle.m11_base_writes.specs.Writes.{gained}
use Rattle.m11_base_writes.proofs.Writing.{gained-append}
use Rattle.m11_link.specs.Outputs.{link}
use Rattle.m11_base_writes.specs.Outputs.{to_product}
use Rattle.m11_link.specs.Written.{PlacedText, defined_names, ended_writes, entry_writes, has_ended, link_writes, parts_writes, placed_text, relocations_after, text_writes, with_relocations, writes_at, writes_after}
use Rattle.m11_link_laws.specs.Texts.{block_of, data_block}
use Rattle.m11_link_laws.specs.LinkedTexts.{linked_text, linked_texts, object_texts, texts_after}
use Rattle.m11_link_laws.proofs.PlainTextsWritten.{block_gained, closed, ended, entry_elsewhere, front_elsewhere, last_gained, one_more, skipped, text_in_body}

text_gained : (found : Findings) (text : PlacedText) (parts : List Part) → has_ended parts ≡ true
    → gained link Product (ended_writes found text parts)
    ≡ data_block (with_relocations found text (relocations_after parts)).address
    (with_relocations found text (relocations_after parts)).bytes
text_gained found text parts e =
    let whole = with_relocations found text (relocations_after parts) in
    ap (λ b. gained link Product (if b then text_writes whole else [])) e ∙ block_gained whole.address whole.bytes

following : (found : Findings) (before parts : List Part) → first_fault before parts ≡ None
    → stage_from (stage_after before) parts ≡ Between
    → gained link Product (writes_after found before parts)
    ≡ flat_map block_of (map (linked_text found) (texts_after before parts))
unfolding writes_at first_fault gained
following found before [] h s = refl
following found before (Text address bytes ∷ parts) h s =
    let all = before ++ Text address bytes ∷ [] in
    let head = head_none (fault_of before (Text address bytes)) (first_fault all parts) h in
    let rest = rest_none (fault_of before (Text address bytes)) (first_fault all parts) h in
    let text = placed_text found (modules_in before) (current_section (this_module before)) address bytes in
    let e = ended parts
    (ap (λ stage. stage_from stage parts) (sym (text_in_body before address bytes head)) ∙ s) in
    gained-append link Product (ended_writes found text parts) (writes_after found all parts)
    ∙ ap₂ (λ some more. some ++ more) (text_gained found text parts e)
    (following found all parts rest (one_more before (Text address bytes) parts ∙ s))
following found before (Entry entry ∷ parts) h s =
    let all = before ++ Entry entry ∷ [] in
    let rest = rest_none (fault_of before (Entry entry)) (first_fault all parts) h in
    skipped (entry_writes found (modules_in before) (defined_names before) entry) (writes_after found all parts) _
    (entry_elsewhere entry.kind found (modules_in before) (defined_names before) entry)
    (following found all parts rest (one_more before (Entry entry) parts ∙ s))
following found before (part ∷ parts) h s =
    let all = before ++ part ∷ [] in
    let rest = rest_none (fault_of before part) (first_fault all parts) h in
    following found all parts rest (one_more before part parts ∙ s)

pub tape_of_linked_texts : (found : Findings) (parts : List Part) → first_fault [] parts ≡ None
    → fault_of parts EndOfFile ≡ None → gained link Product (link_writes found parts)
    ≡ flat_map block_of (linked_texts found parts) ++ tape_block found.transfer []
unfolding object_texts parts_writes stage_after
tape_of_linked_texts found parts h e =
    let last = to_product (tape_block found.transfer []) ∷ [] in
    gained-append link Product (front_writes found ++ parts_writes found parts) last
    ∙ ap₂ (λ some more. some ++ more)
    (skipped (front_writes found) (parts_writes found parts) _ (front_elsewhere found)
    (following found [] parts h (closed parts e)))
    (last_gained (tape_block found.transfer []))
