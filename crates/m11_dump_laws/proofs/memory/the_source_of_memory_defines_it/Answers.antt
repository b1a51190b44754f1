use Rattle.m11_dump_laws.proofs.MemoryDefined.{memory_defined}
use Rattle.m11_dump_laws.proofs.memory.the_source_of_memory_defines_it.Goals as goal

pub returns : goal.returns
returns c bottom start names cells lines given bytes below short live =
    memory_defined
    (record {
      reads = c.plain_lines_are_read_unchanged.ensures;
      has_all = c.the_lines_of_a_pass_are_those_of_the_whole_source.ensures.all;
      repeats = c.the_same_text_has_no_moved_label_and_no_second_refusal.ensures.repeats;
      first = c.live_lines_begin_with_the_absolute_section.ensures.first;
      text = c.the_source_is_the_text_of_its_items.ensures;
      stores = c.the_pieces_are_the_bytes_of_memory.ensures;
      assembled = c.a_source_of_items_is_assembled_as_they_say.ensures.says;
    })
    names start cells bytes below (c.the_items_are_well_formed.ensures names start cells given bytes) short bottom lines live
