-- The outputs of a link whose objects have no fault. (RT-11 Volume and File Formats Manual, "Absolute binary file format", for the
-- tape; the map and the messages are this project's own.)
use Rattle.std.specs.Prelude.{◌≡◌, ℕ, List, [], ◌++◌, length, min}
use Rattle.std.specs.Io.KnownBytes.{Appends}
use Rattle.std.specs.List.{concat, flat_map}
use Rattle.m11_base.specs.Devices.{Bytes}
use Rattle.m11_obj_blocks.specs.Tapes.{IsTape, tape_block}
use Rattle.m11_link_modules.specs.Parts.{Part}
use Rattle.m11_link_layout.specs.Transfers.{transfer_address}
use Rattle.m11_base_writes.specs.declared.outputs.Output.TheVariants.{Product, Report, Messages}
use Rattle.m11_link_text.specs.Findings.{findings_of}
use Rattle.m11_base_writes.specs.Outputs.{AreFlushed, Outputs}
use Rattle.m11_link.specs.Written.{most_messages}
use Rattle.m11_link.specs.declared.emit.LinkDone.{LinkDone}
use Rattle.m11_link_laws.specs.LinkedTexts.{linked_texts, tape_blocks}
use Rattle.m11_link_laws.specs.Lines.{map_lines, message_lines}
use Rattle.m11_link_laws.specs.Texts.{block_of}

-- the tape: a block for each text that has data, and the transfer block
abbrev pub tape_text : ℕ → List Part → Bytes
tape_text bottom parts =
    flat_map block_of (linked_texts (findings_of bottom parts) parts) ++ tape_block (transfer_address bottom parts) []

abbrev pub map_text : ℕ → List Part → Bytes
map_text bottom parts = concat (map_lines (findings_of bottom parts))

abbrev pub messages_of : ℕ → List Part → List Bytes
messages_of bottom parts = message_lines (findings_of bottom parts) parts

-- the tape gains the bytes of `tape_text`, which form a tape with the blocks of the texts that have data and with the transfer address;
-- the map and the messages gain their lines; tape and map hold nothing back; the messages are counted
pub record Leaves (bottom : ℕ) (parts : List Part) (old new : Outputs) (done : LinkDone) : Type 0 where
  pub tape : Appends (old Product).text (new Product).text (tape_text bottom parts)
  pub again : IsTape (tape_blocks (findings_of bottom parts) parts) (transfer_address bottom parts) (tape_text bottom parts)
  pub map : Appends (old Report).text (new Report).text (map_text bottom parts)
  pub messages : Appends (old Messages).text (new Messages).text (concat (messages_of bottom parts))
  pub count : done.messages ≡ min (length (messages_of bottom parts)) most_messages
  pub flushed : AreFlushed new
