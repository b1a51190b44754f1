-- The texts of modules at their addresses in a link, with the bytes that they have before any relocation; whether a relocation stores
-- bytes; and the block of the tape for a text. (RT-11 Volume and File Formats Manual, "Object file format", TXT and RLD blocks:
-- commands 7 and octal 10 store nothing; "Absolute binary file format".)
use Rattle.std.specs.Prelude.{ℕ, ◌+◌, Bool, true, false, not, List, [], ◌∷◌, Option, Some, None}
use Rattle.m11_obj_blocks.specs.Tapes.{tape_block}
use Rattle.m11_obj.specs.declared.relocations.Target.{Target}
use Rattle.m11_obj.specs.declared.relocations.Target.TheVariants as target
use Rattle.m11_link_modules.specs.Parts.{Part, Text, Relocated}
use Rattle.m11_link_modules.specs.Positions.{current_section, modules_in, this_module}
use Rattle.m11_link_layout.specs.Modules.{reported_after}
use Rattle.m11_link_text.specs.Findings.{Findings}
use Rattle.m11_link_text.specs.Relocation.{modulo}

-- whether a relocation only selects the section and location of texts
abbrev pub only_selects : Target → Bool
only_selects (target.LocationCounterDefinition name constant) = true
only_selects (target.LocationCounterModification constant) = true
only_selects other = false

-- whether a part is a relocation that stores bytes
abbrev pub stores : Part → Bool
stores (Relocated relocation) = not (only_selects relocation.target)
stores part = false

-- a text's address in the link, and its bytes; the address is the text's own plus the base of its module's contribution to the section
-- that the module selected last, modulo octal 200000; None for any other part
abbrev pub text_in : Findings → List Part → Part → Option (ℕ × List ℕ)
text_in found before (Text address bytes) =
    Some (modulo (found.base (modules_in before) (current_section (this_module before)) + address), bytes)
text_in found before part = None

-- all texts, in the order of the parts
unfoldable pub texts_of : Findings → List Part → List (ℕ × List ℕ)
texts_of found parts = reported_after (text_in found) [] parts

-- the block of the tape for a text with data; nothing for a text without data, whose block would be the transfer block
abbrev pub data_block : ℕ → List ℕ → List ℕ
data_block address [] = []
data_block address (byte ∷ bytes) = tape_block address (byte ∷ bytes)

abbrev pub block_of : ℕ × List ℕ → List ℕ
block_of text = data_block text.0 text.1
