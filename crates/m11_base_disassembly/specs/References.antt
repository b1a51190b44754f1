-- What words refer to in an object, as its relocations say it, and how operands and data show that. (RT-11 Volume and File Formats
-- Manual, "Object file format", RLD block. A symbol and a distance as an operand: MACRO-11 Language Reference Manual, "Expressions".)
use Rattle.std.specs.Prelude.{ℕ, zero, suc, ◌&&◌, not, Bool, true, false, if◌then◌else◌, ◌++◌, Option, Some, None}
use Rattle.m11_base.specs.Devices.{Bytes}
use Rattle.m11_base.specs.Rad50.{Name, name_text}
use Rattle.m11_base_disassembly.specs.Names.{bare_name, is_written}
use Rattle.m11_base_disassembly.specs.Numbers.{distance_text, number_text}
use Rattle.m11_base_disassembly.specs.declared.references.Reference.{Reference}
use Rattle.m11_base_disassembly.specs.declared.references.References.{References}

-- the words of a statement refer to nothing
abbrev pub no_references : References
no_references = record { own = None; first = None; second = None }

-- the reference of the word after so many words of an instruction that follow its code
abbrev pub reference_after : ℕ → References → Option Reference
reference_after zero references = references.first
reference_after (suc words) references = references.second

abbrev pub has_form : Option Name → Bool
has_form None = true
has_form (Some name) = is_written name

-- a reference stands for the word of an operand, or for a word of data, which isn't relative: its name, if it has one, can be written, and the
-- word is a distance just if the operand is relative
abbrev pub stands_in : Bool → Reference → Bool
stands_in is_relative reference =
    has_form reference.name && (if is_relative then reference.is_displaced else not reference.is_displaced)

-- a word with this reference is data where a statement begins: the reference stands for it. An instruction's code has no reference
abbrev pub is_data : Option Reference → Bool
is_data None = false
is_data (Some reference) = stands_in false reference

-- a name, and the constant that is added to it; or the constant alone
abbrev pub referred_text : Option Name → ℕ → Bytes
referred_text None constant = number_text constant
referred_text (Some name) constant = bare_name (name_text name) ++ distance_text constant

-- what a word refers to, if that stands for the word; otherwise this text
abbrev pub referred_or : Bool → Option Reference → Bytes → Bytes
referred_or is_relative None text = text
referred_or is_relative (Some reference) text =
    if stands_in is_relative reference then referred_text reference.name reference.constant else text
