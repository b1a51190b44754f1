-- What a line does after its labels, as read from its text. (MACRO-11 Language Reference Manual, "Operator field", "Direct assignment
-- statements" and "General assembler directives".)
use Rattle.std.specs.Prelude.{ℕ, Bool, List, Option}
use Rattle.m11_base.specs.Devices.{Bytes}
use Rattle.m11_base.specs.Rad50.{Name}
use Rattle.m11_obj.specs.declared.attributes.Attribute.{Attribute}
use Rattle.m11_scan.specs.declared.radix.Radix.{Radix}
use Rattle.m11_scan_expressions.specs.LeftOvers.{bad_flags}
use Rattle.m11_scan_expressions.specs.Tokens.{Expression}
use Rattle.m11_base.specs.declared.instruction.Op.{Op}

-- a part of a text: characters, or an expression in angle brackets
pub data TextPart : Type 0 where
  Characters : Bytes → TextPart
  Coded : Expression → TextPart

-- what a directive stores at the location counter, or the room that it reserves there
pub data Storage : Type 0 where
  -- a word or a byte for each expression of a list; an empty expression counts as 0
  WordList : List Expression → Storage
  ByteList : List Expression → Storage
  -- the bytes of a text, and a zero byte after them if the flag is true
  Text : List TextPart → Bool → Storage
  -- a text in RADIX-50
  PackedText : List TextPart → Storage
  -- the limits of the program: two words filled in by the linker
  LimitWords : Storage
  -- room: the number of bytes in a unit, and how many units there are; an empty expression counts as 1
  Room : ℕ → Expression → Storage
  -- room for 0 or 1 byte, up to the first even (true) or odd (false) location at or after the location counter
  AlignTo : Bool → Storage

pub data Action : Type 0 where
  -- no action
  NoAction : Action
  -- an assignment: the name, or None if the name isn't valid; whether the name becomes global; and the expression
  Assign : Option Name → Bool → Expression → Action
  -- an assignment to `.`: the expression
  SetCounter : Expression → Action
  -- selects a section; a new section gets these attribute bits, changed by the named attributes
  Select : Name → ℕ → List Attribute → Action
  -- makes names global, and weak if the flag is true
  Export : Bool → List Name → Action
  -- assigns to a name a number that depends on no other name, as `.NARG` and `.NCHR` do
  SetNumber : Name → ℕ → Action
  -- sets the radix of numbers
  SetRadix : Radix → Action
  -- raises the listing level (true) or lowers it (false)
  MoveLevel : Bool → Action
  -- turns the listing of expansions on (true) or off (false)
  ListExpansions : Bool → Action
  -- these three set the title, the identification and the transfer address of the module; an empty expression sets no transfer address
  Entitle : Name → Action
  Identify : Option Name → Action
  Transfer : Expression → Action
  -- stores values at the location counter, or reserves room there
  Store : Storage → Action
  -- an instruction, and the column after its name; the forms of its operands depend on which names are registers
  Operate : Op → ℕ → Action

-- what a line does, and the flags that depend on no symbol: those of its text, and O for `.NARG` outside a macro
pub record Operation : Type 0 where
  pub action : Action
  pub flags : ℕ

abbrev pub does : Action → ℕ → Operation
does action flags = record { action = action; flags = flags }

-- no action, with the flags of a bad or missing argument at a column
abbrev pub refused : Bytes → ℕ → Operation
refused line column = does NoAction (bad_flags line column)
