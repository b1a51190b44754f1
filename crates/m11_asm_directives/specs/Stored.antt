-- The code's values for what a directive stores, with the lists among its arguments, as the definitions represent them.
use Rattle.m11_base.specs.Devices.{Bytes}
use Rattle.m11_scan.specs.Views.{bits_of}
use Rattle.m11_scan_expressions.specs.Tokens.{expression_of}
use Rattle.m11_asm_operands.specs.Elements.{elements_model}
use Rattle.m11_asm_rules.specs.Actions as actions
use Rattle.m11_asm_rules.specs.Strings.{contents_of}
use Rattle.m11_asm_directives.specs.declared.stored.Arguments.{Arguments}
use Rattle.m11_asm_directives.specs.declared.stored.Storage.{Storage}
use Rattle.m11_asm_directives.specs.declared.stored.Storage.TheVariants.{WordList, ByteList, Text, PackedText, LimitWords, Room, AlignTo}
use Rattle.m11_asm_directives.specs.declared.stored.Storing.{Storing}

abbrev pub storage_model : Bytes → Arguments → Storage → actions.Storage
storage_model line arguments WordList = actions.WordList (elements_model line arguments.elements.list.items)
storage_model line arguments ByteList = actions.ByteList (elements_model line arguments.elements.list.items)
storage_model line arguments (Text is_ended) = actions.Text (contents_of line arguments.parts.list.items) is_ended
storage_model line arguments PackedText = actions.PackedText (contents_of line arguments.parts.list.items)
storage_model line arguments LimitWords = actions.LimitWords
storage_model line arguments (Room unit count) = actions.Room unit (expression_of line count)
storage_model line arguments (AlignTo is_even) = actions.AlignTo is_even

abbrev pub storing_model : Bytes → Arguments → Storing → actions.Operation
storing_model line arguments storing = actions.does (actions.Store (storage_model line arguments storing.storage)) (bits_of storing.flags)
