-- The facts from the first pass of a source for the directory of its object. (MACRO-11 Language Reference Manual, ".TITLE directive",
-- ".IDENT directive", ".WEAK directive" and ".END directive".)
use Rattle.std.specs.Prelude.{List, Option, option_map}
use Rattle.m11_base.specs.Rad50.{Name}
use Rattle.m11_asm_rules.specs.Tables.{Table}
use Rattle.m11_scan_expressions.specs.Quantities.{Quantity, quantity}
use Rattle.m11_asm_directory.specs.declared.first_pass.FirstPass.{FirstPass}

pub record DirectoryFacts : Type 0 where
  -- the table after the last line, with the sizes of sections
  pub table : Table
  -- the names that lines use in places where an undefined name would refer to another object; and the weak names
  pub referred : List Name
  pub weak : List Name
  pub title : Option Name
  pub identification : Option Name
  -- the transfer address, if the source has one
  pub transfer : Option Quantity

-- the facts in the code's record, as the definitions represent them
abbrev pub directory_facts : FirstPass → DirectoryFacts
directory_facts first = record {
  table = first.table.now;
  referred = first.referred.now.keys;
  weak = first.weak.now.keys;
  title = first.title;
  identification = first.identification;
  transfer = option_map quantity first.transfer;
}
