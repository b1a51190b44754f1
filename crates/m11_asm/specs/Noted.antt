-- Adding the facts of a line's action. (MACRO-11 Language Reference Manual, ".TITLE directive", ".IDENT directive", ".WEAK directive" and
-- ".END directive".)
use Rattle.std.specs.Prelude.{true, Some}
use Rattle.std.specs.Option.{option_or}
use Rattle.m11_asm_rules.specs.Actions.{Action, Entitle, Export, Identify, Transfer}
use Rattle.m11_asm_rules.specs.Exports.{transfer}
use Rattle.m11_asm_rules.specs.Meanings.{empty_map}
use Rattle.m11_asm_rules.specs.Tables.{Table}
use Rattle.m11_asm.specs.Facts.{Facts, each_once}

-- these facts together with those of an action; a transfer address is evaluated with this table
abbrev pub with_action : Table → Action → Facts → Facts
with_action table (Entitle name) facts = record facts { title = Some name }
with_action table (Identify name) facts = record facts { identification = option_or name facts.identification }
with_action table (Export true names) facts = record facts { weak = each_once facts.weak names }
with_action table (Transfer tokens) facts = record facts { transfer = option_or (transfer empty_map table tokens) facts.transfer }
with_action table other facts = facts
