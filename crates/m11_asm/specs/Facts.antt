-- What the lines state about the module, apart from names and locations: the last title and identification, the weak names, and the
-- transfer address. (MACRO-11 Language Reference Manual, ".TITLE directive", ".IDENT directive", ".WEAK directive" and ".END directive".)
use Rattle.std.specs.Prelude.{List, [], map, Option, None, fold}
use Rattle.std.specs.Option.{option_or}
use Rattle.std.specs.List.{flat_map}
use Rattle.indexmap.specs.IndexSet.{insert_key}
use Rattle.m11_base.specs.Rad50.{Name, is_same_name}
use Rattle.m11_unfold_rules.specs.Unfolding.{UnfoldedLine}
use Rattle.m11_scan_expressions.specs.Quantities.{Quantity}
use Rattle.m11_asm_rules.specs.Meanings.{empty_map}
use Rattle.m11_asm_rules.specs.Sources.{last_of, line_identification, line_title, line_transfer, line_weak_names, transfer_after}
use Rattle.m11_asm_rules.specs.Tables.{Table, first_table}

pub record Facts : Type 0 where
  pub title : Option Name
  pub identification : Option Name
  -- the weak names, each once, in order of first appearance
  pub weak : List Name
  pub transfer : Option Quantity

abbrev pub no_facts : Facts
no_facts = record { title = None; identification = None; weak = []; transfer = None }

-- a list of names with more names inserted, except those that it already has
abbrev pub each_once : List Name → List Name → List Name
each_once names more = fold (insert_key is_same_name) names more

-- these facts together with those of one more line; the table is the one before that line
abbrev pub with_line : Table → UnfoldedLine → Facts → Facts
with_line table given facts = record {
  title = option_or (line_title given) facts.title;
  identification = option_or (line_identification given) facts.identification;
  weak = each_once facts.weak (line_weak_names given);
  transfer = option_or (line_transfer empty_map table given) facts.transfer;
}

-- the facts of all lines of a source
abbrev pub facts_of : List UnfoldedLine → Facts
facts_of lines = record {
  title = last_of (map line_title lines);
  identification = last_of (map line_identification lines);
  weak = each_once [] (flat_map line_weak_names lines);
  transfer = transfer_after empty_map first_table lines;
}
