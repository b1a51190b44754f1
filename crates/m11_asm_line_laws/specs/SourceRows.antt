-- The facts that a first pass finds about sources, worked by hand. (MACRO-11 Language Reference Manual, ".TITLE directive", ".IDENT
-- directive", ".WEAK directive", ".END directive" and "Symbols".)
use Rattle.std.specs.Prelude.{ℕ, List, [], ◌∷◌, codes, map, option_map, Option, Some, None}
use Rattle.m11_base.specs.Devices.{Bytes}
use Rattle.m11_base.specs.Rad50.{Name}
use Rattle.m11_asm.specs.Program.{directory_facts_of, used_in}
use Rattle.m11_asm_directory.specs.References.{references}
use Rattle.m11_asm.specs.Facts.{facts_of}
use Rattle.m11_asm_line_laws.specs.RelocationRows.{named}
use Rattle.m11_asm_line_laws.specs.Worked.{plain}
use Rattle.m11_unfold_rules.specs.Unfolding.{UnfoldedLine}
use Rattle.m11_scan_expressions.specs.Quantities.{Quantity}

-- the facts of a source
pub record Gives : Type 0 where
  pub title : Option Name
  pub identification : Option Name
  pub weak : List Name
  -- the number of the transfer address, if the source has one
  pub transfer : Option ℕ
  -- the names that the source uses besides those of registers, and the names of registers that it uses, each once, in order of first
  -- appearance; and the names that other objects must define
  pub names : List Name
  pub registers : List Name
  pub references : List Name

-- a source and its facts
pub record SourceRow : Type 0 where
  pub source : List Bytes
  pub gives : Gives

abbrev pub number_of : Quantity → ℕ
number_of value = value.number

abbrev pub gives_of : List UnfoldedLine → Gives
gives_of lines = record {
  title = (facts_of lines).title;
  identification = (facts_of lines).identification;
  weak = (facts_of lines).weak;
  transfer = option_map number_of (facts_of lines).transfer;
  names = (used_in lines).names;
  registers = (used_in lines).registers;
  references = references (directory_facts_of lines);
}

abbrev pub given_by : SourceRow → Gives
given_by row = gives_of (map plain row.source)

abbrev pub expected_by : SourceRow → Gives
expected_by row = row.gives

abbrev pub source_rows : List SourceRow
source_rows =
    record {
      source = codes ".TITLE PROG the best?" ∷ codes ".TITLE 5A" ∷ codes ".IDENT /v1/" ∷ codes ".WEAK Q,R" ∷ codes "S: MOV #Q,R0"
          ∷ codes ".END S+2" ∷ [];
      gives = record {
        title = Some (named (codes "PROG  "));
        identification = Some (named (codes " 1    "));
        weak = named (codes "Q     ") ∷ named (codes "R     ") ∷ [];
        transfer = Some 2;
        names = named (codes "Q     ") ∷ named (codes "R     ") ∷ named (codes "S     ") ∷ [];
        registers = named (codes "R0    ") ∷ [];
        references = named (codes "Q     ") ∷ named (codes "R     ") ∷ [];
      };
    }
    ∷ record {
      source = codes "X=Y" ∷ codes ".BLKB BAR" ∷ codes ".WORD 1 LEFT" ∷ codes ".WORD X,Y,.,1$" ∷ codes "Y=4" ∷ codes ".END" ∷ [];
      gives = record {
        title = None;
        identification = None;
        weak = [];
        transfer = None;
        names = named (codes "X     ") ∷ named (codes "Y     ") ∷ named (codes "BAR   ") ∷ [];
        registers = [];
        references = [];
      };
    }
    ∷ []
