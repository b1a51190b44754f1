-- The live lines of a source under a map: each operator that unfolding handles uses what the lines before it and the labels of its own line
-- define. (MACRO-11 Language Reference Manual, "Macro directives", "Conditional assembly directives" and "Symbols and expressions". This
-- project's own: conditions and repeats depend on firm names alone.)
use Rattle.std.specs.Prelude.{◌≡◌, List, [], ◌∷◌, ⊤}
use Rattle.m11_scan_expressions.specs.Expressions.{KnownSymbols}
use Rattle.m11_scan.specs.Line.{SourceLine}
use Rattle.m11_unfold_rules.specs.Stages.{Stage}
use Rattle.m11_unfold_rules.specs.Unfolding.{UnfoldedLine, Unfolds}
use Rattle.m11_asm_rules.specs.Lines.{after_line, stands}
use Rattle.m11_asm_rules.specs.Meanings.{Map, firm_known}
use Rattle.m11_asm_rules.specs.Tables.{Table, first_table, location}

-- the symbols known to conditions, repeats and macros once the labels of their line are defined
abbrev pub known_after_labels : Table → KnownSymbols
known_after_labels stood = firm_known stood (location stood)

-- the symbols known at each line are the firm ones that the lines before it and its own labels define
abbrev pub KnowLinesBefore : Map → Table → List UnfoldedLine → Type 0
KnowLinesBefore map table [] = ⊤
KnowLinesBefore map table (given ∷ lines) = (given.known ≡ known_after_labels (stands table given)) × KnowLinesBefore map (after_line map table given) lines

-- these are the live lines of a source up to a stage of its unfolding, and each was unfolded with the symbols that are known at the line if
-- the lines are placed under this map
abbrev pub AreLines : Map → List SourceLine → List UnfoldedLine → Stage → Type 0
AreLines map source lines stage = Unfolds source lines stage × KnowLinesBefore map first_table lines
