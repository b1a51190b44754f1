-- Lines that open a body, and the lines that replace a call or a repeat. (MACRO-11 Language Reference Manual, "Macro definition",
-- "Macro calls", "Repeat block directive" and "Indefinite repeat block directives".)
use Rattle.std.specs.Prelude.{◌≡◌, ℕ, ◌+◌, true, false, List, [], length, map, replicate, Option, Some, None}
use Rattle.m11_unfold_rules.specs.declared.macros.MacroFormal.{MacroFormal}
use Rattle.m11_base.specs.Devices.{Bytes}
use Rattle.m11_base.specs.Rad50.{Name}
use Rattle.m11_scan.specs.Line.{SourceLine}
use Rattle.m11_unfold_rules.specs.Actuals.{ActualTexts, actuals_from}
use Rattle.m11_scan_expressions.specs.Expressions.{KnownSymbols}
use Rattle.m11_unfold_rules.specs.Filling.{FormalTexts, filled}
use Rattle.m11_unfold_rules.specs.Indefinite.{irpc, irp}
use Rattle.m11_unfold_rules.specs.Headers.{header}
use Rattle.m11_scan_expressions.specs.Remarks.{Remarks, remarks_of}
use Rattle.m11_unfold_rules.specs.Repeats as repeats
use Rattle.m11_unfold_rules.specs.declared.directives.Directive.TheVariants as word
use Rattle.m11_unfold_bodies.specs.Bodies.{body_of, size_of}
use Rattle.m11_unfold_rules.specs.Acting as acting
use Rattle.m11_unfold_rules.specs.Acting.{Operation, Calls, OwnDirective, repeating}
use Rattle.m11_unfold_rules.specs.Constructs.{lines_of_rounds, round_lines}
use Rattle.m11_unfold_rules.specs.Stages as stages
use Rattle.m11_unfold_rules.specs.Stages.{Purpose, Repeats, line_left}
use Rattle.m11_unfold_rules.specs.Taking.{nesting}
use Rattle.m11_unfold_laws.specs.Levels.{Situation, counting}

-- ---- bodies

-- these lines begin with this body and the line that closes it, by nesting alone; the other lines follow
abbrev pub HasBody : List SourceLine → List Bytes → List SourceLine → Type 0
HasBody lines body others =
    body_of nesting (map line_left lines) ≡ record { body = body; is_closed = true; after = map line_left others }

-- no line closes the body that these lines begin with
abbrev pub HasNoClose : List SourceLine → Type 0
HasNoClose lines = (body_of nesting (map line_left lines)).is_closed ≡ false

-- a line opens a body; these are the line's flags and symbols, and the purpose of the body
pub data Opens (known : KnownSymbols) (text : Bytes) : Operation → Remarks → Purpose → Type 0 where
  -- `.MACRO`; the body is discarded if the name is missing or bad
  Macro : (column : ℕ)
      → Opens known text (OwnDirective word.Macro column) (remarks_of (header text column).flags [])
      (acting.defining (header text column).named)
  -- `.REPT`: as many rounds, without formals, as the value of the expression; none if it is negative or missing
  Repeat : (column : ℕ)
      → Opens known text (OwnDirective word.Rept column) (repeats.remarks known text column)
      (Repeats [] (replicate (repeats.rept_count known text column) []))
  -- `.IRP`: a round for each argument, which replaces the formal; no rounds if the formal or the list is bad or missing
  IndefiniteRepeat : (column : ℕ)
      → Opens known text (OwnDirective word.Irp column) (irp known text column).remarks
      (repeating (irp known text column).rounds)
  -- `.IRPC`: a round for each character, which replaces the formal; no rounds if the formal or the text is bad or missing
  CharacterRepeat : (column : ℕ)
      → Opens known text (OwnDirective word.Irpc column) (irpc text column).remarks
      (repeating (irpc text column).rounds)

-- ---- the lines of an expansion

-- an expansion: the flags and symbols of the line that calls or repeats; the number of actuals of a call; the number of bytes in the body
-- of a repeat, 0 for a call; the lines of the expansion; the situation before them; and the lines after the expansion
pub record Put : Type 0 where
  pub remarks : Remarks
  pub arguments : Option ℕ
  pub bytes : ℕ
  pub lines : List SourceLine
  pub situation : Situation
  pub others : List SourceLine

-- the expansion of a call: the macro's body with an actual in place of each formal; a missing actual is empty or a created symbol
abbrev pub put_with : stages.Macro → ActualTexts → FormalTexts → Situation → List SourceLine → Put
put_with macro given filled situation others = record {
  remarks = given.remarks;
  arguments = Some (length given.texts);
  bytes = 0;
  lines = round_lines (map (λ (formal : MacroFormal). formal.name) macro.formals) macro.body filled.texts;
  situation = record situation { created = filled.created; taken = situation.taken + 1 };
  others = others;
}

abbrev pub put_by_call : stages.Macro → ActualTexts → Situation → List SourceLine → Put
put_by_call macro given situation others =
    put_with macro given (filled macro.formals given.texts situation.created) situation others

-- the expansion of a repeat: its body once for each round, with the round's actual in place of the formal, if there is one
abbrev pub put_by_repeat : Remarks → List Name → List (List Bytes) → List Bytes → Situation → List SourceLine → Put
put_by_repeat remarks formals rounds body situation others = record {
  remarks = remarks;
  arguments = None;
  bytes = size_of body;
  lines = lines_of_rounds formals rounds body;
  situation = counting (length body + 2) situation;
  others = others;
}

pub data Puts (known : KnownSymbols) (situation : Situation) (text : Bytes) (following : List SourceLine) : Operation → Put
    → Type 0 where
  Call : (macro : stages.Macro) (column : ℕ)
      → Puts known situation text following (Calls macro column)
      (put_by_call macro (actuals_from known text (length macro.formals) column) situation following)
  Repeat : (operation : Operation) (remarks : Remarks) (formals : List Name) (rounds : List (List Bytes)) (body : List Bytes)
      (others : List SourceLine) → Opens known text operation remarks (Repeats formals rounds) → HasBody following body others
      → Puts known situation text following operation (put_by_repeat remarks formals rounds body situation others)
