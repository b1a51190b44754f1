-- The shapes of a source, and the live lines of each. (MACRO-11 Language Reference Manual, "Macro directives", "Conditional
-- assembly directives" and ".END directive". The only limit that matters here is that on open conditions.)
use Rattle.std.specs.Prelude.{◌≡◌, ℕ, ◌+◌, suc, Bool, true, false, not, ◌||◌, ◌==◌, List, [], ◌∷◌, ◌++◌, length, drop, Option, Some, None, ⊤}
use Rattle.m11_base.specs.Devices.{Bytes}
use Rattle.m11_base.specs.Rad50.{Name}
use Rattle.m11_scan.specs.Line.{SourceLine, line_of}
use Rattle.m11_unfold_rules.specs.Conditions.{condition}
use Rattle.m11_unfold_rules.specs.Directives.{directive}
use Rattle.m11_scan_expressions.specs.Expressions.{KnownSymbols}
use Rattle.m11_unfold_rules.specs.Immediate as immediate
use Rattle.m11_scan_expressions.specs.Remarks.{Remarks, remarks_of}
use Rattle.m11_unfold_rules.specs.declared.directives.Directive.{Directive}
use Rattle.m11_unfold_rules.specs.declared.directives.Directive.TheVariants as word
use Rattle.m11_unfold_rules.specs.declared.macros.MacroFormal.{MacroFormal}
use Rattle.m11_unfold_bodies.specs.Conditions.{is_live_in, past}
use Rattle.m11_unfold_bodies.specs.Left.{has_mark}
use Rattle.m11_unfold_bodies.specs.declared.conditions.Part.{Part}
use Rattle.m11_unfold_bodies.specs.declared.conditions.Part.TheVariants as part
use Rattle.m11_unfold_rules.specs.Acting.{Operation, OwnDirective, Foreign, flagged, flag_O, operation}
use Rattle.m11_unfold_rules.specs.Constructs.{condition_remarks}
use Rattle.m11_unfold_rules.specs.Stages.{Purpose, Defines, Drops}
use Rattle.m11_unfold_rules.specs.Unfolding.{UnfoldedLine}
use Rattle.m11_unfold_laws.specs.Levels.{Level, Situation, counting, defining, has_condition_left, only_entered, operation_at, other_line, own_line, within_condition, within_expansion}
use Rattle.m11_unfold_laws.specs.Putting.{HasBody, HasNoClose, Opens, Put, Puts}

-- how lines end
pub data Ending : Type 0 where
  -- all these lines are read, and no body or condition that they open is still open
  GoesOn : Ending
  -- the expansion or the source ends with them: at a `.MEXIT`, or with a body or a condition open
  Stops : Ending
  -- `.END` became live
  Ends : Ending

-- the lines after an expansion are read unless `.END` became live in it
abbrev pub Returns : Ending → Type 0
Returns GoesOn = ⊤
Returns Stops = ⊤
Returns Ends = ⊥

-- how lines with an unclosed condition end: the expansion or the source ends with them, unless `.END` became live
abbrev pub unclosed : Ending → Ending
unclosed GoesOn = Stops
unclosed Stops = Stops
unclosed Ends = Ends

-- ---- directives

-- the operator doesn't belong to unfolding; `.NARG` and `.NCHR` are such operators here
pub data IsOther : Operation → Type 0 where
  Other : IsOther Foreign
  ArgumentCount : (column : ℕ) → IsOther (OwnDirective word.Narg column)
  CharacterCount : (column : ℕ) → IsOther (OwnDirective word.Nchr column)

-- a directive whose name ends at this column begins this part of a condition
pub data Begins : Operation → Part → ℕ → Type 0 where
  IfFalse : (column : ℕ) → Begins (OwnDirective word.Iff column) part.False column
  IfTrue : (column : ℕ) → Begins (OwnDirective word.Ift column) part.True column
  IfTrueFalse : (column : ℕ) → Begins (OwnDirective word.Iftf column) part.Both column

-- a directive is out of place: `.ENDM` or `.ENDR` with no open body, a switch or `.ENDC` with no open condition in the expansion, or
-- `.MEXIT` outside all expansions; its line is flagged O
pub data IsAstray (level : Level) (text : Bytes) : Operation → Remarks → Type 0 where
  EndMacro : (at : ℕ) → IsAstray level text (OwnDirective word.Endm at) (remarks_of flag_O [])
  EndRepeat : (at : ℕ) → IsAstray level text (OwnDirective word.Endr at) (remarks_of flag_O [])
  MacroExit : (at : ℕ) → level.around ≡ [] → IsAstray level text (OwnDirective word.Mexit at) (flagged flag_O text at)
  Begin : (operator : Operation) (part : Part) (at : ℕ) → Begins operator part at → level.entered ≡ []
      → IsAstray level text operator (flagged flag_O text at)
  EndCondition : (at : ℕ) → level.entered ≡ [] → IsAstray level text (OwnDirective word.Endc at) (flagged flag_O text at)

-- ---- skipped text

-- whether a skipped line changes nothing: it has no directive, or any directive but `.IF`, `.ENDC` and the switches of the skipped
-- condition; in a condition beyond the limit no switch changes anything
abbrev pub is_plain : Bool → ℕ → Option Directive → Bool
is_plain is_past inner (Some word.If) = false
is_plain is_past inner (Some word.Endc) = false
is_plain is_past inner (Some word.Iff) = is_past || not (inner == 0)
is_plain is_past inner (Some word.Ift) = is_past || not (inner == 0)
is_plain is_past inner (Some word.Iftf) = is_past || not (inner == 0)
is_plain is_past inner (Some other) = true
is_plain is_past inner None = true

-- these lines are skipped as text, in which only `.IF` and `.ENDC` matter; the numbers say how many inner conditions are open before and
-- after them
pub data IsText (is_past : Bool) : ℕ → List SourceLine → ℕ → Type 0 where
  Nothing : (inner : ℕ) → IsText is_past inner [] inner
  Plain : (inner last : ℕ) (line : SourceLine) (lines : List SourceLine) → is_plain is_past inner (directive line.text) ≡ true
      → IsText is_past inner lines last → IsText is_past inner (line ∷ lines) last
  If : (inner last : ℕ) (line : SourceLine) (lines : List SourceLine) → directive line.text ≡ Some word.If
      → IsText is_past (suc inner) lines last → IsText is_past inner (line ∷ lines) last
  EndCondition : (inner last : ℕ) (line : SourceLine) (lines : List SourceLine) → directive line.text ≡ Some word.Endc
      → IsText is_past inner lines last → IsText is_past (suc inner) (line ∷ lines) last

-- ---- `.IIF`

-- the statement of an `.IIF`, as the next line, if the condition is true and the `.IIF` has a statement; otherwise nothing
abbrev pub statement_of : Bytes → Bool → Option ℕ → List SourceLine
statement_of text true (Some column) = line_of (drop column text) ∷ []
statement_of text true None = []
statement_of text false column = []

abbrev pub statement : KnownSymbols → Bytes → ℕ → List SourceLine
statement known text column =
    statement_of text (immediate.immediate known text column).holds (immediate.immediate known text column).statement

-- ---- shapes

-- lines at a level and in a situation, their live lines, the situation after them, and how they end; lines that end an expansion or the
-- source include all that is left of it
mutual
  pub data Shape : Level → Situation → List SourceLine → List UnfoldedLine → Situation → Ending → Type 0 where
    -- no lines
    Nothing : (level : Level) (before : Situation) → Shape level before [] [] before GoesOn
    -- a line whose operator doesn't belong to unfolding becomes live unchanged
    Other : (level : Level) (before after : Situation) (ending : Ending) (known : KnownSymbols) (line : SourceLine)
        (lines : List SourceLine) (gives : List UnfoldedLine) → IsOther (operation_at level before line)
        → Shape level (counting 1 before) lines gives after ending
        → Shape level before (line ∷ lines) (other_line level known line ∷ gives) after ending
    -- a directive out of place becomes live, flagged O, and changes nothing
    Astray : (level : Level) (before after : Situation) (ending : Ending) (known : KnownSymbols) (line : SourceLine)
        (lines : List SourceLine) (gives : List UnfoldedLine) (remarks : Remarks)
        → IsAstray level line.text (operation_at level before line) remarks
        → Shape level (counting 1 before) lines gives after ending
        → Shape level before (line ∷ lines) (own_line level known line remarks ∷ gives) after ending
    -- a call or a repeat yields its own line, and after it the live lines of its expansion
    Expansion : (level : Level) (before middle after : Situation) (inner ending : Ending) (known : KnownSymbols) (line : SourceLine)
        (lines : List SourceLine) (gives later : List UnfoldedLine) (put : Put)
        → Puts known before line.text lines (operation_at level before line) put
        → Shape (within_expansion put.arguments put.bytes level) put.situation put.lines gives middle inner → Returns inner
        → Shape level middle put.others later after ending
        → Shape level before (line ∷ lines) (own_line level known line put.remarks ∷ gives ++ later) after ending
    -- an `.END` becomes live in the expansion, and no later line of the source does
    LastExpansion : (level : Level) (before after : Situation) (known : KnownSymbols) (line : SourceLine) (lines : List SourceLine)
        (gives : List UnfoldedLine) (put : Put) → Puts known before line.text lines (operation_at level before line) put
        → Shape (within_expansion put.arguments put.bytes level) put.situation put.lines gives after Ends
        → Shape level before (line ∷ lines) (own_line level known line put.remarks ∷ gives) after Ends
    -- `.MACRO` yields its own line; the lines of the body belong to the macro
    Definition : (level : Level) (before after : Situation) (ending : Ending) (known : KnownSymbols) (line : SourceLine)
        (lines others : List SourceLine) (gives : List UnfoldedLine) (remarks : Remarks) (name : Name) (formals : List MacroFormal)
        (body : List Bytes) → Opens known line.text (operation_at level before line) remarks (Defines name formals)
        → HasBody lines body others
        → Shape level (defining name formals body (counting (length body + 2) before)) others gives after ending
        → Shape level before (line ∷ lines) (own_line level known line remarks ∷ gives) after ending
    -- `.MACRO` without a valid name yields its own line; the lines of the body are discarded
    Dropped : (level : Level) (before after : Situation) (ending : Ending) (known : KnownSymbols) (line : SourceLine)
        (lines others : List SourceLine) (gives : List UnfoldedLine) (remarks : Remarks) (body : List Bytes)
        → Opens known line.text (operation_at level before line) remarks Drops → HasBody lines body others
        → Shape level (counting (length body + 2) before) others gives after ending
        → Shape level before (line ∷ lines) (own_line level known line remarks ∷ gives) after ending
    -- a line opens a body that isn't closed: all remaining lines belong to the body, which is never used
    OpenBody : (level : Level) (before : Situation) (known : KnownSymbols) (line : SourceLine) (lines : List SourceLine) (remarks : Remarks)
        (purpose : Purpose) → Opens known line.text (operation_at level before line) remarks purpose → HasNoClose lines
        → Shape level before (line ∷ lines) (own_line level known line remarks ∷ []) (counting (length lines + 1) before) Stops
    -- `.IF` yields its own line, followed by its parts; the first part is live if the condition is true
    Condition : (level : Level) (before after : Situation) (ending : Ending) (known : KnownSymbols) (line : SourceLine)
        (lines : List SourceLine) (gives : List UnfoldedLine) (at : ℕ) → operation_at level before line ≡ OwnDirective word.If at
        → has_condition_left level ≡ true
        → Parts level (condition known line.text at).holds (condition known line.text at).holds (counting 1 before) lines gives
        after ending
        → Shape level before (line ∷ lines) (own_line level known line (condition_remarks known line.text at) ∷ gives) after ending
    -- a 33rd condition is flagged O, and everything up to its `.ENDC` is text
    Refused : (level : Level) (before after : Situation) (ending : Ending) (known last : KnownSymbols) (line close : SourceLine)
        (text lines : List SourceLine) (gives : List UnfoldedLine) (at end : ℕ) → operation_at level before line ≡ OwnDirective word.If at
        → has_condition_left level ≡ false → IsText true 0 text 0
        → operation (past (only_entered level.entered)) before.macros close.text ≡ OwnDirective word.Endc end
        → Shape level (counting (length text + 2) before) lines gives after ending
        → Shape level before (line ∷ text ++ close ∷ lines)
        (own_line level known line (remarks_of flag_O []) ∷ own_line level last close (flagged 0 close.text end) ∷ gives) after
        ending
    -- all lines after a 33rd condition are text if it has no `.ENDC`
    OpenRefused : (level : Level) (before : Situation) (known : KnownSymbols) (line : SourceLine) (lines : List SourceLine)
        (at inner : ℕ)
        → operation_at level before line ≡ OwnDirective word.If at → has_condition_left level ≡ false → IsText true 0 lines inner
        → Shape level before (line ∷ lines) (own_line level known line (remarks_of flag_O []) ∷ [])
        (counting (length lines + 1) before) Stops
    -- `.IIF` yields its own line and, if the condition is true, its statement as the next line
    Immediate : (level : Level) (before after : Situation) (ending : Ending) (known : KnownSymbols) (line : SourceLine)
        (lines : List SourceLine) (gives : List UnfoldedLine) (at : ℕ) → operation_at level before line ≡ OwnDirective word.Iif at
        → Shape level (counting 1 before) (statement known line.text at ++ lines) gives after ending
        → Shape level before (line ∷ lines) (own_line level known line (immediate.remarks known line.text at) ∷ gives) after ending
    -- `.MEXIT`: no later line of the expansion is read, in any round
    Exit : (level : Level) (before : Situation) (known : KnownSymbols) (line : SourceLine) (lines : List SourceLine) (at : ℕ)
        → operation_at level before line ≡ OwnDirective word.Mexit at → has_mark level.around ≡ true
        → Shape level before (line ∷ lines) (own_line level known line (flagged 0 line.text at) ∷ []) (counting 1 before) Stops
    -- `.END`: no later line is read at all
    End : (level : Level) (before : Situation) (known : KnownSymbols) (line : SourceLine) (lines : List SourceLine) (at : ℕ)
        → operation_at level before line ≡ OwnDirective word.End at
        → Shape level before (line ∷ lines) (other_line level known line ∷ []) (counting 1 before) Ends

  -- the rest of a condition, beginning with one of its parts, and the lines after the condition; the first Boolean says whether the
  -- condition is true, and the second whether that part is live
  pub data Parts : Level → Bool → Bool → Situation → List SourceLine → List UnfoldedLine → Situation → Ending → Type 0 where
    -- the part, then a switch (`.IFF`, `.IFT` or `.IFTF`), then what follows, beginning with the next part
    Next : (level : Level) (holds is_live : Bool) (before middle after : Situation) (ending : Ending) (known : KnownSymbols)
        (line : SourceLine) (lines others : List SourceLine) (gives later : List UnfoldedLine) (part : Part) (at : ℕ)
        → OnePart level holds is_live before lines gives middle GoesOn
        → Begins (operation_at (within_condition holds is_live level) middle line) part at
        → Parts level holds (is_live_in part holds) (counting 1 middle) others later after ending
        → Parts level holds is_live before (lines ++ line ∷ others)
        (gives ++ own_line level known line (flagged 0 line.text at) ∷ later) after ending
    -- the part, then the `.ENDC`, then the lines after it
    Close : (level : Level) (holds is_live : Bool) (before middle after : Situation) (ending : Ending) (known : KnownSymbols)
        (line : SourceLine) (lines others : List SourceLine) (gives later : List UnfoldedLine) (at : ℕ)
        → OnePart level holds is_live before lines gives middle GoesOn
        → operation_at (within_condition holds is_live level) middle line ≡ OwnDirective word.Endc at
        → Shape level (counting 1 middle) others later after ending
        → Parts level holds is_live before (lines ++ line ∷ others)
        (gives ++ own_line level known line (flagged 0 line.text at) ∷ later) after ending
    -- a live part, an `.IIF`, and what follows: the statement of the `.IIF`, if any, becomes the next line, and then the other lines; the
    -- statement may be a directive of the condition
    ImmediateInPart : (level : Level) (holds : Bool) (before middle after : Situation) (ending : Ending) (known : KnownSymbols)
        (line : SourceLine) (lines others : List SourceLine) (gives later : List UnfoldedLine) (at : ℕ)
        → OnePart level holds true before lines gives middle GoesOn
        → operation_at (within_condition holds true level) middle line ≡ OwnDirective word.Iif at
        → Parts level holds true (counting 1 middle) (statement known line.text at ++ others) later after ending
        → Parts level holds true before (lines ++ line ∷ others)
        (gives ++ own_line level known line (immediate.remarks known line.text at) ∷ later) after ending
    -- the last part of a condition without an `.ENDC`: the expansion or the source ends with it, or `.END` becomes live in it
    Last : (level : Level) (holds is_live : Bool) (before after : Situation) (ending : Ending) (lines : List SourceLine)
        (gives : List UnfoldedLine) → OnePart level holds is_live before lines gives after ending
        → Parts level holds is_live before lines gives after (unclosed ending)

  -- one part: if it is live, its lines have a shape; otherwise they are text, in which a condition may stay open
  pub data OnePart : Level → Bool → Bool → Situation → List SourceLine → List UnfoldedLine → Situation → Ending → Type 0 where
    Live : (level : Level) (holds : Bool) (before after : Situation) (ending : Ending) (lines : List SourceLine)
        (gives : List UnfoldedLine)
        → Shape (within_condition holds true level) before lines gives after ending
        → OnePart level holds true before lines gives after ending
    Text : (level : Level) (holds : Bool) (before : Situation) (lines : List SourceLine) → IsText false 0 lines 0
        → OnePart level holds false before lines [] (counting (length lines) before) GoesOn
    OpenText : (level : Level) (holds : Bool) (before : Situation) (lines : List SourceLine) (inner : ℕ)
        → IsText false 0 lines inner
        → OnePart level holds false before lines [] (counting (length lines) before) Stops
