-- Lines read up to their end, or up to a directive of the condition around them.
use Rattle.std.proofs.Common.{◌≡◌, ◌∙◌, ℕ, suc, Bool, true, List, [], ◌∷◌, ◌++◌, append_assoc, append-nil, refl, sym, ap, subst}
use Rattle.m11_scan.specs.Line.{SourceLine}
use Rattle.m11_scan_expressions.specs.Expressions.{KnownSymbols}
use Rattle.m11_unfold_rules.specs.Immediate as immediate
use Rattle.m11_unfold_rules.specs.declared.directives.Directive.TheVariants as word
use Rattle.m11_unfold_bodies.specs.Conditions.{is_live_inside}
use Rattle.m11_unfold_bodies.specs.Left.{RemainingItem, after_mark, marks}
use Rattle.m11_unfold_bodies.specs.declared.conditions.Part.{Part}
use Rattle.m11_unfold_rules.specs.Acting.{OwnDirective, Operation}
use Rattle.m11_unfold_rules.specs.Stages.{Stage}
use Rattle.m11_unfold_rules.specs.Unfolding.{UnfoldedLine}
use Rattle.m11_unfold_laws.specs.Laws.{Arrived, before_lines}
use Rattle.m11_unfold_laws.specs.Levels.{Level, Situation, counting, operation_at, own_line, within_condition}
use Rattle.m11_unfold_laws.specs.Shapes.{Begins, Ending, GoesOn, Parts, Shape, statement}
use Rattle.m11_unfold_laws.specs.Shapes as shapes
use Rattle.m11_unfold_laws.proofs.Resting.{Rested, lifted}

-- a directive of the condition around the lines: `.IFF`, `.IFT`, `.IFTF` or `.ENDC`
pub data IsOwn : Operation → Type 0 where
  Begin : (operator : Operation) (part : Part) (at : ℕ) → Begins operator part at → IsOwn operator
  Close : (at : ℕ) → IsOwn (OwnDirective word.Endc at)

-- the remaining lines begin with such a directive, or with an `.IIF` whose statement is one
pub data Breaks (level : Level) : ℕ → Situation → SourceLine → List SourceLine → List RemainingItem → List UnfoldedLine → Type 0 where
  ByWord : (n : ℕ) (situation : Situation) (line : SourceLine) (others : List SourceLine) (left : List RemainingItem) (later : List UnfoldedLine)
      → IsOwn (operation_at level situation line) → Rested n (before_lines level situation (line ∷ others) left) later
      → Breaks level n situation line others left later
  ByStatement : (n : ℕ) (situation : Situation) (line : SourceLine) (others : List SourceLine) (left : List RemainingItem)
      (later : List UnfoldedLine)
      (known : KnownSymbols) (at : ℕ) (next : SourceLine) → operation_at level situation line ≡ OwnDirective word.Iif at
      → statement known line.text at ≡ next ∷ [] → Breaks level n (counting 1 situation) next others left later
      → Breaks level n situation line others left (own_line level known line (immediate.remarks known line.text at) ∷ later)

pub data Stop (level : Level) : ℕ → Situation → Ending → List SourceLine → List RemainingItem → List UnfoldedLine → Type 0 where
  Whole : (n : ℕ) (situation : Situation) (ending : Ending) (left : List RemainingItem) (later : List UnfoldedLine) (stage : Stage)
      → Arrived ending level situation left stage → Rested n stage later → Stop level n situation ending [] left later
  Broken : (n : ℕ) (situation : Situation) (line : SourceLine) (others : List SourceLine) (left : List RemainingItem) (later : List UnfoldedLine)
      → (level.entered ≡ [] → ⊥) → Breaks level n situation line others left later
      → Stop level n situation GoesOn (line ∷ others) left later

pub lifted_breaks : (level : Level) (n : ℕ) (situation : Situation) (line : SourceLine) (others : List SourceLine)
    (left : List RemainingItem)
    (later : List UnfoldedLine) → Breaks level n situation line others left later → Breaks level (suc n) situation line others left later
lifted_breaks level _ _ _ _ _ _ (Breaks.ByWord n situation line others left later is rested) =
    Breaks.ByWord (suc n) situation line others left later is
    (lifted n (before_lines level situation (line ∷ others) left) later rested)
lifted_breaks level _ _ _ _ _ _ (Breaks.ByStatement n situation line others left later known at next is says breaks) =
    Breaks.ByStatement (suc n) situation line others left later known at next is says
    (lifted_breaks level n (counting 1 situation) next others left later breaks)

pub lifted_stop : (level : Level) (n : ℕ) (situation : Situation) (ending : Ending) (others : List SourceLine) (left : List RemainingItem)
    (later : List UnfoldedLine) → Stop level n situation ending others left later → Stop level (suc n) situation ending others left later
lifted_stop level _ _ _ _ _ _ (Stop.Whole n situation ending left later stage there rested) =
    Stop.Whole (suc n) situation ending left later stage there (lifted n stage later rested)
lifted_stop level _ _ _ _ _ _ (Stop.Broken n situation line others left later open' breaks) =
    Stop.Broken (suc n) situation line others left later open' (lifted_breaks level n situation line others left later breaks)

-- the first lines have a shape with the first live lines, and reading stops before the other lines
pub record Parsed (n : ℕ) (level : Level) (before : Situation) (lines : List SourceLine) (left : List RemainingItem)
    (gives : List UnfoldedLine) : Type 0 where
  pub taken : List SourceLine
  pub others : List SourceLine
  pub lines_are : lines ≡ taken ++ others
  pub first : List UnfoldedLine
  pub later : List UnfoldedLine
  pub gives_are : gives ≡ first ++ later
  pub after : Situation
  pub ending : Ending
  pub shape : Shape level before taken first after ending
  pub stop : Stop level n after ending others left later

-- the first lines are the rest of a condition, with the first live lines, and reading stops before the other lines
pub record PartsParsed (n : ℕ) (level : Level) (holds is_live : Bool) (before : Situation) (lines : List SourceLine)
    (left : List RemainingItem)
    (gives : List UnfoldedLine) : Type 0 where
  pub taken : List SourceLine
  pub others : List SourceLine
  pub lines_are : lines ≡ taken ++ others
  pub first : List UnfoldedLine
  pub later : List UnfoldedLine
  pub gives_are : gives ≡ first ++ later
  pub after : Situation
  pub ending : Ending
  pub parts : Parts level holds is_live before taken first after ending
  pub stop : Stop level n after ending others left later

-- any lines that unfold to the end in at most this many moves can be read in this way
abbrev pub Reads : ℕ → Type 0
Reads n = (level : Level) (before : Situation) (lines : List SourceLine) (left : List RemainingItem) (gives : List UnfoldedLine)
    → marks left ≡ level.around → is_live_inside level.entered ≡ true → after_mark left ≡ left
    → Rested n (before_lines level before lines left) gives → Parsed n level before lines left gives

abbrev pub ReadsParts : ℕ → Type 0
ReadsParts n = (level : Level) (holds is_live : Bool) (before : Situation) (lines : List SourceLine) (left : List RemainingItem)
    (gives : List UnfoldedLine)
    → marks left ≡ level.around → is_live_inside level.entered ≡ true → after_mark left ≡ left
    → Rested n (before_lines (within_condition holds is_live level) before lines left) gives
    → PartsParsed n level holds is_live before lines left gives

-- ---- one more construct at the front

module _ (n : ℕ) (level : Level) (start before : Situation) (front lines : List SourceLine) (ones more : List UnfoldedLine)
    (left : List RemainingItem) where
  pub grown : Parsed n level before lines left more
      → ((taken : List SourceLine) (first : List UnfoldedLine) (after : Situation) (ending : Ending)
      → Shape level before taken first after ending
      → Shape level start (front ++ taken) (ones ++ first) after ending)
      → Parsed (suc n) level start (front ++ lines) left (ones ++ more)
  grown p make = record {
    taken = front ++ p.taken;
    others = p.others;
    lines_are = ap (λ (l : List SourceLine). front ++ l) p.lines_are ∙ sym (append_assoc front p.taken p.others);
    first = ones ++ p.first;
    later = p.later;
    gives_are = ap (λ (g : List UnfoldedLine). ones ++ g) p.gives_are ∙ sym (append_assoc ones p.first p.later);
    after = p.after;
    ending = p.ending;
    shape = make p.taken p.first p.after p.ending p.shape;
    stop = lifted_stop level n p.after p.ending p.others left p.later p.stop;
  }

-- lines that have a shape, and lead to the stage after it, are read to their end
pub all_taken : (n : ℕ) (level : Level) (before : Situation) (lines : List SourceLine) (left : List RemainingItem)
    (first later : List UnfoldedLine)
    (after : Situation) (ending : Ending) (stage : Stage) → Shape level before lines first after ending
    → Arrived ending level after left stage → Rested n stage later → Parsed n level before lines left (first ++ later)
all_taken n level before lines left first later after ending stage shaped there rested = record {
  taken = lines;
  others = [];
  lines_are = sym (append-nil lines);
  first = first;
  later = later;
  gives_are = refl;
  after = after;
  ending = ending;
  shape = shaped;
  stop = Stop.Whole n after ending left later stage there rested;
}

-- lines that are read with some live lines are read with equal live lines, and so are equal lines
pub of_gives : (n : ℕ) (level : Level) (before : Situation) (lines : List SourceLine) (left : List RemainingItem)
    (gives others : List UnfoldedLine)
    → gives ≡ others → Parsed n level before lines left others → Parsed n level before lines left gives
of_gives n level before lines left gives others same p
    = subst (λ (g : List UnfoldedLine). Parsed n level before lines left g) (sym same) p

pub of_lines : (n : ℕ) (level : Level) (before : Situation) (lines others : List SourceLine) (left : List RemainingItem)
    (gives : List UnfoldedLine)
    → lines ≡ others → Parsed n level before others left gives → Parsed n level before lines left gives
of_lines n level before lines others left gives same p
    = subst (λ (l : List SourceLine). Parsed n level before l left gives) (sym same) p

-- if lines begin with a directive of the condition around them, none of them is read
pub broken : (n : ℕ) (level : Level) (before : Situation) (line : SourceLine) (lines : List SourceLine) (left : List RemainingItem)
    (gives : List UnfoldedLine)
    → (level.entered ≡ [] → ⊥) → Breaks level n before line lines left gives → Parsed n level before (line ∷ lines) left gives
broken n level before line lines left gives inside breaks = record {
  taken = [];
  others = line ∷ lines;
  lines_are = refl;
  first = [];
  later = gives;
  gives_are = refl;
  after = before;
  ending = GoesOn;
  shape = shapes.Shape.Nothing level before;
  stop = Stop.Broken n before line lines left gives inside breaks;
}
