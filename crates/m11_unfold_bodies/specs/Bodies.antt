-- Bodies of macros and repeats. (MACRO-11 Language Reference Manual, ".MACRO directive", ".ENDM directive", ".REPT directive".
-- This project's own: `.ENDM` and `.ENDR` each close any body, and the end of an expansion discards an open body.)
use Rattle.std.specs.Prelude.{◌≡◌, ℕ, zero, suc, ◌+◌, ◌-◌, Bool, true, false, List, [], ◌∷◌, ◌++◌, length, map, sum_by, Option, Some, None, Result, Ok, Err}
use Rattle.m11_base.specs.Devices.{Bytes}
use Rattle.m11_base.specs.Rad50.{Name}
use Rattle.m11_scan.specs.Line.{SourceLine}
use Rattle.m11_unfold_bodies.specs.Left.{RemainingItem, Line, End}
use Rattle.m11_unfold_bodies.specs.declared.open_body.Nesting.{Nesting}
use Rattle.m11_unfold_bodies.specs.declared.open_body.Nesting.TheVariants.{Opens, Closes, Neither}

-- the number of bytes in a body's lines; the end of each line counts as one
abbrev pub size_of : List Bytes → ℕ
size_of texts = sum_by (λ text. length text + 1) texts

-- a body with its formals
pub record Template : Type 0 where
  pub formals : List Name
  pub body : List Bytes

-- a body cut off the front of what is left: the texts of its lines, whether it was closed, and what is left after it
pub record Cut : Type 0 where
  pub body : List Bytes
  pub is_closed : Bool
  pub after : List RemainingItem

abbrev pub unclosed : List RemainingItem → Cut
unclosed left = record { body = []; is_closed = false; after = left }

abbrev pub closed : List RemainingItem → Cut
closed left = record { body = []; is_closed = true; after = left }

-- a cut with one more line, or with more lines, at the front of its body
abbrev pub with_line : Bytes → Cut → Cut
with_line text cut = record { body = text ∷ cut.body; is_closed = cut.is_closed; after = cut.after }

abbrev pub with_lines : List Bytes → Cut → Cut
with_lines texts cut = record { body = texts ++ cut.body; is_closed = cut.is_closed; after = cut.after }

-- the number of bodies open inside a body after a line; None if the line closes the body itself
abbrev pub depth_after : Nesting → ℕ → Option ℕ
depth_after Opens depth = Some (depth + 1)
depth_after Neither depth = Some depth
depth_after Closes zero = None
depth_after Closes (suc depth) = Some depth

-- the number of bodies open inside a body after a line that doesn't close the body itself
abbrev pub depth_inside : Nesting → ℕ → ℕ
depth_inside Opens depth = depth + 1
depth_inside Neither depth = depth
depth_inside Closes depth = depth - 1

-- a line of the body, followed by the rest of the cut; or the end of the cut, if the line closes the body
abbrev pub cut_after : Bytes → List RemainingItem → (ℕ → Cut) → Option ℕ → Cut
cut_after text left rest None = closed left
cut_after text left rest (Some depth) = with_line text (rest depth)

-- the cut of a body with this many bodies open inside it: up to the line that closes it, the end of an expansion, or the end of what is
-- left
abbrev pub cut_at : (Bytes → Nesting) → ℕ → List RemainingItem → Cut
cut_at nesting depth [] = unclosed []
cut_at nesting depth (End mark ∷ left) = unclosed (End mark ∷ left)
cut_at nesting depth (Line line ∷ left) =
    cut_after line.text left (λ inside. cut_at nesting inside left) (depth_after (nesting line.text) depth)

-- the cut of the body at the front of what is left
abbrev pub body_of : (Bytes → Nesting) → List RemainingItem → Cut
body_of nesting left = cut_at nesting 0 left

-- a body read in part: its lines so far, and the number of bodies open inside it
pub record PartialBody : Type 0 where
  pub body : List Bytes
  pub depth : ℕ

abbrev pub nothing_taken : PartialBody
nothing_taken = record { body = []; depth = 0 }

abbrev pub partial_body_with : PartialBody → Bytes → ℕ → PartialBody
partial_body_with taken text depth = record { body = taken.body ++ text ∷ []; depth = depth }

abbrev pub depth_next : (ℕ → Option ℕ) → Option ℕ → Option ℕ
depth_next rest None = None
depth_next rest (Some depth) = rest depth

-- the number of bodies open inside a body after these lines of it; None if one of them closes the body
abbrev pub depth_past : (Bytes → Nesting) → ℕ → List Bytes → Option ℕ
depth_past nesting depth [] = Some depth
depth_past nesting depth (text ∷ texts) = depth_next (λ inside. depth_past nesting inside texts) (depth_after (nesting text) depth)

abbrev pub IsPartialBody : (Bytes → Nesting) → PartialBody → Type 0
IsPartialBody nesting taken = depth_past nesting 0 taken.body ≡ Some taken.depth

abbrev pub texts_of : List SourceLine → List Bytes
texts_of lines = map (λ line. line.text) lines

-- these lines, followed by what is left
abbrev pub before_left : List SourceLine → List RemainingItem → List RemainingItem
before_left lines left = map (λ line. Line line) lines ++ left

-- a body gets one more line; or the line closes the body, or memory was refused, and the body is as before
abbrev pub AddsLine : {E : Type 0} → PartialBody → PartialBody → Bytes → Nesting → Result Bool E → Type 0
AddsLine old new text nesting (Ok true) = (depth_after nesting old.depth ≡ None) × (new ≡ old)
AddsLine old new text nesting (Ok false) =
    (depth_after nesting old.depth ≡ Some new.depth) × (new.body ≡ old.body ++ text ∷ [])
AddsLine old new text nesting (Err error) = new ≡ old
