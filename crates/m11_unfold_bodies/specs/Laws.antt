-- Words in a text with the quotes beside them, and lines inside a condition.
use Rattle.std.specs.Prelude.{◌≡◌, ◌==◌, Bool, true, false, if◌then◌else◌, List, [], ◌∷◌, Some}
use Rattle.m11_base.specs.Devices.{Bytes}
use Rattle.m11_base.specs.NameCharacters.{is_name_character}
use Rattle.m11_base.specs.Rad50.{Name}
use Rattle.m11_scan.specs.Names.{has_name_characters_alone}
use Rattle.m11_unfold_bodies.specs.Conditions.{OpenConditions, closed, entering, nested, past, switched, unnested}
use Rattle.m11_unfold_bodies.specs.Substitution.{Run, actual_for}
use Rattle.m11_unfold_bodies.specs.declared.conditions.Part.{Part}

-- a text is a word: one or more name characters, and nothing else
abbrev pub IsWord : Bytes → Type 0
IsWord [] = ⊥
IsWord (byte ∷ text) = has_name_characters_alone (byte ∷ text) ≡ true

-- a text is a word, and this actual replaces it
abbrev pub IsReplacedBy : List Name → List Bytes → Bytes → Bytes → Type 0
IsReplacedBy formals actuals word actual = IsWord word × (actual_for formals actuals (Run word) ≡ Some actual)

-- whether a text begins with a name character
abbrev pub begins_in_word : Bytes → Bool
begins_in_word [] = false
begins_in_word (byte ∷ text) = is_name_character byte

-- whether a text ends with a name character
abbrev pub ends_in_word : Bytes → Bool
ends_in_word [] = false
ends_in_word (byte ∷ []) = is_name_character byte
ends_in_word (byte ∷ next ∷ text) = ends_in_word (next ∷ text)

-- a text without its first character, if that is a `'`
abbrev pub without_first_quote : Bytes → Bytes
without_first_quote [] = []
without_first_quote (byte ∷ text) = if byte == 0o47 then text else byte ∷ text

-- a text without its last character, if that is a `'`
abbrev pub without_last_quote : Bytes → Bytes
without_last_quote [] = []
without_last_quote (byte ∷ []) = if byte == 0o47 then [] else byte ∷ []
without_last_quote (byte ∷ next ∷ text) = byte ∷ without_last_quote (next ∷ text)

-- skipped lines lead from the first state of the conditions to the second: only the whole conditions among them matter, one after another,
-- each with such lines inside
pub data SkippedInside : OpenConditions → OpenConditions → Type 0 where
  NoneSkipped : (conditions : OpenConditions) → SkippedInside conditions conditions
  OneSkipped : (first inner last : OpenConditions) → SkippedInside (nested first) inner → SkippedInside (unnested inner) last
      → SkippedInside first last

-- lines inside a condition lead from the first state of the conditions to the second: switches and whole conditions, one after another; a
-- whole condition was opened, was among skipped lines, or was beyond the limit
pub data Inside : OpenConditions → OpenConditions → Type 0 where
  Nothing : (conditions : OpenConditions) → Inside conditions conditions
  Switch : (part : Part) (first last : OpenConditions) → Inside (switched part first) last → Inside first last
  Entered : (holds : Bool) (first inner last : OpenConditions) → Inside (entering holds first) inner
      → Inside (closed inner) last → Inside first last
  Skipped : (first inner last : OpenConditions) → SkippedInside (nested first) inner → Inside (unnested inner) last
      → Inside first last
  Past : (first inner last : OpenConditions) → SkippedInside (past first) inner → Inside (closed inner) last → Inside first last
