-- The texts that replace a macro's formals. (MACRO-11 Language Reference Manual, "Automatic creation of local symbols" and "Arguments in
-- macro definitions and macro calls". That 30000 follows 65535 in created symbols is this project's own choice.)
use Rattle.std.specs.Prelude.{ℕ, ◌+◌, ◌==◌, ◌&&◌, Bool, if◌then◌else◌, List, [], ◌∷◌, ◌++◌, length, get_or, drop}
use Rattle.m11_base.specs.Devices.{Bytes}
use Rattle.m11_unfold_rules.specs.Digits.{digits_of}
use Rattle.m11_unfold_rules.specs.declared.macros.MacroFormal.{MacroFormal}

-- the number of the first created local symbol
abbrev pub first_created : ℕ
first_created = 30000

-- the number of the created symbol after the one with this number: one more, or 30000 after 65535
abbrev pub created_after : ℕ → ℕ
created_after number = if number == 65535 then first_created else number + 1

-- a created local symbol: decimal digits and a `$`
abbrev pub created_text : ℕ → Bytes
created_text number = digits_of 10 number ++ 0o44 ∷ []

-- the text that replaces each formal, and the number of the next created symbol
pub record FormalTexts : Type 0 where
  pub texts : List Bytes
  pub created : ℕ

abbrev pub text_before : Bytes → FormalTexts → FormalTexts
text_before text more = record { texts = text ∷ more.texts; created = more.created }

-- whether a symbol is created for a formal: the formal asks for one, and its actual is empty
abbrev pub creates : MacroFormal → Bytes → Bool
creates formal text = formal.is_created && length text == 0

abbrev pub fill : MacroFormal → Bytes → ℕ → (ℕ → FormalTexts) → FormalTexts
fill formal text created more =
    if creates formal text then text_before (created_text created) (more (created_after created))
    else text_before text (more created)

-- the text that replaces each formal, and the number of the next created symbol. A formal's text is its actual, which is empty if
-- `texts` has none for it, or a created symbol; the first symbol created here has the number `created`
abbrev pub filled : List MacroFormal → List Bytes → ℕ → FormalTexts
filled [] texts created = record { texts = []; created = created }
filled (formal ∷ formals) texts created =
    fill formal (get_or texts 0 []) created (λ next. filled formals (drop 1 texts) next)
