-- The formals of a macro. (MACRO-11 Language Reference Manual, "Arguments in macro definitions and macro calls" and "Automatic
-- creation of local symbols". Two things are this project's own: that a `?` has a meaning only directly before a name and is
-- skipped elsewhere, and that anything but a name ends the list.)
use Rattle.std.specs.Prelude.{ℕ, ◌-◌, Bool, if◌then◌else◌, [], ◌∷◌}
use Rattle.std.specs.Str.{bytes_eq}
use Rattle.m11_base.specs.Devices.{Bytes}
use Rattle.m11_scan.specs.Cutting.{text_between, tokens_from}
use Rattle.m11_scan_statements.specs.Listed.{is_name, span_of}
use Rattle.m11_scan_statements.specs.declared.formals.NextFormal.{NextFormal}
use Rattle.m11_scan_statements.specs.declared.formals.NextFormal.TheVariants.{Ends, Bad, Named}

-- whether a `?` directly precedes a column
abbrev pub follows_question : Bytes → ℕ → Bool
follows_question line column = bytes_eq (text_between line (column - 1) column) (0o77 ∷ [])

-- the next item in a list of formals, at or after a column: a name other than `.`, with created symbols if a `?` directly precedes
-- it; or another token, which is bad; or the end of the list if no token is left
abbrev pub next_formal : Bytes → ℕ → NextFormal
next_formal line column = elim (tokens_from line column) [
  | [] ↦ Ends
  | token ∷ tokens ↦
      if is_name token then Named (record { name = span_of token; is_created = follows_question line token.start })
      else Bad
]
