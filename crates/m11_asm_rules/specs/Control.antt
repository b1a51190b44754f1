-- `.RADIX`, `.LIST`, `.NLIST`, `.ENABL` and `.DSABL`. (MACRO-11 Language Reference Manual, "Radix control", "Listing control directives"
-- and "Function directives". This project's own: `.DSABL` of anything, and `.ENABL` of anything but LC and GBL, is flagged A; and a bad
-- argument of `.RADIX` changes nothing.)
use Rattle.std.specs.Prelude.{ℕ, ◌==◌, not, Bool, if◌then◌else◌, List, [], ◌∷◌, codes, Option, Some, None}
use Rattle.std.specs.List.{list_any}
use Rattle.std.specs.Int.RustNames.{bit_or}
use Rattle.std.specs.Str.{bytes_eq}
use Rattle.m11_scan_expressions.specs.LeftOvers.{has_token, left_over, rest_flags}
use Rattle.m11_base.specs.Devices.{Bytes}
use Rattle.m11_scan.specs.Cutting.{tokens_from}
use Rattle.m11_scan.specs.ErrorFlags.{flag_A, flag_if}
use Rattle.m11_scan.specs.Numbers.{number_of}
use Rattle.m11_scan.specs.declared.radix.Radix.{Radix}
use Rattle.m11_scan.specs.declared.radix.Radix.TheVariants.{Binary, Octal, Decimal}
use Rattle.m11_scan.specs.declared.sort.Sort.{Sort}
use Rattle.m11_scan.specs.declared.sort.Sort.TheVariants as sorts
use Rattle.m11_scan_expressions.specs.Terms.{front_of}
use Rattle.m11_asm_rules.specs.Actions.{ListExpansions, NoAction, Operation, MoveLevel, SetRadix, does, refused}
use Rattle.m11_scan_statements.specs.declared.spans.Span.{Span}
use Rattle.m11_asm_rules.specs.Elements.{ListAt, argument_flags, names_at, names_flags, texts_of}

-- ---- .RADIX n: n is 2, 8 or 10, in decimal, with or without a period; without n, the radix becomes 8

abbrev pub radix_of : ℕ → Option Radix
radix_of number =
    if number == 2 then Some Binary else (if number == 8 then Some Octal else (if number == 10 then Some Decimal else None))

abbrev pub radix_in : Sort → Bytes → Option Radix
radix_in sorts.Number text = radix_of (number_of Decimal text)
radix_in sorts.DecimalNumber text = radix_of (number_of Decimal (front_of text))
radix_in sort text = None

abbrev pub radix : Bytes → ℕ → Operation
radix line start = elim (tokens_from line start) [
  | [] ↦ does (SetRadix Octal) (left_over line start)
  | token ∷ tokens ↦ elim (radix_in token.sort token.text) [
    | Some found ↦ does (SetRadix found) (argument_flags line start token.end)
    | None ↦ refused line start
  ]
]

-- ---- lists of words

abbrev pub is_among : List Bytes → Bytes → Bool
is_among words word = list_any (λ other. bytes_eq other word) words

-- A if any of the words isn't a known one
abbrev pub unknown_flags : List Bytes → List Bytes → ℕ
unknown_flags known words = flag_if (list_any (λ word. not (is_among known word)) words) flag_A

abbrev pub words_flags : List Bytes → Bytes → ℕ → ListAt (Option Span) → ℕ
words_flags known line start names =
    bit_or (unknown_flags known (texts_of line names.list)) (names_flags line start names)

-- ---- .LIST (true) and .NLIST (false): without arguments they raise or lower the listing level; ME among the arguments turns the listing
-- of expansions on or off

-- the valid arguments of `.LIST` and `.NLIST`; only ME has an effect
abbrev pub listing_words : List Bytes
listing_words =
    codes "SEQ   " ∷ codes "LOC   " ∷ codes "BIN   " ∷ codes "SRC   " ∷ codes "COM   " ∷ codes "BEX   " ∷ codes "MD    "
    ∷ codes "MC    " ∷ codes "ME    " ∷ codes "MEB   " ∷ codes "CND   " ∷ codes "LD    " ∷ codes "TOC   " ∷ codes "SYM   "
    ∷ codes "TTM   " ∷ []

abbrev pub listing : Bool → Bytes → ℕ → Operation
listing is_list line start =
    if has_token (tokens_from line start)
    then does (if is_among (texts_of line (names_at line start).list) (codes "ME    ") then ListExpansions is_list else NoAction)
    (words_flags listing_words line start (names_at line start))
    else does (MoveLevel is_list) (rest_flags line start)

-- ---- .ENABL and .DSABL: LC and GBL are always in force

abbrev pub enabl : Bytes → ℕ → Operation
enabl line start = does NoAction (words_flags (codes "LC    " ∷ codes "GBL   " ∷ []) line start (names_at line start))

abbrev pub dsabl : Bytes → ℕ → Operation
dsabl line start = does NoAction (words_flags [] line start (names_at line start))
