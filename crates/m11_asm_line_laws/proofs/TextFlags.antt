-- N, Q and T of an expression depend on its text and the radix alone.
use Rattle.std.proofs.Common.{◌≡◌, ◌∙◌, ℕ, zero, suc, Bool, true, false, List, [], ◌∷◌, length, map, take, drop, min, max, Option, Some, None, nat_lt, refl, sym, ap, arith, if◌then◌else◌, ◌||◌, ◌&&◌, ◌==◌}
use Rattle.std.proofs.lemmas.Nat.{and_or_apart}
use Rattle.std.proofs.lemmas.Nat.Bits.{bit_at_and, bit_at_or, same_from_bits}
use Rattle.std.specs.Int.{bit_at}
use Rattle.std.specs.Int.RustNames.{bit_and, bit_or}
use Rattle.std.specs.Prelude.{⊤, option_map, unwrap_or}
use Rattle.m11_scan.specs.ErrorFlags.{flag_A, flag_Q, flag_if}
use Rattle.m11_scan.specs.Expressions.{begin}
use Rattle.m11_scan.specs.declared.radix.Radix.{Radix}
use Rattle.m11_scan.specs.declared.sort.Sort.{Sort}
use Rattle.m11_scan.specs.declared.sort.Sort.TheVariants as sorts
use Rattle.m11_scan_expressions.specs.Expressions.{known_by, value}
use Rattle.m11_scan_expressions.specs.Kinds.{flag_R, is_absolute, is_register, kind_of, refusal}
use Rattle.m11_scan_expressions.specs.Operations.{absence, as_register, combined, division_flags, limited, number_of, settled}
use Rattle.m11_scan_expressions.specs.Prefixes.{applied, prefix_of, radix_under, reach}
use Rattle.m11_scan_expressions.specs.Quantities.{Quantity, absolute, missing}
use Rattle.m11_scan_expressions.specs.Splits.{Split, last_operator}
use Rattle.m11_scan_expressions.specs.Terms.{Item, atom_of, atom_value, front_of, local_symbol, name_symbol, plain_item}
use Rattle.m11_scan_expressions.specs.Tokens.{Expression, PlainToken, is_empty}
use Rattle.m11_scan_expressions.specs.Values.{by_parts, sorts_of, split_value, term_value, value_of, value_within}
use Rattle.m11_scan_expressions.specs.declared.kinds.Kind.{Kind}
use Rattle.m11_scan_expressions.specs.declared.kinds.Kind.TheVariants as kinds
use Rattle.m11_scan_expressions.specs.declared.names.Symbol.{Symbol}
use Rattle.m11_scan_expressions.specs.declared.names.Symbol.TheVariants.{Ordinary, Local, Counter}
use Rattle.m11_scan_expressions.specs.declared.operators.Operator.{Operator}
use Rattle.m11_scan_expressions.specs.declared.operators.Operator.TheVariants.{Add, Subtract, Multiply, Divide, And, Or}
use Rattle.m11_scan_expressions.specs.declared.prefixes.Prefix.{Prefix}
use Rattle.m11_scan_expressions.specs.declared.prefixes.Prefix.TheVariants.{Plus, Minus, Complement, Register, InRadix, Bracket}
use Rattle.m11_unfold_rules.specs.Definedness.{flag_U}
use Rattle.m11_asm_rules.specs.declared.definitions.Definition.{Definition}
use Rattle.m11_asm_rules.specs.declared.definitions.Key.{Key}
use Rattle.m11_asm_rules.specs.declared.definitions.Key.TheVariants.{Named, Numbered}
use Rattle.m11_asm_rules.specs.declared.definitions.Standing.{Standing}
use Rattle.m11_asm_rules.specs.declared.definitions.Standing.TheVariants.{Known, Unknown}
use Rattle.m11_asm_rules.specs.declared.meanings.Context.TheVariants.{LocalOnly}
use Rattle.m11_asm_rules.specs.Definitions.{Keys, has_key, last_definition}
use Rattle.m11_asm_rules.specs.Exports.{expression_flags, transfer}
use Rattle.m11_asm_rules.specs.Meanings.{Map, defined_or, flag_D, quantity_of, value_of_symbol}
use Rattle.m11_asm_rules.specs.Tables.{Table, location}

-- ---- sets of flags

min_of_max : (a b n : ℕ) → min (max a b) n ≡ max (min a n) (min b n)
min_of_max a b n = omega arith

and_of_or : (a b n : ℕ) → bit_and (bit_or a b) n ≡ bit_or (bit_and a n) (bit_and b n)
and_of_or a b n =
    same_from_bits (bit_and (bit_or a b) n) (bit_or (bit_and a n) (bit_and b n))
    (λ i. bit_at_and (bit_or a b) n i ∙ ap (λ m. min m (bit_at n i)) (bit_at_or a b i)
    ∙ min_of_max (bit_at a i) (bit_at b i) (bit_at n i)
    ∙ sym (bit_at_or (bit_and a n) (bit_and b n) i ∙ ap (λ m. max m (bit_at (bit_and b n) i)) (bit_at_and a n i)
    ∙ ap (λ m. max (min (bit_at a i) (bit_at n i)) m) (bit_at_and b n i)))

-- N, Q and T, where a set of flags has them
abbrev of_text : ℕ → ℕ
of_text flags = bit_and flags 0o12200

-- two values have the same of these flags
abbrev Alike : Quantity → Quantity → Type 0
Alike one other = of_text one.flags ≡ of_text other.flags

-- flags without N, Q and T
abbrev Apart : ℕ → Type 0
Apart flags = of_text flags ≡ 0

with_apart : (flags more : ℕ) → Apart more → of_text (bit_or flags more) ≡ of_text flags
with_apart flags more apart = and_or_apart 0o12200 flags more apart

refusal_apart : (has_register : Bool) → Apart (refusal has_register)
refusal_apart true = refl
refusal_apart false = refl

absent_apart : (absolute has_register : Bool) → Apart (if absolute then 0 else refusal has_register)
absent_apart true has_register = refl
absent_apart false has_register = refusal_apart has_register

zero_apart : (is_zero : Bool) → Apart (if is_zero then flag_A else 0)
zero_apart true = refl
zero_apart false = refl

division_apart : (operator : Operator) (right : ℕ) → Apart (division_flags operator right)
division_apart Add right = refl
division_apart Subtract right = refl
division_apart Multiply right = refl
division_apart Divide right = zero_apart (right == 0)
division_apart And right = refl
division_apart Or right = refl

-- ---- operations

limited_by : (is_over : Bool) (value : Quantity)
    → of_text (if is_over then absolute value.number (bit_or value.flags flag_R) else value).flags ≡ of_text value.flags
limited_by true value = with_apart value.flags flag_R refl
limited_by false value = refl

limited_flags : (value : Quantity) → of_text (limited value).flags ≡ of_text value.flags
limited_flags value = limited_by (is_register value.kind && nat_lt 7 value.number) value

settled_flags : (kind : Option Kind) (number flags : ℕ) (has_register : Bool)
    → of_text (settled kind number flags has_register).flags ≡ of_text flags
settled_flags (Some kind) number flags has_register = limited_flags (record { number = number; kind = kind; flags = flags })
settled_flags None number flags has_register = with_apart flags (refusal has_register) (refusal_apart has_register)

combined_flags : (operator : Operator) (left right : Quantity)
    → of_text (combined operator left right).flags ≡ bit_or (of_text left.flags) (of_text right.flags)
combined_flags operator left right =
    settled_flags (kind_of operator left.kind right.kind) (number_of operator left.number right.number)
    (bit_or (bit_or left.flags right.flags) (division_flags operator right.number)) (is_register left.kind || is_register right.kind)
    ∙ with_apart (bit_or left.flags right.flags) (division_flags operator right.number) (division_apart operator right.number)
    ∙ and_of_or left.flags right.flags 0o12200

combined_alike : (operator : Operator) (left right left' right' : Quantity) → Alike left left' → Alike right right'
    → Alike (combined operator left right) (combined operator left' right')
combined_alike operator left right left' right' one two =
    combined_flags operator left right ∙ ap (λ (n : ℕ). bit_or n (of_text right.flags)) one
    ∙ ap (λ (n : ℕ). bit_or (of_text left'.flags) n) two ∙ sym (combined_flags operator left' right')

replaced_flags : (value : Quantity) → of_text (bit_or value.flags (absence value.kind)) ≡ of_text value.flags
replaced_flags value =
    with_apart value.flags (absence value.kind) (absent_apart (is_absolute value.kind) (is_register value.kind))

register_flags : (value : Quantity) → of_text (as_register value).flags ≡ of_text value.flags
register_flags value = limited_flags (record { number = value.number; kind = kinds.Register; flags = bit_or value.flags (absence value.kind) }) ∙ replaced_flags value

applied_alike : (prefix : Prefix) (is_closed : Bool) (one other : Quantity) → Alike one other
    → Alike (applied prefix is_closed one) (applied prefix is_closed other)
applied_alike Plus is_closed one other same = same
applied_alike (InRadix radix) is_closed one other same = same
applied_alike Minus is_closed one other same = replaced_flags one ∙ same ∙ sym (replaced_flags other)
applied_alike Complement is_closed one other same = replaced_flags one ∙ same ∙ sym (replaced_flags other)
applied_alike Register is_closed one other same = register_flags one ∙ same ∙ sym (register_flags other)
applied_alike Bracket true one other same = same
applied_alike Bracket false one other same =
    and_of_or one.flags flag_Q 0o12200 ∙ ap (λ (n : ℕ). bit_or n (of_text flag_Q)) same ∙ sym (and_of_or other.flags flag_Q 0o12200)

-- ---- tokens whose values are alike

abbrev AreAlike : List Item → List Item → Type 0
AreAlike [] [] = ⊤
AreAlike (one ∷ items) (other ∷ others) =
    (one.sort ≡ other.sort) × ((radix : Radix) → Alike (atom_value radix one.atom) (atom_value radix other.atom)) × AreAlike items others
AreAlike items others = ⊥

alike_sorts : (items others : List Item) → AreAlike items others → sorts_of items ≡ sorts_of others
alike_sorts [] [] same = refl
alike_sorts [] (other ∷ others) same = absurd same
alike_sorts (one ∷ items) [] same = absurd same
alike_sorts (one ∷ items) (other ∷ others) same =
    ap (λ (sort : Sort). sort ∷ sorts_of items) same.0 ∙ ap (λ (sorts : List Sort). other.sort ∷ sorts) (alike_sorts items others same.2)

alike_length : (items others : List Item) → AreAlike items others → length items ≡ length others
alike_length [] [] same = refl
alike_length [] (other ∷ others) same = absurd same
alike_length (one ∷ items) [] same = absurd same
alike_length (one ∷ items) (other ∷ others) same = ap (λ (n : ℕ). suc n) (alike_length items others same.2)

alike_take : (count : ℕ) (items others : List Item) → AreAlike items others → AreAlike (take count items) (take count others)
alike_take zero items others same = tt
alike_take (suc count) [] [] same = tt
alike_take (suc count) [] (other ∷ others) same = absurd same
alike_take (suc count) (one ∷ items) [] same = absurd same
alike_take (suc count) (one ∷ items) (other ∷ others) same = (same.0, same.1, alike_take count items others same.2)

alike_drop : (count : ℕ) (items others : List Item) → AreAlike items others → AreAlike (drop count items) (drop count others)
alike_drop zero items others same = same
alike_drop (suc count) [] [] same = tt
alike_drop (suc count) [] (other ∷ others) same = absurd same
alike_drop (suc count) (one ∷ items) [] same = absurd same
alike_drop (suc count) (one ∷ items) (other ∷ others) same = alike_drop count items others same.2

-- ---- values

abbrev Evaluates : Type 0
Evaluates = Radix → List Item → Quantity

-- a function that yields values yields alike ones for tokens that are alike
abbrev KeepsAlike : Evaluates → Type 0
KeepsAlike evaluate = (radix : Radix) (items others : List Item) → AreAlike items others → Alike (evaluate radix items) (evaluate radix others)

module _ (evaluate : Evaluates) (keeps : KeepsAlike evaluate) (radix : Radix) where
  abbrev prefixed : Prefix → List Sort → ℕ → List Item → Quantity
  prefixed prefix sorts count items =
      applied prefix (nat_lt (reach prefix sorts) count) (evaluate (radix_under prefix radix) (take (reach prefix sorts) items))

  prefix_alike : (prefix : Prefix) (items others : List Item) → AreAlike items others
      → Alike (prefixed prefix (sorts_of items) (length items) items) (prefixed prefix (sorts_of others) (length others) others)
  prefix_alike prefix items others same =
      let count = reach prefix (sorts_of items) in
      let parts = keeps (radix_under prefix radix) (take count items) (take count others) (alike_take count items others same) in
      let first : Alike (prefixed prefix (sorts_of items) (length items) items) (prefixed prefix (sorts_of items) (length items) others) =
      applied_alike prefix (nat_lt count (length items)) (evaluate (radix_under prefix radix) (take count items))
      (evaluate (radix_under prefix radix) (take count others)) parts in
      first ∙ ap (λ (sorts : List Sort). of_text (prefixed prefix sorts (length items) others).flags) (alike_sorts items others same)
      ∙ ap (λ (n : ℕ). of_text (prefixed prefix (sorts_of others) n others).flags) (alike_length items others same)

  term_alike : (found : Option Prefix) (one other : Item) (items others : List Item)
      → ((radix : Radix) → Alike (atom_value radix one.atom) (atom_value radix other.atom)) → AreAlike items others
      → Alike (term_value evaluate radix one items found) (term_value evaluate radix other others found)
  term_alike None one other items others first same = first radix
  term_alike (Some prefix) one other items others first same = prefix_alike prefix items others same

  split_alike : (found : Option Split) (items others : List Item) → AreAlike items others
      → Alike (split_value evaluate radix items found) (split_value evaluate radix others found)
  split_alike (Some split) items others same =
      combined_alike split.operator (evaluate radix (take split.index items)) (evaluate radix (drop (suc split.index) items))
      (evaluate radix (take split.index others)) (evaluate radix (drop (suc split.index) others))
      (keeps radix (take split.index items) (take split.index others) (alike_take split.index items others same))
      (keeps radix (drop (suc split.index) items) (drop (suc split.index) others) (alike_drop (suc split.index) items others same))
  split_alike None [] [] same = refl
  split_alike None [] (other ∷ others) same = absurd same
  split_alike None (one ∷ items) [] same = absurd same
  split_alike None (one ∷ items) (other ∷ others) same =
      term_alike (prefix_of one.sort) one other items others same.1 same.2
      ∙ ap (λ (sort : Sort). of_text (term_value evaluate radix other others (prefix_of sort)).flags) same.0

  parts_alike : (items others : List Item) → AreAlike items others → Alike (by_parts evaluate radix items) (by_parts evaluate radix others)
  parts_alike items others same =
      split_alike (last_operator begin (sorts_of items)) items others same
      ∙ ap (λ (sorts : List Sort). of_text (split_value evaluate radix others (last_operator begin sorts)).flags)
      (alike_sorts items others same)

within_alike : (bound : ℕ) → KeepsAlike (λ radix items. value_within bound radix items)
within_alike zero radix items others same = refl
within_alike (suc bound) radix items others same =
    parts_alike (λ r i. value_within bound r i) (within_alike bound) radix items others same

values_alike : KeepsAlike (λ radix items. value_of radix items)
unfolding value_of
values_alike radix items others same =
    within_alike (length items) radix items others same
    ∙ ap (λ (n : ℕ). of_text (value_within n radix others).flags) (alike_length items others same)

-- ---- symbols

module _ (one other : Symbol → Quantity) (same : (symbol : Symbol) → Alike (one symbol) (other symbol)) where
  found_alike : (found : Option Symbol) (none : Quantity)
      → Alike (unwrap_or (option_map one found) none) (unwrap_or (option_map other found) none)
  found_alike (Some symbol) none = same symbol
  found_alike None none = refl

  atom_alike : (radix : Radix) (sort : Sort) (text : List ℕ)
      → Alike (atom_value radix (atom_of one sort text)) (atom_value radix (atom_of other sort text))
  atom_alike radix sorts.Name text = found_alike (name_symbol text) missing
  atom_alike radix sorts.LocalSymbol text = found_alike (local_symbol (front_of text)) (absolute 0 flag_A)
  atom_alike radix sorts.Number text = refl
  atom_alike radix sorts.DecimalNumber text = refl
  atom_alike radix sorts.Character text = refl
  atom_alike radix sorts.TwoCharacters text = refl
  atom_alike radix sorts.Packed text = refl
  atom_alike radix sorts.BinaryRadix text = refl
  atom_alike radix sorts.OctalRadix text = refl
  atom_alike radix sorts.DecimalRadix text = refl
  atom_alike radix sorts.Complement text = refl
  atom_alike radix sorts.Plus text = refl
  atom_alike radix sorts.Minus text = refl
  atom_alike radix sorts.Times text = refl
  atom_alike radix sorts.Over text = refl
  atom_alike radix sorts.And text = refl
  atom_alike radix sorts.Or text = refl
  atom_alike radix sorts.Less text = refl
  atom_alike radix sorts.Greater text = refl
  atom_alike radix sorts.Percent text = refl
  atom_alike radix sorts.NumberSign text = refl
  atom_alike radix sorts.At text = refl
  atom_alike radix sorts.Open text = refl
  atom_alike radix sorts.Close text = refl
  atom_alike radix sorts.Comma text = refl
  atom_alike radix sorts.Colon text = refl
  atom_alike radix sorts.TwoColons text = refl
  atom_alike radix sorts.Equals text = refl
  atom_alike radix sorts.TwoEquals text = refl

  items_alike : (tokens : List PlainToken) → AreAlike (map (plain_item one) tokens) (map (plain_item other) tokens)
  items_alike [] = tt
  items_alike (token ∷ tokens) = (refl, (λ radix. atom_alike radix token.sort token.text), items_alike tokens)

quantity_apart : (is_double : Bool) (standing : Standing) → Apart (quantity_of (flag_if is_double flag_D) standing).flags
quantity_apart true (Known number kind) = refl
quantity_apart false (Known number kind) = refl
quantity_apart true Unknown = refl
quantity_apart false Unknown = refl

defined_apart : (key : Key) (doubles : Keys) (other : Quantity) (found : Option Definition) → Apart other.flags
    → Apart (defined_or key doubles other found).flags
defined_apart key doubles other (Some definition) apart = quantity_apart (has_key key doubles) definition.standing
defined_apart key doubles other None apart = apart

meaning_apart : (map : Map) (table : Table) (key : Key) → Apart (defined_or key table.doubly_defined
    (defined_or key map.doubly_defined (absolute 0 flag_U) (last_definition key map.definitions)) (last_definition key table.definitions)).flags
meaning_apart map table key =
    defined_apart key table.doubly_defined (defined_or key map.doubly_defined (absolute 0 flag_U) (last_definition key map.definitions))
    (last_definition key table.definitions)
    (defined_apart key map.doubly_defined (absolute 0 flag_U) (last_definition key map.definitions) refl)

symbol_apart : (map : Map) (table : Table) (place : ℕ) (symbol : Symbol) → Apart (value_of_symbol map LocalOnly table place symbol).flags
symbol_apart map table place (Ordinary name) = meaning_apart map table (Named name)
symbol_apart map table place (Local number) = meaning_apart map table (Numbered table.modes.block number)
symbol_apart map table place Counter = refl

-- ---- the transfer address

module _ (map' other : Map) (table changed : Table) (tokens : Expression) (radix : table.modes.radix ≡ changed.modes.radix) where
  abbrev values : Symbol → Quantity
  values = value_of_symbol map' LocalOnly table (location table)

  abbrev others : Symbol → Quantity
  others = value_of_symbol other LocalOnly changed (location changed)

  value_alike : Alike (value (known_by table.modes.radix values) tokens) (value (known_by changed.modes.radix others) tokens)
  value_alike =
      values_alike table.modes.radix (map (plain_item values) tokens) (map (plain_item others) tokens)
      (items_alike values others
      (λ symbol. symbol_apart map' table (location table) symbol ∙ sym (symbol_apart other changed (location changed) symbol)) tokens)
      ∙ ap (λ (r : Radix). of_text (value_of r (map (plain_item others) tokens)).flags) radix

  transfer_alike : (none : Bool)
      → expression_flags (if none then None else Some (value (known_by table.modes.radix values) tokens))
      ≡ expression_flags (if none then None else Some (value (known_by changed.modes.radix others) tokens))
  transfer_alike true = refl
  transfer_alike false = value_alike

  pub same_text_flags : expression_flags (transfer map' table tokens) ≡ expression_flags (transfer other changed tokens)
  same_text_flags = transfer_alike (is_empty tokens)
