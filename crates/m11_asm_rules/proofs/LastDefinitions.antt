-- The last definitions of keys after one more definition, and the number of names and local symbols then defined.
use Rattle.std.proofs.Common.{◌≡◌, ◌∙◌, ◌<◌, ◌≤◌, ℕ, ◌+◌, ◌==◌, Bool, true, false, true≢false, cond, if◌then◌else◌, List, [], ◌∷◌, length, Option, Some, None, refl, sym, ap, subst, arith}
use Rattle.std.proofs.lemmas.Bool.{and_parts, eqb-true}
use Rattle.std.specs.Map.{lookup}
use Rattle.std.specs.Option.{is_some}
use Rattle.indexmap.specs.IndexMap.{insert_entry}
use Rattle.m11_base.specs.Rad50.{Name, is_same_name}
use Rattle.m11_base.proofs.SameNames.{same_name_equal, same_name_itself}
use Rattle.m11_asm_rules.specs.Definitions.{Definition, Definitions, Key, Named, Numbered, is_defined, is_same, last_definition, with_last}
use Rattle.m11_asm_rules.specs.Labels.{with_definition}
use Rattle.m11_asm_rules.specs.Limits.{local_count, name_count}
use Rattle.m11_asm_rules.specs.Tables.{Table}

-- ---- keys

names_swap_by : (one other : Name) (b c : Bool) → is_same_name one other ≡ b → is_same_name other one ≡ c → b ≡ c
names_swap_by one other true true e f = refl
names_swap_by one other true false e f =
    let P : Name → Type 0 = λ n. is_same_name n one ≡ true in
    absurd (true≢false (sym (subst P (same_name_equal one other e) (same_name_itself one)) ∙ f))
names_swap_by one other false true e f =
    let P : Name → Type 0 = λ n. is_same_name n other ≡ true in
    absurd (true≢false (sym (subst P (same_name_equal other one f) (same_name_itself other)) ∙ e))
names_swap_by one other false false e f = refl

pub names_swap : (one other : Name) → is_same_name one other ≡ is_same_name other one
names_swap one other = names_swap_by one other (is_same_name one other) (is_same_name other one) refl refl

pub key_equal : (one other : Key) → is_same one other ≡ true → one ≡ other
key_equal (Named one) (Named other) same = ap Named (same_name_equal one other same)
key_equal (Named one) (Numbered block number) same = absurd (true≢false (sym same))
key_equal (Numbered block number) (Named other) same = absurd (true≢false (sym same))
key_equal (Numbered block number) (Numbered other_block other) same =
    let parts = and_parts (block == other_block) (number == other) same in
    ap (λ (n : ℕ). Numbered n number) (eqb-true block other_block parts.0)
    ∙ ap (λ (n : ℕ). Numbered other_block n) (eqb-true number other parts.1)

pub key_itself : (key : Key) → is_same key key ≡ true
key_itself (Named name) = same_name_itself name
key_itself (Numbered block number) = same_name_itself (block, number)

-- ---- an entry of a list of pairs of numbers, after one is inserted

here_by : (b : Bool) (value before : Definition) (others : Option Definition)
    → cond b (Some value) others ≡ (if b then Some value else cond b (Some before) others)
here_by true value before others = refl
here_by false value before others = refl

there_by : (is_first is_new : Bool) (value before : Definition) (others : Option Definition) → (is_new ≡ true → is_first ≡ false)
    → cond is_first (Some before) (if is_new then Some value else others) ≡ (if is_new then Some value else cond is_first (Some before) others)
there_by true true value before others apart = absurd (true≢false (apart refl))
there_by false true value before others apart = refl
there_by true false value before others apart = refl
there_by false false value before others apart = refl

module _ (asked new : Name) (value : Definition) where
  apart : (first : Name) → is_same_name new first ≡ false → is_same_name new asked ≡ true → is_same_name asked first ≡ false
  apart first differs same =
      let P : Name → Type 0 = λ n. is_same_name n first ≡ false in
      subst P (same_name_equal new asked same) differs

  found_more : (entries : List (Name × Definition))
      → lookup (is_same_name asked) (insert_entry is_same_name entries new value)
      ≡ (if is_same_name new asked then Some value else lookup (is_same_name asked) entries)
  found_more [] = ap (λ (b : Bool). cond b (Some value) None) (names_swap asked new)
  found_more (entry ∷ entries) = by (is_same_name new entry.0) refl (found_more entries)
    where
      by : (b : Bool) → is_same_name new entry.0 ≡ b
          → lookup (is_same_name asked) (insert_entry is_same_name entries new value)
          ≡ (if is_same_name new asked then Some value else lookup (is_same_name asked) entries)
          → lookup (is_same_name asked) (if b then (entry.0, value) ∷ entries else entry ∷ insert_entry is_same_name entries new value)
          ≡ (if is_same_name new asked then Some value else cond (is_same_name asked entry.0) (Some entry.1) (lookup (is_same_name asked) entries))
      by true same rest =
          let P : Name → Type 0 = λ n. cond (is_same_name asked n) (Some value) (lookup (is_same_name asked) entries)
          ≡ (if is_same_name new asked then Some value else cond (is_same_name asked n) (Some entry.1) (lookup (is_same_name asked) entries)) in
          let Q : Bool → Type 0 = λ b. cond b (Some value) (lookup (is_same_name asked) entries)
          ≡ (if is_same_name new asked then Some value else cond b (Some entry.1) (lookup (is_same_name asked) entries)) in
          subst P (same_name_equal new entry.0 same)
          (subst Q (names_swap new asked) (here_by (is_same_name new asked) value entry.1 (lookup (is_same_name asked) entries)))
      by false differs rest =
          ap (cond (is_same_name asked entry.0) (Some entry.1)) rest
          ∙ there_by (is_same_name asked entry.0) (is_same_name new asked) value entry.1 (lookup (is_same_name asked) entries) (apart entry.0 differs)

-- ---- the last definition of a key, after one more

pub last_more : (asked : Key) (definitions : Definitions) (key : Key) (definition : Definition)
    → last_definition asked (with_last key definition definitions)
    ≡ (if is_same key asked then Some definition else last_definition asked definitions)
last_more (Named asked) definitions (Named name) definition = found_more asked name definition definitions.names
last_more (Named asked) definitions (Numbered block number) definition = refl
last_more (Numbered asked_block asked) definitions (Named name) definition = refl
last_more (Numbered asked_block asked) definitions (Numbered block number) definition =
    found_more (asked_block, asked) (block, number) definition definitions.local_symbols

-- ---- the number of definitions

counted : (key : Name) (value : Definition) (entries : List (Name × Definition))
    → length (insert_entry is_same_name entries key value)
    ≡ length entries + (if is_some (lookup (is_same_name key) entries) then 0 else 1)
counted key value [] = refl
counted key value (entry ∷ entries) = by (is_same_name key entry.0) (counted key value entries)
  where
    by : (b : Bool)
        → length (insert_entry is_same_name entries key value)
        ≡ length entries + (if is_some (lookup (is_same_name key) entries) then 0 else 1)
        → length (if b then (entry.0, value) ∷ entries else entry ∷ insert_entry is_same_name entries key value)
        ≡ length (entry ∷ entries) + (if is_some (cond b (Some entry.1) (lookup (is_same_name key) entries)) then 0 else 1)
    by true rest = omega arith
    by false rest = omega (arith, rest)

abbrev one_if_new : Bool → ℕ
one_if_new known = if known then 0 else 1

pub known_counts : (key : Key) (definition : Definition) (table : Table) → is_defined key table.definitions ≡ true
    → name_count (with_definition key definition table) ≡ name_count table
known_counts (Named name) definition table known =
    let more = counted name definition table.definitions.names in
    let none = ap one_if_new known in
    omega (arith, more, none)
known_counts (Numbered block number) definition table known = refl

pub new_counts : (name : Name) (definition : Definition) (table : Table) → is_defined (Named name) table.definitions ≡ false
    → name_count (with_definition (Named name) definition table) ≡ name_count table + 1
new_counts name definition table new =
    let more = counted name definition table.definitions.names in
    let one = ap one_if_new new in
    omega (arith, more, one)

pub new_symbol_counts : (block number : ℕ) (definition : Definition) (table : Table)
    → is_defined (Numbered block number) table.definitions ≡ false
    → local_count (with_definition (Numbered block number) definition table) ≡ local_count table + 1
new_symbol_counts block number definition table new =
    let more = counted (block, number) definition table.definitions.local_symbols in
    let one = ap one_if_new new in
    omega (arith, more, one)

-- one more definition makes the list of definitions no shorter
none_lost : (key : Name) (value : Definition) (entries : List (Name × Definition))
    → length entries ≤ length (insert_entry is_same_name entries key value)
none_lost key value entries =
    let more = counted key value entries in
    omega (arith, more)

pub none_fewer : (key : Key) (definition : Definition) (table : Table) → name_count table ≤ name_count (with_definition key definition table)
none_fewer (Named name) definition table = none_lost name definition table.definitions.names
none_fewer (Numbered block number) definition table = omega arith

pub no_symbols_fewer : (key : Key) (definition : Definition) (table : Table)
    → local_count table ≤ local_count (with_definition key definition table)
no_symbols_fewer (Named name) definition table = omega arith
no_symbols_fewer (Numbered block number) definition table = none_lost (block, number) definition table.definitions.local_symbols

-- an inserted entry fits, if its key was already there or there was room for one more
fits_by : (b : Bool) (before after most : ℕ) → after ≡ before + one_if_new b → (b ≡ false → before < most) → before ≤ most → after ≤ most
fits_by true before after most more room few = omega (arith, more, few)
fits_by false before after most more room few = let fewer = room refl in omega (arith, more, fewer)

pub entry_fits : (key : Name) (value : Definition) (entries : List (Name × Definition)) (most : ℕ)
    → (is_some (lookup (is_same_name key) entries) ≡ false → length entries < most) → length entries ≤ most
    → length (insert_entry is_same_name entries key value) ≤ most
entry_fits key value entries most room few =
    fits_by (is_some (lookup (is_same_name key) entries)) (length entries) (length (insert_entry is_same_name entries key value)) most
    (counted key value entries) room few

pub one_more_at_most : (name : Name) (definition : Definition) (table : Table)
    → name_count (with_definition (Named name) definition table) ≤ name_count table + 1
one_more_at_most name definition table = by (is_defined (Named name) table.definitions) (counted name definition table.definitions.names)
  where
    by : (b : Bool) → name_count (with_definition (Named name) definition table) ≡ name_count table + one_if_new b
        → name_count (with_definition (Named name) definition table) ≤ name_count table + 1
    by true more = omega (arith, more)
    by false more = omega (arith, more)
