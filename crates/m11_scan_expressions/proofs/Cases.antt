-- Tokens that differ in case alone have the same values.
use Rattle.std.proofs.Common.{◌≡◌, ℕ, Bool, true, false, List, [], ◌∷◌, length, map, drop, get_or, Option, Some, nat_lt, refl, sym, ap, ◌∙◌, arith, eqb, inl, inr, if◌then◌else◌}
use Rattle.std.specs.Prelude.{option_map, unwrap_or}
use Rattle.std.proofs.lemmas.Bool.{cases_lt, le-ltb, lt-ltb}
use Rattle.std.proofs.lemmas.Bool.Decides.{nat_tests}
use Rattle.std.proofs.lemmas.List.{get_or-map, length-map}
use Rattle.m11_base.specs.NameCharacters.{character_at, folded, six_of}
use Rattle.m11_base.specs.Rad50.{name_of, packed_at}
use Rattle.m11_scan.specs.Cutting.{Lexeme}
use Rattle.m11_scan.specs.Names.{packed_flags, packed_word}
use Rattle.m11_scan.specs.declared.radix.Radix.{Radix}
use Rattle.m11_scan.specs.declared.sort.Sort.{Sort}
use Rattle.m11_scan.specs.declared.sort.Sort.TheVariants.{Name, Number, DecimalNumber, LocalSymbol, Character, TwoCharacters, Packed, BinaryRadix, OctalRadix, DecimalRadix, Complement, Plus, Minus, Times, Over, And, Or, Less, Greater, Percent, NumberSign, At, Open, Close, Comma, Colon, TwoColons, Equals, TwoEquals}
use Rattle.m11_scan_expressions.specs.declared.names.Symbol.{Symbol}
use Rattle.m11_scan_expressions.specs.declared.names.Symbol.TheVariants.{Counter, Ordinary}
use Rattle.m11_scan_expressions.specs.Quantities.{Quantity, absolute, missing}
use Rattle.m11_scan_expressions.specs.Symbols.{AreSame, NoToken, OneMore, IsSameText}
use Rattle.m11_scan_expressions.specs.Terms.{Atom, Fixed, Item, atom_of, is_counter, item, name_symbol, packed}
use Rattle.m11_scan_expressions.specs.Values.{value_of}
use Rattle.m11_scan_expressions.proofs.Meanings.{with_atom}

-- the character at a column of a text that is in upper case; a blank past the text's end
abbrev at_folded : List ℕ → ℕ → ℕ
at_folded text column = if nat_lt column (length text) then get_or text column 0 else 32

folded_character : (text : List ℕ) (column : ℕ) → at_folded (map folded text) column ≡ character_at text column
folded_character text column =
    let size : length (map folded text) ≡ length text = length-map text folded in
    elim (cases_lt column (length text)) [
      | inl lt ↦
          let a : nat_lt column (length (map folded text)) ≡ true = lt-ltb column (length (map folded text)) (omega arith) in
          let b : nat_lt column (length text) ≡ true = lt-ltb column (length text) lt in
          let c = get_or-map folded text column 0 0 lt in
          ap (λ (t : Bool). if t then get_or (map folded text) column 0 else 32) a ∙ c
          ∙ sym (ap (λ (t : Bool). if t then folded (get_or text column 0) else 32) b)
      | inr ge ↦
          let a : nat_lt column (length (map folded text)) ≡ false = le-ltb column (length (map folded text)) (omega arith) in
          let b : nat_lt column (length text) ≡ false = le-ltb column (length text) ge in
          ap (λ (t : Bool). if t then get_or (map folded text) column 0 else 32) a
          ∙ sym (ap (λ (t : Bool). if t then folded (get_or text column 0) else 32) b)
    ]

same_character : (a b : List ℕ) (column : ℕ) → map folded a ≡ map folded b → character_at a column ≡ character_at b column
same_character a b column h =
    sym (folded_character a column) ∙ ap (λ (t : List ℕ). at_folded t column) h ∙ folded_character b column

same_characters : (a b : List ℕ) (columns : List ℕ) → map folded a ≡ map folded b
    → map (character_at a) columns ≡ map (character_at b) columns
same_characters a b [] h = refl
same_characters a b (column ∷ columns) h =
    ap (λ (c : ℕ). c ∷ map (character_at a) columns) (same_character a b column h)
    ∙ ap (λ (l : List ℕ). character_at b column ∷ l) (same_characters a b columns h)

-- a character in upper case is a point exactly if the character itself is one
folded_point : (byte : ℕ) → eqb (folded byte) 46 ≡ eqb byte 46
folded_point byte = grind (arith, nat_tests)

same_counter : (a b : List ℕ) → map folded a ≡ map folded b → is_counter a ≡ is_counter b
same_counter [] [] h = refl
same_counter [] (x ∷ b) h = cc
same_counter (x ∷ a) [] h = cc
same_counter (x ∷ []) (y ∷ []) h =
    sym (folded_point x) ∙ ap (λ (t : List ℕ). eqb (get_or t 0 0) 46) h ∙ folded_point y
same_counter (x ∷ []) (y ∷ z ∷ b) h = cc
same_counter (x ∷ z ∷ a) (y ∷ []) h = cc
same_counter (x ∷ z ∷ a) (y ∷ w ∷ b) h = refl

same_symbol : (a b : List ℕ) → map folded a ≡ map folded b → name_symbol a ≡ name_symbol b
same_symbol a b h =
    ap (λ (t : Bool). if t then Some Counter else option_map Ordinary (name_of (six_of a))) (same_counter a b h)
    ∙ ap (λ (six : List ℕ). if is_counter b then Some Counter else option_map Ordinary (name_of six))
    (same_characters a b (0 ∷ 1 ∷ 2 ∷ 3 ∷ 4 ∷ 5 ∷ []) h)

same_word : (a b : List ℕ) → map folded a ≡ map folded b → packed_word a ≡ packed_word b
same_word a b h =
    ap (λ (three : List ℕ). unwrap_or (packed_at three 0) 0) (same_characters a b (0 ∷ 1 ∷ 2 ∷ []) h)

same_flags : (a b : List ℕ) → map folded a ≡ map folded b → packed_flags a ≡ packed_flags b
same_flags [] [] h = refl
same_flags [] (x ∷ b) h = cc
same_flags (x ∷ a) [] h = cc
same_flags (x ∷ a) (y ∷ b) h = refl

same_packed : (a b : List ℕ) → map folded a ≡ map folded b → packed a ≡ packed b
same_packed [] [] h = refl
same_packed [] (x ∷ b) h = cc
same_packed (x ∷ a) [] h = cc
same_packed (x ∷ []) (y ∷ []) h = refl
same_packed (x ∷ []) (y ∷ z ∷ b) h = cc
same_packed (x ∷ z ∷ a) (y ∷ []) h = cc
same_packed (x ∷ z ∷ a) (y ∷ w ∷ b) h =
    let rest : map folded a ≡ map folded b = ap (λ (l : List ℕ). drop 2 l) h in
    ap (λ (n : ℕ). absolute n (packed_flags a)) (same_word a b rest)
    ∙ ap (λ (n : ℕ). absolute (packed_word b) n) (same_flags a b rest)

same_atom : (value_of_symbol : Symbol → Quantity) (sort : Sort) (a b : List ℕ) → IsSameText sort a b
    → atom_of value_of_symbol sort a ≡ atom_of value_of_symbol sort b
same_atom value_of_symbol Name a b h =
    ap (λ (symbol : Option Symbol). Fixed (unwrap_or (option_map value_of_symbol symbol) missing)) (same_symbol a b h)
same_atom value_of_symbol Number a b h = ap (λ (t : List ℕ). atom_of value_of_symbol Number t) h
same_atom value_of_symbol DecimalNumber a b h = ap (λ (t : List ℕ). atom_of value_of_symbol DecimalNumber t) h
same_atom value_of_symbol LocalSymbol a b h = ap (λ (t : List ℕ). atom_of value_of_symbol LocalSymbol t) h
same_atom value_of_symbol Character a b h = ap (λ (t : List ℕ). atom_of value_of_symbol Character t) h
same_atom value_of_symbol TwoCharacters a b h = ap (λ (t : List ℕ). atom_of value_of_symbol TwoCharacters t) h
same_atom value_of_symbol Packed a b h = ap (λ (v : Quantity). Fixed v) (same_packed a b h)
same_atom value_of_symbol BinaryRadix a b h = refl
same_atom value_of_symbol OctalRadix a b h = refl
same_atom value_of_symbol DecimalRadix a b h = refl
same_atom value_of_symbol Complement a b h = refl
same_atom value_of_symbol Plus a b h = refl
same_atom value_of_symbol Minus a b h = refl
same_atom value_of_symbol Times a b h = refl
same_atom value_of_symbol Over a b h = refl
same_atom value_of_symbol And a b h = refl
same_atom value_of_symbol Or a b h = refl
same_atom value_of_symbol Less a b h = refl
same_atom value_of_symbol Greater a b h = refl
same_atom value_of_symbol Percent a b h = refl
same_atom value_of_symbol NumberSign a b h = refl
same_atom value_of_symbol At a b h = refl
same_atom value_of_symbol Open a b h = refl
same_atom value_of_symbol Close a b h = refl
same_atom value_of_symbol Comma a b h = refl
same_atom value_of_symbol Colon a b h = refl
same_atom value_of_symbol TwoColons a b h = refl
same_atom value_of_symbol Equals a b h = refl
same_atom value_of_symbol TwoEquals a b h = refl

same_items : (value_of_symbol : Symbol → Quantity) {first second : List Lexeme} → AreSame first second
    → map (item value_of_symbol) first ≡ map (item value_of_symbol) second
same_items value_of_symbol NoToken = refl
same_items value_of_symbol (OneMore first second firsts seconds sort text same) =
    ap (λ (a : Atom). with_atom first.sort a (map (item value_of_symbol) firsts))
    (same_atom value_of_symbol first.sort first.text second.text text)
    ∙ ap (λ (s : Sort). with_atom s (atom_of value_of_symbol s second.text) (map (item value_of_symbol) firsts)) sort
    ∙ ap (λ (l : List Item). item value_of_symbol second ∷ l) (same_items value_of_symbol same)

pub same_values : (radix : Radix) (value_of_symbol : Symbol → Quantity) (first second : List Lexeme) → AreSame first second
    → value_of radix (map (item value_of_symbol) first) ≡ value_of radix (map (item value_of_symbol) second)
same_values radix value_of_symbol first second same = ap (λ (l : List Item). value_of radix l) (same_items value_of_symbol same)
