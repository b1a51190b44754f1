-- An expression has the same value under two functions that agree on its symbols.
use Rattle.std.proofs.Common.{◌≡◌, ℕ, List, [], ◌∷◌, Option, Some, None, refl, ap, ◌∙◌}
use Rattle.std.specs.Prelude.{option_map, unwrap_or}
use Rattle.std.specs.List.{cons_option}
use Rattle.m11_scan.specs.Cutting.{text_between}
use Rattle.m11_scan.specs.ErrorFlags.{flag_A}
use Rattle.m11_scan.specs.declared.cutting.Token.{Token}
use Rattle.m11_scan.specs.declared.radix.Radix.{Radix}
use Rattle.m11_scan.specs.declared.sort.Sort.{Sort}
use Rattle.m11_scan.specs.declared.sort.Sort.TheVariants.{Name, Number, DecimalNumber, LocalSymbol, Character, TwoCharacters, Packed, BinaryRadix, OctalRadix, DecimalRadix, Complement, Plus, Minus, Times, Over, And, Or, Less, Greater, Percent, NumberSign, At, Open, Close, Comma, Colon, TwoColons, Equals, TwoEquals}
use Rattle.m11_scan_expressions.specs.declared.names.Symbol.{Symbol}
use Rattle.m11_scan_expressions.specs.Quantities.{Quantity, absolute, missing}
use Rattle.m11_scan_expressions.specs.Symbols.{AgreeOn, symbols_of}
use Rattle.m11_scan_expressions.specs.Terms.{Atom, Fixed, Item, atom_of, symbol_in}
use Rattle.m11_scan_expressions.specs.Values.{items_of, seen, value_of}

-- a token has the same value under two functions that agree on its symbol
meaning_agrees : (first second : Symbol → Quantity) (other : Quantity) (symbol : Option Symbol)
    → AgreeOn (cons_option symbol []) first second → unwrap_or (option_map first symbol) other ≡ unwrap_or (option_map second symbol) other
meaning_agrees first second other None agree = refl
meaning_agrees first second other (Some symbol) agree = agree.0

pub atom_agrees : (first second : Symbol → Quantity) (sort : Sort) (text : List ℕ)
    → AgreeOn (cons_option (symbol_in sort text) []) first second → atom_of first sort text ≡ atom_of second sort text
atom_agrees first second Name text agree =
    ap (λ (v : Quantity). Fixed v) (meaning_agrees first second missing (symbol_in Name text) agree)
atom_agrees first second Number text agree = refl
atom_agrees first second DecimalNumber text agree = refl
atom_agrees first second LocalSymbol text agree =
    ap (λ (v : Quantity). Fixed v) (meaning_agrees first second (absolute 0 flag_A) (symbol_in LocalSymbol text) agree)
atom_agrees first second Character text agree = refl
atom_agrees first second TwoCharacters text agree = refl
atom_agrees first second Packed text agree = refl
atom_agrees first second BinaryRadix text agree = refl
atom_agrees first second OctalRadix text agree = refl
atom_agrees first second DecimalRadix text agree = refl
atom_agrees first second Complement text agree = refl
atom_agrees first second Plus text agree = refl
atom_agrees first second Minus text agree = refl
atom_agrees first second Times text agree = refl
atom_agrees first second Over text agree = refl
atom_agrees first second And text agree = refl
atom_agrees first second Or text agree = refl
atom_agrees first second Less text agree = refl
atom_agrees first second Greater text agree = refl
atom_agrees first second Percent text agree = refl
atom_agrees first second NumberSign text agree = refl
atom_agrees first second At text agree = refl
atom_agrees first second Open text agree = refl
atom_agrees first second Close text agree = refl
atom_agrees first second Comma text agree = refl
atom_agrees first second Colon text agree = refl
atom_agrees first second TwoColons text agree = refl
atom_agrees first second Equals text agree = refl
atom_agrees first second TwoEquals text agree = refl

pub first_agrees : (first second : Symbol → Quantity) (symbol : Option Symbol) (symbols : List Symbol)
    → AgreeOn (cons_option symbol symbols) first second → AgreeOn (cons_option symbol []) first second
first_agrees first second (Some symbol) symbols agree = (agree.0, tt)
first_agrees first second None symbols agree = tt

pub others_agree : (first second : Symbol → Quantity) (symbol : Option Symbol) (symbols : List Symbol)
    → AgreeOn (cons_option symbol symbols) first second → AgreeOn symbols first second
others_agree first second (Some symbol) symbols agree = agree.1
others_agree first second None symbols agree = agree

abbrev pub with_atom : Sort → Atom → List Item → List Item
with_atom sort atom items = record { sort = sort; atom = atom } ∷ items

items_agree : (line : List ℕ) (first second : Symbol → Quantity) (tokens : List Token)
    → AgreeOn (symbols_of line tokens) first second → items_of first line tokens ≡ items_of second line tokens
items_agree line first second [] agree = refl
items_agree line first second (token ∷ tokens) agree =
    let here : atom_of first token.sort (text_between line token.start token.end)
    ≡ atom_of second token.sort (text_between line token.start token.end) =
    atom_agrees first second token.sort (text_between line token.start token.end)
    (first_agrees first second (symbol_in token.sort (text_between line token.start token.end)) (symbols_of line tokens) agree) in
    ap (λ (a : Atom). with_atom token.sort a (items_of first line tokens)) here
    ∙ ap (λ (l : List Item). seen second line token ∷ l)
    (items_agree line first second tokens
    (others_agree first second (symbol_in token.sort (text_between line token.start token.end)) (symbols_of line tokens) agree))

pub agreeing_values : (radix : Radix) (line : List ℕ) (first second : Symbol → Quantity) (tokens : List Token)
    → AgreeOn (symbols_of line tokens) first second
    → value_of radix (items_of first line tokens) ≡ value_of radix (items_of second line tokens)
agreeing_values radix line first second tokens agree =
    ap (λ (l : List Item). value_of radix l) (items_agree line first second tokens agree)
