-- The symbols that were found in the first lines of a text.
use Rattle.std.proofs.Common.{◌≡◌, ◌∙◌, ℕ, Bool, false, cond, List, [], ◌∷◌, ◌++◌, append_assoc, append-nil, Option, Some, None, Result, Ok, Err, refl, sym, ap}
use Rattle.std.specs.Option.{option_to_list}
use Rattle.m11_base_disassembly.specs.Rows.{Rows, symbols_in, with_symbol}
use Rattle.m11_base_disassembly.specs.declared.map_fault.MapFault.{MapFault}
use Rattle.m11_base_disassembly.specs.declared.symbols.Symbol.{Symbol}

abbrev pub with_symbols : List Symbol → Result (List Symbol) MapFault → Result (List Symbol) MapFault
with_symbols done (Ok more) = Ok (done ++ more)
with_symbols done (Err fault) = Err fault

pub one_more_symbol : (done : List Symbol) (symbol : Option Symbol) (more : Result (List Symbol) MapFault)
    → with_symbols done (with_symbol (Ok symbol) more) ≡ with_symbols (done ++ option_to_list symbol) more
one_more_symbol done (Some symbol) (Ok symbols) = ap Ok (sym (append_assoc done (symbol ∷ []) symbols))
one_more_symbol done (Some symbol) (Err fault) = refl
one_more_symbol done None (Ok symbols) = ap (λ (xs : List Symbol). Ok (xs ++ symbols)) (sym (append-nil done))
one_more_symbol done None (Err fault) = refl

-- if one more line is read, its symbol, if it has one, follows the symbols found before
pub one_added : (rows : Rows) (lines rest : List (List ℕ)) (line : List ℕ) (others : List (List ℕ)) (old now new done : List Symbol)
    (symbol : Option Symbol) → now ≡ old ++ done → symbols_in rows lines ≡ with_symbols done (symbols_in rows rest)
    → rest ≡ line ∷ others → rows.is_end line ≡ false → rows.symbol line ≡ Ok symbol → new ≡ now ++ option_to_list symbol
    → (more : List Symbol) × (new ≡ old ++ more) × (symbols_in rows lines ≡ with_symbols more (symbols_in rows others))
one_added rows lines rest line others old now new done symbol so_far found first other is added =
    let to : Result (Option Symbol) MapFault → Result (List Symbol) MapFault = λ r. with_symbol r (symbols_in rows others) in
    let here : symbols_in rows (line ∷ others) ≡ to (Ok symbol) =
    ap (λ (b : Bool). cond b (Ok []) (to (rows.symbol line))) other ∙ ap to is in (
      done ++ option_to_list symbol,
      added ∙ ap (λ (xs : List Symbol). xs ++ option_to_list symbol) so_far ∙ append_assoc old done (option_to_list symbol),
      found ∙ ap (λ (r : List (List ℕ)). with_symbols done (symbols_in rows r)) first ∙ ap (with_symbols done) here
          ∙ one_more_symbol done symbol (symbols_in rows others),
    )
