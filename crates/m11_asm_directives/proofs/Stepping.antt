-- Elements of lists are emitted one after the other.
use Rattle.std.proofs.Common.{◌≡◌, ℕ, List, ◌∷◌, Bool, false, sym, ap, ◌∙◌}
use Rattle.std.specs.Prelude.{if◌then◌else◌}
use Rattle.m11_scan_expressions.specs.Expressions.{KnownSymbols, value}
use Rattle.m11_scan_expressions.specs.Tokens.{Expression, is_empty}
use Rattle.m11_asm_operands.proofs.Joining.{followed_joins}
use Rattle.m11_asm_rules.specs.Contents.{Emission, byte, element_value, followed_by, further, word}
use Rattle.m11_asm_rules.specs.Meanings.{Map, known_at}
use Rattle.m11_asm_rules.specs.Storage.{bytes_from, words_from}
use Rattle.m11_asm_rules.specs.Tables.{Table}
use Rattle.m11_asm_rules.specs.declared.meanings.Context.TheVariants.{MayBeGlobal}
use Rattle.m11_scan_expressions.specs.Quantities.{Quantity, absolute}

-- what is emitted after a first part, together with that part, is what is emitted at once
pub step_on : (done new first rest more : Emission) → new ≡ followed_by done first → rest ≡ more
    → followed_by new rest ≡ followed_by done (followed_by first more)
step_on done new first rest more adds same =
    ap (λ (p : Emission). followed_by p rest) adds
    ∙ followed_joins done first rest
    ∙ ap (λ (p : Emission). followed_by done (followed_by first p)) same

module _ (map : Map) (table : Table) (done new : Emission) (location next : ℕ) (element : Expression) (one : Quantity)
    (is : one ≡ element_value (known_at map MayBeGlobal table location) element) where
  pub word_on : new ≡ followed_by done (word table false location one) → next ≡ further location 2 → (elements : List Expression)
      → followed_by new (words_from map table next elements) ≡ followed_by done (words_from map table location (element ∷ elements))
  word_on adds goes elements =
      step_on done new (word table false location one) (words_from map table next elements)
      (words_from map table (further location 2) elements) adds (ap (λ (n : ℕ). words_from map table n elements) goes)
      ∙ ap (λ (p : Emission). followed_by done (followed_by p (words_from map table (further location 2) elements)))
      (ap (λ (q : Quantity). word table false location q) is)

  pub byte_on : new ≡ followed_by done (byte table location one) → next ≡ further location 1 → (elements : List Expression)
      → followed_by new (bytes_from map table next elements) ≡ followed_by done (bytes_from map table location (element ∷ elements))
  byte_on adds goes elements =
      step_on done new (byte table location one) (bytes_from map table next elements)
      (bytes_from map table (further location 1) elements) adds (ap (λ (n : ℕ). bytes_from map table n elements) goes)
      ∙ ap (λ (p : Emission). followed_by done (followed_by p (bytes_from map table (further location 1) elements)))
      (ap (λ (q : Quantity). byte table location q) is)

-- the value of an element that isn't empty is that of its expression
pub of_element : (known : KnownSymbols) (element : Expression) (one : Quantity) (empty : Bool) → empty ≡ false
    → empty ≡ is_empty element → one ≡ value known element → one ≡ element_value known element
of_element known element one empty stands is same =
    same ∙ ap (λ (b : Bool). if b then absolute 0 0 else value known element) (sym stands ∙ is)
