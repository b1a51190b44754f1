-- Bytes put to one output of a program are a write to it. (This project's own.)
use Rattle.std.proofs.Common.{◌≡◌, ◌≢◌, ℕ, false, List, [], ◌∷◌, Option, Some, Result, Ok, Err, IfErr, refl}
use Rattle.std.specs.Io.KnownBytes.{Appends}
use Rattle.m11_base_writes.proofs.Writing.{keeps, put_writes}
use Rattle.m11_base_writes.specs.Outputs.{is_output, kinds_of, outputs, to_messages, to_product, to_report}
use Rattle.m11_base_writes.specs.States.{OutputState, Puts, no_output}
use Rattle.m11_base_writes.specs.Writes.{Between, In, Stop, Writes, gained}
use Rattle.m11_base_writes.specs.declared.outputs.Output.{Output}
use Rattle.m11_base_writes.specs.declared.outputs.Output.TheVariants.{Product, Report, Messages}

module _ {E : Type 0} (stop : E → Option (Stop Output)) where
  pub to_the_product : {A : Type 0} (a b report messages : OutputState) (bytes : List ℕ) (fault : E) (result : Result A E)
      → stop fault ≡ Some (In Product) → Puts a b bytes fault result
      → Writes (kinds_of stop) (outputs a report messages) (outputs b report messages) (to_product bytes ∷ []) result
  to_the_product a b report messages bytes fault result is h =
      put_writes (kinds_of stop) Product (outputs a report messages) (outputs b report messages) others bytes fault result is h
    where
      others : (other : Output) → is_output other Product ≡ false
          → outputs b report messages other ≡ outputs a report messages other
      others Product e = absurd cc
      others Report e = refl
      others Messages e = refl

  pub to_the_report : {A : Type 0} (product a b messages : OutputState) (bytes : List ℕ) (fault : E) (result : Result A E)
      → stop fault ≡ Some (In Report) → Puts a b bytes fault result
      → Writes (kinds_of stop) (outputs product a messages) (outputs product b messages) (to_report bytes ∷ []) result
  to_the_report product a b messages bytes fault result is h =
      put_writes (kinds_of stop) Report (outputs product a messages) (outputs product b messages) others bytes fault result is h
    where
      others : (other : Output) → is_output other Report ≡ false
          → outputs product b messages other ≡ outputs product a messages other
      others Product e = refl
      others Report e = absurd cc
      others Messages e = refl

  pub to_the_messages : {A : Type 0} (product report a b : OutputState) (bytes : List ℕ) (fault : E) (result : Result A E)
      → stop fault ≡ Some (In Messages) → Puts a b bytes fault result
      → Writes (kinds_of stop) (outputs product report a) (outputs product report b) (to_messages bytes ∷ []) result
  to_the_messages product report a b bytes fault result is h =
      put_writes (kinds_of stop) Messages (outputs product report a) (outputs product report b) others bytes fault result is h
    where
      others : (other : Output) → is_output other Messages ≡ false
          → outputs product report b other ≡ outputs product report a other
      others Product e = refl
      others Report e = refl
      others Messages e = absurd cc

  -- any write to a missing report succeeds
  no_report : (product messages : OutputState) (bytes : List ℕ) (other : Output)
      → Appends (outputs product no_output messages other).text (outputs product no_output messages other).text
      (gained (kinds_of stop) other (to_report bytes ∷ []))
  unfolding gained
  no_report product messages bytes Product = keeps product.text
  no_report product messages bytes Report = tt
  no_report product messages bytes Messages = keeps messages.text

  pub to_no_report : {A : Type 0} (product messages : OutputState) (bytes : List ℕ) (done : A)
      → Writes (kinds_of stop) (outputs product no_output messages) (outputs product no_output messages)
      (to_report bytes ∷ []) (Ok done)
  to_no_report product messages bytes done = record {
    texts = λ other. no_report product messages bytes other;
    faults = λ other. refl;
  }

  -- the fault of a failed put isn't that of refused memory
  pub put_takes_none : {A : Type 0} (a b : OutputState) (bytes : List ℕ) (output : Output) (fault refused : E) (result : Result A E)
      → stop fault ≡ Some (In output) → stop refused ≡ Some Between → Puts a b bytes fault result
      → IfErr result (λ stopped. stopped ≢ refused)
  put_takes_none a b bytes output fault refused (Ok done) is between h = tt
  put_takes_none a b bytes output fault refused (Err stopped) is between h = let same = h.0 in λ e. cc
