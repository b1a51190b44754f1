-- Feeds in memory have known texts.
use Rattle.std.proofs.Common.{◌≡◌, List, [], ◌∷◌, map, Option, Some, None, ap, subst, sym}
use Rattle.m11_base.specs.Devices.{Bytes}
use Rattle.m11_base.specs.Feed.{Ends, Text}
use Rattle.m11_base_writes.specs.Passes.{AreKnown, IsKnown}
use Rattle.m11_cli_chain.specs.Steps.{whole_text}

same_text : (one other : Text) → ◌≡◌ {A = Option Text} (Some one) (Some other) → one ≡ other
same_text one other e = cc

abbrev Texts : Type 0
Texts = List (Option Text)

first_is : (one other : Option Text) (ones others : Texts) → one ∷ ones ≡ other ∷ others → one ≡ other
first_is one other ones others e = cc

rest_is : (one other : Option Text) (ones others : Texts) → one ∷ ones ≡ other ∷ others → ones ≡ others
rest_is one other ones others e = cc

none_is : (one : Option Text) (ones : Texts) → ◌≡◌ {A = Texts} [] (one ∷ ones) → ⊥
none_is one ones e = cc

some_is : (one : Option Text) (ones : Texts) → ◌≡◌ {A = Texts} (one ∷ ones) [] → ⊥
some_is one ones e = cc

module _ {F : Type 0} (text : F → Option Text) where
  is_known : (one : Option Text) (bytes : Bytes) → one ≡ whole_text bytes → IsKnown one bytes
  is_known (Some t) bytes e = ap (λ (u : Text). u.bytes) (same_text t (record { bytes = bytes; ending = Ends }) e)
  is_known None bytes e = absurd cc

  are_known : (feeds : List F) (sources : List Bytes) → map text feeds ≡ map whole_text sources → AreKnown text feeds sources
  are_known [] [] e = tt
  are_known [] (source ∷ sources) e = none_is (whole_text source) (map whole_text sources) e
  are_known (feed ∷ feeds) [] e = some_is (text feed) (map text feeds) e
  are_known (feed ∷ feeds) (source ∷ sources) e = (
    is_known (text feed) source (first_is (text feed) (whole_text source) (map text feeds) (map whole_text sources) e),
    are_known feeds sources (rest_is (text feed) (whole_text source) (map text feeds) (map whole_text sources) e),
  )

  -- if the texts of feeds are known, the texts of a slice with the same feeds are known
  pub known_slice : (slice feeds : List F) (sources : List Bytes) → slice ≡ feeds → map text feeds ≡ map whole_text sources
      → AreKnown text slice sources
  known_slice slice feeds sources same e = subst (λ (fs : List F). AreKnown text fs sources) (sym same) (are_known feeds sources e)
