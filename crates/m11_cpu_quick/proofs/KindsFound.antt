-- The kinds of words, one found after another.
use Rattle.std.proofs.Common.{◌≡◌, ℕ, zero, suc, ◌<◌, ◌==◌, Bool, true, false, List, [], ◌∷◌, replicate, refl, sym, subst}
use Rattle.std.proofs.lemmas.Bool.{eqb-false, eqb-true}
use Rattle.std.proofs.lemmas.List.{get_or-set_other}
use Rattle.std.specs.Prelude.{slice_index_or, slice_set}
use Rattle.m11_cpu_quick.specs.KindTables.{AreKinds}
use Rattle.m11_cpu_quick.specs.Kinds.{Describes}
use Rattle.m11_cpu_quick.specs.declared.kinds.Kind.{Kind}
use Rattle.m11_cpu_quick.specs.declared.kinds.Kind.TheVariants.{Rarer, Unseen}

-- a look-up in a table of `Unseen` alone finds `Unseen`, or `Rarer` past its end; a property of both holds for what it finds
none_there : (P : Kind → Type 0) → P Unseen → P Rarer → (count word : ℕ) → P (slice_index_or (replicate count Unseen) word Rarer)
none_there P unseen rarer zero word = rarer
none_there P unseen rarer (suc count) zero = unseen
none_there P unseen rarer (suc count) (suc word) = none_there P unseen rarer count word

pub none_found : (word : ℕ) → word < 65536 → Describes (slice_index_or (replicate 65536 Unseen) word Rarer) word
none_found word within = none_there (λ kind. Describes kind word) tt tt 65536 word

-- if a look-up at a place finds a kind with a property, and a kind with this property is stored there, a look-up there still finds a kind
-- with the property
set_there : (P : Kind → Type 0) (kind : Kind) → P kind → (kinds : List Kind) (place : ℕ) → P (slice_index_or kinds place Rarer)
    → P (slice_index_or (slice_set kinds place kind) place Rarer)
set_there P kind holds [] place before = before
set_there P kind holds (first ∷ kinds) zero before = holds
set_there P kind holds (first ∷ kinds) (suc place) before = set_there P kind holds kinds place before

pub one_found : (kinds : List Kind) (word : ℕ) (kind : Kind) → AreKinds kinds → Describes kind word → AreKinds (slice_set kinds word kind)
one_found kinds word kind before found other within = by (word == other) refl
  where
    by : (b : Bool) → (word == other) ≡ b → Describes (slice_index_or (slice_set kinds word kind) other Rarer) other
    by true same =
        let P : ℕ → Type 0 = λ n. Describes (slice_index_or (slice_set kinds n kind) other Rarer) other in
        let Q : ℕ → Type 0 = λ n. Describes kind n in
        subst P (sym (eqb-true word other same))
        (set_there (λ k. Describes k other) kind (subst Q (eqb-true word other same) found) kinds other (before other within))
    by false apart =
        let P : Kind → Type 0 = λ k. Describes k other in
        subst P (sym (get_or-set_other kinds word other kind Rarer (λ same. eqb-false word other apart (sym same)))) (before other within)
