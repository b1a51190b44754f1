-- The two words of the name `. ABS.`; and a name that has words isn't None.
use Rattle.std.proofs.Common.{◌≡◌, ℕ, Option, Some, None, refl}
use Rattle.std.specs.Prelude.{codes}
use Rattle.m11_base.specs.Rad50.{name_of, code_of, alphabet}

pub absolute_words : name_of (codes ". ABS.") ≡ Some (0o127401, 0o7624)
unfolding code_of alphabet
absolute_words = refl

pub never_none : (o : Option (ℕ × ℕ)) (x : ℕ × ℕ) → None ≡ o → o ≡ Some x → ⊥
never_none o x e f = none_some o x e f
  where
    none_some : (o : Option (ℕ × ℕ)) (x : ℕ × ℕ) → None ≡ o → o ≡ Some x → ⊥
    none_some o x e f = cc
