-- The addresses on which the bytes of a linked program depend. (MACRO-11 Language Reference Manual, "Relocation and linking".)
use Rattle.std.specs.Prelude.{ℕ}
use Rattle.m11_base.specs.Rad50.{Name}

pub record Addresses : Type 0 where
  -- the address at which a source's contribution to a section begins, by the index of the source and the name of the section
  pub base : ℕ → Name → ℕ
  -- the value of a global, by its name
  pub global : Name → ℕ
  -- the first address of relocatable sections, and the first one after them
  pub bottom : ℕ
  pub top : ℕ
