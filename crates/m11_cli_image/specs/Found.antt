-- The addresses that a linker finds, as addresses on which the bytes of a linked program depend. (This project's own.)
use Rattle.std.specs.Prelude.{◌≡◌, ℕ}
use Rattle.m11_asm_laws.specs.Targets.{AreWords}
use Rattle.m11_base.specs.Rad50.{Name}
use Rattle.m11_link_text.specs.Findings.{Findings}
use Rattle.m11_link_text.specs.Relocation.{symbol}
use Rattle.m11_cli_image.specs.Addresses.{Addresses}

-- these addresses are those that a linker found, and the bases and the values of globals are below 65536
pub record AreFound (found : Findings) (program : Addresses) : Type 0 where
  pub bases_are : (source : ℕ) (name : Name) → program.base source name ≡ found.base source name
  pub globals_are : (name : Name) → program.global name ≡ symbol found name
  pub bottom_is : program.bottom ≡ found.bottom
  pub top_is : program.top ≡ found.top
  pub words : AreWords found
