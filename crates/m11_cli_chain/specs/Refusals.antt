-- Faults of the input of a chain. (This project's own.)
use Rattle.std.specs.Prelude.{⊤}
use Rattle.m11_asm_faults.specs.declared.fault.AsmFault.{AsmFault}
use Rattle.m11_asm_faults.specs.declared.fault.AsmFault.TheVariants as assembly
use Rattle.m11_link_layout.specs.declared.fault.LinkFault.{LinkFault}
use Rattle.m11_link_layout.specs.declared.fault.LinkFault.TheVariants as linking

-- the fault is one of the texts: it is neither a device's, `Read` or `Write`, nor `NoMemory`
abbrev pub IsOfTexts : AsmFault → Type 0
IsOfTexts assembly.Read = ⊥
IsOfTexts (assembly.Write output) = ⊥
IsOfTexts assembly.NoMemory = ⊥
IsOfTexts stopped = ⊤

-- the fault is one of the objects: it is neither a device's, `Read` or `Write`, nor `NoMemory`
abbrev pub IsOfObjects : LinkFault → Type 0
IsOfObjects linking.Read = ⊥
IsOfObjects (linking.Write output) = ⊥
IsOfObjects linking.NoMemory = ⊥
IsOfObjects stopped = ⊤
