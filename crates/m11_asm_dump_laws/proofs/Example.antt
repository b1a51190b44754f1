-- A source of a label and a branch to it.
use Rattle.std.proofs.Common.{◌≡◌, List, [], ◌∷◌, refl, arith, codes}
use Rattle.m11_base.specs.Instructions.{other_names, row_of, rows}
use Rattle.m11_base.specs.Names.{name_in_words}
use Rattle.m11_base.specs.Rad50.{alphabet, character_of, code_of}
use Rattle.m11_base.specs.declared.operand.Register.TheVariants.{R0, R1, R2, R3, R4, R5, Sp, Pc}
use Rattle.m11_base_disassembly.specs.declared.symbols.Scope.TheVariants.{Unknown}
use Rattle.m11_base_disassembly.specs.declared.symbols.Symbol.{Symbol}
use Rattle.m11_asm_dump_laws.specs.Items.{AreWellFormed, Item, Labelled, MovedTo, Shows, source_of}

abbrev pub label : Symbol
label = record { name = name_in_words (codes "L01000"); value = 0o1000; scope = Unknown }

abbrev pub branch : List Item
branch = MovedTo 0o1000 ∷ (Labelled label ∷ (Shows 0o777 [] ∷ []))

pub branch_formed : AreWellFormed (label ∷ []) branch
unfolding alphabet character_of code_of row_of rows other_names
branch_formed = record {
  sound = (omega arith, (refl, ((refl, omega arith, tt, refl), tt)));
  spelled = (record { alone = refl; is_name = refl; spelled = refl }, tt);
  others = (elim [ R0 ↦ refl | R1 ↦ refl | R2 ↦ refl | R3 ↦ refl | R4 ↦ refl | R5 ↦ refl | Sp ↦ refl | Pc ↦ refl ], tt);
  distinct = (tt, tt);
  known = (([], [], refl), tt);
}

pub branch_text : source_of (label ∷ []) 0o1000 branch
    ≡ codes "\t.ASECT" ∷ (codes "\t.=1000" ∷ (codes "L01000:" ∷ (codes "\tBR     L01000" ∷ (codes "\t.END\tL01000" ∷ []))))
unfolding alphabet character_of code_of row_of rows other_names
branch_text = refl
