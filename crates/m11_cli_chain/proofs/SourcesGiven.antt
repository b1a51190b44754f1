-- The sources of a chain are those of their lines.
use Rattle.std.proofs.Common.{List, [], ◌∷◌, map, refl}
use Rattle.m11_asm.specs.Written.{pieces_in}
use Rattle.m11_cli_chain.specs.Sources.{source_of, sources_of}
use Rattle.m11_cli_image.specs.Agreement.{AreOf, IsOf}
use Rattle.m11_asm_passes.specs.Lines.{NumberedLine, givens}

one_given : (lines : List NumberedLine) → IsOf (givens lines) (source_of lines)
unfolding pieces_in
one_given lines = record { table = refl; pieces = refl }

pub all_given : (all : List (List NumberedLine)) → AreOf (map givens all) (sources_of all)
all_given [] = tt
all_given (lines ∷ all) = (one_given lines, all_given all)
