-- The worked program has the bytes that were worked out by hand.
use Rattle.std.proofs.Common.{◌≡◌, [], ◌∷◌, refl}
use Rattle.m11_base.specs.Instructions.{other_names, row_of, rows}
use Rattle.m11_base.specs.Rad50.{alphabet, code_of}
use Rattle.m11_link_modules.specs.Positions.{distinct}
use Rattle.m11_asm_rules.specs.Lines.{line_change, line_emission}
use Rattle.m11_scan.specs.Pieces.{first_piece}
use Rattle.m11_scan_expressions.specs.Values.{value_of}
use Rattle.m11_cli_image.specs.Globals.{global}
use Rattle.m11_cli_image.specs.Image.{addresses_of, all_placed}
use Rattle.m11_cli_image.specs.Sections.{contribution}
use Rattle.m11_cli_image.specs.Agreement.{AbsolutesAgree, AreOf}
use Rattle.m11_cli_image.specs.Lines.{all_lying}
use Rattle.m11_cli_image.specs.Stated.{line_stated}
use Rattle.m11_cli_image.specs.Worked.{fetching, giving, worked_addresses, worked_bytes, worked_sources}

pub worked_out : all_lying worked_addresses (fetching ∷ giving ∷ []) ≡ worked_bytes
unfolding alphabet code_of first_piece value_of line_change line_stated rows other_names row_of
worked_out = refl

pub placed_out : all_placed (addresses_of 0o1000 worked_sources) worked_sources ≡ worked_bytes
unfolding alphabet code_of first_piece value_of line_change line_emission rows other_names row_of addresses_of contribution global distinct
placed_out = refl

pub worked_agree : AbsolutesAgree worked_sources
unfolding alphabet code_of first_piece value_of line_change rows other_names row_of
worked_agree = (λ e. refl, (λ e. e, (λ e. refl, (λ e. e, tt))))

pub worked_of : AreOf (fetching ∷ giving ∷ []) worked_sources
worked_of = (record { table = refl; pieces = refl }, (record { table = refl; pieces = refl }, tt))
