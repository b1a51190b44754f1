use Rattle.m11_obj_print.proofs.LineEnds.{ends_with_no_blank}
use Rattle.m11_asm_listing.proofs.laws.no_line_ends_with_a_blank.Goals as goal

pub returns : goal.returns
returns c = record {
  listed = λ flags number location items text. ends_with_no_blank _;
  further = λ location items. ends_with_no_blank _;
  message = λ flags number text. ends_with_no_blank _;
  symbol = λ symbol. ends_with_no_blank _;
  section = λ section. ends_with_no_blank _;
}
