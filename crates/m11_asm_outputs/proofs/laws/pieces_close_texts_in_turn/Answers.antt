use Rattle.m11_asm_outputs.proofs.Closing.{closed-append, closed_by-append, closed_by-nil}
use Rattle.m11_asm_outputs.proofs.laws.pieces_close_texts_in_turn.Goals as goal

pub returns-clause-kept : goal.returns-clause-kept
returns-clause-kept c = λ before pieces. closed-append before pieces

pub returns-clause-none : goal.returns-clause-none
returns-clause-none c = λ before. closed_by-nil before

pub returns-clause-in_turn : goal.returns-clause-in_turn
returns-clause-in_turn c = λ before pieces more. closed_by-append before pieces more
