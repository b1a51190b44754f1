-- Placed lines: their pieces and flags, and the table after one that moves the location counter.
use Rattle.std.proofs.Common.{◌≡◌, ◌∙◌, ℕ, ◌<◌, List, [], ◌∷◌, length, map, ap, arith}
use Rattle.std.specs.List.{AllByRecursion, flat_map}
use Rattle.std.proofs.lemmas.List.{get_or-set_same, length-set}
use Rattle.m11_obj.specs.declared.pieces.Piece.{Piece}
use Rattle.m11_scan_expressions.specs.Remarks.{Remarks}
use Rattle.m11_unfold_rules.specs.Unfolding.{UnfoldedLine}
use Rattle.m11_asm_rules.specs.Changes.{moved, with_move}
use Rattle.m11_asm_rules.specs.Locations.{Move}
use Rattle.m11_asm_rules.specs.Placements.{LinePlacement}
use Rattle.m11_asm_rules.specs.Tables.{Table, location}
use Rattle.m11_asm_dump_laws.specs.Knowledge.{ReadsAsMeant}
use Rattle.m11_asm_dump_laws.specs.Lines.{HasCounter}
use Rattle.m11_asm_dump_laws.proofs.PlainSources.{IsAlone}

-- ---- the table after a move

-- the counter of the current section after a move
pub counter_is : (table : Table) (move : Move) → HasCounter table → location (with_move move table) ≡ moved move (location table)
counter_is table move counted = get_or-set_same table.counters table.modes.section (moved move (location table)) 0 counted

pub still_reads : (table : Table) (move : Move) → ReadsAsMeant table → ReadsAsMeant (with_move move table)
still_reads table move reads =
    record { section = reads.section; radix = reads.radix; registers = reads.registers; once = reads.once }

pub still_counted : (table : Table) (move : Move) → HasCounter table → HasCounter (with_move move table)
still_counted table move counted =
    let same = length-set table.counters table.modes.section (moved move (location table)) in omega (arith, counted, same)

-- ---- placed lines

-- the pieces of placed lines, and their flags
abbrev pub pieces_in : List LinePlacement → List Piece
pieces_in lines = flat_map (λ (line : LinePlacement). line.pieces) lines

abbrev pub flags_in : List LinePlacement → List ℕ
flags_in lines = map (λ (line : LinePlacement). line.flags) lines

-- lines that unfolding leaves alone have no flags but their own
pub flags_zero : (placements : List LinePlacement) (lines : List UnfoldedLine)
    → flags_in placements ≡ map (λ (given : UnfoldedLine). given.remarks.flags) lines → AllByRecursion IsAlone lines
    → AllByRecursion (λ (line : LinePlacement). line.flags ≡ 0) placements
flags_zero [] lines same alone = tt
flags_zero (placed ∷ placements) [] same alone = absurd (cc)
flags_zero (placed ∷ placements) (given ∷ lines) same alone =
    let here : placed.flags ≡ given.remarks.flags = cc in
    let others : flags_in placements ≡ map (λ (g : UnfoldedLine). g.remarks.flags) lines = cc in
    (here ∙ ap (λ (r : Remarks). r.flags) alone.0.1, flags_zero placements lines others alone.1)
