-- The pieces of live lines are at locations that are words.
use Rattle.std.proofs.Common.{ℕ, ◌+◌, ◌<◌, ◌%◌, true, List, [], ◌∷◌, ◌++◌, arith}
use Rattle.std.specs.List.{AllByRecursion, flat_map}
use Rattle.m11_asm.specs.Written.{pieces_in}
use Rattle.m11_base.specs.Devices.{Bytes}
use Rattle.m11_base.specs.Rad50.{Name}
use Rattle.m11_cli_image.specs.Objects.{LiesAtWord}
use Rattle.m11_obj.specs.declared.pieces.Piece.{Piece}
use Rattle.m11_obj.specs.declared.pieces.PieceContent.{PieceContent}
use Rattle.m11_asm_passes.specs.Lines.{NumberedLine, givens}
use Rattle.m11_asm_rules.specs.Alignment.{gap, location_for}
use Rattle.m11_asm_rules.specs.Contents.{content_size, further, pieces_from}
use Rattle.m11_asm_rules.specs.Actions.{Action, Operate, Store}
use Rattle.m11_asm_rules.specs.Lines.{after_line, emission_by, line_emission, pieces, put_location, stands}
use Rattle.m11_asm_rules.specs.Operations.{action}
use Rattle.m11_asm_rules.specs.Meanings.{Map}
use Rattle.m11_asm_rules.specs.Effects.{is_even}
use Rattle.m11_asm_rules.specs.Placements.{LinePlacement, placed_from}
use Rattle.m11_asm_rules.specs.Tables.{Table, first_table, location, section_name}
use Rattle.m11_unfold_rules.specs.Unfolding.{UnfoldedLine}

word : (n : ℕ) → n % 65536 < 65536
word n = omega arith

from_word : (section : Name) (start : ℕ) (contents : List PieceContent) → start < 65536
    → AllByRecursion LiesAtWord (pieces_from section start contents)
from_word section start [] low = tt
from_word section start (content ∷ contents) low =
    (low, from_word section (further start (content_size content)) contents (word (start + content_size content)))

-- the pieces that an action emits are at locations that are words
action_at_words : (map : Map) (stood : Table) (line : Bytes) (done : Action)
    → AllByRecursion LiesAtWord (pieces_from (section_name stood) (put_location stood done) (emission_by map stood line done).contents)
action_at_words map stood line (Store storage) =
    from_word (section_name stood) (location_for (is_even storage) (location stood)) _ (word (location stood + gap (is_even storage) (location stood)))
action_at_words map stood line (Operate operation start) =
    from_word (section_name stood) (location_for true (location stood)) (emission_by map stood line (Operate operation start)).contents
    (word (location stood + gap true (location stood)))
action_at_words map stood line other = tt

line_at_words : (map : Map) (table : Table) (given : UnfoldedLine) → AllByRecursion LiesAtWord (pieces map table given)
unfolding line_emission
line_at_words map table given =
    action_at_words map (stands table given) given.live.line.text (action given.is_own given.arguments given.live.line.text)

both_at_words : (xs ys : List Piece) → AllByRecursion LiesAtWord xs → AllByRecursion LiesAtWord ys → AllByRecursion LiesAtWord (xs ++ ys)
both_at_words [] ys first second = second
both_at_words (x ∷ xs) ys first second = (first.0, both_at_words xs ys first.1 second)

lines_at_words : (map : Map) (table : Table) (all : List UnfoldedLine)
    → AllByRecursion LiesAtWord (flat_map (λ (o : LinePlacement). o.pieces) (placed_from map table all))
lines_at_words map table [] = tt
lines_at_words map table (given ∷ all) =
    both_at_words (pieces map table given) (flat_map (λ (o : LinePlacement). o.pieces) (placed_from map (after_line map table given) all))
    (line_at_words map table given) (lines_at_words map (after_line map table given) all)

pub pieces_at_words : (map : Map) (all : List NumberedLine) → AllByRecursion LiesAtWord (pieces_in map all)
unfolding pieces_in
pieces_at_words map all = lines_at_words map first_table (givens all)
