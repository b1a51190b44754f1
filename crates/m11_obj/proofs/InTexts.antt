-- Laws of texts: they hold the pieces, each at its location.
use Rattle.std.proofs.Common.{◌≡◌, ℕ, ◌+◌, ◌-◌, ◌%◌, ◌<◌, ◌≤◌, leb, Bool, true, List, [], ◌∷◌, ◌++◌, length, sym, ap, ◌∙◌, arith}
use Rattle.std.specs.Prelude.{◌&&◌, ◌==◌}
use Rattle.std.proofs.lemmas.Bool.{eqb-true, leb-true}
use Rattle.std.proofs.lemmas.List.{length-append}
use Rattle.m11_base.specs.Rad50.{is_same_name}
use Rattle.m11_obj.specs.declared.pieces.Piece.{Piece}
use Rattle.m11_obj.specs.declared.pieces.PieceContent.{PieceContent}
use Rattle.m11_obj.specs.declared.pieces.PieceContent.TheVariants.{Byte, Word, Limits}
use Rattle.m11_obj.specs.Relocations.{relocations_bytes}
use Rattle.m11_obj.specs.Laws.{HoldsPieces, LiesInText, location_of}
use Rattle.m11_obj.specs.Pieces.{content_bytes, last_location, relocations_of, size_of, text_bytes}
use Rattle.m11_obj.specs.Texts.{are_contiguous, follows, is_one_text}
use Rattle.m11_obj.proofs.Cutting.{are_cut}
use Rattle.m11_obj.proofs.TextCuts.{alone, beginning, left_of, nothing, relocations-append, right_of, text_bytes-append}

pub holds_pieces : (pieces : List Piece) → HoldsPieces pieces
holds_pieces pieces =
    let cut = are_cut is_one_text nothing beginning alone pieces in
    record { exact = cut.joined-is; longest = cut.longest-is }

some_bytes : (content : PieceContent) → 1 ≤ length (content_bytes content)
some_bytes (Byte stored) = omega arith
some_bytes (Word stored) = omega arith
some_bytes Limits = omega arith

-- the location `more` bytes after a piece is the location `size + more` bytes after its beginning, modulo 65536
next_location : (location size more : ℕ) → 1 ≤ size
    → ((location + (size - 1)) % 65536 + 1 + more) % 65536 ≡ (location + (size + more)) % 65536
next_location location size more h = omega arith

location_at : (location size at : ℕ) → 1 ≤ size → at < 65536 → at ≡ (location + (size - 1)) % 65536 + 1
    → at ≡ (location + size) % 65536
location_at location size at h k e = omega arith

is_next : (before piece : Piece) → follows before piece ≡ true → piece.location ≡ last_location before + 1
is_next before piece e = eqb-true piece.location (last_location before + 1)
    (right_of (is_same_name piece.section before.section) (piece.location == last_location before + 1) e)

placed : (first : Piece) (rest : List Piece) (piece : Piece) (after : List Piece) → piece.location < 65536
    → are_contiguous first (rest ++ piece ∷ after) ≡ true
    → piece.location ≡ (first.location + length (text_bytes (first ∷ rest))) % 65536
placed first [] piece after h e =
    location_at first.location (size_of first) piece.location (some_bytes first.content) h
    (is_next first piece (left_of (follows first piece) (are_contiguous piece after) e))
    ∙ ap (λ (n : ℕ). (first.location + n) % 65536)
    (omega (arith, length-append (content_bytes first.content) []))
placed first (next ∷ rest) piece after h e =
    let following : Bool = are_contiguous next (rest ++ piece ∷ after) in
    placed next rest piece after h (right_of (follows first next) following e)
    ∙ ap (λ (n : ℕ). (n + length (text_bytes (next ∷ rest))) % 65536)
    (is_next first next (left_of (follows first next) following e))
    ∙ next_location first.location (size_of first) (length (text_bytes (next ∷ rest))) (some_bytes first.content)
    ∙ ap (λ (n : ℕ). (first.location + n) % 65536)
    (sym (length-append (content_bytes first.content) (text_bytes (next ∷ rest))))

at_its_location : (before : List Piece) (piece : Piece) (after : List Piece) → piece.location < 65536
    → is_one_text (before ++ piece ∷ after) ≡ true
    → piece.location ≡ (location_of (before ++ piece ∷ after) + length (text_bytes before)) % 65536
unfolding is_one_text
at_its_location [] piece after h e = omega arith
at_its_location (first ∷ rest) piece after h e =
    placed first rest piece after h (left_of (are_contiguous first (rest ++ piece ∷ after)) _ e)

few_bytes : (pieces : List Piece) → is_one_text pieces ≡ true → length (text_bytes pieces) ≤ 32
unfolding is_one_text
few_bytes [] e = omega arith
few_bytes (first ∷ rest) e =
    let bytes : Bool = leb (length (text_bytes (first ∷ rest))) 32 in
    let relocations : Bool = leb (length (relocations_bytes (relocations_of (first ∷ rest)))) 120 in
    leb-true _ 32 (left_of bytes relocations (right_of (are_contiguous first rest) (bytes && relocations) e))

pub lies_in_text : (before after : List Piece) (piece : Piece) → piece.location < 65536
    → is_one_text (before ++ piece ∷ after) ≡ true → LiesInText before piece after
lies_in_text before after piece h e = record {
  location = at_its_location before piece after h e;
  bytes = text_bytes-append before (piece ∷ after);
  relocations = relocations-append 4 before (piece ∷ after);
  within = omega (
    arith,
    few_bytes (before ++ piece ∷ after) e,
    ap length (text_bytes-append before (piece ∷ after)),
    length-append (text_bytes before) (text_bytes (piece ∷ after)),
    length-append (content_bytes piece.content) (text_bytes after),
  );
}
