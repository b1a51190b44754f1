-- One more line: its writes, its pieces, and the count of flagged lines.
use Rattle.std.proofs.Common.{◌≡◌, ◌∙◌, ℕ, ◌+◌, List, [], ◌∷◌, ◌++◌, count_by, cond, if◌then◌else◌, refl, sym, ap, append-nil, append_assoc, arith}
use Rattle.std.proofs.lemmas.List.{map-append}
use Rattle.std.proofs.lemmas.List.Concat.{flat_map-append}
use Rattle.std.proofs.lemmas.List.Sums.{sum_by-append, sum_by-cons}
use Rattle.std.specs.List.{flat_map}
use Rattle.m11_base_writes.specs.Outputs.{Write}
use Rattle.m11_obj.specs.declared.pieces.Piece.{Piece}
use Rattle.m11_unfold_rules.specs.Unfolding.{UnfoldedLine}
use Rattle.m11_asm_rules.specs.Lines.{after_line, pieces}
use Rattle.m11_asm_rules.specs.Meanings.{Map}
use Rattle.m11_asm_rules.specs.Placements.{LinePlacement, after_lines, placed, placed_from, placement}
use Rattle.m11_asm_rules.specs.Tables.{Table, first_table}
use Rattle.m11_asm_passes.specs.Lines.{NumberedLine, givens, table_at}
use Rattle.m11_asm.specs.Program.{Program}
use Rattle.m11_asm.specs.Written.{flagged_in, head_before, is_flagged, flags_after, flags_at, line_writes, pieces_in, written, written_after}

givens_more : (all : List NumberedLine) (one : NumberedLine) → givens (all ++ one ∷ []) ≡ givens all ++ one.given ∷ []
givens_more all one = map-append (λ (line : NumberedLine). line.given) all (one ∷ [])

-- ---- pieces

placed_more : (map : Map) (table : Table) (all : List UnfoldedLine) (one : UnfoldedLine)
    → placed_from map table (all ++ one ∷ []) ≡ placed_from map table all ++ placed map (after_lines map table all) one ∷ []
placed_more map table [] one = refl
placed_more map table (given ∷ all) one =
    ap (λ (l : List LinePlacement). placed map table given ∷ l) (placed_more map (after_line map table given) all one)

pub pieces_more : (map : Map) (all : List NumberedLine) (one : NumberedLine)
    → pieces_in map (all ++ one ∷ []) ≡ pieces_in map all ++ pieces map (table_at map all) one.given
unfolding pieces_in
pieces_more map all one =
    ap (λ (l : List UnfoldedLine). flat_map (λ (o : LinePlacement). o.pieces) (placement map l)) (givens_more all one)
    ∙ ap (flat_map (λ (o : LinePlacement). o.pieces)) (placed_more map first_table (givens all) one.given)
    ∙ flat_map-append (λ (o : LinePlacement). o.pieces) (placement map (givens all)) (placed map (table_at map all) one.given ∷ [])
    ∙ ap (λ (l : List Piece). pieces_in map all ++ l) (append-nil (pieces map (table_at map all) one.given))

-- ---- writes

module _ (program : Program) where
  -- the writes of one more line, including the head of the object if it is the first
  abbrev pub next_writes : List NumberedLine → NumberedLine → List Write
  next_writes before one = head_before program before ++ line_writes program before one

  more_after : (before all : List NumberedLine) (one : NumberedLine)
      → written_after program before (all ++ one ∷ []) ≡ written_after program before all ++ next_writes (before ++ all) one
  more_after before [] one =
      append-nil (next_writes before one) ∙ ap (λ (l : List NumberedLine). next_writes l one) (sym (append-nil before))
  more_after before (line ∷ all) one =
      ap (λ (l : List Write). next_writes before line ++ l) (more_after (before ++ line ∷ []) all one)
      ∙ sym (append_assoc (next_writes before line) (written_after program (before ++ line ∷ []) all)
      (next_writes ((before ++ line ∷ []) ++ all) one))
      ∙ ap (λ (l : List NumberedLine). written_after program before (line ∷ all) ++ next_writes l one)
      (append_assoc before (line ∷ []) all)

  pub written_more : (all : List NumberedLine) (one : NumberedLine)
      → written program (all ++ one ∷ []) ≡ written program all ++ next_writes all one
  unfolding written
  written_more all one = more_after [] all one

  pub nothing_written : written program [] ≡ []
  unfolding written
  nothing_written = refl

  -- ---- flagged lines

  flags_more : (before all : List NumberedLine) (one : NumberedLine)
      → flags_after program before (all ++ one ∷ []) ≡ flags_after program before all ++ flags_at program (before ++ all) one ∷ []
  flags_more before [] one = ap (λ (l : List NumberedLine). flags_at program l one ∷ []) (sym (append-nil before))
  flags_more before (line ∷ all) one =
      ap (λ (l : List ℕ). flags_at program before line ∷ l) (flags_more (before ++ line ∷ []) all one)
      ∙ ap (λ (l : List NumberedLine). flags_after program before (line ∷ all) ++ flags_at program l one ∷ [])
      (append_assoc before (line ∷ []) all)

  abbrev one_if_flagged : ℕ → ℕ
  one_if_flagged flags = cond (is_flagged flags) 1 0

  flagged_with : (flags : List ℕ) (last : ℕ)
      → count_by is_flagged (flags ++ last ∷ []) ≡ count_by is_flagged flags + (if is_flagged last then 1 else 0)
  flagged_with flags last =
      sum_by-append one_if_flagged flags (last ∷ []) ∙ ap (λ (n : ℕ). count_by is_flagged flags + n) (sum_by-cons one_if_flagged last [] ∙ omega arith)

  pub flagged_more : (all : List NumberedLine) (one : NumberedLine) → flagged_in program (all ++ one ∷ [])
      ≡ flagged_in program all + (if is_flagged (flags_at program all one) then 1 else 0)
  unfolding flagged_in
  flagged_more all one =
      ap (count_by is_flagged) (flags_more [] all one)
      ∙ flagged_with (flags_after program [] all) (flags_at program all one)

  pub none_flagged : flagged_in program [] ≡ 0
  unfolding flagged_in
  none_flagged = refl
