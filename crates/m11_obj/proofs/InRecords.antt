-- Laws of directories: their records hold the rows.
use Rattle.std.proofs.Common.{◌≡◌, ◌≤◌, leb, Bool, true, false, List, [], ◌∷◌, ◌++◌, length, map, refl, sym, ◌∙◌, arith}
use Rattle.std.proofs.lemmas.Bool.{false≢true, leb-false, leb-true}
use Rattle.std.proofs.lemmas.List.{length-append}
use Rattle.m11_obj.specs.declared.gsd.GsdEntry.{GsdEntry}
use Rattle.m11_obj.specs.declared.directory.DirectoryRow.{DirectoryRow}
use Rattle.m11_obj.specs.Directory.{entry_of, is_one_record}
use Rattle.m11_obj.specs.Fronts.{AreLongest}
use Rattle.m11_obj.specs.Laws.{AreFull, HoldsRows}
use Rattle.m11_obj.proofs.Cutting.{are_cut}
use Rattle.m11_obj.proofs.RecordCuts.{alone, beginning, few, fits, nothing}

some : (entries : List GsdEntry) → is_one_record entries ≡ true → 1 ≤ length entries
some [] e = absurd (false≢true (sym nothing ∙ e))
some (x ∷ xs) e = omega arith

full : (entries : List GsdEntry) (next : GsdEntry) → is_one_record (entries ++ next ∷ []) ≡ false → 15 ≤ length entries
full [] next e = absurd (false≢true (sym e ∙ alone next))
full (x ∷ xs) next e = by_size (leb (length (x ∷ xs)) 14) refl
  where
    by_size : (b : Bool) → leb (length (x ∷ xs)) 14 ≡ b → 15 ≤ length (x ∷ xs)
    by_size true h = absurd (false≢true (sym e ∙ fits x (xs ++ next ∷ [])
        (omega (arith, length-append (x ∷ xs) (next ∷ []), leb-true (length (x ∷ xs)) 14 h))))
    by_size false h = leb-false (length (x ∷ xs)) 14 h

are_full : (fronts : List (List GsdEntry)) → AreLongest is_one_record fronts → AreFull fronts
are_full [] h = tt
are_full (last ∷ []) h = (some last h.0, few last h.0)
are_full (entries ∷ [] ∷ others) h = absurd (false≢true (sym nothing ∙ h.2.0))
are_full (entries ∷ (next ∷ more) ∷ others) h = (
  omega (arith, few entries h.0, full entries next h.1),
  are_full ((next ∷ more) ∷ others) h.2,
)

pub holds_rows : (rows : List DirectoryRow) → HoldsRows rows
holds_rows rows =
    let cut = are_cut is_one_record nothing beginning alone (map entry_of rows) in
    record { exact = cut.joined-is; full = are_full _ cut.longest-is }
