use Rattle.std.proofs.Common.{◌<◌, ◌≤◌, List, [], ◌∷◌, ◌++◌, length, refl, sym, ap, subst, ◌∙◌, arith}
use Rattle.m11_obj.specs.declared.gsd.GsdEntry.{GsdEntry}
use Rattle.m11_obj.specs.Directory.{IsOpenDirectory, written_by}
use Rattle.m11_obj.proofs.RecordCuts.{row_goes_in, row_closes}
use Rattle.m11_obj.proofs.directory.OpenDirectory.accept.Goals as goal

pub returns-then-self-lt-MOST_ENTRIES : goal.returns-then-self-lt-MOST_ENTRIES
returns-then-self-lt-MOST_ENTRIES c = λ rows written h.
    let room : length c.args.self.now < 15 = omega (arith, ap length c.self.view_is, c.self.invariant.0) in
    let pushed = c.push.ensures ∙ ap (λ (e : GsdEntry). c.args.self.now ++ e ∷ []) c.entry.ensures in (
      [],
      subst (λ (waiting : List GsdEntry). IsOpenDirectory (rows ++ c.args.row.now ∷ []) (written ++ []) waiting) (sym pushed)
          (row_goes_in rows written c.args.row.now c.args.self.now h room),
      (refl, refl),
    )

pub returns : goal.returns
returns c = λ rows written h.
    let full : 15 ≤ length c.args.self.now = omega (arith, ap length c.self.view_is, c.self.invariant.0) in
    let pushed = c.push-2.ensures ∙ ap (λ (e : GsdEntry). e ∷ []) c.entry-2.ensures in (
      written_by c.args.self.now,
      subst (λ (waiting : List GsdEntry). IsOpenDirectory (rows ++ c.args.row.now ∷ []) (written ++ written_by c.args.self.now) waiting)
          (sym pushed) (row_closes rows written c.args.row.now c.args.self.now h full),
      c.record-full.ensures,
    )
