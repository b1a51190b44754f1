-- One unfolding after another.
use Rattle.std.proofs.Common.{List, [], ◌∷◌, ◌++◌, append_assoc, append-nil, sym, subst}
use Rattle.m11_unfold_rules.specs.Acting.{act}
use Rattle.m11_unfold_rules.specs.Stages.{Stage}
use Rattle.m11_unfold_rules.specs.Unfolding.{UnfoldedLine, Leads, given}
use Rattle.m11_unfold_rules.specs.Unfolding as steps

pub follows : (before middle after : Stage) (done later : List UnfoldedLine) → Leads before done middle → Leads middle later after
    → Leads before (done ++ later) after
follows before middle _ done _ first steps.Leads.Stays =
    let P : List UnfoldedLine → Type 0 = λ all. Leads before all middle in
    subst P (sym (append-nil done)) first
follows before middle _ done _ first (steps.Leads.Passing later stage after steps' fault moves) =
    steps.Leads.Passing (done ++ later) stage after (follows before middle stage done later first steps') fault moves
follows before middle _ done _ first (steps.Leads.Giving later stage after live known steps' fault moves acts) =
    let P : List UnfoldedLine → Type 0 = λ all. Leads before all (act known after live.line.text).after in
    subst P (append_assoc done later (given known live after ∷ []))
    (steps.Leads.Giving (done ++ later) stage after live known (follows before middle stage done later first steps') fault moves acts)
