use Rattle.std.proofs.Common.{refl}
use Rattle.m11_link_layout.proofs.Standing.{end_taken}
use Rattle.m11_link_layout.proofs.layout.Layout.accept_end.Goals as goal

pub returns-clause-takes : goal.returns-clause-takes
returns-clause-takes c =
    λ bottom before s. end_taken bottom before c.args.self.now c.self.view_is s
    (c.in_ok-end_of_file.ensures.takes before) refl refl refl
