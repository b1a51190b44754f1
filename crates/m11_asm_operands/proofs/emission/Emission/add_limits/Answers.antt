use Rattle.std.proofs.Common.{◌∙◌, ℕ, List, [], ◌∷◌, ◌++◌, sym, ap}
use Rattle.std.specs.Int.Bits.{or_zero_r}
use Rattle.m11_obj.specs.declared.pieces.PieceContent.{PieceContent}
use Rattle.m11_obj.specs.declared.pieces.PieceContent.TheVariants.{Limits}
use Rattle.m11_scan.specs.Views.{bits_of}
use Rattle.m11_asm_rules.specs.Contents.{Emission, emission, followed_by}
use Rattle.m11_asm_operands.proofs.emission.Emission.add_limits.Goals as goal

pub returns : goal.returns
returns c =
    let old = c.self.inside in
    ap (λ (l : List PieceContent). emission l (bits_of old.flags)) c.in_ok-extend_from_slice.ensures.items
    ∙ ap (λ (n : ℕ). emission (old.contents.items ++ Limits ∷ []) n) (sym (or_zero_r (bits_of old.flags)))
    ∙ ap (λ (e : Emission). followed_by e (emission (Limits ∷ []) 0)) c.self.view_is
