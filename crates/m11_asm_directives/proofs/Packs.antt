-- The codes of an incomplete word, and what is emitted with them.
use Rattle.std.proofs.Common.{◌≡◌, ℕ, List, [], ◌∷◌, ◌++◌, Result, Ok, Err, IfOk, sym, ap, ◌∙◌}
use Rattle.std.specs.Int.Bits.{or_zero_l}
use Rattle.m11_asm_directives.specs.Packing.{codes_first, codes_of, packing, waiting_codes}
use Rattle.m11_asm_directives.specs.declared.packing.Waiting.{Waiting}
use Rattle.m11_asm_directives.specs.declared.packing.Waiting.TheVariants.{Nothing, Two}
use Rattle.m11_obj.specs.declared.pieces.PieceContent.{PieceContent}
use Rattle.m11_asm_rules.specs.Contents.{Emission, fixed_word, followed_by, nothing, emission}
use Rattle.m11_asm_rules.specs.Strings.{Codes, codes_then, packed, packed_words}
use Rattle.m11_asm_operands.proofs.Joining.{followed_joins, followed_nothing}

-- a third code completes a word
pub third_code : (done new : Emission) (waiting : Waiting) (first second code word : ℕ) → waiting ≡ Two first second
    → packed first second code ≡ fixed_word word → new ≡ followed_by done (emission (fixed_word word ∷ []) 0)
    → (more : Codes) → packing new Nothing more ≡ packing done waiting (codes_first (code ∷ []) more)
third_code done new waiting first second code word is same adds more =
    ap (λ (p : Emission). packing p Nothing more) (adds ∙ ap (λ (c : PieceContent). followed_by done (emission (c ∷ []) 0)) (sym same))
    ∙ followed_joins done (emission (packed first second code ∷ []) 0) (emission (packed_words more.codes) more.flags)
    ∙ ap (λ (l : ℕ). followed_by done (emission (packed first second code ∷ packed_words more.codes) l)) (or_zero_l more.flags)
    ∙ ap (λ (w : Waiting). packing done w (codes_first (code ∷ []) more)) (sym is)

-- the flags of codes may be added before the codes
pub flagged_codes : (done new : Emission) (waiting : Waiting) (codes : List ℕ) (flags bits : ℕ) → bits ≡ flags
    → new ≡ followed_by done (nothing bits)
    → (more : Codes) → packing new waiting (codes_first codes more) ≡ packing done waiting (codes_then (codes_of codes flags) more)
flagged_codes done new waiting codes flags bits same adds more =
    ap (λ (p : Emission). packing p waiting (codes_first codes more)) (adds ∙ ap (λ (l : ℕ). followed_by done (nothing l)) same)
    ∙ followed_joins done (nothing flags) (emission (packed_words (waiting_codes waiting ++ (codes ++ more.codes))) more.flags)

-- the same holds of a call that adds the codes, unless memory is refused
pub codes_after : {E : Type 0} (result : Result Waiting E) (old flagged new : Emission) (waiting : Waiting) (codes : List ℕ)
    (flags bits : ℕ) → bits ≡ flags → flagged ≡ followed_by old (nothing bits)
    → IfOk result (λ after. (more : Codes) → packing new after more ≡ packing flagged waiting (codes_first codes more))
    → IfOk result (λ after. (more : Codes)
    → packing new after more ≡ packing old waiting (codes_then (codes_of codes flags) more))
codes_after (Ok after) old flagged new waiting codes flags bits same adds given = λ more.
    given more ∙ flagged_codes old flagged waiting codes flags bits same adds more
codes_after (Err e) old flagged new waiting codes flags bits same adds given = tt

-- if no code waits, nothing is left to emit
pub none_waits : (done : Emission) (waiting : Waiting) → waiting ≡ Nothing → done ≡ packing done waiting (codes_of [] 0)
none_waits done waiting is =
    sym (followed_nothing done) ∙ ap (λ (w : Waiting). packing done w (codes_of [] 0)) (sym is)
