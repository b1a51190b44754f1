-- The end of a line: nothing is left over, and no character was skipped.
use Rattle.std.proofs.Common.{◌≡◌, ◌∙◌, ℕ, zero, suc, ◌-◌, ◌≤◌, Bool, true, false, ◌&&◌, [], length, take, drop, refl, sym, ap, ap₂, arith}
use Rattle.std.specs.Prelude.{nat_le, if◌then◌else◌}
use Rattle.std.specs.Int.RustNames.{bit_or}
use Rattle.std.proofs.lemmas.Bool.{and_parts, leb-true}
use Rattle.std.proofs.lemmas.List.{length-drop, take_all}
use Rattle.m11_base.specs.Devices.{Bytes}
use Rattle.m11_scan.specs.ErrorFlags.{flag_I, flag_Q, flag_if}
use Rattle.m11_scan.specs.Skipped.{has_skipped, skipped_between}
use Rattle.m11_scan_expressions.specs.LeftOvers.{has_token, left_over}
use Rattle.m11_asm_rules.specs.Elements.{argument_flags}
use Rattle.m11_asm_dump_laws.proofs.Tokens.{no_token}

abbrev nothing : Bytes
nothing = []

take_none : (n : ℕ) → take n nothing ≡ nothing
take_none zero = refl
take_none (suc n) = refl

-- of the text that is taken from a column up to the end of a line, or of none, no character was skipped
taken_kept : (line text : Bytes) (start end : ℕ) → drop start line ≡ text → has_skipped text ≡ false → drop end line ≡ []
    → (b : Bool) → (nat_le start end && nat_le end (length line)) ≡ b
    → has_skipped (if b then take (end - start) (drop start line) else []) ≡ false
taken_kept line text start end at kept left false is = refl
taken_kept line text start end at kept left true is =
    let parts = and_parts (nat_le start end) (nat_le end (length line)) is in
    let before : start ≤ end = leb-true start end parts.0 in
    let within : end ≤ length line = leb-true end (length line) parts.1 in
    let none : length line - end ≡ 0 = sym (length-drop end line) ∙ ap length left in
    let size : length (drop start line) ≡ length line - start = length-drop start line in
    ap has_skipped (take_all (end - start) (drop start line) (omega (arith, size, none, before, within)) ∙ at) ∙ kept

pub kept_to_end : (line text : Bytes) (start end : ℕ) → drop start line ≡ text → has_skipped text ≡ false → drop end line ≡ []
    → skipped_between line start end ≡ false
kept_to_end line text start end at kept left =
    taken_kept line text start end at kept left (nat_le start end && nat_le end (length line)) refl

none_between : (b : Bool) (n : ℕ) → (if b then take n nothing else nothing) ≡ nothing
none_between true n = take_none n
none_between false n = refl

pub none_left : (line : Bytes) (end : ℕ) → drop end line ≡ [] → left_over line end ≡ 0
none_left line end left =
    let test : Bool = nat_le end (length line) && nat_le (length line) (length line) in
    let size : ℕ = length line - end in
    ap₂ (λ tokens text. bit_or (flag_if (has_token tokens) flag_Q) (flag_if (has_skipped text) flag_I)) (no_token line end left)
    (ap (λ rest. if test then take size rest else []) left ∙ none_between test size)

pub clean : (line text : Bytes) (start : ℕ) → drop start line ≡ text → has_skipped text ≡ false
    → (end : ℕ) → drop end line ≡ [] → argument_flags line start end ≡ 0
clean line text start at kept end left =
    ap₂ (λ b n. bit_or (flag_if b flag_I) n) (kept_to_end line text start end at kept left) (none_left line end left)
