-- Exact numbers after casts and shifts.
use Rattle.std.proofs.Common.{◌≡◌, ◌∙◌, ap, ℕ, ◌-◌, ◌*◌, ◌%◌, ◌^◌, ◌<◌, ◌≤◌, ℤ, pos, negsuc, ◌*ℤ◌, to_z, of_z, w32, w64, arith}
use Rattle.std.specs.Prelude.{FitsSigned, unsigned_abs}
use Rattle.std.proofs.lemmas.Int.{to_z-of_z, to_z_pos, wrapping_mul-bits, int_wrap_fits, fits_signed_mul}
use Rattle.std.proofs.lemmas.Nat.{pow_below}
use Rattle.std.specs.Int.{int_wrap}

-- a number that fits 32 bits fits 64 bits
pub widened : (number : ℤ) → FitsSigned w32 number → FitsSigned w64 number
widened number fits = record { sfits = omega (arith, fits.sfits) }

bits_below : (number : ℤ) → FitsSigned w64 number → of_z w64 number < 2 ^ 64
bits_below (pos n) fits = omega (arith, fits.sfits)
bits_below (negsuc n) fits = omega (arith, fits.sfits)

size_at_most : (number : ℤ) → FitsSigned w32 number → unsigned_abs number ≤ 2 ^ 31
size_at_most (pos n) fits = omega (arith, fits.sfits)
size_at_most (negsuc n) fits = omega (arith, fits.sfits)

-- if a number fits 32 bits, shifting it to the left in 64 bits by fewer than 32 places gives the exact product
pub left_exact : (number : ℤ) (count : ℕ) → FitsSigned w32 number → count < 32
    → to_z w64 (of_z w64 number * 2 ^ count % 2 ^ 64) ≡ number *ℤ pos (2 ^ count)
left_exact number count fits below =
    let power : 2 ^ count < 2 ^ 32 = pow_below count 32 below in
    let wide : FitsSigned w64 number = widened number fits in
    let product : FitsSigned w64 (number *ℤ pos (2 ^ count)) =
    fits_signed_mul w64 number (pos (2 ^ count)) (2 ^ 31) (2 ^ 32 - 1) (size_at_most number fits)
    (omega (arith, power)) (omega arith) in
    let wrapped : to_z w64 (of_z w64 number * 2 ^ count % 2 ^ 64)
    ≡ int_wrap w64 (to_z w64 (of_z w64 number) *ℤ to_z w64 (2 ^ count)) =
    wrapping_mul-bits w64 (of_z w64 number) (2 ^ count) (bits_below number wide) (omega arith) in
    wrapped ∙ ap (λ z. int_wrap w64 (z *ℤ to_z w64 (2 ^ count))) (to_z-of_z w64 number wide)
    ∙ ap (λ z. int_wrap w64 (number *ℤ z)) (to_z_pos w64 (2 ^ count) (omega arith))
    ∙ int_wrap_fits w64 (number *ℤ pos (2 ^ count)) product
