-- Sums and differences modulo octal 200000 and octal 400, to which a distance is added.
use Rattle.std.proofs.Common.{◌≡◌, ℕ, ◌+◌, ◌-◌, ◌%◌, Bool, true, false, refl, arith}
use Rattle.m11_link_text.specs.Relocation.{following, less, modulo}
use Rattle.m11_link_laws.specs.Moving.{farther, moved, number_moved}

far_sum : (distance first second : ℕ)
    → ((first + distance) % 65536 + second) % 65536 ≡ ((first + second) % 65536 + distance) % 65536
far_sum distance first second = omega arith

pub sum_moved : (distance first second : ℕ) (b : Bool)
    → modulo (moved distance b first + second) ≡ moved distance b (modulo (first + second))
sum_moved distance first second true = far_sum distance first second
sum_moved distance first second false = refl

far_base : (distance base offset : ℕ)
    → (base + distance + offset) % 65536 ≡ ((base + offset) % 65536 + distance) % 65536
far_base distance base offset = omega arith

pub base_moved : (distance base offset : ℕ) (b : Bool)
    → modulo (farther distance b base + offset) ≡ moved distance b (modulo (base + offset))
base_moved distance base offset true = far_base distance base offset
base_moved distance base offset false = refl

-- ---- displacements

both_far : (distance value location : ℕ)
    → ((value + distance) % 65536 + (65536 - ((location + distance) % 65536 + 2) % 65536)) % 65536
    ≡ (value + (65536 - (location + 2) % 65536)) % 65536
both_far distance value location = omega arith

value_far : (distance value location : ℕ)
    → ((value + distance) % 65536 + (65536 - (location + 2) % 65536)) % 65536
    ≡ ((value + (65536 - (location + 2) % 65536)) % 65536 + distance) % 65536
value_far distance value location = omega arith

location_far : (distance value location : ℕ)
    → (value + (65536 - ((location + distance) % 65536 + 2) % 65536)) % 65536
    ≡ ((value + (65536 - (location + 2) % 65536)) % 65536 + (65536 - distance % 65536)) % 65536
location_far distance value location = omega arith

pub displacement_moved : (distance value location : ℕ) (b c : Bool)
    → less (moved distance b value) (following (moved distance c location))
    ≡ number_moved 65536 distance b c (less value (following location))
displacement_moved distance value location true true = both_far distance value location
displacement_moved distance value location true false = value_far distance value location
displacement_moved distance value location false true = location_far distance value location
displacement_moved distance value location false false = refl

pub plain_moved : (distance value : ℕ) (b : Bool) → moved distance b value ≡ number_moved 65536 distance b false value
plain_moved distance value true = refl
plain_moved distance value false = refl

-- ---- low bytes

low_far : (distance number : ℕ) → (number + distance) % 65536 % 256 ≡ (number % 256 + distance) % 256
low_far distance number = omega arith

low_back : (distance number : ℕ)
    → (number + (65536 - distance % 65536)) % 65536 % 256 ≡ (number % 256 + (256 - distance % 256)) % 256
low_back distance number = omega arith

pub low_moved : (distance number : ℕ) (b c : Bool)
    → number_moved 65536 distance b c number % 256 ≡ number_moved 256 distance b c (number % 256)
low_moved distance number true true = refl
low_moved distance number true false = low_far distance number
low_moved distance number false true = low_back distance number
low_moved distance number false false = refl

-- ---- evenness

even_far : (distance number : ℕ) → distance % 2 ≡ 0 → (number + distance) % 65536 % 2 ≡ number % 2
even_far distance number e = omega arith

pub even_moved : (distance number : ℕ) (b : Bool) → distance % 2 ≡ 0 → moved distance b number % 2 ≡ number % 2
even_moved distance number true e = even_far distance number e
even_moved distance number false e = refl
