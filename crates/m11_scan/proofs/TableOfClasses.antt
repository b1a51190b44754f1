-- The table of classes has the classes of each byte.
use Rattle.std.proofs.Common.{◌≡◌, ℕ, ◌<◌, Bool, eqb, not, get_or, refl}
use Rattle.std.specs.Prelude.{bit_and}
use Rattle.std.proofs.lemmas.Bool.{agree_below_at}
use Rattle.m11_scan.specs.Classes.{bit_of, is_of}
use Rattle.m11_scan.specs.declared.classes.Class.{Class}
use Rattle.m11_scan.specs.declared.classes.Class.TheVariants.{Blank, Digit, Name, Kept, Bare, Unprinted, Plain}
use Rattle.m11_scan.specs.declared.classes.TheConstants.{CLASSES}

listed : Class → ℕ → Bool
listed class byte = not (eqb (bit_and (get_or CLASSES byte 0) (bit_of class)) 0)

pub each_listed : (class : Class) (byte : ℕ) → byte < 256
    → not (eqb (bit_and (get_or CLASSES byte 0) (bit_of class)) 0) ≡ is_of class byte
unfolding listed
each_listed Blank byte lt = agree_below_at (listed Blank) (is_of Blank) 256 byte refl lt
each_listed Digit byte lt = agree_below_at (listed Digit) (is_of Digit) 256 byte refl lt
each_listed Name byte lt = agree_below_at (listed Name) (is_of Name) 256 byte refl lt
each_listed Kept byte lt = agree_below_at (listed Kept) (is_of Kept) 256 byte refl lt
each_listed Bare byte lt = agree_below_at (listed Bare) (is_of Bare) 256 byte refl lt
each_listed Unprinted byte lt = agree_below_at (listed Unprinted) (is_of Unprinted) 256 byte refl lt
each_listed Plain byte lt = agree_below_at (listed Plain) (is_of Plain) 256 byte refl lt
