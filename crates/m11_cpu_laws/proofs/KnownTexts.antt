-- Reading from a feed with a known text: the bytes that remain, and the faults that are possible if a part can be read from them.
use Rattle.std.specs.Prelude.{⊤}
use Rattle.std.proofs.Common.{◌≡◌, ◌∙◌, ℕ, ◌<◌, List, ◌++◌, length, Option, Some, Ok, Err, sym, ap, subst, arith}
use Rattle.std.proofs.lemmas.List.{append-nil, length-append}
use Rattle.m11_base.specs.Feed.{Text, GivesByte, GivesBytes, GivesEnd}
use Rattle.m11_obj_blocks.specs.declared.tape_fault.TapeFault.{TapeFault}
use Rattle.m11_obj_blocks.specs.declared.tape_fault.TapeFault.TheVariants as fault
use Rattle.m11_obj_blocks.specs.Limited.{Position, Took, Read, Inside, Between, Refused, Stop, Stops}
use Rattle.m11_obj_blocks.specs.Tapes.{why_of}

-- the text consists of these bytes, which were read, and of `rest`, which remains
pub record Left (new : Position) (text : Text) (given : List ℕ) : Type 0 where
  pub rest : Text
  pub split : text.bytes ≡ given ++ rest.bytes
  pub text_is : new.text ≡ Some rest

pub left_after : (old new : Position) (text : Text) (given : List ℕ) → old.text ≡ Some text → Took old new given
    → Left new text given
left_after old new text given known took =
    let gave = subst (λ (t : Option Text). GivesBytes t new.text given) known took.gave in
    record { rest = record { bytes = gave.0; ending = text.ending }; split = gave.1; text_is = gave.2 }

-- a fault that is possible although a part can be read from the remaining bytes: the device failed, or there are more bytes than `room`
abbrev pub MayStop : ℕ → List ℕ → TapeFault → Type 0
MayStop room bytes fault.Device = ⊤
MayStop room bytes fault.TooMuch = room < length bytes
MayStop room bytes other = ⊥

module _ (old middle : Position) (text : Text) (known : old.text ≡ Some text) (given : List ℕ) (took : Took old middle given)
    (new : Option Text) where
  -- if the end came, all bytes of the text had been read
  all_given : GivesEnd middle.text new → text.bytes ≡ given
  all_given ends =
      let left = left_after old middle text given known took in
      let end = subst (λ (t : Option Text). GivesEnd t new) left.text_is ends in
      left.split ∙ ap (λ (rest : List ℕ). given ++ rest) end.0.0 ∙ append-nil given

  -- if a byte came when there was no room left, the text has more bytes than the room at the start
  room_passed : (byte : ℕ) → GivesByte middle.text new byte → middle.room ≡ 0 → old.room < length text.bytes
  room_passed byte gives full =
      let left = left_after old middle text given known took in
      let one = subst (λ (t : Option Text). GivesByte t new byte) left.text_is gives in
      omega (arith, took.room, full, ap length left.split, length-append given left.rest.bytes, ap length one.1)

module _ {A : Type 0} (read : List ℕ → Read TapeFault A) (old new : Position) (text : Text) (known : old.text ≡ Some text)
    (x : A × List ℕ) (is_read : read text.bytes ≡ Ok x) where
  no_stop : (bytes : List ℕ) (stop : Stop TapeFault) → text.bytes ≡ bytes → read bytes ≡ Err stop → ⊥
  no_stop bytes stop same e = let bad = sym is_read ∙ ap read same ∙ e in cc

  not_refused : (said : TapeFault) (given : List ℕ) → Took old new given
      → ((rest : List ℕ) → read (given ++ rest) ≡ Err (Refused said rest)) → ⊥
  not_refused said given took refused =
      let left = left_after old new text given known took in
      no_stop (given ++ left.rest.bytes) (Refused said left.rest.bytes) left.split (refused left.rest.bytes)

  pub may_stop : (said : TapeFault) → Stops read old new (why_of said) → MayStop old.room text.bytes said
  may_stop fault.Device s = tt
  may_stop fault.Truncated s = absurd (no_stop s.0 Inside (all_given old s.1.0 text known s.0 s.1.1 new.text s.1.2.0) s.2)
  may_stop fault.BadSum s = absurd (not_refused fault.BadSum s.0 s.1 s.2)
  may_stop fault.BadStart s = absurd (not_refused fault.BadStart s.0 s.1 s.2)
  may_stop fault.TooShort s = absurd (not_refused fault.TooShort s.0 s.1 s.2)
  may_stop fault.Failed s = absurd s
  may_stop fault.NoTransfer s = absurd (no_stop s.0 Between (all_given old s.1.0 text known s.0 s.1.1 new.text s.1.2.0) s.2)
  may_stop fault.TooMuch s = room_passed old s.1.0 text known s.0 s.1.1 new.text s.1.2.0 s.1.2.1 s.1.2.3

-- a fault that is possible after some bytes were read was possible before that
pub stops_before : (old new : Position) (text : Text) (given : List ℕ) (took : Took old new given) (left : Left new text given)
    (said : TapeFault) → MayStop new.room left.rest.bytes said → MayStop old.room text.bytes said
stops_before old new text given took left fault.Device h = tt
stops_before old new text given took left fault.TooMuch h =
    omega (arith, h, took.room, ap length left.split, length-append given left.rest.bytes)
stops_before old new text given took left other h = absurd h
