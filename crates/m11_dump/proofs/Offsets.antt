-- Where in a file a fault shows.
use Rattle.std.proofs.Common.{◌≡◌, ◌∙◌, ℕ, ◌+◌, ◌≤◌, List, [], ◌++◌, length, length-append, take, Err, refl, ap, subst, arith}
use Rattle.m11_obj_blocks.specs.Limited.{EndsBetween, EndsInside, Fails, Never, Passes, Position, Read, Refuses, Stops, Took, Why}
use Rattle.m11_obj.specs.Reading.{content_of, first_type, first_word}
use Rattle.m11_obj.specs.declared.fault.RecordFault.{RecordFault}
use Rattle.m11_obj.specs.declared.fault.RecordFault.TheVariants.{BadLength}
use Rattle.m11_dump.specs.Positions.{StopsAt, count_read, bytes_before_stop, stop_byte}

-- ---- bytes that were read

pub given_room : {Fault A : Type 0} (read : List ℕ → Read Fault A) (old new : Position) (why : Why Fault) (stops : Stops read old new why)
    → old.room ≡ length (bytes_before_stop read old new why stops) + new.room
given_room read old new Fails stops = omega (arith, stops.1.1.room, stops.1.2.2)
given_room read old new EndsBetween stops = omega (arith, stops.1.1.room, stops.1.2.2)
given_room read old new EndsInside stops = omega (arith, stops.1.1.room, stops.1.2.2)
given_room read old new Passes stops = omega (arith, stops.1.1.room, stops.1.2.3, stops.1.2.4)
given_room read old new (Refuses fault) stops = stops.1.room
given_room read old new Never stops = absurd stops

-- if bytes were read in two parts, their number is the number of bytes read
pub read_is : (old here new : Position) (before given : List ℕ) → old.room ≡ 4194304 → Took old here before
    → here.room ≡ length given + new.room → count_read new ≡ length (before ++ given)
read_is old here new before given whole took room = omega (arith, whole, took.room, room, length-append before given)

pub stops_at : {Fault A : Type 0} (read : List ℕ → Read Fault A) (why : Why Fault) (old here new : Position) (before : List ℕ) (byte : ℕ)
    → old.room ≡ 4194304 → Took old here before → Stops read here new why → byte ≡ stop_byte why (count_read new)
    → StopsAt read why here new before byte
stops_at read why old here new before byte whole took stops e = (
  stops,
  e ∙ ap (stop_byte why) (read_is old here new before (bytes_before_stop read here new why stops) whole took
      (given_room read here new why stops)),
)

-- ---- the shortest beginning with a fault

nothing_lacks : content_of [] ≡ Err BadLength
unfolding content_of first_type first_word
nothing_lacks = refl

pub none_shorter : (fault : RecordFault) → (fault ≡ BadLength → ⊥) → (content : List ℕ) (count : ℕ) → count ≤ 0
    → content_of (take count content) ≡ Err fault → ⊥
none_shorter fault other content count none has =
    let zero : count ≡ 0 = omega arith in
    let P : ℕ → Type 0 = λ n. content_of (take n content) ≡ Err fault in
    let begun : content_of [] ≡ Err fault = subst P zero has in
    other (cc nothing_lacks)
