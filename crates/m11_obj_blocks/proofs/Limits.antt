-- Bytes that were read from a feed one after another, joined.
use Rattle.std.proofs.Common.{◌≡◌, ℕ, List, [], ◌++◌, Option, Some, None, Ok, Err, refl, sym, ap, subst, ◌∙◌, arith, append_assoc, length-append}
use Rattle.m11_base.specs.Feed.{Text, GivesBytes}
use Rattle.m11_obj_blocks.specs.declared.limited.Lack.{Lack}
use Rattle.m11_obj_blocks.specs.declared.limited.Lack.TheVariants as lack
use Rattle.m11_obj_blocks.specs.Limited.{Position, Took, TookThenLacks, Stop, Between, Inside, Refused, Read, ◌>>=◌, IsShort, Why, Fails, EndsBetween, EndsInside, Passes, Refuses, Never, Reads, Stops}
use Rattle.m11_obj_blocks.proofs.ReadSteps.{bytes_then}

-- ---- the bytes that were read

gave_nothing : (t : Option Text) → GivesBytes t t []
gave_nothing None = tt
gave_nothing (Some t) = (t.bytes, refl, refl)

gave_then : (t0 t1 t2 : Option Text) (xs ys : List ℕ) → GivesBytes t0 t1 xs → GivesBytes t1 t2 ys → GivesBytes t0 t2 (xs ++ ys)
gave_then None t1 t2 xs ys g h = tt
gave_then (Some t) t1 t2 xs ys g h =
    let next = rw g.2 at h in
    (next.0, g.1 ∙ ap (λ (zs : List ℕ). xs ++ zs) next.1 ∙ sym (append_assoc xs ys next.0), next.2)

pub took_nothing : (p : Position) → Took p p []
took_nothing p = record { gave = gave_nothing p.text; faults = refl; room = omega arith; bytes = tt }

pub took_then : (a b c : Position) (xs ys : List ℕ) → Took a b xs → Took b c ys → Took a c (xs ++ ys)
took_then a b c xs ys first second = record {
  gave = gave_then a.text b.text c.text xs ys first.gave second.gave;
  faults = second.faults ∙ first.faults;
  room = omega (arith, length-append xs ys, first.room, second.room);
  bytes = bytes_then xs ys first.bytes second.bytes;
}

pub lacks_then : (a b c : Position) (xs ys : List ℕ) (lack : Lack) → Took a b xs → TookThenLacks b c ys lack
    → TookThenLacks a c (xs ++ ys) lack
lacks_then a b c xs ys lack first second = (second.0, took_then a b second.0 xs ys first second.1, second.2)

-- ---- reading goes on after bytes that were read

module _ {Fault A : Type 0} (read read' : List ℕ → Read Fault A) (a b c : Position) (front : List ℕ)
    (took : Took a b front) (leads : (rest : List ℕ) → read (front ++ rest) ≡ read' rest) where
  pub reads_after : (x : A) → Reads read' b c x → Reads read a c x
  reads_after x r = record {
    given = front ++ r.given;
    took = took_then a b c front r.given took r.took;
    is = λ rest. ap read (append_assoc front r.given rest) ∙ leads (r.given ++ rest) ∙ r.is rest;
  }

  short_after : (given : List ℕ) → IsShort (read' given) → IsShort (read (front ++ given))
  short_after given short =
      let P : Read Fault A → Type 0 = λ r. IsShort r in
      subst P (sym (leads given)) short

  pub stops_after : (why : Why Fault) → Stops read' b c why → Stops read a c why
  stops_after Fails s = (front ++ s.0, lacks_then a b c front s.0 lack.Device took s.1, short_after s.0 s.2)
  stops_after EndsBetween s = (front ++ s.0, lacks_then a b c front s.0 lack.End took s.1, leads s.0 ∙ s.2)
  stops_after EndsInside s = (front ++ s.0, lacks_then a b c front s.0 lack.End took s.1, leads s.0 ∙ s.2)
  stops_after Passes s = (front ++ s.0, lacks_then a b c front s.0 lack.TooMuch took s.1, short_after s.0 s.2)
  stops_after (Refuses fault) s = (
    front ++ s.0,
    took_then a b c front s.0 took s.1,
    λ rest. ap read (append_assoc front s.0 rest) ∙ leads (s.0 ++ rest) ∙ s.2 rest,
  )
  stops_after Never s = s

-- ---- one part after another

short_on : {Fault A B : Type 0} (r : Read Fault A) (k : A × List ℕ → Read Fault B) → IsShort r → IsShort (r >>= k)
short_on (Ok x) k short = absurd short
short_on (Err Between) k short = tt
short_on (Err Inside) k short = tt
short_on (Err (Refused fault rest)) k short = absurd short

module _ {Fault A B : Type 0} (first : List ℕ → Read Fault A) (then : A × List ℕ → Read Fault B) where
  abbrev both : List ℕ → Read Fault B
  both bytes = first bytes >>= then

  on_error : (bytes : List ℕ) (stop : Stop Fault) → first bytes ≡ Err stop → both bytes ≡ Err stop
  on_error bytes stop e = ap (λ (r : Read Fault A). r >>= then) e

  -- if the first part has no value, both together have none, for the same reason
  pub first_stops : (a b : Position) (why : Why Fault) → Stops first a b why → Stops both a b why
  first_stops a b Fails s = (s.0, s.1, short_on (first s.0) then s.2)
  first_stops a b EndsBetween s = (s.0, s.1, on_error s.0 Between s.2)
  first_stops a b EndsInside s = (s.0, s.1, on_error s.0 Inside s.2)
  first_stops a b Passes s = (s.0, s.1, short_on (first s.0) then s.2)
  first_stops a b (Refuses fault) s = (s.0, s.1, λ rest. on_error (s.0 ++ rest) (Refused fault rest) (s.2 rest))
  first_stops a b Never s = s

  module _ (a b c : Position) (x : A) (part : Reads first a b x) where
    leads_on : (rest : List ℕ) → both (part.given ++ rest) ≡ then (x, rest)
    leads_on rest = ap (λ (r : Read Fault A). r >>= then) (part.is rest)

    pub then_reads : (y : B) → Reads (λ rest. then (x, rest)) b c y → Reads both a c y
    then_reads y r = reads_after both (λ rest. then (x, rest)) a b c part.given part.took leads_on y r

    pub then_stops : (why : Why Fault) → Stops (λ rest. then (x, rest)) b c why → Stops both a c why
    then_stops why s = stops_after both (λ rest. then (x, rest)) a b c part.given part.took leads_on why s

-- ---- a byte is missing

-- why a call has no value if one of its bytes isn't returned
abbrev pub why_missing : {Fault : Type 0} → Lack → Why Fault
why_missing lack.Device = Fails
why_missing lack.End = EndsInside
why_missing lack.TooMuch = Passes

pub missing_stops : {Fault A : Type 0} (read : List ℕ → Read Fault A) (a b : Position) (given : List ℕ) (why : Lack)
    → TookThenLacks a b given why → read given ≡ Err Inside → Stops read a b (why_missing why)
missing_stops read a b given lack.Device lacks e = (given, lacks, rw e tt)
missing_stops read a b given lack.End lacks e = (given, lacks, e)
missing_stops read a b given lack.TooMuch lacks e = (given, lacks, rw e tt)
