-- What is read from the bytes of a tape is the same whatever bytes follow those that were read.
use Rattle.std.proofs.Common.{◌≡◌, ◌∙◌, ℕ, ◌+◌, ◌*◌, ◌-◌, Bool, true, false, cond, ltb, eqb, List, [], ◌∷◌, ◌++◌, Ok, Err, refl, sym, ap, subst, append_assoc, inl, inr}
use Rattle.m11_obj_blocks.specs.declared.tape_fault.TapeFault.{TapeFault}
use Rattle.m11_obj_blocks.specs.declared.tape_fault.TapeFault.TheVariants as fault
use Rattle.m11_obj_blocks.specs.declared.tape_part.TapePart.{TapePart}
use Rattle.m11_obj_blocks.specs.declared.tape_part.TapePart.TheVariants.{Data, Start}
use Rattle.m11_obj_blocks.specs.Frames.{word, closing}
use Rattle.m11_obj_blocks.specs.Limited.{Refused, Read, ◌>>=◌, IsShort, Refuses}
use Rattle.m11_obj_blocks.specs.Tapes.{start, second, count, summed, total_of, transfer, part_of, first_part, next_part, why_of}
use Rattle.m11_obj_blocks.proofs.TapeParts.{after_start, after_second, after_count, after_address, after_sum}
use Rattle.m11_obj_blocks.proofs.ReadSteps.{bind_ok, bind_err, chosen, done, rest_is, value_is}

abbrev refuse : {A : Type 0} → TapeFault → List ℕ → Read TapeFault A
refuse said rest = Err (Refused said rest)

stop_is : {A : Type 0} (a b : TapeFault) (xs ys : List ℕ) → refuse {A = A} a xs ≡ refuse b ys → (a ≡ b) × (xs ≡ ys)
stop_is a b xs ys e = (cc, cc)

-- these bytes are in front of the others, and are read as this value, whatever follows them
pub record Front {A : Type 0} (read : List ℕ → Read TapeFault A) (p : List ℕ) (x : A) (rest : List ℕ) : Type 0 where
  pub given : List ℕ
  pub split : p ≡ given ++ rest
  pub is : (q : List ℕ) → read (given ++ q) ≡ Ok (x, q)

-- these bytes are in front of the others, and are refused with this fault, whatever follows them
pub record Bad {A : Type 0} (read : List ℕ → Read TapeFault A) (p : List ℕ) (said : TapeFault) (rest : List ℕ) : Type 0 where
  pub given : List ℕ
  pub split : p ≡ given ++ rest
  pub is : (q : List ℕ) → read (given ++ q) ≡ Err (Refused said q)
  pub why : why_of said ≡ Refuses said

pub record Steady {A : Type 0} (read : List ℕ → Read TapeFault A) : Type 0 where
  pub ok : (p : List ℕ) (x : A) (rest : List ℕ) → read p ≡ Ok (x, rest) → Front read p x rest
  pub refused : (p : List ℕ) (said : TapeFault) (rest : List ℕ) → read p ≡ Err (Refused said rest) → Bad read p said rest

-- ---- what reads no byte, one byte, or one thing after another

steady_done : {A : Type 0} (x : A) → Steady (λ rest. done {Fault = TapeFault} x rest)
steady_done {A} x = record {
  ok = λ p y rest e. record {
    given = [];
    split = rest_is x y p rest e;
    is = λ q. ap (λ (v : A). done {Fault = TapeFault} v q) (value_is x y p rest e);
  };
  refused = λ p said rest e. absurd cc;
}

steady_refuse : {A : Type 0} (said : TapeFault) → why_of said ≡ Refuses said → Steady {A = A} (λ rest. refuse said rest)
steady_refuse {A} said why = record {
  ok = λ p y rest e. absurd cc;
  refused = λ p other rest e. record {
    given = [];
    split = (stop_is {A = A} said other p rest e).1;
    is = λ q. ap (λ (v : TapeFault). refuse {A = A} v q) (stop_is {A = A} said other p rest e).0;
    why = subst (λ (v : TapeFault). why_of v ≡ Refuses v) (stop_is {A = A} said other p rest e).0 why;
  };
}

steady_if : {A : Type 0} (b : Bool) (f g : List ℕ → Read TapeFault A) → Steady f → Steady g
    → Steady (λ rest. cond b (f rest) (g rest))
steady_if true f g sf sg = record { ok = sf.ok; refused = sf.refused }
steady_if false f g sf sg = record { ok = sg.ok; refused = sg.refused }

module _ {A : Type 0} (read : List ℕ → Read TapeFault A) (f : ℕ → List ℕ → Read TapeFault A) (short : IsShort (read []))
    (is : (byte : ℕ) (rest : List ℕ) → read (byte ∷ rest) ≡ f byte rest) (s : (byte : ℕ) → Steady (f byte)) where
  byte_ok : (p : List ℕ) (x : A) (rest : List ℕ) → read p ≡ Ok (x, rest) → Front read p x rest
  byte_ok [] x rest e = absurd (subst (λ (r : Read TapeFault A). IsShort r) e short)
  byte_ok (byte ∷ p) x rest e =
      let h = (s byte).ok p x rest (sym (is byte p) ∙ e) in
      record {
        given = byte ∷ h.given;
        split = ap (λ (xs : List ℕ). byte ∷ xs) h.split;
        is = λ q. is byte (h.given ++ q) ∙ h.is q;
      }

  byte_refused : (p : List ℕ) (said : TapeFault) (rest : List ℕ) → read p ≡ Err (Refused said rest) → Bad read p said rest
  byte_refused [] said rest e = absurd (subst (λ (r : Read TapeFault A). IsShort r) e short)
  byte_refused (byte ∷ p) said rest e =
      let h = (s byte).refused p said rest (sym (is byte p) ∙ e) in
      record {
        given = byte ∷ h.given;
        split = ap (λ (xs : List ℕ). byte ∷ xs) h.split;
        is = λ q. is byte (h.given ++ q) ∙ h.is q;
        why = h.why;
      }

  steady_byte : Steady read
  steady_byte = record { ok = byte_ok; refused = byte_refused }

module _ {A B : Type 0} (first : List ℕ → Read TapeFault A) (then : A × List ℕ → Read TapeFault B)
    (f : Steady first) (t : (x : A) → Steady (λ rest. then (x, rest))) where
  abbrev both : List ℕ → Read TapeFault B
  both bytes = first bytes >>= then

  goes_on : (p : List ℕ) (x : A × List ℕ) → first p ≡ Ok x → both p ≡ then x
  goes_on p x e = ap (λ (r : Read TapeFault A). r >>= then) e

  ok_both : (p : List ℕ) (y : B) (rest : List ℕ) → both p ≡ Ok (y, rest) → Front both p y rest
  ok_both p y rest e =
      let x = bind_ok (first p) then (y, rest) e in
      let a = f.ok p x.0.0 x.0.1 x.1 in
      let b = (t x.0.0).ok x.0.1 y rest x.2 in
      record {
        given = a.given ++ b.given;
        split = a.split ∙ ap (λ (xs : List ℕ). a.given ++ xs) b.split ∙ sym (append_assoc a.given b.given rest);
        is = λ q. ap both (append_assoc a.given b.given q)
            ∙ goes_on (a.given ++ (b.given ++ q)) (x.0.0, b.given ++ q) (a.is (b.given ++ q)) ∙ b.is q;
      }

  refused_both : (p : List ℕ) (said : TapeFault) (rest : List ℕ) → both p ≡ Err (Refused said rest) → Bad both p said rest
  refused_both p said rest e =
      elim (bind_err (first p) then (Refused said rest) e) [
        | inl early ↦
            let a = f.refused p said rest early in
            record {
              given = a.given;
              split = a.split;
              is = λ q. ap (λ (r : Read TapeFault A). r >>= then) (a.is q);
              why = a.why;
            }
        | inr x ↦
            let a = f.ok p x.0.0 x.0.1 x.1 in
            let b = (t x.0.0).refused x.0.1 said rest x.2 in
            record {
              given = a.given ++ b.given;
              split = a.split ∙ ap (λ (xs : List ℕ). a.given ++ xs) b.split ∙ sym (append_assoc a.given b.given rest);
              is = λ q. ap both (append_assoc a.given b.given q)
                  ∙ goes_on (a.given ++ (b.given ++ q)) (x.0.0, b.given ++ q) (a.is (b.given ++ q)) ∙ b.is q;
              why = b.why;
            }
      ]

  steady_then : Steady both
  steady_then = record { ok = ok_both; refused = refused_both }

-- ---- the parts of a tape

start_ok : (p : List ℕ) (x : Unit {0}) (rest : List ℕ) → start p ≡ Ok (x, rest) → Front start p x rest
start_ok [] x rest e = absurd cc
start_ok (byte ∷ p) x rest e =
    elim (chosen (eqb byte 1) (done tt p) (start p) (Ok (x, rest)) e) [
      | inl one ↦ record {
        given = byte ∷ [];
        split = ap (λ (xs : List ℕ). byte ∷ xs) (rest_is {Fault = TapeFault} tt x p rest one.1);
        is = λ q. rw one.0 (ap (λ (v : Unit {0}). done {Fault = TapeFault} v q) (value_is {Fault = TapeFault} tt x p rest one.1));
      }
      | inr other ↦
          let h = start_ok p x rest other.1 in
          record {
            given = byte ∷ h.given;
            split = ap (λ (xs : List ℕ). byte ∷ xs) h.split;
            is = λ q. rw other.0 (h.is q);
          }
    ]

start_refused : (p : List ℕ) (said : TapeFault) (rest : List ℕ) → start p ≡ Err (Refused said rest) → ⊥
start_refused [] said rest e = cc
start_refused (byte ∷ p) said rest e =
    elim (chosen (eqb byte 1) (done tt p) (start p) (refuse said rest) e) [
      | inl one ↦ (let bad = one.1 in cc)
      | inr other ↦ start_refused p said rest other.1
    ]

start_steady : Steady start
start_steady = record { ok = start_ok; refused = λ p said rest e. absurd (start_refused p said rest e) }

second_steady : Steady second
second_steady = steady_byte second (λ byte rest. cond (eqb byte 0) (done tt rest) (refuse fault.BadStart rest)) tt
    (λ byte rest. refl)
    (λ byte. steady_if (eqb byte 0) (λ rest. done tt rest) (λ rest. refuse fault.BadStart rest) (steady_done tt)
    (steady_refuse fault.BadStart refl))

abbrev word_of : ℕ → List ℕ → Read TapeFault ℕ
word_of low rest = word (low ∷ rest)

word_steady : Steady word
word_steady = steady_byte word word_of tt (λ low rest. refl)
    (λ low. steady_byte (word_of low) (λ high rest. done (low + 256 * high) rest) tt (λ high rest. refl)
    (λ high. steady_done (low + 256 * high)))

abbrev counted : ℕ × List ℕ → Read TapeFault ℕ
counted length = cond (ltb length.0 6) (refuse fault.TooShort length.1) (done (length.0 - 6) length.1)

count_steady : Steady count
unfolding count
count_steady = steady_then word counted word_steady
    (λ n. steady_if (ltb n 6) (λ rest. refuse fault.TooShort rest) (λ rest. done (n - 6) rest)
    (steady_refuse fault.TooShort refl) (steady_done (n - 6)))

summed_steady : (total : ℕ) → Steady (summed total)
summed_steady total = steady_byte (summed total)
    (λ byte rest. cond (eqb byte (closing total)) (done tt rest) (refuse fault.BadSum rest)) tt (λ byte rest. refl)
    (λ byte. steady_if (eqb byte (closing total)) (λ rest. done tt rest) (λ rest. refuse fault.BadSum rest) (steady_done tt)
    (steady_refuse fault.BadSum refl))

abbrev after_last : ℕ → Unit {0} × List ℕ → Read TapeFault TapePart
after_last address last = done (Start address) last.1

transfer_steady : (address : ℕ) → Steady (transfer address)
unfolding transfer
transfer_steady address = steady_then (summed (total_of address [])) (after_last address)
    (summed_steady (total_of address [])) (λ x. steady_done (Start address))

part_steady : (n address : ℕ) → Steady (part_of n address)
part_steady n address = steady_if (eqb n 0) (transfer address) (λ rest. done (Data address n) rest)
    (transfer_steady address) (steady_done (Data address n))

address_then : (n : ℕ) → Steady (λ rest. after_count (n, rest))
address_then n = steady_then word (after_address n) word_steady (part_steady n)

count_then : (x : Unit {0}) → Steady (λ rest. after_second (x, rest))
count_then x = steady_then count after_count count_steady address_then

second_then : (x : Unit {0}) → Steady (λ rest. after_start (x, rest))
second_then x = steady_then second after_second second_steady count_then

-- a function that reads a part: it reads at least one byte
pub record IsReader (read : List ℕ → Read TapeFault TapePart) : Type 0 where
  pub steady : Steady read
  pub some : IsShort (read [])

first_steady : Steady first_part
unfolding first_part
first_steady = steady_then start after_start start_steady second_then

first_some : IsShort (first_part [])
unfolding first_part
first_some = tt

pub first_reader : IsReader first_part
first_reader = record { steady = first_steady; some = first_some }

next_steady : (total : ℕ) → Steady (next_part total)
unfolding next_part
next_steady total = steady_then (summed total) after_sum (summed_steady total) (λ x. first_steady)

next_some : (total : ℕ) → IsShort (next_part total [])
unfolding next_part
next_some total = tt

pub next_reader : (total : ℕ) → IsReader (next_part total)
next_reader total = record { steady = next_steady total; some = next_some total }

-- what is in front of the bytes after a part isn't empty
pub front_some : (read : List ℕ → Read TapeFault TapePart) → IsReader read → (part : TapePart) (given : List ℕ)
    → ((q : List ℕ) → read (given ++ q) ≡ Ok (part, q)) → (byte : ℕ) × (given' : List ℕ) × (given ≡ byte ∷ given')
front_some read reader part [] is =
    absurd (subst (λ (r : Read TapeFault TapePart). IsShort r) (is []) reader.some)
front_some read reader part (byte ∷ given) is = (byte, given, refl)
