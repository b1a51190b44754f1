-- A load of a known tape does what `tape_load` says of its bytes, unless the device fails.
use Rattle.std.proofs.Common.{◌≡◌, ◌∙◌, ℕ, ◌+◌, ◌-◌, ◌<◌, ◌≤◌, zero, suc, true, false, ltb, List, [], ◌∷◌, ◌++◌, length, take, drop, Option, Some, Ok, Err, refl, ap, subst, append_assoc, arith, inl, inr, ◌⊎◌}
use Rattle.std.specs.List.{AllByRecursion}
use Rattle.std.proofs.Math.Seq.{take-append_seam, drop-append_seam}
use Rattle.std.proofs.lemmas.Bool.{cases_lt, le-ltb, lt-ltb}
use Rattle.std.proofs.lemmas.List.{append-nil, length-append, take-append-drop, take_all}
use Rattle.m11_base.specs.Feed.{Text, GivesByte, GivesBytes, GivesEnd}
use Rattle.m11_obj_blocks.specs.declared.tape_fault.TapeFault.{TapeFault}
use Rattle.m11_obj_blocks.specs.declared.tape_fault.TapeFault.TheVariants as fault
use Rattle.m11_obj_blocks.specs.declared.tape_part.TapePart.{TapePart}
use Rattle.m11_obj_blocks.specs.declared.tape_part.TapePart.TheVariants.{Data}
use Rattle.m11_obj_blocks.specs.Limited.{Position, Took, Read, Between, Inside, Refused, Stop, Stops, IsShort}
use Rattle.m11_obj_blocks.specs.Tapes.{next_part, total_of, why_of}
use Rattle.m11_cpu.specs.declared.fault.LoadFault.TheVariants.{Tape, OutsideMemory}
use Rattle.m11_cpu.specs.Loading.{AreInside, part_after, Hold}
use Rattle.m11_cpu_laws.specs.LoadedTapes.{TapeLoad, ended, storing, unread_part, data_loaded, part_loaded, parts_loaded}
use Rattle.m11_cpu_laws.proofs.ReadFronts.{IsReader, front_some, next_reader}

abbrev pub Reader : Type 0
Reader = List ℕ → Read TapeFault TapePart

abbrev pub Blocks : Type 0
Blocks = List (ℕ × List ℕ)

abbrev pub AllInside : ℕ → Blocks → Type 0
AllInside size blocks = AllByRecursion (λ block. AreInside size block.0 block.1) blocks

-- ---- lists

take_over : (xs ys : List ℕ) (n m : ℕ) → n ≡ length xs + m → take n (xs ++ ys) ≡ xs ++ take m ys
take_over [] ys n m e = let same : n ≡ m = omega (arith, e) in ap (λ (k : ℕ). take k ys) same
take_over (x ∷ xs) ys zero m e = absurd (omega (arith, e))
take_over (x ∷ xs) ys (suc n) m e = ap (λ (zs : List ℕ). x ∷ zs) (take_over xs ys n m (omega (arith, e)))

drop_over : (xs ys : List ℕ) (n m : ℕ) → n ≡ length xs + m → drop n (xs ++ ys) ≡ drop m ys
drop_over [] ys n m e = let same : n ≡ m = omega (arith, e) in ap (λ (k : ℕ). drop k ys) same
drop_over (x ∷ xs) ys zero m e = absurd (omega (arith, e))
drop_over (x ∷ xs) ys (suc n) m e = drop_over xs ys n m (omega (arith, e))

take_none : (n : ℕ) → ◌≡◌ {A = List ℕ} (take n []) []
take_none zero = refl
take_none (suc n) = refl

drop_none : (n : ℕ) → ◌≡◌ {A = List ℕ} (drop n []) []
drop_none zero = refl
drop_none (suc n) = refl

-- ---- a known text

-- the bytes that are left after some were read, and how both are split by the limit
pub record After (old new : Position) (text : Text) (given : List ℕ) : Type 0 where
  pub rest : List ℕ
  pub text_is : new.text ≡ Some (record { bytes = rest; ending = text.ending })
  pub within : take old.room text.bytes ≡ given ++ take new.room rest
  pub past : drop old.room text.bytes ≡ drop new.room rest

pub after_took : (old new : Position) (text : Text) (given : List ℕ) → old.text ≡ Some text → Took old new given
    → After old new text given
after_took old new text given known took =
    let gave = subst (λ (t : Option Text). GivesBytes t new.text given) known took.gave in
    record {
      rest = gave.0;
      text_is = gave.2;
      within = ap (λ (xs : List ℕ). take old.room xs) gave.1 ∙ take_over given gave.0 old.room new.room took.room;
      past = ap (λ (xs : List ℕ). drop old.room xs) gave.1 ∙ drop_over given gave.0 old.room new.room took.room;
    }

abbrev pub text_of : List ℕ → Text → Text
text_of rest text = record { bytes = rest; ending = text.ending }

-- ---- the end of a load

-- bytes that are too few, or refused, end a load so
pub record Stopped {A : Type 0} (read : List ℕ → Read TapeFault A) (text : Text) (room : ℕ) (new : Option Text) (said : TapeFault) :
    Type 0 where
  pub stop : Stop TapeFault
  pub unread : List ℕ
  pub is : read (take room text.bytes) ≡ Err stop
  pub ends : unread_part (drop room text.bytes) stop ≡ ended unread (Err (Tape said))
  pub text_is : new ≡ Some (text_of unread text)

short_stop : {A : Type 0} (r : Read TapeFault A) → IsShort r
    → (stop : Stop TapeFault) × (r ≡ Err stop)
    × ((byte : ℕ) (past : List ℕ) → unread_part (byte ∷ past) stop ≡ ended past (Err (Tape fault.TooMuch)))
short_stop (Ok x) short = absurd short
short_stop (Err Between) short = (Between, refl, λ byte past. refl)
short_stop (Err Inside) short = (Inside, refl, λ byte past. refl)
short_stop (Err (Refused said rest)) short = absurd short

module _ {A : Type 0} (read : List ℕ → Read TapeFault A) (old new : Position) (text : Text) (known : old.text ≡ Some text) where
  module _ (given : List ℕ) (middle : Position) (took : Took old middle given) where
    ends_there : GivesEnd middle.text new.text → (stop : Stop TapeFault) (said : TapeFault) → read given ≡ Err stop
        → unread_part [] stop ≡ ended [] (Err (Tape said)) → Stopped read text old.room new.text said
    ends_there gives stop said e ends =
        let a = after_took old middle text given known took in
        let end = subst (λ (t : Option Text). GivesEnd t new.text) a.text_is gives in
        let none : a.rest ≡ [] = end.0.0 in
        let all : take old.room text.bytes ≡ given =
        a.within ∙ ap (λ (xs : List ℕ). given ++ take middle.room xs) none
        ∙ ap (λ (xs : List ℕ). given ++ xs) (take_none middle.room) ∙ append-nil given in
        let past : drop old.room text.bytes ≡ [] =
        a.past ∙ ap (λ (xs : List ℕ). drop middle.room xs) none ∙ drop_none middle.room in
        record {
          stop = stop;
          unread = [];
          is = ap read all ∙ e;
          ends = ap (λ (xs : List ℕ). unread_part xs stop) past ∙ ends;
          text_is = end.1 ∙ ap (λ (xs : List ℕ). Some (text_of xs text)) none;
        }

    passes_there : (byte : ℕ) → GivesByte middle.text new.text byte → middle.room ≡ 0 → IsShort (read given)
        → Stopped read text old.room new.text fault.TooMuch
    passes_there byte gives full short =
        let a = after_took old middle text given known took in
        let one = subst (λ (t : Option Text). GivesByte t new.text byte) a.text_is gives in
        let all : take old.room text.bytes ≡ given =
        a.within ∙ ap (λ (n : ℕ). given ++ take n a.rest) full ∙ append-nil given in
        let past : drop old.room text.bytes ≡ byte ∷ one.0 =
        a.past ∙ ap (λ (n : ℕ). drop n a.rest) full ∙ one.1 in
        let s = short_stop (read given) short in
        record {
          stop = s.0;
          unread = one.0;
          is = ap read all ∙ s.1;
          ends = ap (λ (xs : List ℕ). unread_part xs s.0) past ∙ s.2 byte one.0;
          text_is = one.2;
        }

  refused_there : (given : List ℕ) → Took old new given → (said : TapeFault)
      → ((rest : List ℕ) → read (given ++ rest) ≡ Err (Refused said rest)) → Stopped read text old.room new.text said
  refused_there given took said is =
      let a = after_took old new text given known took in
      record {
        stop = Refused said (take new.room a.rest);
        unread = a.rest;
        is = ap read a.within ∙ is (take new.room a.rest);
        ends = ap (λ (xs : List ℕ). ended (take new.room a.rest ++ xs) (Err (Tape said))) a.past
            ∙ ap (λ (xs : List ℕ). ended xs (Err (Tape said))) (take-append-drop new.room a.rest);
        text_is = a.text_is;
      }

  pub stopped_there : (said : TapeFault) → Stops read old new (why_of said)
      → (said ≡ fault.Device) ⊎ Stopped read text old.room new.text said
  stopped_there fault.Device s = inl refl
  stopped_there fault.Truncated s = inr (ends_there s.0 s.1.0 s.1.1 s.1.2.0 Inside fault.Truncated s.2 refl)
  stopped_there fault.BadSum s = inr (refused_there s.0 s.1 fault.BadSum s.2)
  stopped_there fault.BadStart s = inr (refused_there s.0 s.1 fault.BadStart s.2)
  stopped_there fault.TooShort s = inr (refused_there s.0 s.1 fault.TooShort s.2)
  stopped_there fault.Failed s = absurd s
  stopped_there fault.NoTransfer s = inr (ends_there s.0 s.1.0 s.1.1 s.1.2.0 Between fault.NoTransfer s.2 refl)
  stopped_there fault.TooMuch s = inr (passes_there s.0 s.1.0 s.1.1 s.1.2.0 s.1.2.1 s.1.2.3 s.2)

-- ---- the blocks before the end

pub stored_before : Blocks → TapeLoad → TapeLoad
stored_before [] load = load
stored_before (block ∷ blocks) load = storing block (stored_before blocks load)

pub before_is : (blocks : Blocks) (load : TapeLoad)
    → stored_before blocks load ≡ record { blocks = blocks ++ load.blocks; unread = load.unread; result = load.result }
unfolding stored_before
before_is [] load = refl
before_is (block ∷ blocks) load = ap (λ (l : TapeLoad). storing block l) (before_is blocks load)

pub inside_le : (size address : ℕ) (content : List ℕ) → AreInside size address content → length content ≤ size - address
inside_le size address content inside =
    elim (cases_lt 0 (length content)) [
      | inl some ↦ let last = inside (length content - 1) (omega (arith, some)) in omega (arith, last, some)
      | inr none ↦ omega (arith, none)
    ]

-- a whole block inside memory is stored, and the load goes on after it
whole_block : (parts : Reader → List ℕ → TapeLoad) (size : ℕ) (past : List ℕ) (address : ℕ) (content rest : List ℕ)
    → AreInside size address content
    → data_loaded parts size past address (length content) (content ++ rest)
    ≡ storing (address, content) (parts (next_part (total_of address content)) rest)
whole_block parts size past address content rest inside =
    let fits : ltb (size - address) (length content) ≡ false = le-ltb _ _ (inside_le size address content inside) in
    let long : ltb (length (content ++ rest)) (length content) ≡ false =
    le-ltb _ _ (omega (arith, length-append content rest)) in
    rw (take-append_seam content rest, drop-append_seam content rest, fits, long) refl

pub reader_after : (read : Reader) (blocks : Blocks) → IsReader read → IsReader (part_after read blocks)
reader_after read [] reader = reader
reader_after read (block ∷ blocks) reader =
    reader_after (next_part (total_of block.0 block.1)) blocks (next_reader (total_of block.0 block.1))

split_given : (given header content following left : List ℕ) → given ≡ header ++ (content ++ following)
    → given ++ left ≡ header ++ (content ++ (following ++ left))
split_given given header content following left e =
    ap (λ (xs : List ℕ). xs ++ left) e ∙ append_assoc header (content ++ following) left
    ∙ ap (λ (xs : List ℕ). header ++ xs) (append_assoc content following left)

-- the load from here is that of the bytes after these blocks, with the blocks before it
pub record From (size : ℕ) (past : List ℕ) (read : Reader) (blocks : Blocks) (bound : ℕ) (bytes more : List ℕ) : Type 0 where
  pub bound' : ℕ
  pub fewer : length more < bound'
  pub is : parts_loaded bound size past read bytes
      ≡ stored_before blocks (parts_loaded bound' size past (part_after read blocks) more)

pub from_blocks : (size : ℕ) (past : List ℕ) (read : Reader) (blocks : Blocks) (given more : List ℕ) (bound : ℕ)
    → IsReader read → Hold read blocks given → AllInside size blocks → length (given ++ more) < bound
    → From size past read blocks bound (given ++ more) more
unfolding stored_before
from_blocks size past read [] given more bound reader none inside lt =
    let same : given ++ more ≡ more = ap (λ (g : List ℕ). g ++ more) none in
    record {
      bound' = bound;
      fewer = omega (arith, lt, ap length same);
      is = ap (λ (bytes : List ℕ). parts_loaded bound size past read bytes) same;
    }
from_blocks size past read (block ∷ blocks) given more zero reader hold inside lt = absurd (omega (arith, lt))
from_blocks size past read (block ∷ blocks) given more (suc bound) reader hold inside lt =
    let next : Reader = next_part (total_of block.0 block.1) in
    let split = split_given given hold.0 block.1 hold.1 more hold.2 in
    let some = front_some read reader (Data block.0 (length block.1)) hold.0 hold.3 in
    let fewer : length (hold.1 ++ more) < bound =
    omega (
      arith,
      lt,
      ap length split,
      length-append hold.0 (block.1 ++ (hold.1 ++ more)),
      length-append block.1 (hold.1 ++ more),
      ap length some.2,
    ) in
    let others = from_blocks size past next blocks hold.1 more bound (next_reader (total_of block.0 block.1)) hold.4 inside.1
    fewer in
    let is_read : read (given ++ more) ≡ Ok (Data block.0 (length block.1), block.1 ++ (hold.1 ++ more)) =
    ap read split ∙ hold.3 (block.1 ++ (hold.1 ++ more)) in
    let parts : Reader → List ℕ → TapeLoad = parts_loaded bound size past in
    record {
      bound' = others.bound';
      fewer = others.fewer;
      is = ap (λ (r : Read TapeFault TapePart). part_loaded parts size past r) is_read
          ∙ whole_block parts size past block.0 block.1 (hold.1 ++ more) inside.0
          ∙ ap (λ (l : TapeLoad). storing block l) others.is;
    }

-- ---- the last part

pub last_part : (size : ℕ) (past : List ℕ) (read : Reader) (bytes : List ℕ) (bound : ℕ) → length bytes < bound
    → (parts : Reader → List ℕ → TapeLoad)
    × (parts_loaded bound size past read bytes ≡ part_loaded parts size past (read bytes))
last_part size past read bytes zero lt = absurd (omega (arith, lt))
last_part size past read bytes (suc bound) lt = (parts_loaded bound size past, refl)

-- data of which too few bytes are left, all inside memory
pub cut_data : (parts : Reader → List ℕ → TapeLoad) (size : ℕ) (past : List ℕ) (address count : ℕ) (bytes : List ℕ)
    → AreInside size address bytes → length bytes < count
    → data_loaded parts size past address count bytes ≡ storing (address, bytes) (unread_part past Inside)
cut_data parts size past address count bytes inside few =
    let all : take count bytes ≡ bytes = take_all count bytes (omega (arith, few)) in
    let fits : ltb (size - address) (length bytes) ≡ false = le-ltb _ _ (inside_le size address bytes inside) in
    let short : ltb (length bytes) count ≡ true = lt-ltb _ _ few in
    rw (all, fits, short) refl

-- data of which these bytes are inside memory, and the next one isn't
pub outside_data : (parts : Reader → List ℕ → TapeLoad) (size : ℕ) (past : List ℕ) (address count : ℕ) (taken : List ℕ) (byte : ℕ)
    (rest : List ℕ) → AreInside size address taken → length taken < count → size ≤ address + length taken
    → data_loaded parts size past address count (taken ++ (byte ∷ rest))
    ≡ storing (address, taken) (ended (rest ++ past) (Err OutsideMemory))
outside_data parts size past address count taken byte rest inside few past_end =
    let exact : size - address ≡ length taken = omega (arith, inside_le size address taken inside, past_end) in
    let more : count ≡ length taken + suc (count - length taken - 1) = omega (arith, few) in
    let front : take count (taken ++ (byte ∷ rest)) ≡ taken ++ (byte ∷ take (count - length taken - 1) rest) =
    take_over taken (byte ∷ rest) count (suc (count - length taken - 1)) more in
    let long : ltb (size - address) (length (take count (taken ++ (byte ∷ rest)))) ≡ true =
    lt-ltb _ _ (omega (
      arith,
      exact,
      ap length front,
      length-append taken (byte ∷ take (count - length taken - 1) rest),
    )) in
    let stored_is : take (size - address) (take count (taken ++ (byte ∷ rest))) ≡ taken =
    ap (λ (xs : List ℕ). take (size - address) xs) front
    ∙ ap (λ (n : ℕ). take n (taken ++ (byte ∷ take (count - length taken - 1) rest))) exact
    ∙ take-append_seam taken (byte ∷ take (count - length taken - 1) rest) in
    let unread_is : drop (size - address + 1) (taken ++ (byte ∷ rest)) ≡ rest =
    drop_over taken (byte ∷ rest) (size - address + 1) 1 (omega (arith, exact)) in
    rw (long, stored_is, unread_is) refl
