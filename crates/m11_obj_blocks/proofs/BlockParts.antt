-- A block is read part by part.
use Rattle.std.proofs.Common.{◌≡◌, ◌≢◌, ◌<◌, ◌≤◌, ◌+◌, ◌-◌, ◌∙◌, ap, false, ltb, ℕ, List, [], ◌∷◌, ◌++◌, length, length-append, Result, Ok, Err, refl, arith}
use Rattle.std.proofs.lemmas.Bool.{le-ltb, lt-ltb, ne_eqb}
use Rattle.m11_obj_blocks.specs.declared.limited.Lack.{Lack}
use Rattle.m11_obj_blocks.specs.declared.limited.Lack.TheVariants as lack
use Rattle.m11_obj_blocks.specs.declared.block_fault.BlockFault.{BlockFault}
use Rattle.m11_obj_blocks.specs.declared.block_fault.BlockFault.TheVariants as fault
use Rattle.m11_obj_blocks.specs.Limited.{Position, Took, TookInto, Lacks, TookThenLacks, Inside, Refused, Read, ◌>>=◌, Why, Reads, Stops}
use Rattle.m11_obj_blocks.specs.Frames.{content_limit, word_bytes}
use Rattle.m11_obj_blocks.specs.Blocks.{start, second, count, count_of, front_of, content_of, summed, first_block, missing, why_of}
use Rattle.m11_obj_blocks.proofs.FrameReads.{word_again}
use Rattle.m11_obj_blocks.proofs.Limits.{took_nothing, took_then, first_stops, reads_after, stops_after, then_reads, then_stops}
use Rattle.m11_obj_blocks.proofs.Limits.{missing_stops as stops_missing}

-- if the bytes read end inside a block, and no further byte is returned, the read stops with the fault for this
pub missing_stops : {A : Type 0} (read : List ℕ → Read BlockFault A) (a b : Position) (given : List ℕ) (why : Lack)
    → TookThenLacks a b given why → read given ≡ Err Inside → Stops read a b (why_of (missing why))
missing_stops read a b given lack.Device lacks e = stops_missing read a b given lack.Device lacks e
missing_stops read a b given lack.End lacks e = stops_missing read a b given lack.End lacks e
missing_stops read a b given lack.TooMuch lacks e = stops_missing read a b given lack.TooMuch lacks e

-- the same if not even the first byte of a part is returned
pub first_missing : {A : Type 0} (read : List ℕ → Read BlockFault A) (a b : Position) (why : Lack) → Lacks a b why
    → read [] ≡ Err Inside → Stops read a b (why_of (missing why))
first_missing read a b why lacks e = missing_stops read a b [] why (a, took_nothing a, lacks) e

-- ---- the content of a block

content_short : (count : ℕ) (bytes : List ℕ) → length bytes < count → content_of count bytes ≡ Err Inside
content_short count bytes short = rw (lt-ltb (length bytes) count short) refl

-- if no byte of a content was ready, and no next byte is returned, the read of the content stops
pub content_missing : (count taken : ℕ) (a b c d : Position) (content after : List ℕ) (why : Lack) → Took a b content
    → length content < count → taken ≡ 0 → TookInto b c content after taken → Lacks c d why
    → Stops (content_of count) a d (why_of (missing why))
content_missing count taken a b c d content after why took short none into lacks =
    missing_stops (content_of count) a d (content ++ into.given) why
    (c, took_then a b c content into.given took into.took, lacks)
    (content_short count (content ++ into.given)
    (omega (arith, length-append content into.given, into.counted)))

-- ---- zeros and the start of a block

pub zero_front : (byte : ℕ) → byte ≡ 0 → (rest : List ℕ) → start (byte ∷ rest) ≡ start rest
zero_front byte e rest = rw e refl

pub one_front : (byte : ℕ) → byte ≡ 1 → (rest : List ℕ) → start (byte ∷ rest) ≡ Ok (tt, rest)
one_front byte e rest = rw e refl

pub other_front : (byte : ℕ) → byte ≢ 0 → byte ≢ 1 → (rest : List ℕ)
    → start (byte ∷ rest) ≡ Err (Refused fault.BadStart rest)
other_front byte not_zero not_one rest = rw (ne_eqb byte 0 not_zero, ne_eqb byte 1 not_one) refl

-- ---- the parts of a block

abbrev pub after_content : List ℕ × List ℕ → Read BlockFault (List ℕ)
after_content content = summed content.0 content.1

abbrev pub after_count : ℕ × List ℕ → Read BlockFault (List ℕ)
after_count count = content_of count.0 count.1 >>= after_content

abbrev pub after_second : Unit {0} × List ℕ → Read BlockFault (List ℕ)
after_second second = count second.1 >>= after_count

abbrev pub after_start : Unit {0} × List ℕ → Read BlockFault (List ℕ)
after_start start = second start.1 >>= after_second

-- ---- the bytes before the content

-- the length of a content is read from the length in the header, which is 4 larger
count_of_again : (n : ℕ) (rest : List ℕ) → n ≤ content_limit → count_of (n + 4) rest ≡ Ok (n, rest)
count_of_again n rest fits =
    let least : ltb (n + 4) 4 ≡ false = le-ltb (n + 4) 4 (omega arith) in
    let most : ltb 516 (n + 4) ≡ false = le-ltb 516 (n + 4) (omega arith) in
    let same : n + 4 - 4 ≡ n = omega arith in
    rw (least, most, same) refl

pub count_again : (n : ℕ) (rest : List ℕ) → n ≤ content_limit → count (word_bytes (n + 4) ++ rest) ≡ Ok (n, rest)
count_again n rest fits =
    ap (λ (r : Read BlockFault ℕ). r >>= λ length. count_of length.0 length.1) (word_again (n + 4) rest (omega arith))
    ∙ count_of_again n rest fits

-- the bytes before the content are read part by part

abbrev second_then : Unit {0} × List ℕ → Read BlockFault ℕ
second_then second = count second.1

abbrev start_then : Unit {0} × List ℕ → Read BlockFault ℕ
start_then start = second start.1 >>= second_then

module _ (a b : Position) where
  pub start_stops : (why : Why BlockFault) → Stops start a b why → Stops front_of a b why
  start_stops why s = first_stops start start_then a b why s

  module _ (started : Reads start a b tt) (c : Position) where
    pub second_stops : (why : Why BlockFault) → Stops second b c why → Stops front_of a c why
    second_stops why s =
        then_stops start start_then a b c tt started why (first_stops second second_then b c why s)

    module _ (begun : Reads second b c tt) (d : Position) where
      pub count_stops : (why : Why BlockFault) → Stops count c d why → Stops front_of a d why
      count_stops why s = then_stops start start_then a b d tt started why
          (then_stops second second_then b c d tt begun why s)

      pub front_read : (n : ℕ) → Reads count c d n → Reads front_of a d n
      front_read n r = then_reads start start_then a b d tt started n (then_reads second second_then b c d tt begun n r)

bind_twice : {A B C E : Type 0} (r : Result A E) (f : A → Result B E) (g : B → Result C E)
    → (r >>= λ x. f x >>= g) ≡ ((r >>= f) >>= g)
bind_twice (Ok x) f g = refl
bind_twice (Err e) f g = refl

-- a block is read as the bytes before its content and then its other bytes
abbrev by_front : List ℕ → Read BlockFault (List ℕ)
by_front bytes = front_of bytes >>= after_count

by_second : (bytes : List ℕ) → after_start (tt, bytes) ≡ (start_then (tt, bytes) >>= after_count)
by_second bytes = bind_twice (second bytes) second_then after_count

by_start : (r : Read BlockFault (Unit {0})) → (r >>= after_start) ≡ ((r >>= start_then) >>= after_count)
by_start (Ok x) = by_second x.1
by_start (Err e) = refl

is_by_front : (bytes : List ℕ) → first_block bytes ≡ by_front bytes
unfolding first_block
is_by_front bytes = by_start (start bytes)

module _ (a b : Position) where
  stops_so : (why : Why BlockFault) → Stops by_front a b why → Stops first_block a b why
  stops_so why s = stops_after first_block by_front a a b [] (took_nothing a) is_by_front why s

  reads_so : (xs : List ℕ) → Reads by_front a b xs → Reads first_block a b xs
  reads_so xs r = reads_after first_block by_front a a b [] (took_nothing a) is_by_front xs r

  pub front_stops : (why : Why BlockFault) → Stops front_of a b why → Stops first_block a b why
  front_stops why s = stops_so why (first_stops front_of after_count a b why s)

module _ (a b : Position) (n : ℕ) (counted : Reads front_of a b n) (c : Position) where
  pub content_stops : (why : Why BlockFault) → Stops (content_of n) b c why → Stops first_block a c why
  content_stops why s = stops_so a c why (then_stops front_of after_count a b c n counted why
      (first_stops (content_of n) after_content b c why s))

  module _ (xs : List ℕ) (held : Reads (content_of n) b c xs) (d : Position) where
    pub sum_stops : (why : Why BlockFault) → Stops (summed xs) c d why → Stops first_block a d why
    sum_stops why s = stops_so a d why (then_stops front_of after_count a b d n counted why
        (then_stops (content_of n) after_content b c d xs held why s))

    pub block_read : Reads (summed xs) c d xs → Reads first_block a d xs
    block_read r = reads_so a d xs (then_reads front_of after_count a b d n counted xs
        (then_reads (content_of n) after_content b c d xs held xs r))
