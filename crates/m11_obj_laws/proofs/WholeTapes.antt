-- The reading of a tape stops if and only if the bytes show that it does.
use Rattle.std.proofs.Common.{◌≡◌, ◌≢◌, ◌∙◌, ℕ, ◌-◌, ◌<◌, ◌≤◌, eqb, List, [], ◌∷◌, ◌++◌, length, replicate, sum, Ok, Err, refl, sym, ap, subst, append_assoc, arith, inl, inr}
use Rattle.std.proofs.lemmas.Bool.{cases_lt}
use Rattle.std.proofs.lemmas.List.{append-nil, length-append, length-replicate}
use Rattle.m11_obj_blocks.specs.declared.tape_fault.TapeFault.{TapeFault}
use Rattle.m11_obj_blocks.specs.declared.tape_fault.TapeFault.TheVariants as fault
use Rattle.m11_obj_blocks.specs.declared.tape_part.TapePart.{TapePart}
use Rattle.m11_obj_blocks.specs.declared.tape_part.TapePart.TheVariants.{Data, Start}
use Rattle.m11_obj_blocks.specs.Frames.{sum_byte, closing}
use Rattle.m11_obj_blocks.specs.Limited.{Read, Stop, Between, Inside, Refused}
use Rattle.m11_obj_blocks.specs.Tapes.{tape_header, tape_block, data_limit, summed, total_of, transfer, first_part, next_part, PartFits}
use Rattle.m11_obj_blocks.proofs.ReadSteps.{Bytes, bytes_after, bind_err, chosen, done, rest_is, value_is}
use Rattle.m11_obj_blocks.proofs.FrameReads.{closed_takes, closed_within, closed_inside}
use Rattle.m11_obj_blocks.proofs.TapeParts.{after_sum}
use Rattle.m11_obj_blocks.proofs.TapeFrames.{block_parts, header_again, some_again, block_again, after_again, other_skipped, same_closing, next_takes, begun, Heads, heads, transfer_takes}
use Rattle.m11_obj_laws.specs.TapeFaults.{AreSkipped, Shows}
use Rattle.m11_obj_laws.specs.TapeStops.{part_bytes, address_of, Nothing, StopsFrom, AtPart, InData, AfterBlock, AfterBlocks, Here, Skipped, Block, IsBlockCut, IsNoBlock, ShowsStop}
use Rattle.m11_obj_laws.proofs.FrameFaults.{differs, closed_refuses}
use Rattle.m11_obj_laws.proofs.TapeFaults.{nothing_read, wrong_after, refused_shows, following_refused, between_skipped}
use Rattle.m11_obj_laws.proofs.TapeCuts.{begun_inside, whole_header, same_front, read_cut, cut_after_read}

-- the last byte of a block
abbrev last_of : ℕ → List ℕ → ℕ
last_of address content = sum_byte (tape_header address (length content) ++ content)

block_is : (address : ℕ) (content : List ℕ)
    → tape_block address content ≡ tape_header address (length content) ++ (content ++ last_of address content ∷ [])
block_is address content = sym (append-nil (tape_block address content)) ∙ block_parts address content []

-- ---- if reading stops, the bytes show it

skip : (Kind : List ℕ → Type 0) (skipped bytes : List ℕ) → AreSkipped skipped → AfterBlocks Kind bytes
    → AfterBlocks Kind (skipped ++ bytes)
skip Kind [] bytes are h = h
skip Kind (byte ∷ skipped) bytes are h = Skipped byte are.0 (skip Kind skipped bytes are.1 h)

skipped_end : (bytes : List ℕ) → AreSkipped bytes → AfterBlocks (λ xs. xs ≡ []) bytes
skipped_end [] are = Here refl
skipped_end (byte ∷ bytes) are = Skipped byte are.0 (skipped_end bytes are.1)

-- a header and a prefix of its data, perhaps all of them, are a block that is cut short
data_cut : (address n : ℕ) (following : List ℕ) → address < 65536 → n ≤ data_limit → length following ≤ n
    → IsBlockCut (tape_header address n ++ following)
data_cut address n following lt fits short =
    let more : List ℕ = replicate (n - length following) 0 in
    let content : List ℕ = following ++ more in
    let last : List ℕ = last_of address content ∷ [] in
    let long : length content ≡ n =
    omega (arith, length-append following more, length-replicate {A = ℕ} (n - length following) 0) in
    record {
      address = address;
      content = content;
      missing = more ++ last;
      in_range = lt;
      fits = omega (arith, fits, long);
      split = block_is address content
          ∙ ap (λ (m : ℕ). tape_header address m ++ (content ++ last)) long
          ∙ ap (λ (xs : List ℕ). tape_header address n ++ xs) (append_assoc following more last);
      some = omega arith;
      cut = omega (arith, length-append more last);
    }

part_cut : (part : TapePart) (front missing : List ℕ) → address_of part < 65536 → PartFits part
    → part_bytes part ≡ front ++ missing → 0 < length front → 0 < length missing → IsBlockCut front
part_cut (Data address n) front missing lt fits split some cut =
    let whole = data_cut address n [] lt fits.1 (omega arith) in
    record {
      address = whole.address;
      content = whole.content;
      missing = missing ++ whole.missing;
      in_range = whole.in_range;
      fits = whole.fits;
      split = whole.split ∙ ap (λ (xs : List ℕ). xs ++ whole.missing) split ∙ append_assoc front missing whole.missing;
      some = some;
      cut = omega (arith, cut, length-append missing whole.missing);
    }
part_cut (Start address) front missing lt fits split some cut = record {
  address = address;
  content = [];
  missing = missing;
  in_range = lt;
  fits = omega arith;
  split = split;
  some = some;
  cut = cut;
}

shown_block : (said : TapeFault) (bytes rest : List ℕ) → Shows said bytes rest → IsNoBlock said bytes rest
shown_block fault.BadStart bytes rest h = h
shown_block fault.TooShort bytes rest h = h
shown_block fault.BadSum bytes rest h = (h.0, [], h.1, h.2, omega arith, h.3, h.4)
shown_block fault.Device bytes rest h = absurd h
shown_block fault.Truncated bytes rest h = absurd h
shown_block fault.Failed bytes rest h = absurd h
shown_block fault.NoTransfer bytes rest h = absurd h
shown_block fault.TooMuch bytes rest h = absurd h

at_part : (stop : Stop TapeFault) (bytes : List ℕ) → Bytes bytes → first_part bytes ≡ Err stop
    → AfterBlocks (ShowsStop stop) bytes
at_part Between bytes small e = skipped_end bytes (between_skipped bytes e)
at_part Inside bytes small e =
    let c = read_cut bytes small e in
    let P : List ℕ → Type 0 = λ xs. AfterBlocks (ShowsStop Inside) xs in
    subst P (sym c.is) (skip (ShowsStop Inside) c.skipped c.front c.are
    (Here (part_cut c.part c.front c.missing c.in_range c.fits c.split c.some c.cut)))
at_part (Refused said rest) bytes small e =
    let s = refused_shows said bytes rest small e in
    let P : List ℕ → Type 0 = λ xs. AfterBlocks (ShowsStop (Refused said rest)) xs in
    subst P (sym s.split) (skip (ShowsStop (Refused said rest)) s.skipped s.following s.are
    (Here (shown_block said s.following rest s.shows)))

-- after bytes that are skipped, the bytes begin with the header of a data block
record Header (bytes : List ℕ) (address n : ℕ) (following : List ℕ) : Type 0 where
  pub skipped : List ℕ
  pub are : AreSkipped skipped
  pub is : bytes ≡ skipped ++ (tape_header address n ++ following)
  pub in_range : address < 65536
  pub some : 0 < n
  pub fits : n ≤ data_limit
  pub small : Bytes following

data_address : (x y m n : ℕ) → Data x m ≡ Data y n → x ≡ y
data_address x y m n e = cc

data_count : (x y m n : ℕ) → Data x m ≡ Data y n → m ≡ n
data_count x y m n e = cc

above : (m : ℕ) → m ≢ 0 → 0 < m
above m h = omega (arith, h)

header_after : (bytes : List ℕ) (address n : ℕ) (following : List ℕ) → Heads bytes (Data address n) following
    → Header (1 ∷ bytes) address n following
header_after bytes address n following h =
    elim (chosen (eqb h.count 0) (transfer h.address h.following) (done (Data h.address h.count) h.following)
    (Ok (Data address n, following)) h.part_is) [
      | inl none ↦
          let t = transfer_takes h.address (Data address n) h.following following h.small none.1 in
          absurd (let bad = t.1 in cc)
      | inr some ↦
          let part_is : Data h.address h.count ≡ Data address n =
          value_is (Data h.address h.count) (Data address n) h.following following some.1 in
          let same : h.following ≡ following =
          rest_is (Data h.address h.count) (Data address n) h.following following some.1 in
          let here : h.address ≡ address = data_address h.address address h.count n part_is in
          let count_is : h.count ≡ n = data_count h.address address h.count n part_is in
          record {
            skipped = [];
            are = tt;
            is = h.is ∙ ap (λ (m : ℕ). tape_header h.address m ++ h.following) count_is
                ∙ ap (λ (a : ℕ). tape_header a n ++ h.following) here
                ∙ ap (λ (xs : List ℕ). tape_header address n ++ xs) same;
            in_range = omega (arith, h.in_range, here);
            some = omega (arith, above h.count (differs h.count 0 some.0), count_is);
            fits = omega (arith, h.fits, count_is);
            small = subst Bytes same h.small;
          }
    ]

header_of : (bytes : List ℕ) (address n : ℕ) (following : List ℕ) → Bytes bytes
    → first_part bytes ≡ Ok (Data address n, following) → Header bytes address n following
header_of [] address n following small e = absurd (let bad = sym nothing_read ∙ e in cc)
header_of (byte ∷ bytes) address n following small e =
    elim (begun byte bytes) [
      | inl one_is ↦
          let P : ℕ → Type 0 = λ first. Header (first ∷ bytes) address n following in
          subst P (sym one_is.0)
          (header_after bytes address n following
          (heads bytes (Data address n) following small.1 (sym one_is.1 ∙ e)))
      | inr other ↦
          let h = header_of bytes address n following small.1 (sym other.1 ∙ e) in
          record {
            skipped = byte ∷ h.skipped;
            are = (other.0, h.are);
            is = ap (λ (xs : List ℕ). byte ∷ xs) h.is;
            in_range = h.in_range;
            some = h.some;
            fits = h.fits;
            small = h.small;
          }
    ]

in_data : (stop : Stop TapeFault) (bytes : List ℕ) (address n : ℕ) (following : List ℕ) → Bytes bytes
    → first_part bytes ≡ Ok (Data address n, following) → length following < n → stop ≡ Inside
    → AfterBlocks (ShowsStop stop) bytes
in_data stop bytes address n following small e short is =
    let h = header_of bytes address n following small e in
    let P : List ℕ → Type 0 = λ xs. AfterBlocks (ShowsStop Inside) xs in
    let Q : Stop TapeFault → Type 0 = λ s. AfterBlocks (ShowsStop s) bytes in
    subst Q (sym is) (subst P (sym h.is) (skip (ShowsStop Inside) h.skipped (tape_header address n ++ following) h.are
    (Here (data_cut address n following h.in_range h.fits (omega (arith, short))))))

-- if the reading of a block's last byte stops, the bytes of the block show the stop
sum_shows : (stop : Stop TapeFault) (address : ℕ) (content bytes : List ℕ) → address < 65536
    → length content ≤ data_limit → summed (total_of address content) bytes ≡ Err stop
    → ShowsStop stop (tape_header address (length content) ++ (content ++ bytes))
sum_shows Between address content bytes lt fits e =
    absurd (closed_within fault.BadSum tt (total_of address content) bytes e)
sum_shows Inside address content bytes lt fits e =
    let none : bytes ≡ [] = closed_inside fault.BadSum tt (total_of address content) bytes e in
    let P : List ℕ → Type 0 = λ xs. IsBlockCut (tape_header address (length content) ++ xs) in
    subst P (sym (ap (λ (xs : List ℕ). content ++ xs) none ∙ append-nil content))
    (data_cut address (length content) content lt fits (omega arith))
sum_shows (Refused said rest) address content bytes lt fits e =
    let wrong = closed_refuses fault.BadSum said tt (total_of address content) bytes rest e in
    let P : TapeFault → Type 0 =
    λ f. IsNoBlock f (tape_header address (length content) ++ (content ++ bytes)) rest in
    subst P wrong.0 (
      address,
      content,
      wrong.1.0,
      lt,
      fits,
      wrong.1.1,
      ap (λ (xs : List ℕ). tape_header address (length content) ++ (content ++ xs)) wrong.1.2,
    )

-- after the data of a block
module _ (stop : Stop TapeFault) where
  whole_block : (address : ℕ) (content bytes rest : List ℕ) → address < 65536 → 0 < length content
      → length content ≤ data_limit → bytes ≡ last_of address content ∷ rest → AfterBlocks (ShowsStop stop) rest
      → AfterBlocks (ShowsStop stop) (tape_header address (length content) ++ (content ++ bytes))
  whole_block address content bytes rest lt some fits is h =
      let P : List ℕ → Type 0 = λ xs. AfterBlocks (ShowsStop stop) xs in
      subst P (block_parts address content rest
      ∙ ap (λ (xs : List ℕ). tape_header address (length content) ++ (content ++ xs)) (sym is))
      (Block address content lt some fits h)

  at_next : (address : ℕ) (content bytes : List ℕ) → address < 65536 → 0 < length content
      → length content ≤ data_limit → Bytes bytes → next_part (total_of address content) bytes ≡ Err stop
      → AfterBlocks (ShowsStop stop) (tape_header address (length content) ++ (content ++ bytes))
  unfolding next_part
  at_next address content bytes lt some fits small e =
      let total : ℕ = total_of address content in
      elim (bind_err (summed total bytes) after_sum stop e) [
        | inl early ↦ Here (sum_shows stop address content bytes lt fits early)
        | inr last ↦
            let t = closed_takes fault.BadSum tt total tt bytes last.0.1 last.1 in
            let small' : Bytes (closing total ∷ last.0.1) = subst Bytes t.1 small in
            let is : bytes ≡ last_of address content ∷ last.0.1 =
            t.1 ∙ ap (λ (b : ℕ). b ∷ last.0.1) (same_closing (sum (tape_header address (length content) ++ content))) in
            whole_block address content bytes last.0.1 lt some fits is (at_part stop last.0.1 small'.1 last.2)
      ]

  shown_after : (address : ℕ) (content bytes : List ℕ) → address < 65536 → 0 < length content
      → length content ≤ data_limit → Bytes bytes → (read : List ℕ → Read TapeFault TapePart)
      → ((xs : List ℕ) → next_part (total_of address content) xs ≡ read xs) → StopsFrom stop read bytes
      → AfterBlocks (ShowsStop stop) (tape_header address (length content) ++ (content ++ bytes))
  shown_after address content bytes lt some fits small read same (AtPart e) =
      at_next address content bytes lt some fits small (same bytes ∙ e)
  shown_after address content bytes lt some fits small read same (InData at count following e short is) =
      let t = next_takes address content bytes (Data at count, following) small (same bytes ∙ e) in
      whole_block address content bytes t.0 lt some fits t.1 (in_data stop t.0 at count following t.2 t.3 short is)
  shown_after address content bytes lt some fits small read same (AfterBlock at more following e h) =
      let t = next_takes address content bytes (Data at (length more), more ++ following) small (same bytes ∙ e) in
      let head = header_of t.0 at (length more) (more ++ following) t.2 t.3 in
      let next = shown_after at more following head.in_range head.some head.fits
      (bytes_after more following head.small) (next_part (total_of at more)) (λ xs. refl) h in
      let P : List ℕ → Type 0 = λ xs. AfterBlocks (ShowsStop stop) xs in
      whole_block address content bytes t.0 lt some fits t.1
      (subst P (sym head.is) (skip (ShowsStop stop) head.skipped (tape_header at (length more) ++ (more ++ following))
      head.are next))

  pub shown : (bytes : List ℕ) → Bytes bytes → StopsFrom stop first_part bytes → AfterBlocks (ShowsStop stop) bytes
  shown bytes small (AtPart e) = at_part stop bytes small e
  shown bytes small (InData address count following e short is) =
      in_data stop bytes address count following small e short is
  shown bytes small (AfterBlock address content following e h) =
      let head = header_of bytes address (length content) (content ++ following) small e in
      let P : List ℕ → Type 0 = λ xs. AfterBlocks (ShowsStop stop) xs in
      subst P (sym head.is) (skip (ShowsStop stop) head.skipped
      (tape_header address (length content) ++ (content ++ following)) head.are
      (shown_after address content following head.in_range head.some head.fits
      (bytes_after content following head.small) (next_part (total_of address content)) (λ xs. refl) h))

-- ---- if the bytes show it, reading stops

alike : (stop : Stop TapeFault) (read read' : List ℕ → Read TapeFault TapePart) (bytes bytes' : List ℕ)
    → read' bytes' ≡ read bytes → StopsFrom stop read bytes → StopsFrom stop read' bytes'
alike stop read read' bytes bytes' same (AtPart e) = AtPart (same ∙ e)
alike stop read read' bytes bytes' same (InData address count following e short is) =
    InData address count following (same ∙ e) short is
alike stop read read' bytes bytes' same (AfterBlock address content following e h) =
    AfterBlock address content following (same ∙ e) h

-- if bytes are at least as long as `xs`, and begin a text that begins with `xs`, they begin with `xs`
goes_on : (xs ys bytes missing : List ℕ) → xs ++ ys ≡ bytes ++ missing → length xs ≤ length bytes
    → (following : List ℕ) × (bytes ≡ xs ++ following) × (ys ≡ following ++ missing)
goes_on [] ys bytes missing e le = (bytes, refl, e)
goes_on (x ∷ xs) ys [] missing e le = absurd (omega arith)
goes_on (x ∷ xs) ys (byte ∷ bytes) missing e le =
    let first : byte ≡ x = cc in
    let others : xs ++ ys ≡ bytes ++ missing = cc in
    let more = goes_on xs ys bytes missing others (omega arith) in
    (more.0, ap (λ (b : ℕ). b ∷ bytes) first ∙ ap (λ (zs : List ℕ). x ∷ zs) more.1, more.2)

header_read : (address n : ℕ) (following : List ℕ) → address < 65536 → 0 < n → n ≤ data_limit
    → first_part (tape_header address n ++ following) ≡ Ok (Data address n, following)
header_read address n following lt some fits =
    header_again address n following lt fits ∙ some_again n address following some

after_header : (address : ℕ) (content following missing : List ℕ) → address < 65536 → length content ≤ data_limit
    → 0 < length missing → content ++ last_of address content ∷ [] ≡ following ++ missing
    → StopsFrom Inside first_part (tape_header address (length content) ++ following)
after_header address [] following missing lt fits cut e =
    let none : [] ≡ following = empty following (omega (arith, cut, ap length e, length-append following missing)) in
    let P : List ℕ → Type 0 = λ xs. StopsFrom Inside first_part (tape_header address 0 ++ xs) in
    subst P none (AtPart (whole_header address lt))
  where
    empty : (xs : List ℕ) → length xs ≤ 0 → [] ≡ xs
    empty [] le = refl
    empty (x ∷ xs) le = absurd (omega arith)
after_header address (byte ∷ bytes) following missing lt fits cut e =
    let content : List ℕ = byte ∷ bytes in
    let last : List ℕ = last_of address content ∷ [] in
    let some : 0 < length content = omega arith in
    elim (cases_lt (length following) (length content)) [
      | inl short ↦ InData address (length content) following
          (header_read address (length content) following lt some fits) short refl
      | inr enough ↦
          let long : length following ≡ length content =
          omega (arith, enough, cut, ap length e, length-append content last, length-append following missing) in
          let all : following ≡ content = same_front content last following missing long e in
          let found : first_part (tape_header address (length content) ++ following)
          ≡ Ok (Data address (length content), content ++ []) =
          header_read address (length content) following lt some fits
          ∙ ap (λ (xs : List ℕ). done (Data address (length content)) xs) (all ∙ sym (append-nil content)) in
          AfterBlock address content [] found (AtPart (cut_after_read (total_of address content) [] Nothing))
    ]

cut_found : (bytes : List ℕ) → IsBlockCut bytes → StopsFrom Inside first_part bytes
cut_found bytes c =
    let last : List ℕ = last_of c.address c.content ∷ [] in
    let e : tape_header c.address (length c.content) ++ (c.content ++ last) ≡ bytes ++ c.missing =
    sym (block_is c.address c.content) ∙ c.split in
    elim (cases_lt (length bytes) 6) [
      | inl few ↦ AtPart (begun_inside c.address (length c.content) (c.content ++ last) bytes c.missing c.fits c.some few e)
      | inr enough ↦
          let more = goes_on (tape_header c.address (length c.content)) (c.content ++ last) bytes c.missing e
          (omega (arith, enough)) in
          let P : List ℕ → Type 0 = λ xs. StopsFrom Inside first_part xs in
          subst P (sym more.1) (after_header c.address c.content more.0 c.missing c.in_range c.fits c.cut more.2)
    ]

wrong_found : (address : ℕ) (content : List ℕ) (byte : ℕ) (rest : List ℕ) → address < 65536
    → length content ≤ data_limit → byte ≢ closing (total_of address content)
    → StopsFrom (Refused fault.BadSum rest) first_part
    (tape_header address (length content) ++ (content ++ byte ∷ rest))
wrong_found address [] byte rest lt fits wrong =
    AtPart (following_refused fault.BadSum (tape_header address 0 ++ byte ∷ rest) rest (address, byte, lt, wrong, refl))
wrong_found address (first ∷ others) byte rest lt fits wrong =
    let content : List ℕ = first ∷ others in
    AfterBlock address content (byte ∷ rest)
    (header_read address (length content) (content ++ byte ∷ rest) lt (omega arith) fits)
    (AtPart (wrong_after (total_of address content) byte rest wrong))

refused_found : (said : TapeFault) (bytes rest : List ℕ) → IsNoBlock said bytes rest
    → StopsFrom (Refused said rest) first_part bytes
refused_found fault.BadStart bytes rest h = AtPart (following_refused fault.BadStart bytes rest h)
refused_found fault.TooShort bytes rest h = AtPart (following_refused fault.TooShort bytes rest h)
refused_found fault.BadSum bytes rest h =
    let P : List ℕ → Type 0 = λ xs. StopsFrom (Refused fault.BadSum rest) first_part xs in
    subst P (sym h.6) (wrong_found h.0 h.1 h.2 rest h.3 h.4 h.5)
refused_found fault.Device bytes rest h = absurd h
refused_found fault.Truncated bytes rest h = absurd h
refused_found fault.Failed bytes rest h = absurd h
refused_found fault.NoTransfer bytes rest h = absurd h
refused_found fault.TooMuch bytes rest h = absurd h

stop_found : (stop : Stop TapeFault) (bytes : List ℕ) → ShowsStop stop bytes → StopsFrom stop first_part bytes
stop_found Between bytes h = AtPart (ap first_part h ∙ nothing_read)
stop_found Inside bytes h = cut_found bytes h
stop_found (Refused said rest) bytes h = refused_found said bytes rest h

pub found : (stop : Stop TapeFault) (bytes : List ℕ) → AfterBlocks (ShowsStop stop) bytes
    → StopsFrom stop first_part bytes
found stop bytes (Here h) = stop_found stop bytes h
found stop _ (Skipped {bytes = bytes} byte other h) =
    alike stop first_part first_part bytes (byte ∷ bytes) (other_skipped byte bytes other) (found stop bytes h)
found stop _ (Block {bytes = bytes} address content lt some fits h) =
    let last : ℕ = last_of address content in
    AfterBlock address content (last ∷ bytes) (block_again address content bytes lt some fits)
    (alike stop first_part (next_part (total_of address content)) bytes (last ∷ bytes) (after_again address content bytes)
    (found stop bytes h))
