-- Bytes up to the first block of a library's modules.
use Rattle.std.proofs.Common.{◌≡◌, ◌∙◌, ◌⊎◌, ℕ, ◌+◌, ◌-◌, ◌*◌, ◌/◌, ◌%◌, ◌<◌, ◌≤◌, below_more, List, [], ◌∷◌, ◌++◌, append-nil, append_assoc, length, length-append, take, drop, get_or, inl, inr, refl, sym, ap, subst, arith}
use Rattle.std.specs.Prelude.{Ok, Err}
use Rattle.std.proofs.Math.Seq.{drop-append_seam, take-append_seam}
use Rattle.std.proofs.lemmas.Bool.Decides.{eqb_tells}
use Rattle.std.proofs.lemmas.List.{length-drop, take-append-drop, take_all}
use Rattle.m11_obj_blocks.specs.Frames.{block, header, sum_byte, word_bytes}
use Rattle.m11_obj_blocks.specs.Limited.{Position, Took}
use Rattle.m11_obj_blocks.specs.declared.block_fault.BlockFault.TheVariants as block_fault
use Rattle.m11_obj_blocks.proofs.BlockFrames.{block_parts}
use Rattle.m11_obj_blocks.proofs.Limits.{took_nothing, took_then}
use Rattle.m11_link_modules.specs.declared.fault.ModuleFault.TheVariants as rule
use Rattle.m11_dump.specs.LibraryParts.{part_of}
use Rattle.m11_dump.specs.declared.library_parts.Part.TheVariants.{Other}
use Rattle.m11_dump.specs.LibraryStart.{EndsWith, IsListed, LacksByte, NoneEnds, NoneIn, Seeks, UnfoundBy}
use Rattle.m11_dump.specs.Positions.{placed_at}
use Rattle.m11_dump.specs.declared.fault.DumpFault.{DumpFault}
use Rattle.m11_dump.specs.declared.fault.DumpFault.TheVariants as fault
use Rattle.m11_dump.specs.declared.fault.LocatedFault.{LocatedFault}

-- ---- the bytes of a block

-- a block consists of 001 000, the length, the content and the sum byte
parts : (content : List ℕ) → block content ≡ 1 ∷ 0 ∷ (word_bytes (length content + 4) ++ (content ++ sum_byte (header (length content) ++ content) ∷ []))
parts content = sym (append-nil (block content)) ∙ block_parts content []

pub block_length : (content : List ℕ) → length (block content) ≡ length content + 5
block_length content =
    omega (arith, ap length (parts content), length-append content (sum_byte (header (length content) ++ content) ∷ []))

-- the content of a block is what remains without the first four bytes and the last byte
pub cut_is : (content bytes : List ℕ) → bytes ≡ block content → take (length bytes - 1 - 4) (drop 4 bytes) ≡ content
cut_is content bytes e =
    let P : List ℕ → Type 0 = λ l. take (length bytes - 1 - 4) (drop 4 l) ≡ content in
    let long : length bytes - 1 - 4 ≡ length content = omega (arith, ap length e, block_length content) in
    let Q : ℕ → Type 0 = λ n. take n (content ++ sum_byte (header (length content) ++ content) ∷ []) ≡ content in
    subst P (sym (e ∙ parts content))
    (subst Q (sym long) (take-append_seam content (sum_byte (header (length content) ++ content) ∷ [])))

-- ---- bytes that are not a listed block

pub none_short : (bytes content : List ℕ) → length bytes < 5 → bytes ≡ block content → IsListed content → ⊥
none_short bytes content short e listed = omega (arith, ap length e, block_length content, short)

pub none_long : (bytes content : List ℕ) → 517 < length bytes → bytes ≡ block content → IsListed content → ⊥
none_long bytes content long e listed =
    let fits = listed.fits in omega (arith, ap length e, block_length content, long, fits)

pub none_other : (bytes content : List ℕ) → (get_or bytes 0 0 ≡ 1 → ⊥) → bytes ≡ block content → IsListed content → ⊥
none_other bytes content other e listed = other (ap (λ (l : List ℕ). get_or l 0 0) (e ∙ parts content))

pub none_counted : (bytes content : List ℕ) (count : ℕ) → count ≡ get_or bytes 2 0 + 256 * get_or bytes 3 0 → (count + 1 ≡ length bytes → ⊥)
    → bytes ≡ block content → IsListed content → ⊥
none_counted bytes content count is other e listed =
    let fits = listed.fits in
    let low : get_or bytes 2 0 ≡ (length content + 4) % 256 = ap (λ (l : List ℕ). get_or l 2 0) (e ∙ parts content) in
    let high : get_or bytes 3 0 ≡ (length content + 4) / 256 % 256 = ap (λ (l : List ℕ). get_or l 3 0) (e ∙ parts content) in
    other (omega (arith, ap length e, block_length content, is, low, high, fits))

pub none_unlisted : (bytes cut content : List ℕ) → cut ≡ take (length bytes - 1 - 4) (drop 4 bytes) → part_of cut ≡ Other
    → bytes ≡ block content → IsListed content → ⊥
none_unlisted bytes cut content is other e listed =
    let P : List ℕ → Type 0 = λ l. part_of l ≡ Other in listed.type (subst P (is ∙ cut_is content bytes e) other)

pub none_changed : (bytes cut content : List ℕ) → cut ≡ take (length bytes - 1 - 4) (drop 4 bytes) → (block cut ≡ bytes → ⊥)
    → bytes ≡ block content → IsListed content → ⊥
none_changed bytes cut content is changed e listed =
    changed (ap (λ (l : List ℕ). block l) (is ∙ cut_is content bytes e) ∙ sym e)

-- ---- each index at which a listed block may begin

abbrev pub NoneAt : List ℕ → ℕ → Type 0
NoneAt bytes k = (content : List ℕ) → drop k bytes ≡ block content → IsListed content → ⊥

pub starts_more : (bytes : List ℕ) (start : ℕ) → ((k : ℕ) → k < start → NoneAt bytes k) → NoneAt bytes start
    → (k : ℕ) → k < start + 1 → NoneAt bytes k
starts_more bytes start each here k lt = below_more (λ (n : ℕ). NoneAt bytes n) start each here k lt

pub starts_none : (bytes : List ℕ) → ((k : ℕ) → k < length bytes → NoneAt bytes k) → NoneEnds bytes
starts_none bytes each before content e listed =
    let P : List ℕ → Type 0 = λ l. drop (length before) l ≡ block content in
    each (length before) (omega (arith, ap length e, length-append before (block content), block_length content)) content
    (subst P (sym e) (drop-append_seam before (block content))) listed

-- the bytes that remain at an index are as many as the total less that index
pub from_start : (bytes : List ℕ) (start : ℕ) → take (length bytes - start) (drop start bytes) ≡ drop start bytes
from_start bytes start = take_all (length bytes - start) (drop start bytes) (omega (arith, length-drop start bytes))

pub starts_found : (bytes content : List ℕ) (start : ℕ) → drop start bytes ≡ block content → IsListed content → EndsWith content bytes
starts_found bytes content start e listed = record {
  before = take start bytes;
  is = sym (take-append-drop start bytes) ∙ ap (λ (l : List ℕ). take start bytes ++ l) e;
  listed = listed;
}

-- ---- the ends of lists

ends_in : (dropped window before tail : List ℕ) → dropped ++ window ≡ before ++ tail → length tail ≤ length window
    → (front : List ℕ) × (window ≡ front ++ tail)
ends_in [] window before tail e le = (before, e)
ends_in (x ∷ dropped) window [] tail e le = absurd (omega (arith, ap length e, length-append dropped window, le))
ends_in (x ∷ dropped) window (y ∷ before) tail e le =
    let rest : dropped ++ window ≡ before ++ tail = cc in ends_in dropped window before tail rest le

last_of_all : (x : ℕ) (xs : List ℕ) → (front : List ℕ) × (last : ℕ) × (x ∷ xs ≡ front ++ last ∷ [])
last_of_all x [] = ([], x, refl)
last_of_all x (y ∷ xs) = let r = last_of_all y xs in (x ∷ r.0, r.1, ap (λ (l : List ℕ). x ∷ l) r.2)

no_end : (xs : List ℕ) (x : ℕ) → [] ≡ xs ++ x ∷ [] → ⊥
no_end [] x e = cc
no_end (y ∷ xs) x e = cc

fronts : (xs ys : List ℕ) (x y : ℕ) → xs ++ x ∷ [] ≡ ys ++ y ∷ [] → xs ≡ ys
fronts [] [] x y e = refl
fronts [] (b ∷ ys) x y e = absurd (let rest : [] ≡ ys ++ y ∷ [] = cc in no_end ys y rest)
fronts (a ∷ xs) [] x y e = absurd (let rest : [] ≡ xs ++ x ∷ [] = cc in no_end xs x rest)
fronts (a ∷ xs) (b ∷ ys) x y e =
    let rest : xs ++ x ∷ [] ≡ ys ++ y ∷ [] = cc in
    let same : a ≡ b = cc in
    ap (λ (l : List ℕ). a ∷ l) (fronts xs ys x y rest) ∙ ap (λ (n : ℕ). n ∷ ys) same

-- ---- bytes in which no listed block lies

none_at_first : NoneIn []
none_at_first before content after e listed =
    omega (arith, ap length e, length-append (before ++ block content) after, length-append before (block content), block_length content)

none_more : (given : List ℕ) (byte : ℕ) → NoneIn given → NoneEnds (given ++ byte ∷ []) → NoneIn (given ++ byte ∷ [])
none_more given byte none ends before content [] e listed = ends before content (e ∙ append-nil (before ++ block content)) listed
none_more given byte none ends before content (x ∷ after) e listed =
    let s = last_of_all x after in
    let all : given ++ byte ∷ [] ≡ ((before ++ block content) ++ s.0) ++ s.1 ∷ [] =
    e ∙ ap (λ (l : List ℕ). (before ++ block content) ++ l) s.2 ∙ sym (append_assoc (before ++ block content) s.0 (s.1 ∷ [])) in
    none before content s.0 (fronts given ((before ++ block content) ++ s.0) byte s.1 all) listed

-- ---- the last bytes

-- the window holds the last of the bytes that were read: all of them, or at least 517, as many as a block may have
pub record Ending (window given : List ℕ) : Type 0 where
  pub dropped : List ℕ
  pub is : given ≡ dropped ++ window
  pub whole : (dropped ≡ []) ⊎ (517 ≤ length window)

-- the new window is the old one with one more byte after it; bytes at its front may be dropped if it then has exactly 517
abbrev pub Kept : List ℕ → ℕ → List ℕ → Type 0
Kept window byte window' = (front : List ℕ) × (window ++ byte ∷ [] ≡ front ++ window') × ((front ≡ []) ⊎ (length window' ≡ 517))

pub kept : (window window' : List ℕ) (byte : ℕ) → (length window < 517 → window' ≡ window ++ byte ∷ [])
    → (length window ≡ 517 → window' ≡ drop 1 window ++ byte ∷ []) → length window ≤ 517 → Kept window byte window'
kept [] window' byte room full fits = ([], sym (room (omega arith)), inl refl)
kept (x ∷ window) window' byte room full fits =
    elim (eqb_tells (length (x ∷ window)) 517) [
      | inl hit ↦ let e = full hit.1 in (
        x ∷ [],
        ap (λ (l : List ℕ). x ∷ l) (sym e),
        inr (omega (arith, ap length e, length-append window (byte ∷ []), hit.1)),
      )
      | inr miss ↦ ([], sym (room (omega (arith, fits, miss.1))), inl refl)
    ]

ending_more_by : (window window' front dropped : List ℕ) (byte : ℕ) → window ++ byte ∷ [] ≡ front ++ window'
    → (dropped ≡ []) ⊎ (517 ≤ length window) → (front ≡ []) ⊎ (length window' ≡ 517)
    → (dropped ++ front ≡ []) ⊎ (517 ≤ length window')
ending_more_by window window' front dropped byte e whole (inr long) = inr (omega (arith, long))
ending_more_by window window' front dropped byte e (inl none) (inl all) =
    inl (ap (λ (l : List ℕ). l ++ front) none ∙ all)
ending_more_by window window' front dropped byte e (inr long) (inl all) =
    inr (omega (arith, ap length e, ap length all, length-append window (byte ∷ []), length-append front window', long))

ending_more : (window window' given : List ℕ) (byte : ℕ) → Ending window given
    → Kept window byte window' → Ending window' (given ++ byte ∷ [])
ending_more window window' given byte w k = record {
  dropped = w.dropped ++ k.0;
  is = ap (λ (l : List ℕ). l ++ byte ∷ []) w.is ∙ append_assoc w.dropped window (byte ∷ [])
      ∙ ap (λ (l : List ℕ). w.dropped ++ l) k.1 ∙ sym (append_assoc w.dropped k.0 window');
  whole = ending_more_by window window' k.0 w.dropped byte k.1 w.whole k.2;
}

none_ends_by : (window given dropped : List ℕ) → given ≡ dropped ++ window → (dropped ≡ []) ⊎ (517 ≤ length window)
    → NoneEnds window → NoneEnds given
none_ends_by window given dropped is (inl none) ends before content e listed =
    let same : window ≡ given = sym (is ∙ ap (λ (l : List ℕ). l ++ window) none) in
    ends before content (same ∙ e) listed
none_ends_by window given dropped is (inr long) ends before content e listed =
    let fits = listed.fits in
    let t = ends_in dropped window before (block content) (sym is ∙ e) (omega (arith, block_length content, fits, long)) in
    ends t.0 content t.1 listed

none_ends : (window given : List ℕ) → Ending window given → NoneEnds window → NoneEnds given
none_ends window given w ends = none_ends_by window given w.dropped w.is w.whole ends

ends_all : (content window given : List ℕ) → Ending window given → EndsWith content window → EndsWith content given
ends_all content window given w ends = record {
  before = w.dropped ++ ends.before;
  is = w.is ∙ ap (λ (l : List ℕ). w.dropped ++ l) ends.is ∙ sym (append_assoc w.dropped ends.before (block content));
  listed = ends.listed;
}

-- ---- looking for a block

-- no listed block lies in the bytes that were read, and the window holds the last of these
pub record Seeking (old here : Position) (window : List ℕ) : Type 0 where
  pub given : List ℕ
  pub took : Took old here given
  pub ending : Ending window given
  pub none : NoneIn given
  pub whole : old.room ≡ 4194304

pub seeking_begins : (old : Position) → old.room ≡ 4194304 → Seeking old old []
seeking_begins old room = record {
  given = [];
  took = took_nothing old;
  ending = record { dropped = []; is = refl; whole = inl refl };
  none = none_at_first;
  whole = room;
}

module _ (old here : Position) (window : List ℕ) (s : Seeking old here window) where
  -- one more byte was read
  module _ (there : Position) (byte : ℕ) (window' : List ℕ) (t : Took here there (byte ∷ [])) (k : Kept window byte window') where
    took_more : Took old there (s.given ++ byte ∷ [])
    took_more = took_then old here there s.given (byte ∷ []) s.took t

    ending' : Ending window' (s.given ++ byte ∷ [])
    ending' = ending_more window window' s.given byte s.ending k

    pub seeking_more : NoneEnds window' → Seeking old there window'
    seeking_more ends = record {
      given = s.given ++ byte ∷ [];
      took = took_more;
      ending = ending';
      none = none_more s.given byte s.none (none_ends window' (s.given ++ byte ∷ []) ending' ends);
      whole = s.whole;
    }

    pub seeking_found : (content : List ℕ) (count : ℕ) → EndsWith content window' → count ≡ 4194304 - there.room
        → Seeks content old there (Ok count)
    seeking_found content count ends e = (
      s.given ++ byte ∷ [],
      took_more,
      record {
        ends = ends_all content window' (s.given ++ byte ∷ []) ending' ends;
        front = s.given;
        last = byte;
        all = refl;
        none = s.none;
      },
      omega (arith, e, took_more.room, s.whole),
    )

    pub seeking_lacks : (content : List ℕ) (said : LocatedFault) → said ≡ placed_at fault.NoMemory 0 (4194304 - there.room)
        → Seeks content old there (Err said)
    seeking_lacks content said e =
        let P : LocatedFault → Type 0 = λ x. Seeks content old there (Err x) in
        let count : 4194304 - there.room ≡ length (s.given ++ byte ∷ []) = omega (arith, took_more.room, s.whole) in
        subst P (sym e) ((s.given ++ byte ∷ [], took_more, count), refl)

  -- if no further byte is read, the first block isn't found, for the reason that the fault gives
  unfound : (new : Position) (inner : DumpFault) → LacksByte here new inner → UnfoundBy inner old new (4194304 - new.room)
  unfound new (fault.Block block_fault.Device) h =
      (((s.given, (here, s.took, h), tt), omega (arith, s.took.room, s.whole, h.2)), s.none)
  unfound new (fault.Block block_fault.TooMuch) h =
      (((s.given, (here, s.took, h), tt), omega (arith, s.took.room, s.whole, h.3, h.4)), s.none)
  unfound new (fault.Rule rule.BadOrder) h =
      (((s.given, (here, s.took, h), refl), omega (arith, s.took.room, s.whole, h.2)), s.none)
  unfound new (fault.Block block_fault.Truncated) h = absurd h
  unfound new (fault.Block block_fault.BadSum) h = absurd h
  unfound new (fault.Block block_fault.TooLong) h = absurd h
  unfound new (fault.Block block_fault.BadStart) h = absurd h
  unfound new (fault.Block block_fault.TooShort) h = absurd h
  unfound new (fault.Block block_fault.Failed) h = absurd h
  unfound new (fault.Rule rule.NoText) h = absurd h
  unfound new (fault.Rule rule.BadDisplacement) h = absurd h
  unfound new (fault.Rule rule.UnknownSection) h = absurd h
  unfound new (fault.Rule rule.TextOutside) h = absurd h
  unfound new (fault.Rule rule.TooManyGlobals) h = absurd h
  unfound new (fault.Rule rule.TooManySections) h = absurd h
  unfound new (fault.Rule rule.TooManyModules) h = absurd h
  unfound new (fault.Rule rule.NoMemory) h = absurd h
  unfound new (fault.Record inner) h = absurd h
  unfound new (fault.Tape inner) h = absurd h
  unfound new fault.Write h = absurd h
  unfound new fault.NoMemory h = absurd h

  pub seeking_stops : (content : List ℕ) (new : Position) (inner : DumpFault) (said : LocatedFault) → LacksByte here new inner
      → said ≡ placed_at inner 0 (4194304 - new.room) → Seeks content old new (Err said)
  seeking_stops content new inner said h e =
      let P : LocatedFault → Type 0 = λ x. Seeks content old new (Err x) in
      subst P (sym e) (unfound new inner h, refl)
