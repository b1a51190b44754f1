-- Reading an object or a tape from a feed, up to a limit on its bytes: the bytes read, why no more were returned, and the value that
-- a function on lists of bytes finds in them. (This project's own.)
use Rattle.std.specs.Prelude.{◌≡◌, ℕ, ◌+◌, ◌<◌, ◌++◌, length, ⊤, Option, Result, Ok, Err}
use Rattle.std.specs.List.{AllByRecursion}
use Rattle.m11_base.specs.Devices.{Bytes, Rises}
use Rattle.m11_base.specs.Feed.{Text, GivesByte, GivesBytes, GivesEnd, GivesFailure}
use Rattle.m11_obj_blocks.specs.declared.limited.Lack.{Lack}
use Rattle.m11_obj_blocks.specs.declared.limited.Lack.TheVariants as lack

-- the most bytes that an object or a tape may have
abbrev pub most_bytes : ℕ
most_bytes = 4194304

-- ---- what a feed does

-- a feed: its text, its count of failures, and how many more bytes are within the limit
pub record Position : Type 0 where
  pub text : Option Text
  pub faults : ℕ
  pub room : ℕ

abbrev pub position : Option Text → ℕ → ℕ → Position
position text faults room = record { text = text; faults = faults; room = room }

-- these bytes, each below 256, were read, all within the limit, and the feed didn't fail
pub record Took (old new : Position) (given : Bytes) : Type 0 where
  pub gave : GivesBytes old.text new.text given
  pub faults : new.faults ≡ old.faults
  pub room : old.room ≡ length given + new.room
  pub bytes : AllByRecursion (λ byte. byte < 256) given

-- this many bytes were read, and added to the end of a block's content
pub record TookInto (old new : Position) (before after : Bytes) (count : ℕ) : Type 0 where
  pub given : Bytes
  pub took : Took old new given
  pub added : after ≡ before ++ given
  pub counted : length given ≡ count

-- no byte was returned: the feed failed and counted the failure, or it ended, or a byte past the limit was read
abbrev pub Lacks : Position → Position → Lack → Type 0
Lacks old new lack.Device =
    GivesFailure old.text new.text old.faults × Rises old.faults new.faults × (new.room ≡ old.room)
Lacks old new lack.End = GivesEnd old.text new.text × (new.faults ≡ old.faults) × (new.room ≡ old.room)
Lacks old new lack.TooMuch =
    (byte : ℕ) × GivesByte old.text new.text byte × (new.faults ≡ old.faults) × (old.room ≡ 0) × (new.room ≡ 0)

-- these bytes were read, and then no further byte was returned, for this reason
abbrev pub TookThenLacks : Position → Position → Bytes → Lack → Type 0
TookThenLacks old new given why = (middle : Position) × Took old middle given × Lacks middle new why

-- ---- what a function on lists of bytes yields for the bytes read, and what a call then returns

-- why bytes don't begin with a value: they end before it or inside it; or they are refused, with this fault and the bytes after the
-- byte that shows the fault
pub data Stop (Fault : Type 0) : Type 0 where
  Between : Stop Fault
  Inside : Stop Fault
  Refused : Fault → Bytes → Stop Fault

-- the value at the beginning of some bytes, and the bytes after it; or why the bytes don't begin with a value
abbrev pub Read : Type 0 → Type 0 → Type 0
Read Fault A = Result (A × Bytes) (Stop Fault)

infixl 10 ◌>>=◌
abbrev pub ◌>>=◌ : {A B E : Type 0} → Result A E → (A → Result B E) → Result B E
(Ok x) >>= f = f x
(Err e) >>= f = Err e

-- the bytes end before a value or inside one, and so are too few to decide
abbrev pub IsShort : {Fault A : Type 0} → Read Fault A → Type 0
IsShort (Ok x) = ⊥
IsShort (Err Between) = ⊤
IsShort (Err Inside) = ⊤
IsShort (Err (Refused fault rest)) = ⊥

-- why a call returns no value: the feed fails; it ends before a value or inside one; a byte passes the limit; the bytes are refused
-- with this fault; `Never` is for a fault that no call returns after reading
pub data Why (Fault : Type 0) : Type 0 where
  Fails : Why Fault
  EndsBetween : Why Fault
  EndsInside : Why Fault
  Passes : Why Fault
  Refuses : Fault → Why Fault
  Never : Why Fault

-- a call read the bytes of a value and no others, whatever comes after them
pub record Reads {Fault A : Type 0} (read : Bytes → Read Fault A) (old new : Position) (value : A) : Type 0 where
  pub given : Bytes
  pub took : Took old new given
  pub is : (rest : Bytes) → read (given ++ rest) ≡ Ok (value, rest)

-- a call returns no value: the feed failed, ended or passed the limit after too few bytes, or it gave bytes that are refused,
-- whatever comes after them
abbrev pub Stops : {Fault A : Type 0} → (Bytes → Read Fault A) → Position → Position → Why Fault → Type 0
Stops read old new Fails = (given : Bytes) × TookThenLacks old new given lack.Device × IsShort (read given)
Stops read old new EndsBetween = (given : Bytes) × TookThenLacks old new given lack.End × (read given ≡ Err Between)
Stops read old new EndsInside = (given : Bytes) × TookThenLacks old new given lack.End × (read given ≡ Err Inside)
Stops read old new Passes = (given : Bytes) × TookThenLacks old new given lack.TooMuch × IsShort (read given)
Stops read old new (Refuses fault) =
    (given : Bytes) × Took old new given × ((rest : Bytes) → read (given ++ rest) ≡ Err (Refused fault rest))
Stops read old new Never = ⊥
