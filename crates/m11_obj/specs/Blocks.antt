-- Blocks that contain records. (RT-11 Volume and File Formats Manual, "Object file format".)
use Rattle.std.specs.Prelude.{◌≡◌, ℕ, List, map, Ok}
use Rattle.arrayvec.specs.ArrayVec.{ArrayVec}
use Rattle.m11_obj.specs.Reading.{content_of}
use Rattle.m11_obj.specs.Records.{Content, record_data}

-- the contents of these blocks are these records, both as written and as read
abbrev pub AreRecords : List (ArrayVec ℕ) → List Content → Type 0
AreRecords blocks contents = (map (λ block. block.items) blocks ≡ map record_data contents)
    × (map (λ block. content_of block.items) blocks ≡ map (λ content. Ok content) contents)
