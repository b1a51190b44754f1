-- The widths of columns.
use Rattle.std.proofs.Common.{◌≡◌, ◌-◌, ◌≤◌, ◌<◌, ℕ, List, ◌++◌, take, length, Option, Some, None, refl, arith, lit<}
use Rattle.std.proofs.lemmas.Fmt.{length-decimal-le}
use Rattle.std.proofs.lemmas.List.{length-append, length-replicate, length-take}
use Rattle.std.specs.Fmt.{decimal}
use Rattle.std.specs.List.{slice_get}
use Rattle.m11_base.specs.Devices.{Bytes}
use Rattle.m11_base.specs.Octal.{octal_text}
use Rattle.m11_asm_listing.specs.declared.items.Item.{Item}
use Rattle.m11_asm_listing.specs.declared.items.Item.TheVariants.{InByte, InWord}
use Rattle.m11_asm_listing.specs.Columns.{at_left, at_right, blanks}
use Rattle.m11_asm_listing.specs.Items.{item_column, items_column}
use Rattle.m11_asm_listing.specs.Listing.{head, location_and_items}

pub length-at_left : (width : ℕ) (text : Bytes) → length text ≤ width → length (at_left width text) ≡ width
length-at_left width text h =
    omega (arith, length-append text (blanks (width - length text)), length-replicate {A = ℕ} (width - length text) 32)

pub length-at_right : (width : ℕ) (text : Bytes) → length text ≤ width → length (at_right width text) ≡ width
length-at_right width text h =
    omega (arith, length-append (blanks (width - length text)) text, length-replicate {A = ℕ} (width - length text) 32)

length-item : (item : Option Item) → length (item_column item) ≡ 8
length-item None = refl
length-item (Some (InByte byte mark)) = refl
length-item (Some (InWord word mark)) = refl

length-three : (one two three : Bytes) → length one ≡ 8 → length two ≡ 8 → length three ≡ 8 → length (one ++ two ++ three) ≡ 24
length-three one two three e f g = omega (arith, length-append (one ++ two) three, length-append one two)

pub length-items_column : (items : List Item) → length (items_column items) ≡ 24
length-items_column items =
    length-three (item_column (slice_get items 0)) (item_column (slice_get items 1)) (item_column (slice_get items 2))
    (length-item (slice_get items 0)) (length-item (slice_get items 1)) (length-item (slice_get items 2))

length-flags : (flags : Bytes) → length (at_left 4 (take 4 flags)) ≡ 4
length-flags flags = length-at_left 4 (take 4 flags) (omega (arith, length-take 4 flags))

length-number : (number : ℕ) → number < 65536 → length (at_right 6 (decimal number)) ≡ 6
length-number number h =
    length-at_right 6 (decimal number) (omega (arith, length-decimal-le 5 number (lit< tt) (omega arith) (omega arith)))

pub length-head : (flags : Bytes) (number : ℕ) → number < 65536 → length (head flags number) ≡ 10
length-head flags number h =
    omega (
      arith,
      length-append (at_left 4 (take 4 flags)) (at_right 6 (decimal number)),
      length-flags flags,
      length-number number h,
    )

pub length-location_and_items : (location : ℕ) (items : List Item) → length (location_and_items location items) ≡ 31
length-location_and_items location items =
    let seven : length (blanks 1 ++ octal_text location) ≡ 7 = refl in
    omega (arith, seven, length-append (blanks 1 ++ octal_text location) (items_column items), length-items_column items)

pub length-front : (flags : Bytes) (number location : ℕ) (items : List Item) → number < 65536
    → length (head flags number ++ location_and_items location items ++ blanks 1) ≡ 42
length-front flags number location items h =
    omega (
      arith,
      length-append (head flags number ++ location_and_items location items) (blanks 1),
      length-append (head flags number) (location_and_items location items),
      length-head flags number h,
      length-location_and_items location items,
    )
