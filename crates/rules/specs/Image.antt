-- An image compiled. "Order: 1, 5, 2 (lowest block), 3, 4 (lowest byte), then as `Registry::compile`".
use Rattle.std.specs.Prelude.{ℕ, ◌+◌, ◌*◌, ◌/◌, ◌%◌, Bool, not, ◌||◌, List, eqb, ltb, length}
use Rattle.laws.specs.Options.{found}
use Rattle.laws.specs.Out.{given, refused, ◌>>◌, refuse_if}
use Rattle.laws.specs.Ranges.{first, overlay}
use Rattle.rules.specs.Bytes.{le2, le4, block_sum}
use Rattle.rules.specs.Layout.{byte_wrong}
use Rattle.rules.specs.Refusal.{Refusal, Placed, at, ImageLength, WrongBlock, Schema, WrongByte}
use Rattle.rules.specs.Catalog.{catalog_in}
use Rattle.rules.specs.Compile.{Compiled, compile}
use Rattle.rules.specs.Table.{table_size, room_for, table_words}

-- 1: "1 to 121 blocks of 512 bytes"
unfoldable pub length_wrong : List ℕ → Bool
length_wrong s = eqb (length s) 0 || not (eqb (length s % 512) 0) || ltb (121 * 512) (length s)

-- 1, returning the "length"
unfoldable pub length_check : List ℕ → Placed (Unit {0})
length_check s = at 0 (refuse_if (length_wrong s) (ImageLength (length s)))

-- refused at the first place below n that is wrong, which is returned too
abbrev pub refuse_first : (ℕ → Bool) → ℕ → (ℕ → Refusal) → Placed (Unit {0})
refuse_first wrong n x = found (first wrong n) (λ i. refused (record { place = i; refusal = x i })) (given tt)

-- 2, "block place or sum wrong": "Bytes 0-1: block's place from 0"; "Bytes 508-511: the sum"
unfoldable pub sum_wrong : List ℕ → ℕ → Bool
sum_wrong s b = not (eqb (le2 s (b * 512)) b) || not (eqb (le4 s (b * 512 + 508)) (block_sum s b))

-- 2, 3, 4: "2 (lowest block)"; "schema, 4 bytes at 4", "schema not 4"; "4 (lowest byte)"
unfoldable pub readable : List ℕ → Placed (Unit {0})
readable s = do
  refuse_first (sum_wrong s) (length s / 512) WrongBlock
  at 0 (refuse_if (not (eqb (le4 s 4) 4)) (Schema (le4 s 4)))
  refuse_first (byte_wrong s) (length s) WrongByte

-- 1, 2, 3, 4: what an image is refused for whatever table is lent
unfoldable pub image_check : List ℕ → Placed (Unit {0})
image_check s = length_check s >> readable s

-- 1, 5, 2, 3, 4: `room` is the length of the table lent
unfoldable pub lent_check : List ℕ → ℕ → Placed (Unit {0})
lent_check s room = do
  length_check s
  at 0 (room_for table_size room)
  readable s

-- "Order: 1, 5, 2 .., 3, 4 .., then as `Registry::compile`"
unfoldable pub compile_image : List ℕ → ℕ → Placed Compiled
compile_image s room = lent_check s room >> compile (catalog_in s)

-- "A compilation that succeeds writes the table's first 9,296 words and nothing else"
unfoldable pub table_after : List ℕ → List ℕ → List ℕ
table_after s old = elim (compile_image s (length old)) [ given c ↦ overlay (table_words (catalog_in s)) old | refused x ↦ old ]
