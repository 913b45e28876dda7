-- An image that 1, 3 and 4 do not refuse: its length is what its counts give, and no byte of it is wrong. Assumes nothing.
use Prim.Native.Nat.{ℕ, ◌+◌, ◌-◌, ◌*◌, ◌/◌, ◌%◌, ◌<◌, ◌≤◌}
use mathlib.Core.Path.{◌≡◌, refl}
use mathlib.Core.Bool.{Bool, true, false, not, ◌||◌, true≢false}
use mathlib.Core.List.{List}
use Rattle.std.specs.declared.option.Option.{Option}
use Rattle.std.specs.declared.option.Option.TheVariants.{None, Some}
use native.Mathlib.Omega.{arith}
use lib.Dec.{eqb, ltb, leb}
use lib.ListN.{length}
use borrow.Author.Tests.{eqb-true, eqb-false, lt-ltb, le-ltb, le-leb, ltb-false}
use Rattle.laws.specs.Out.{given, refuse_if}
use Rattle.laws.specs.Ranges.{first}
use Rattle.laws.proofs.Cases.{or_neither}
use Rattle.laws.proofs.Checks.{then_given, refuse_given}
use Rattle.laws.proofs.First.{first_misses}
use Rattle.rules.specs.Layout.{kind_count, row_count, blocks_by, header_wrong, kind_wrong, block_wrong, byte_wrong}
use Rattle.rules.specs.Bytes.{le4}
use Rattle.rules.specs.Refusal.{Refusal, at, ImageLength, WrongBlock, Schema, Short}
use Rattle.rules.specs.Catalog.{catalog_in, kind_at}
use Rattle.rules.specs.Compile.{Compiled, compile}
use Rattle.rules.specs.Image.{length_wrong, length_check, refuse_first, sum_wrong, readable, lent_check, compile_image}
use Rattle.rules.specs.Table.{room_for}
use Rattle.guarantees.proofs.Given.{at_given, not_true}

pub record LaidOut (s : List ℕ) : Type 0 where
  pub blocks : 512 ≤ length s
  pub bytes : (i : ℕ) → i < length s → byte_wrong s i ≡ false

long : (s : List ℕ) → length_wrong s ≡ false → 512 ≤ length s
unfolding length_wrong
long s e =
    let a = or_neither (eqb (length s) 0 || not (eqb (length s % 512) 0)) _ e in
    let b = or_neither (eqb (length s) 0) _ a.0 in
    let z = eqb-false (length s) 0 b.0 in
    let m = eqb-true (length s % 512) 0 (not_true _ b.1) in
    omega arith

first_given : (wrong : ℕ → Bool) (n : ℕ) (x : ℕ → Refusal) {u : Unit {0}} → refuse_first wrong n x ≡ given u → first wrong n ≡ None
first_given wrong n x e = go (first wrong n) refl
  where
    go : (o : Option ℕ) → first wrong n ≡ o → first wrong n ≡ None
    go None p = p
    go (Some i) p = let z : true ≡ false = cc in absurd (true≢false z)

pub lent_tells : (s : List ℕ) (room : ℕ) {u : Unit {0}} → lent_check s room ≡ given u → LaidOut s
unfolding lent_check length_check readable
lent_tells s room e =
    let a = then_given (length_check s) _ e in
    let b = then_given (at 0 (room_for 9296 room)) _ a.2 in
    let f = then_given (refuse_first (sum_wrong s) (length s / 512) WrongBlock) _ b.2 in
    let g = then_given (at 0 (refuse_if (not (eqb (le4 s 4) 4)) (Schema (le4 s 4)))) _ f.2 in
    record {
      blocks = long s (refuse_given (length_wrong s) _ (at_given 0 (refuse_if (length_wrong s) (ImageLength (length s))) a.1));
      bytes = λ i h. first_misses (byte_wrong s) (length s) i (first_given (byte_wrong s) (length s) _ g.2) h;
    }

-- and 5 does not refuse the table lent for it
pub lent_room : (s : List ℕ) (room : ℕ) {u : Unit {0}} → lent_check s room ≡ given u → 9296 ≤ room
unfolding lent_check
lent_room s room e =
    let a = then_given (length_check s) _ e in
    let b = then_given (at 0 (room_for 9296 room)) _ a.2 in
    ltb-false room 9296 (refuse_given (ltb room 9296) _ (at_given 0 (refuse_if (ltb room 9296) (Short room)) b.1))

pub image_tells : (s : List ℕ) (room : ℕ) (c : Compiled) → compile_image s room ≡ given c → LaidOut s × (compile (catalog_in s) ≡ given c)
unfolding compile_image
image_tells s room c e = let d = then_given (lent_check s room) _ e in (lent_tells s room d.1, d.2)

module _ (s : List ℕ) (laid : LaidOut s) where
  -- "a length that the counts don't give" is charged to byte 8
  laid_length : length s ≡ 512 * blocks_by s
  unfolding byte_wrong header_wrong
  laid_length = go (ltb 240 (kind_count s)) refl (eqb (length s) (512 * blocks_by s)) refl
    where
      e : byte_wrong s 8 ≡ false
      e = laid.bytes 8 (omega (arith, laid.blocks))

      go : (t : Bool) → ltb 240 (kind_count s) ≡ t → (u : Bool) → eqb (length s) (512 * blocks_by s) ≡ u → length s ≡ 512 * blocks_by s
      go t p true q = eqb-true _ _ q
      go true p false q = let w : true ≡ false = rw p at e in absurd (true≢false w)
      go false p false q = let w : true ≡ false = rw (p, q) at e in absurd (true≢false w)

  -- "kind count at 8 (2 bytes, to 240); row count at 10 (2 bytes, to 200)"
  pub few_kinds : kind_count s ≤ 240
  unfolding byte_wrong header_wrong
  few_kinds = go (ltb 240 (kind_count s)) refl
    where
      e : byte_wrong s 8 ≡ false
      e = laid.bytes 8 (omega (arith, laid.blocks))

      go : (t : Bool) → ltb 240 (kind_count s) ≡ t → kind_count s ≤ 240
      go true p = let w : true ≡ false = rw p at e in absurd (true≢false w)
      go false p = ltb-false 240 (kind_count s) p

  pub few_rows : row_count s ≤ 200
  unfolding byte_wrong header_wrong
  few_rows = go (ltb 200 (row_count s)) refl
    where
      e : byte_wrong s 10 ≡ false
      e = laid.bytes 10 (omega (arith, laid.blocks))

      go : (t : Bool) → ltb 200 (row_count s) ≡ t → row_count s ≤ 200
      go true p = let w : true ≡ false = rw p at e in absurd (true≢false w)
      go false p = ltb-false 200 (row_count s) p

  -- byte f of the record b of block 1 + a
  spot_block : (a b f : ℕ) → b < 3 → f < 148 → (512 * (1 + a) + 4 + b * 148 + f) / 512 ≡ 1 + a
  spot_block a b f h l = omega arith

  spot_in : (a b f : ℕ) → b < 3 → f < 148 → (512 * (1 + a) + 4 + b * 148 + f) % 512 ≡ 4 + (b * 148 + f)
  spot_in a b f h l = omega arith

  spot_record : (b f : ℕ) → f < 148 → (4 + (b * 148 + f) - 4) / 148 ≡ b
  spot_record b f l = omega arith

  spot_byte : (b f : ℕ) → f < 148 → (4 + (b * 148 + f) - 4) % 148 ≡ f
  spot_byte b f l = omega arith

  -- byte f of kind k's record is not wrong
  pub kind_fine_law : (k f : ℕ) → k < kind_count s → f < 148 → kind_wrong s (kind_at k) (kind_at k + f) ≡ false
  unfolding byte_wrong block_wrong
  kind_fine_law k f hk hf =
      let spot : ℕ = kind_at k + f in
      let m : k % 3 < 3 = omega arith in
      let n : k / 3 + 1 ≤ (kind_count s + 2) / 3 = omega arith in
      let o : spot < 512 * blocks_by s = omega arith in
      let e : byte_wrong s spot ≡ false = laid.bytes spot (rw laid_length o) in
      let q : spot / 512 ≡ 1 + k / 3 = spot_block (k / 3) (k % 3) f m hf in
      let r : spot % 512 ≡ 4 + (k % 3 * 148 + f) = spot_in (k / 3) (k % 3) f m hf in
      let a : ltb spot 512 ≡ false = le-ltb spot 512 (omega arith) in
      let c : leb (1 + k / 3) ((kind_count s + 2) / 3) ≡ true = le-leb (1 + k / 3) ((kind_count s + 2) / 3) (omega arith) in
      let d : ltb (4 + (k % 3 * 148 + f)) 4 ≡ false = le-ltb (4 + (k % 3 * 148 + f)) 4 (omega arith) in
      let g : ltb (4 + (k % 3 * 148 + f)) 448 ≡ true = lt-ltb (4 + (k % 3 * 148 + f)) 448 (omega arith) in
      let i : ltb ((1 + k / 3 - 1) * 3 + k % 3) (kind_count s) ≡ true = lt-ltb ((1 + k / 3 - 1) * 3 + k % 3) (kind_count s) (omega arith) in
      let j : kind_at k + f - f ≡ kind_at k = omega arith in
      let w : kind_wrong s (kind_at k + f - f) (kind_at k + f) ≡ false = rw (a, q, r, c, d, g, spot_record (k % 3) f hf, i, spot_byte (k % 3) f hf) at e in
      rw j at w
