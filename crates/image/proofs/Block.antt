-- A block of records taken apart: its head, the records that it holds, the unnamed bytes past them, its sum. Stated over what is used of the
-- records' size, so that kinds and rows are one case. Assumes nothing.
use Prim.Native.Nat.{ℕ, zero, suc, ◌+◌, ◌*◌, ◌-◌, ◌/◌, ◌%◌, ◌<◌, ◌≤◌, min}
use mathlib.Core.Path.{◌≡◌, ◌∙◌, ap, ap₂}
use mathlib.Core.Bool.{Bool, false, not, ◌&&◌, ◌||◌, or-false, and-false}
use mathlib.Core.List.{List}
use native.Mathlib.Decide.{dec_le}
use native.Mathlib.Nat.{mul_comm, mul-suc, div-lt_iff_lt-mul}
use Rattle.std.proofs.lemmas.Nat.{div-mul-add, mod-mul-add, le-div, mul-le, mul-add-lt}
use native.Mathlib.Omega.{arith}
use borrow.Author.Tests.{lt-ltb, le-ltb}
use lib.Dec.{eqb}
use Rattle.laws.specs.Options.{or_else}
use Rattle.laws.specs.Ranges.{first_from}
use Rattle.laws.proofs.FirstFrom.{from_same, from_split}
use Rattle.rules.specs.Bytes.{byte}
use Rattle.rules.specs.Layout.{filled, block_head_wrong, block_wrong}
use Rattle.image.specs.Shown.{head_at, records_at}
use Rattle.image.proofs.Header.{part, or_none}
use Rattle.image.proofs.Exponents.{nowhere}

-- records of so many bytes, at most m to a block
pub record Sized (bytes m : ℕ) : Type 0 where
  pub quot : (j k : ℕ) → k < bytes → (bytes * j + k) / bytes ≡ j
  pub rem : (j k : ℕ) → k < bytes → (bytes * j + k) % bytes ≡ k
  pub index : (x j : ℕ) → bytes * j ≤ x → j ≤ x / bytes
  pub count : (x : ℕ) → x < m * bytes → x / bytes < m
  pub inside : (j k : ℕ) → j < m → k < bytes → 4 + (bytes * j + k) < 4 + m * bytes
  pub upto : (j : ℕ) → j ≤ m → bytes * j ≤ m * bytes
  pub next : (j : ℕ) → bytes * suc j ≡ bytes * j + bytes
  pub room : 4 + m * bytes ≤ 508

pub sized : (bytes m : ℕ) → 0 < bytes → bytes * m ≤ 504 → Sized bytes m
sized bytes m some few = record {
  quot = λ j k h. rw (mul_comm bytes j) (div-mul-add j bytes k h);
  rem = λ j k h. rw (mul_comm bytes j) (mod-mul-add j bytes k h);
  index = λ x j h. le-div j x bytes some (rw (mul_comm bytes j) at h);
  count = λ x h. (div-lt_iff_lt-mul some).1 h;
  inside = λ j k h l. let e = mul-add-lt j bytes k m h l in omega (arith, mul_comm bytes j, mul_comm bytes m);
  upto = λ j h. rw (mul_comm m bytes) (mul-le bytes j bytes m (omega arith) h);
  next = λ j. mul-suc bytes j;
  room = omega (arith, mul_comm bytes m);
}

module _ (wrong : List ℕ → ℕ → ℕ → Bool) (type bytes m n from b : ℕ) (s : List ℕ) (z : Sized bytes m) where
  abbrev T : ℕ → Bool
  T = block_wrong wrong type bytes m n from s

  abbrev P : ℕ
  P = 512 * b

  abbrev h : ℕ
  h = min m (n - from)

  place : (x : ℕ) → x < 512 → (512 * b + x) % 512 ≡ x
  place x l = omega arith

  -- the head
  in_head : (x : ℕ) → x < 4 → T (P + x) ≡ block_head_wrong s type h (P + x)
  unfolding block_wrong
  in_head x l = rw (place x (omega arith), lt-ltb x 4 l)

  at_head : (x : ℕ) → x < 4 → block_head_wrong s type h (P + x) ≡ ((eqb x 2 && not (eqb (byte s (P + x)) type)) || (eqb x 3 && not (eqb (byte s (P + x)) h)))
  unfolding block_head_wrong
  at_head x l = rw (place x (omega arith))

  head : first_from T P 4 ≡ head_at s P type h
  unfolding first_from head_at
  head =
      from_same T P (block_head_wrong s type h) 4 in_head
      ∙ rw (first_from, at_head 3 (omega arith), first_from, at_head 2 (omega arith), first_from, at_head 1 (omega arith), first_from, at_head 0 (omega arith), or-false)

  -- record g, of those that the block holds
  in_record : (g k : ℕ) → g < h → k < bytes → T (P + 4 + bytes * g + k) ≡ wrong s (P + 4 + bytes * g) (P + 4 + bytes * g + k)
  unfolding block_wrong
  in_record g k l o =
      let u : 4 + (bytes * g + k) < 4 + m * bytes = z.inside g k (omega arith) o in
      let r = z.room in
      let x : P + 4 + bytes * g + k ≡ P + (4 + (bytes * g + k)) = omega arith in
      let y : 4 + (bytes * g + k) - 4 ≡ bytes * g + k = omega arith in
      let w : P + (4 + (bytes * g + k)) - k ≡ P + 4 + bytes * g = omega arith in
      rw (x, place (4 + (bytes * g + k)) (omega arith), le-ltb (4 + (bytes * g + k)) 4 (omega arith), lt-ltb (4 + (bytes * g + k)) (4 + m * bytes) u, y, z.quot g k o, z.rem g k o, lt-ltb (from + g) n (omega arith), w)

  records : (g : ℕ) → g ≤ h → first_from T (P + 4) (bytes * g) ≡ records_at (wrong s) bytes (P + 4) g
  unfolding first_from records_at
  records zero l = let e : bytes * 0 ≡ 0 = omega arith in rw e
  records (suc g) l =
      rw (z.next g, from_split T (P + 4) (bytes * g) bytes, records g (omega arith), records_at)
      (ap (or_else (records_at (wrong s) bytes (P + 4) g)) (from_same T (P + 4 + bytes * g) (wrong s (P + 4 + bytes * g)) bytes (λ k o. in_record g k (omega arith) o)))

  -- past them: x is a byte of the block past its records
  in_spare : (x : ℕ) → 4 + bytes * h ≤ x → x < 508 → T (P + x) ≡ filled s (P + x)
  unfolding block_wrong
  in_spare x l o = go (dec_le (4 + m * bytes) x)
    where
      go : Dec (4 + m * bytes ≤ x) → T (P + x) ≡ filled s (P + x)
      go (yes e) = rw (place x (omega arith), le-ltb x 4 (omega arith), le-ltb x (4 + m * bytes) e, lt-ltb x 508 o)
      go (no e) =
          let i : h ≤ (x - 4) / bytes = z.index (x - 4) h (omega arith) in
          let k : (x - 4) / bytes < m = z.count (x - 4) (omega arith) in
          let q : n ≤ from + (x - 4) / bytes = omega arith in
          rw (place x (omega arith), le-ltb x 4 (omega arith), le-ltb (from + (x - 4) / bytes) n q, and-false, lt-ltb x 508 o)

  -- the sum's bytes are not looked at here
  in_sum : (x : ℕ) → x < 4 → T (P + 508 + x) ≡ false
  unfolding block_wrong
  in_sum x l =
      let r = z.room in
      let e : P + 508 + x ≡ P + (508 + x) = omega arith in
      rw (e, place (508 + x) (omega arith), le-ltb (508 + x) 4 (omega arith), le-ltb (508 + x) (4 + m * bytes) (omega arith), le-ltb (508 + x) 508 (omega arith))

  -- the length of what lies between the records and the sum
  abbrev left : ℕ
  left = 504 - bytes * h

  spare : first_from T (P + 4 + bytes * h) (left + 4) ≡ first_from (filled s) (P + 4 + bytes * h) left
  spare =
      let r = z.room in
      let u = z.upto h (omega arith) in
      let e : P + 4 + bytes * h + left ≡ P + 508 = omega arith in
      part T (filled s) (P + 4 + bytes * h) left 4
      (λ x l. let y : P + 4 + bytes * h + x ≡ P + (4 + bytes * h + x) = omega arith in rw y (in_spare (4 + bytes * h + x) (omega arith) (omega arith)))
      ∙ ap (or_else (first_from (filled s) (P + 4 + bytes * h) left)) (rw e (from_same T (P + 508) (λ i. false) 4 in_sum ∙ nowhere (P + 508) 4))
      ∙ or_none (first_from (filled s) (P + 4 + bytes * h) left)

  pub block_split : first_from T P 512 ≡ or_else (head_at s P type h) (or_else (records_at (wrong s) bytes (P + 4) h) (first_from (filled s) (P + 4 + bytes * h) left))
  block_split =
      let r = z.room in
      let u = z.upto h (omega arith) in
      let e : 508 ≡ bytes * h + (left + 4) = omega arith in
      from_split T P 4 508
      ∙ ap₂ or_else head
      (ap (first_from T (P + 4)) e
      ∙ from_split T (P + 4) (bytes * h) (left + 4)
      ∙ ap₂ or_else (records h (omega arith)) spare)
