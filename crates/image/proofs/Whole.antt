-- The whole image, block by block. Assumes nothing.
use Prim.Native.Nat.{ℕ, ◌+◌, ◌*◌, ◌-◌, ◌/◌, ◌<◌, ◌≤◌}
use mathlib.Core.Path.{◌≡◌, refl}
use mathlib.Core.Bool.{Bool}
use mathlib.Core.List.{List}
use Rattle.std.specs.declared.option.Option.TheVariants.{None, Some}
use native.Mathlib.Nat.{le_antisymm}
use native.Mathlib.Omega.{arith}
use borrow.Author.Tests.{lt-ltb, le-ltb, le-leb, lt-leb}
use Rattle.laws.specs.Ranges.{first_from}
use Rattle.laws.proofs.FirstFrom.{from_same, from_split}
use Rattle.rules.specs.Layout.{kind_count, row_count, kind_blocks, header_wrong, kind_wrong, row_wrong, block_wrong, byte_wrong}

module _ (s : List ℕ) where
  pub header_block : first_from (header_wrong s) 0 512 ≡ first_from (byte_wrong s) 0 512
  unfolding byte_wrong
  header_block = from_same (header_wrong s) 0 (byte_wrong s) 512 (λ i h. rw (lt-ltb (0 + i) 512 (omega arith)))

  module _ (b : ℕ) (p : 0 < b) where
    pub kind_block : b ≤ kind_blocks s → first_from (block_wrong kind_wrong 1 148 3 (kind_count s) ((b - 1) * 3) s) (512 * b) 512 ≡ first_from (byte_wrong s) (512 * b) 512
    unfolding byte_wrong
    kind_block k =
        from_same (block_wrong kind_wrong 1 148 3 (kind_count s) ((b - 1) * 3) s) (512 * b) (byte_wrong s) 512
        (λ i h.
        let q : (512 * b + i) / 512 ≡ b = omega arith in
        rw (le-ltb (512 * b + i) 512 (omega arith), q, le-leb b (kind_blocks s) k))

    pub row_block : kind_blocks s < b → first_from (block_wrong row_wrong 2 100 5 (row_count s) ((b - 1 - kind_blocks s) * 5) s) (512 * b) 512 ≡ first_from (byte_wrong s) (512 * b) 512
    unfolding byte_wrong
    row_block k =
        from_same (block_wrong row_wrong 2 100 5 (row_count s) ((b - 1 - kind_blocks s) * 5) s) (512 * b) (byte_wrong s) 512
        (λ i h.
        let q : (512 * b + i) / 512 ≡ b = omega arith in
        rw (le-ltb (512 * b + i) 512 (omega arith), q, lt-leb b (kind_blocks s) k))

-- ---- a loop over blocks: nothing is found in the first b
module _ (t : ℕ → Bool) where
  pub blocks_none : first_from t 0 (512 * 0) ≡ None
  unfolding first_from
  blocks_none = refl

  pub blocks_next : (b : ℕ) → first_from t 0 (512 * b) ≡ None → first_from t (512 * b) 512 ≡ None → first_from t 0 (512 * (b + 1)) ≡ None
  blocks_next b e f =
      let z : 512 * (b + 1) ≡ 512 * b + 512 = omega arith in
      let y : 0 + 512 * b ≡ 512 * b = omega arith in
      rw (z, from_split t 0 (512 * b) 512, e, y) f

  pub blocks_here : (b n : ℕ) {i : ℕ} → first_from t 0 (512 * b) ≡ None → b < n → first_from t (512 * b) 512 ≡ Some i → first_from t 0 (512 * n) ≡ Some i
  blocks_here b n e l f =
      let k = n - (b + 1) in
      let z : 512 * n ≡ 512 * b + (512 + 512 * k) = omega arith in
      let y : 0 + 512 * b ≡ 512 * b = omega arith in
      rw (z, from_split t 0 (512 * b) (512 + 512 * k), e, y, from_split t (512 * b) 512 (512 * k), f)

  pub blocks_end : (b n : ℕ) → first_from t 0 (512 * b) ≡ None → b ≤ n → n ≤ b → first_from t 0 (512 * n) ≡ None
  blocks_end b n e l m = rw (le_antisymm m l) e

pub ruleset blocks = (blocks_none, blocks_next, blocks_here, blocks_end)
