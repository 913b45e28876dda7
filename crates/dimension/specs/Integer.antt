-- Integers: equality as a test, the parts above and below zero, and the bits that stand for one.
use Rattle.std.specs.Prelude.{ℕ, suc, ◌+◌, ◌-◌, Bool, true, false, cond, ltb, eqb, ℤ, pos, negsuc, neg_ℤ}
use Rattle.std.proofs.Math.IntN.{sub_ℕ}

abbrev pub eq_z : ℤ → ℤ → Bool
eq_z (pos m) (pos n) = eqb m n
eq_z (pos m) (negsuc n) = false
eq_z (negsuc m) (pos n) = false
eq_z (negsuc m) (negsuc n) = eqb m n

-- how far a number is above zero, and how far below
abbrev pub up : ℤ → ℕ
up (pos n) = n
up (negsuc n) = 0

abbrev pub down : ℤ → ℕ
down (pos n) = 0
down (negsuc n) = suc n

-- n with a sign
abbrev pub signed : Bool → ℕ → ℤ
signed true n = neg_ℤ (pos n)
signed false n = pos n

-- two's complement: x below the half of all patterns, and from there on x less their number
abbrev pub twos : ℕ → ℕ → ℤ
twos half x = cond (ltb x half) (pos x) (sub_ℕ x (half + half))

-- and back, of 32 bits
abbrev pub bits32 : ℤ → ℕ
bits32 (pos n) = n
bits32 (negsuc n) = 4294967295 - n
