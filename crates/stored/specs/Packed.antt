-- A packed image: pairs of bytes, how many zeros and how many of the bytes after the pair, which stand for themselves.
use Rattle.std.specs.Prelude.{ℕ, zero, suc, List, [], ◌∷◌, ◌++◌, take, replicate}
use Rattle.laws.specs.Ranges.{overlay}

-- what bytes stand for of which the first n stand for themselves; a pair follows them
unfoldable pub unpacked : ℕ → List ℕ → List ℕ
unpacked n [] = []
unpacked zero (zeros ∷ []) = replicate zeros 0
unpacked zero (zeros ∷ n ∷ s) = replicate zeros 0 ++ unpacked n s
unpacked (suc n) (b ∷ s) = b ∷ unpacked n s

-- bytes in a buffer of m: as many as there is room for, and zeros after them
unfoldable pub in_room : ℕ → List ℕ → List ℕ
in_room m s = overlay (take m s) (replicate m 0)
