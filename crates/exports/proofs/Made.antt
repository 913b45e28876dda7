-- The words that the code makes of a refusal: w are the first three over zeros, v those of the values. Assumes nothing.
use Prim.Native.Nat.{ℕ}
use mathlib.Core.Path.{◌≡◌, sym, ◌∙◌, ap}
use mathlib.Core.List.{List, [], ◌∷◌, map}
use borrow.Rule.Slice.PartMut.{put_mid}
use lib.ListN.{length}
use Rattle.std.specs.declared.option.Option.TheVariants.{None, Some}
use Rattle.laws.specs.Ranges.{tab}
use Rattle.dimension.specs.declared.dimensions.Dimensions.{Dimensions}
use Rattle.error.specs.Shown.{said_of}
use Rattle.error.specs.declared.fault.Fault.{Fault}
use Rattle.error.specs.declared.said.Said.{Said}
use Rattle.table.specs.Shown.{exponents_of}
use Rattle.exports.specs.Sheet.{capped, padded}
use Rattle.exports.specs.Shown.{returned_of, fault_words}

module _ (x : Fault) (s : Said) {q : ℕ} {w v : List ℕ} (p : s ≡ said_of x.error) (c : q ≡ capped x.place) (h : w ≡ padded (2 ∷ s.number ∷ q ∷ [])) (i : v ≡ map capped s.values) (n : length v ≡ 4) where
  pub plain_made : {u : List ℕ} → u ≡ v → s.dims ≡ None → put_mid 3 4 w u ≡ fault_words x
  unfolding fault_words returned_of
  plain_made e o = let l = ap length (sym i) ∙ n in rw (← p, e, h, c, i, o, l)

  pub dims_made : (d : Dimensions) {u a b : List ℕ} → u ≡ v → s.dims ≡ Some d → a ≡ exponents_of d → b ≡ a → put_mid 27 4 (put_mid 3 24 w b) u ≡ fault_words x
  unfolding fault_words returned_of exponents_of tab
  dims_made d e o f g = let l = ap length (sym i) ∙ n in rw (← p, e, h, c, i, o, g, f, l)
