-- Dimensions at a grade, what the code's answers show of the kinds that fit, and what private functions of the crate compute.
use Rattle.std.specs.Prelude.{ℕ, ◌+◌, ◌*◌, Bool, cond, not, ◌&&◌, List, [], ◌∷◌, eqb, ltb, length}
use Rattle.laws.specs.Options.{is_some, found}
use Rattle.laws.specs.Ranges.{first, picked, overlay}
use Rattle.dimension.specs.declared.dimensions.Dimensions.{Dimensions}
use Rattle.rules.specs.Kinds.{Kinds, Graded, fits}
use Rattle.rules.specs.Table.{word}
use Rattle.fitting.specs.declared.beside.Beside.{Beside}
use Rattle.fitting.specs.declared.beside.Beside.TheVariants.{Alone, Others, Unfit}
use Rattle.fitting.specs.declared.sought.Fit.{Fit}
use Rattle.fitting.specs.declared.sought.Fit.TheVariants.{Only, Second, Nothing}

-- dimensions at a grade
abbrev pub at : Dimensions → ℕ → Graded
at d g = record { dims = d; grade = g }

-- ---- the words of a kind that begin at p, compared with those of dimensions
unfoldable pub same_word : List ℕ → ℕ → List ℕ → ℕ → Bool
same_word t p w i = eqb (word t (p + i)) (word w i)

-- the numerator of base b, in the words of dimensions, is not zero
unfoldable pub is_there : List ℕ → ℕ → Bool
is_there w b = not (eqb (word w (2 * b)) 0)

-- the place of the first of twelve numerators that is not zero, or 0
unfoldable pub pivot_of : List ℕ → ℕ
pivot_of w = found (first (is_there w) 12) (λ b. 2 * b) 0

-- ---- kinds that fit
-- a lent list with these in front
abbrev pub listed : List ℕ → List ℕ → List ℕ
listed ks old = overlay ks old

-- where there is room for any number of kinds
unfoldable pub room_listed : List ℕ → List ℕ → List ℕ
room_listed ks old = cond (ltb (length old) 240) old (listed ks old)

-- ---- from kind k: another that fits; whether k fits, and whether others do
unfoldable pub fits_beside : Kinds → Graded → ℕ → ℕ → Bool
fits_beside K x k j = not (eqb j k) && fits K x j

unfoldable pub beside_of : Kinds → Graded → ℕ → Beside
beside_of K x k = cond (fits K x k) (cond (is_some (first (fits_beside K x k) K.count)) Others Alone) Unfit

-- ---- of the kinds that fit: the only one, the second of several, or none
abbrev pub fit_of : List ℕ → Fit
fit_of [] = Nothing
fit_of (k ∷ []) = Only k
fit_of (k ∷ m ∷ ks) = Second m

-- how many fit, where k is the second of them: two, and those past k
unfoldable pub fits_past : Kinds → Graded → ℕ → ℕ → Bool
fits_past K x k j = ltb k j && fits K x j

unfoldable pub twins_from : Kinds → Graded → ℕ → ℕ
twins_from K x k = 2 + length (picked (fits_past K x k) K.count)
