-- What the code tests on its way to a kind's part.
use Rattle.std.specs.Prelude.{ℕ, ◌+◌, Bool, true, false, not, List}
use Rattle.laws.specs.Options.{found}
use Rattle.laws.specs.Out.{given, refused}
use Rattle.laws.specs.Ranges.{first}
use Rattle.rules.specs.Layout.{filled}
use Rattle.rules.specs.Image.{image_check}

-- the image meets none of 1 to 4
unfoldable pub is_readable : List ℕ → Bool
is_readable s = elim (image_check s) [ given u ↦ true | refused x ↦ false ]

-- byte i of the id at p is padding
unfoldable pub padded : List ℕ → ℕ → ℕ → Bool
padded s p i = not (filled s (p + i))

unfoldable pub id_length : List ℕ → ℕ → ℕ
id_length s p = found (first (padded s p) 32) (λ i. i) 32
