-- "Base 0 length, 1 time. Kinds: 0 one; 1 volume b0=3; 2 flow b0=3, b1=−1, rate of 1; 3 clock b1=1, difference 4; 4 duration b1=1; 5 intake b0=3;
-- 6 area b0=2; 7 bore b0=1; 8 shift b0=1, grade 1. Dimensionless 0, time 3, no rows."
use Rattle.std.specs.Prelude.{ℕ, List, [], ◌∷◌, ℤ, pos, neg_ℤ, length, get_or, replicate}
use Rattle.std.specs.declared.option.Option.{Option}
use Rattle.std.specs.declared.option.Option.TheVariants.{None, Some}
use Rattle.dimension.specs.Fraction as F
use Rattle.dimension.specs.Dimension as D
use Rattle.dimension.specs.declared.dimensions.Dimensions.{Dimensions}
use Rattle.rules.specs.Kinds.{Kinds, Rows}

-- kinds as a list: what each is, and nothing past the end
pub record Listed : Type 0 where
  pub dims : Option Dimensions
  pub grade : ℕ
  pub difference : Option ℕ
  pub rate_of : Option ℕ
  pub rate : Option ℕ

abbrev pub unlisted : Listed
unlisted = record { dims = None; grade = 0; difference = None; rate_of = None; rate = None }

abbrev pub kinds_by : List Listed → Option ℕ → Option ℕ → Kinds
kinds_by l o t = record {
  count = length l;
  dims = λ k. (get_or l k unlisted).dims;
  grade = λ k. (get_or l k unlisted).grade;
  difference = λ k. (get_or l k unlisted).difference;
  rate_of = λ k. (get_or l k unlisted).rate_of;
  rate = λ k. (get_or l k unlisted).rate;
  dimensionless = o;
  time = t;
}

-- length to the power a, time to the power b
abbrev pub bases : ℤ → ℤ → Dimensions
bases a b = D.dimensions (F.ratio a 1 ∷ F.ratio b 1 ∷ replicate 10 F.zero)

abbrev plain : ℤ → ℤ → ℕ → Listed
plain a b g = record { dims = Some (bases a b); grade = g; difference = None; rate_of = None; rate = None }

unfoldable pub listed : List Listed
listed =
    plain (pos 0) (pos 0) 0
    ∷ record { dims = Some (bases (pos 3) (pos 0)); grade = 0; difference = None; rate_of = None; rate = Some 2 }
    ∷ record { dims = Some (bases (pos 3) (neg_ℤ (pos 1))); grade = 0; difference = None; rate_of = Some 1; rate = None }
    ∷ record { dims = Some (bases (pos 0) (pos 1)); grade = 0; difference = Some 4; rate_of = None; rate = None }
    ∷ plain (pos 0) (pos 1) 0
    ∷ plain (pos 3) (pos 0) 0
    ∷ plain (pos 2) (pos 0) 0
    ∷ plain (pos 1) (pos 0) 0
    ∷ plain (pos 1) (pos 0) 1
    ∷ []

unfoldable pub teaching : Kinds
teaching = kinds_by listed (Some 0) (Some 3)

abbrev pub no_rows : Rows
no_rows l op r = None
