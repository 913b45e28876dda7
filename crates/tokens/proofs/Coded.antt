-- A token by its code: o is the operation of the code, if there is one (`codes`); and an exponent within the limits, or over them. Assumes
-- nothing.
use Prim.Native.Nat.{ℕ, zero, suc}
use mathlib.Core.Path.{◌≡◌, refl, sym, ◌∙◌, subst}
use mathlib.Core.Bool.{Bool, true, false, cond}
use mathlib.Core.List.{List}
use lib.IntN.{ℤ}
use Rattle.std.specs.declared.option.Option.{Option}
use Rattle.std.specs.declared.option.Option.TheVariants.{None, Some}
use Rattle.std.specs.Option.{option_map}
use Rattle.dimension.specs.Fraction as F
use Rattle.dimension.specs.declared.rational.Rational.{Rational}
use Rattle.dimension.specs.declared.grade.ProductOp.TheVariants.{Mul, Div, Dot, Wedge}
use Rattle.rules.specs.Arithmetic.{Op, summed, multiplied, Add, Sub, op_by, op_code}
use Rattle.rules.specs.Formula as rule
use Rattle.rules.specs.Formula.{number, kind, unary, binary, unreadable, exact, inexact, absolute, combined, compared, Machine, bad, step}
use Rattle.rules.specs.Token.{token_by}
use Rattle.error.specs.Shown.{op_as}
use Rattle.error.specs.declared.op.Op as code
use Rattle.tokens.specs.Shown.{coded}
use Rattle.tokens.specs.declared.token.Token.{Token}
use Rattle.tokens.specs.declared.token.Token.TheVariants.{Number, Kind, Unary, Binary, Unreadable}
use Rattle.tokens.specs.declared.token.Unary.TheVariants.{Exact, Inexact, Absolute}
use Rattle.tokens.specs.declared.token.Binary.TheVariants.{Combine, Compare}

module _ (i : ℕ) (e : Rational) (c : ℕ) {o : Option code.Op} (q : o ≡ option_map op_as (op_by c)) where
  -- 2 to 7 are the codes of operations
  pub is_operation : {op : code.Op} → o ≡ Some op → Binary (Combine op) ≡ coded (token_by c i e)
  unfolding op_by token_by
  is_operation {op} p = go c (sym p ∙ q)
    where
      go : (c : ℕ) → Some op ≡ option_map op_as (op_by c) → Binary (Combine op) ≡ coded (token_by c i e)
      go zero h = cc
      go (suc zero) h = cc
      go (suc (suc zero)) h = cc
      go (suc (suc (suc zero))) h = cc
      go (suc (suc (suc (suc zero)))) h = cc
      go (suc (suc (suc (suc (suc zero))))) h = cc
      go (suc (suc (suc (suc (suc (suc zero)))))) h = cc
      go (suc (suc (suc (suc (suc (suc (suc zero))))))) h = cc
      go (suc (suc (suc (suc (suc (suc (suc (suc c)))))))) h = cc

  -- past them and the other six there is none
  pub no_token : o ≡ None → (c ≡ 0 → ⊥) → (c ≡ 1 → ⊥) → (c ≡ 8 → ⊥) → (c ≡ 9 → ⊥) → (c ≡ 10 → ⊥) → (c ≡ 11 → ⊥) → Unreadable ≡ coded (token_by c i e)
  unfolding op_by token_by
  no_token p = go c (sym p ∙ q)
    where
      go : (c : ℕ) → None ≡ option_map op_as (op_by c) → (c ≡ 0 → ⊥) → (c ≡ 1 → ⊥) → (c ≡ 8 → ⊥) → (c ≡ 9 → ⊥) → (c ≡ 10 → ⊥) → (c ≡ 11 → ⊥) → Unreadable ≡ coded (token_by c i e)
      go zero h n₀ n₁ n₈ n₉ n₁₀ n₁₁ = absurd (n₀ refl)
      go (suc zero) h n₀ n₁ n₈ n₉ n₁₀ n₁₁ = absurd (n₁ refl)
      go (suc (suc zero)) h n₀ n₁ n₈ n₉ n₁₀ n₁₁ = cc
      go (suc (suc (suc zero))) h n₀ n₁ n₈ n₉ n₁₀ n₁₁ = cc
      go (suc (suc (suc (suc zero)))) h n₀ n₁ n₈ n₉ n₁₀ n₁₁ = cc
      go (suc (suc (suc (suc (suc zero))))) h n₀ n₁ n₈ n₉ n₁₀ n₁₁ = cc
      go (suc (suc (suc (suc (suc (suc zero)))))) h n₀ n₁ n₈ n₉ n₁₀ n₁₁ = cc
      go (suc (suc (suc (suc (suc (suc (suc zero))))))) h n₀ n₁ n₈ n₉ n₁₀ n₁₁ = cc
      go (suc (suc (suc (suc (suc (suc (suc (suc zero)))))))) h n₀ n₁ n₈ n₉ n₁₀ n₁₁ = absurd (n₈ refl)
      go (suc (suc (suc (suc (suc (suc (suc (suc (suc zero))))))))) h n₀ n₁ n₈ n₉ n₁₀ n₁₁ = absurd (n₉ refl)
      go (suc (suc (suc (suc (suc (suc (suc (suc (suc (suc zero)))))))))) h n₀ n₁ n₈ n₉ n₁₀ n₁₁ = absurd (n₁₀ refl)
      go (suc (suc (suc (suc (suc (suc (suc (suc (suc (suc (suc zero))))))))))) h n₀ n₁ n₈ n₉ n₁₀ n₁₁ = absurd (n₁₁ refl)
      go (suc (suc (suc (suc (suc (suc (suc (suc (suc (suc (suc (suc c)))))))))))) h n₀ n₁ n₈ n₉ n₁₀ n₁₁ = refl

-- ---- an exponent within the limits, or over them
module _ (n : ℤ) (d : ℕ) {v : Option Rational} where
  pub power_is : {e : Rational} → v ≡ Some e → v ≡ F.answer n d → Unary (Exact e) ≡ coded (unary (exact (F.lowest n d)))
  unfolding F.answer F.limited
  power_is {e} p q = go (F.within (F.lowest n d)) (sym p ∙ q)
    where
      go : (b : Bool) → Some e ≡ cond b (Some (F.lowest n d)) None → Unary (Exact e) ≡ cond b (Unary (Exact (F.lowest n d))) Unreadable
      go true h = cc
      go false h = cc

  pub power_over : v ≡ None → v ≡ F.answer n d → Unreadable ≡ coded (unary (exact (F.lowest n d)))
  unfolding F.answer F.limited
  power_over p q = go (F.within (F.lowest n d)) (sym p ∙ q)
    where
      go : (b : Bool) → None ≡ cond b (Some (F.lowest n d)) None → Unreadable ≡ cond b (Unary (Exact (F.lowest n d))) Unreadable
      go true h = cc
      go false h = refl

pub ruleset codes = (is_operation, no_token)

-- ---- the code of an operation's token is read back as the operation
pub op_code_law : (op : Op) → op_by (op_code op) ≡ Some op
unfolding op_by
op_code_law (summed Add) = refl
op_code_law (summed Sub) = refl
op_code_law (multiplied Mul) = refl
op_code_law (multiplied Div) = refl
op_code_law (multiplied Dot) = refl
op_code_law (multiplied Wedge) = refl

-- ---- what a token of the code tells of the rules'
abbrev pub Told : rule.Token → Token → Type 0
Told t Number = t ≡ number
Told t (Kind k) = t ≡ kind k
Told t (Unary (Exact e)) = (t ≡ unary (exact e)) × (F.within e ≡ true)
Told t (Unary Inexact) = t ≡ unary inexact
Told t (Unary Absolute) = t ≡ unary absolute
Told t (Binary (Combine o)) = (op : Op) × (t ≡ binary (combined op)) × (o ≡ op_as op)
Told t (Binary Compare) = t ≡ binary compared
Told t Unreadable = Unit {0}

told : (t : rule.Token) → Told t (coded t)
told number = refl
told (kind k) = refl
told (unary (exact e)) = go (F.within e) refl
  where
    go : (b : Bool) → F.within e ≡ b → Told (unary (exact e)) (cond b (Unary (Exact e)) Unreadable)
    go true h = (refl, h)
    go false h = tt
told (unary inexact) = refl
told (unary absolute) = refl
told (binary (combined op)) = (op, refl, refl)
told (binary compared) = refl
told unreadable = tt

pub told_as_law : (t : rule.Token) {v w : Token} → v ≡ w → v ≡ coded t → Told t w
told_as_law t p e = subst (Told t) (sym e ∙ p) (told t)

-- a token that the code can't read is out of place in every machine
module _ (t : rule.Token) {v : Token} where
  pub unreadable_told : {E A : Type 0} (M : Machine E A) (s : List A) → v ≡ Unreadable → v ≡ coded t → step M t s ≡ bad
  unreadable_told M s p e = go t (sym p ∙ e)
    where
      go : (t : rule.Token) → Unreadable ≡ coded t → step M t s ≡ bad
      go number h = cc
      go (kind k) h = cc
      go (unary (exact e)) h = over (F.within e) h
        where
          over : (b : Bool) → Unreadable ≡ cond b (Unary (Exact e)) Unreadable → cond b (rule.with_one (M.unary (exact e)) s) bad ≡ bad
          over true h = cc
          over false h = refl
      go (unary inexact) h = cc
      go (unary absolute) h = cc
      go (binary (combined op)) h = cc
      go (binary compared) h = cc
      go unreadable h = refl
