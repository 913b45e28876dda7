-- The kinds that fit as a resolution: from a search that ended at the second (`fittings`), or from what is seen from one of them; and what is known
-- comes before them. Assumes nothing.
use Prim.Native.Nat.{ℕ}
use mathlib.Core.Path.{◌≡◌, sym}
use mathlib.Core.List.{List}
use Rattle.laws.specs.Options.{or_else}
use Rattle.dimension.specs.declared.dimensions.Dimensions.{Dimensions}
use Rattle.dimension.specs.declared.grade.ProductOp.{ProductOp}
use Rattle.rules.specs.Kinds.{Kinds, Graded, candidates}
use Rattle.rules.specs.Arithmetic as rule
use Rattle.rules.specs.Table.{kinds_of}
use Rattle.std.specs.declared.option.Option.{Option}
use Rattle.std.specs.declared.option.Option.TheVariants.{None, Some}
use Rattle.table.proofs.Links.{to_some, nowhere_none}
use Rattle.fitting.specs.Shown.{at, beside_of, fit_of}
use Rattle.fitting.specs.declared.beside.Beside.{Beside}
use Rattle.fitting.specs.declared.beside.Beside.TheVariants.{Alone, Others}
use Rattle.fitting.specs.declared.sought.Fit.{Fit}
use Rattle.fitting.specs.declared.sought.Fit.TheVariants as fit
use Rattle.fitting.proofs.Others.{alone_told, others_told}
use Rattle.fitting.proofs.Twins.{only_fits, second_fits, nothing_fits, settle_several}
use Rattle.derive.specs.Shown.{several_of}
use Rattle.derive.specs.declared.resolution.Several.{Several}
use Rattle.derive.specs.declared.resolution.Several.TheVariants.{Is, Many, Nothing}

-- ---- v was found of the kinds that fit e, which are the dimensions d
module _ (K : Kinds) (g : ℕ) (d : Dimensions) {e : Dimensions} (q : e ≡ d) {v : Fit} (f : v ≡ fit_of (candidates K (at e g))) where
  pub found_only : {k : ℕ} → v ≡ fit.Only k → Is k ≡ several_of (candidates K (at d g))
  found_only p = rw (← q, only_fits (candidates K (at e g)) p f)

  pub found_many : {k : ℕ} → v ≡ fit.Second k → Many ≡ several_of (candidates K (at d g))
  found_many p = rw (← q) (sym (settle_several (candidates K (at e g)) Nothing Is (λ more. Many) (second_fits (candidates K (at e g)) p f)))

  pub found_nothing : v ≡ fit.Nothing → Nothing ≡ several_of (candidates K (at d g))
  found_nothing p = rw (← q, nothing_fits (candidates K (at e g)) p f)

pub ruleset fittings = (found_only, found_many, found_nothing)

-- ---- what was seen from k: v
module _ (t : List ℕ) (x : Graded) (k : ℕ) {v : Beside} (q : v ≡ beside_of (kinds_of t) x k) where
  pub seen_alone : v ≡ Alone → Is k ≡ several_of (candidates (kinds_of t) x)
  seen_alone p = rw (alone_told t x k q p)

  pub seen_others : v ≡ Others → Many ≡ several_of (candidates (kinds_of t) x)
  seen_others p = sym (settle_several (candidates (kinds_of t) x) Nothing Is (λ more. Many) (others_told t x k q p))

module _ (K : Kinds) (x : Graded) where
  -- ---- what is known comes first; u is the link that is known
  module _ (l : ℕ) (op : ProductOp) (r : ℕ) {u : Option ℕ} (e : u ≡ or_else (rule.neutral K l op r) (rule.rated K l op r)) where
    pub resolved_known : {k : ℕ} → u ≡ Some k → Is k ≡ several_of (rule.resolve K l op r x)
    unfolding rule.resolve
    resolved_known p = rw (to_some (or_else (rule.neutral K l op r) (rule.rated K l op r)) p e)

    pub resolved_fitting : {v : Several} → u ≡ None → v ≡ several_of (candidates K x) → v ≡ several_of (rule.resolve K l op r x)
    unfolding rule.resolve
    resolved_fitting p q = rw (nowhere_none (or_else (rule.neutral K l op r) (rule.rated K l op r)) p e) q
