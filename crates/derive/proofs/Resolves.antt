-- A resolution in code: what it tells of the rules'. Assumes nothing.
use Prim.Native.Nat.{ℕ, ◌≤◌}
use mathlib.Core.Path.{◌≡◌, refl, sym}
use mathlib.Core.Bool.{true, false, true≢false}
use mathlib.Core.List.{List, [], ◌∷◌}
use Rattle.std.specs.declared.option.Option.{Option}
use Rattle.std.specs.declared.option.Option.TheVariants.{None, Some}
use native.Mathlib.Omega.{arith}
use lib.ListN.{length}
use Rattle.rules.specs.Kinds.{Kinds, Graded, candidates}
use Rattle.rules.specs.Arithmetic as rule
use Rattle.derive.specs.Shown.{several_of}
use Rattle.derive.specs.declared.resolution.Several.{Several}
use Rattle.derive.specs.declared.resolution.Several.TheVariants.{Is, Many, Nothing}

-- ---- told: v is what a call returned
pub several_is : {v : Several} {k : ℕ} (ks : List ℕ) → v ≡ Is k → v ≡ several_of ks → ks ≡ k ∷ []
several_is [] p e = cc
several_is (j ∷ []) p e = cc
several_is (j ∷ m ∷ ks) p e = cc

pub several_nothing : {v : Several} (ks : List ℕ) → v ≡ Nothing → v ≡ several_of ks → ks ≡ []
several_nothing [] p e = refl
several_nothing (j ∷ []) p e = cc
several_nothing (j ∷ m ∷ ks) p e = cc

pub several_many : {v : Several} (ks : List ℕ) → v ≡ Many → v ≡ several_of ks → 2 ≤ length ks
several_many [] p e = let z : true ≡ false = cc in absurd (true≢false z)
several_many (j ∷ []) p e = let z : true ≡ false = cc in absurd (true≢false z)
several_many (j ∷ m ∷ ks) p e = omega arith

-- ---- twins are all the kinds that fit
pub fitting_all : (K : Kinds) (o : Option ℕ) (x : Graded) {k m : ℕ} {js : List ℕ} → rule.or_fitting K o x ≡ k ∷ m ∷ js → k ∷ m ∷ js ≡ candidates K x
fitting_all K (Some k) x e = cc
fitting_all K None x e = sym e
