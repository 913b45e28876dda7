-- A refusal in a formula names its twins: each step's does, so the walk's does. Assumes nothing.
use Prim.Native.Nat.{ℕ, suc}
use mathlib.Core.Path.{◌≡◌, refl}
use mathlib.Core.Bool.{Bool, true, false, cond}
use mathlib.Core.List.{List, [], ◌∷◌}
use Rattle.std.specs.declared.option.Option.{Option}
use Rattle.std.specs.declared.option.Option.TheVariants.{None, Some}
use lib.Dec.{ltb}
use lib.ListN.{length}
use Rattle.laws.specs.Options.{found}
use Rattle.laws.specs.Out.{given, refused, mapped, refuse_if}
use Rattle.dimension.specs.declared.grade.ProductOp.TheVariants.{Mul, Div, Dot, Wedge}
use Rattle.rules.specs.Kinds.{Kinds, Rows, point}
use Rattle.rules.specs.Refusal as why
use Rattle.rules.specs.Refusal.{Refusal, Answer, Placed, told}
use Rattle.rules.specs.Arithmetic as arithmetic
use Rattle.rules.specs.Formula as rule
use Rattle.rules.specs.Token.{tokens_in, good_length}
use Rattle.rules.specs.Call.{ending, formula_in}
use Rattle.lookup.specs.Shown.{named, twins_of}
use Rattle.lookup.proofs.NamedTwins.{Names, PlacedNames, names_next, if_names, indexed_names, agree_names, combine_names, power_names}

module _ (K : Kinds) where
  mapped_names : {A B : Type 0} (f : A → B) (m : Answer A) → Names K m → Names K (mapped f m)
  mapped_names f (given a) p = p
  mapped_names f (refused x) p = p

  scaled_names : (code k : ℕ) → Names K (arithmetic.scaled K code k)
  unfolding arithmetic.scaled named twins_of told
  scaled_names code k = names_next K (refuse_if (point K k) (why.UnsupportedOperation code k 65535)) (given k) (if_names K (point K k) (why.UnsupportedOperation code k 65535) refl) tt

  kind_names : (k : ℕ) → Names K (rule.kind_term K k)
  unfolding rule.kind_term
  kind_names k = names_next K (arithmetic.indexed K k) (given (rule.Kind k)) (indexed_names K k) tt

  one_names : (u : rule.Unary) (k : ℕ) → Names K (rule.one_kind K u k)
  unfolding rule.one_kind
  one_names (rule.exact e) k = power_names K 8 k (Some e)
  one_names rule.inexact k = power_names K 9 k None
  one_names rule.absolute k = scaled_names 10 k

  unary_names : (u : rule.Unary) (a : rule.Term) → Names K (rule.unary_term K u a)
  unfolding rule.unary_term
  unary_names u rule.Number = tt
  unary_names u (rule.Kind k) = mapped_names rule.Kind (rule.one_kind K u k) (one_names u k)

  number_names : (b : rule.Binary) (k : ℕ) (q : Answer ℕ) → Names K q → Names K (rule.with_number K b k q)
  unfolding rule.with_number named twins_of told
  number_names (rule.combined (arithmetic.multiplied Mul)) k q p = scaled_names 4 k
  number_names (rule.combined (arithmetic.multiplied Div)) k q p = p
  number_names (rule.combined (arithmetic.multiplied Dot)) k q p = refl
  number_names (rule.combined (arithmetic.multiplied Wedge)) k q p = refl
  number_names (rule.combined (arithmetic.summed s)) k q p = refl
  number_names rule.compared k q p = refl

module _ (K : Kinds) (R : Rows) where
  two_names : (b : rule.Binary) (l r : ℕ) → Names K (rule.two_kinds K R b l r)
  unfolding rule.two_kinds
  two_names (rule.combined op) l r = combine_names K R op l r
  two_names rule.compared l r = agree_names K l r l

  binary_names : (b : rule.Binary) (x y : rule.Term) → Names K (rule.binary_term K R b x y)
  unfolding rule.binary_term
  binary_names b rule.Number rule.Number = tt
  binary_names b (rule.Kind l) (rule.Kind r) = mapped_names K rule.Kind (rule.two_kinds K R b l r) (two_names b l r)
  binary_names b (rule.Kind k) rule.Number = mapped_names K rule.Kind (rule.with_number K b k (arithmetic.scaled K 5 k)) (number_names K b k (arithmetic.scaled K 5 k) (scaled_names K 5 k))
  binary_names b rule.Number (rule.Kind k) =
      mapped_names K rule.Kind (rule.with_number K b k (arithmetic.power K 5 k (Some rule.minus_one))) (number_names K b k (arithmetic.power K 5 k (Some rule.minus_one)) (power_names K 5 k (Some rule.minus_one)))

  -- ---- a step, and the walk
  abbrev StepNames : rule.Step Refusal rule.Term → Type 0
  StepNames (rule.on s) = Unit {0}
  StepNames (rule.stop x) = Names {A = rule.Term} K (refused x)
  StepNames rule.bad = Unit {0}

  onto_names : (s : List rule.Term) (m : Answer rule.Term) → Names K m → StepNames (rule.onto s m)
  onto_names s (given a) p = tt
  onto_names s (refused x) p = p

  none_names : (b : Bool) (s : List rule.Term) (m : Answer rule.Term) → Names K m → StepNames (cond b (rule.onto s m) rule.bad)
  none_names true s m p = onto_names s m p
  none_names false s m p = tt

  one_term : (u : rule.Unary) (s : List rule.Term) → StepNames (rule.with_one (rule.unary_term K u) s)
  one_term u [] = tt
  one_term u (a ∷ s) = onto_names s (rule.unary_term K u a) (unary_names K u a)

  if_one : (b : Bool) (u : rule.Unary) (s : List rule.Term) → StepNames (cond b (rule.with_one (rule.unary_term K u) s) rule.bad)
  if_one true u s = one_term u s
  if_one false u s = tt

  two_terms : (b : rule.Binary) (s : List rule.Term) → StepNames (rule.with_two (rule.binary_term K R b) s)
  two_terms b [] = tt
  two_terms b (y ∷ []) = tt
  two_terms b (y ∷ x ∷ s) = onto_names s (rule.binary_term K R b x y) (binary_names b x y)

  step_names : (t : rule.Token) (s : List rule.Term) → StepNames (rule.step (rule.terms K R) t s)
  unfolding rule.terms
  step_names rule.number s = none_names (ltb (length s) 32) s (given rule.Number) tt
  step_names (rule.kind k) s = none_names (ltb (length s) 32) s (rule.kind_term K k) (kind_names K k)
  step_names (rule.unary u) s = if_one (rule.in_limits u) u s
  step_names (rule.binary b) s = two_terms b s
  step_names rule.unreadable s = tt

  abbrev EndNames : rule.Ended Refusal rule.Term → Type 0
  EndNames (rule.answered t) = Unit {0}
  EndNames (rule.stopped p x) = Names {A = rule.Term} K (refused x)
  EndNames (rule.malformed p) = Unit {0}

  last_names : (p : ℕ) (s : List rule.Term) → EndNames (rule.last p s)
  last_names p [] = tt
  last_names p (a ∷ []) = tt
  last_names p (b ∷ a ∷ s) = tt

  walk_names : (ts : List rule.Token) (p : ℕ) (s : List rule.Term) → EndNames (rule.walk (rule.terms K R) ts p s)
  unfolding rule.walk
  walk_names [] p s = last_names p s
  walk_names (t ∷ ts) p s = go (λ s'. walk_names ts (suc p) s') (rule.step (rule.terms K R) t s) (step_names t s)
    where
      go : ((s' : List rule.Term) → EndNames (rule.walk (rule.terms K R) ts (suc p) s')) → (x : rule.Step Refusal rule.Term) → StepNames x → EndNames (elim x [ rule.on s' ↦ rule.walk (rule.terms K R) ts (suc p) s' | rule.stop x ↦ rule.stopped p x | rule.bad ↦ rule.malformed p ])
      go ih (rule.on s') q = ih s'
      go ih (rule.stop x) q = q
      go ih rule.bad q = tt

  -- ---- the formula of some bytes
  ending_names : (o : rule.Ended Refusal rule.Term) → EndNames o → PlacedNames K (ending o)
  unfolding named twins_of told
  ending_names (rule.answered t) p = tt
  ending_names (rule.stopped q x) p = p
  ending_names (rule.malformed q) p = refl

  found_names : (o : Option ℕ) (w : rule.Ended Refusal rule.Term) → EndNames w → EndNames (found o rule.malformed w)
  found_names (Some p) w q = tt
  found_names None w q = q

  pub formula_names : (bytes : List ℕ) → PlacedNames K (formula_in K R bytes)
  unfolding formula_in rule.formula
  formula_names bytes = go (good_length bytes)
    where
      go : (b : Bool) → PlacedNames K (ending (cond b (found (rule.malformed_at (tokens_in bytes)) rule.malformed (rule.walk (rule.terms K R) (tokens_in bytes) 0 [])) (rule.malformed 0)))
      go true = ending_names (found (rule.malformed_at (tokens_in bytes)) rule.malformed (rule.walk (rule.terms K R) (tokens_in bytes) 0 [])) (found_names (rule.malformed_at (tokens_in bytes)) _ (walk_names (tokens_in bytes) 0 []))
      go false = ending_names (rule.malformed 0) tt
