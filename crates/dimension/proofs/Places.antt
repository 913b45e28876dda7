-- Lists of exponents, place by place: what a loop over them has made so far.
-- Assumes nothing.
use mathlib.Core.Path.{◌≡◌, refl, sym, ◌∙◌, ap}
use mathlib.Core.Bool.{Bool}
use mathlib.Core.List.{List, [], ◌∷◌, ◌++◌, zip_with, map}
use Rattle.std.specs.declared.option.Option.{Option}
use Rattle.std.specs.declared.option.Option.TheVariants.{None, Some}
use Prim.Native.Nat.{ℕ, zero, suc, ◌+◌, ◌<◌, ◌≤◌}
use native.Mathlib.Nat.{le_of_suc-le-suc, not-suc-le-zero, suc_inj}
use native.Mathlib.Numerals.{add-one}
use native.Mathlib.Omega.{arith}
use lib.ListN.{length, get_or, set, take, replicate}
use lib.Pointwise.{pointwise}
use lib.Seq.{take-suc, take-suc-set, take_all}
use Rattle.laws.specs.Options.{found}
use Rattle.dimension.specs.Applied.{Computes}
use Rattle.dimension.specs.Fraction as F
use Rattle.dimension.specs.Dimension as D
use Rattle.dimension.specs.Dimension.{all}
use Rattle.dimension.specs.declared.rational.Rational.{Rational}
use Rattle.dimension.specs.declared.dimensions.Dimensions.{Dimensions}

module _ (f : Rational → Rational → Option Rational) where
  pub zip_at : (d : Rational) (r : Option Rational) (a b : List Rational) (k : ℕ) → k < length a → k < length b → get_or (zip_with f a b) k r ≡ f (get_or a k d) (get_or b k d)
  unfolding zip_with
  zip_at d r [] b k h l = absurd (not-suc-le-zero h)
  zip_at d r (x ∷ a) [] k h l = absurd (not-suc-le-zero l)
  zip_at d r (x ∷ a) (y ∷ b) zero h l = refl
  zip_at d r (x ∷ a) (y ∷ b) (suc k) h l = zip_at d r a b k (le_of_suc-le-suc h) (le_of_suc-le-suc l)

  pub zip_length : (a b : List Rational) → length a ≡ length b → length (zip_with f a b) ≡ length a
  unfolding zip_with
  zip_length [] b e = refl
  zip_length (x ∷ a) [] e = omega arith
  zip_length (x ∷ a) (y ∷ b) e = ap suc (zip_length a b (suc_inj e))

-- one more fraction
all_more : (l : List (Option Rational)) (m : List Rational) (a : Rational) → all l ≡ Some m → all (l ++ (Some a ∷ [])) ≡ Some (m ++ (a ∷ []))
all_more [] m a e = let z : [] ≡ m = cc in rw (← z)
all_more (None ∷ l) m a e = let z : ◌≡◌ {A = ℕ} 0 1 = cc in absurd (omega arith)
all_more (Some b ∷ l) m a e = go (λ n q. all_more l n a q) (all l) refl
  where
    go : ((n : List Rational) → all l ≡ Some n → all (l ++ (Some a ∷ [])) ≡ Some (n ++ (a ∷ []))) → (o : Option (List Rational)) → all l ≡ o → found (all (l ++ (Some a ∷ []))) (λ m. Some (b ∷ m)) None ≡ Some (m ++ (a ∷ []))
    go more None q = let h : None ≡ Some m = rw q at e in let z : ◌≡◌ {A = ℕ} 0 1 = cc in absurd (omega arith)
    go more (Some n) q = let h : Some (b ∷ n) ≡ Some m = rw q at e in let z : b ∷ n ≡ m = cc in rw (more n q, ← z)

all_over : (r : Option Rational) (l : List (Option Rational)) (k : ℕ) → k < length l → get_or l k r ≡ None → all l ≡ None
all_over r [] k h e = absurd (not-suc-le-zero h)
all_over r (None ∷ l) k h e = refl
all_over r (Some a ∷ l) zero h e = let z : ◌≡◌ {A = ℕ} 0 1 = cc in absurd (omega arith)
all_over r (Some a ∷ l) (suc k) h e = rw (all_over r l k (le_of_suc-le-suc h) e)

-- a loop that stores the fractions of the list s, place by place, from the front: one more place is stored
pub more : (r : Option Rational) (n : ℕ) (o : List Rational) (s : List (Option Rational)) (i : ℕ) (x : Rational) → i < n → length o ≡ n → length s ≡ n → all (take i s) ≡ Some (take i o) → get_or s i r ≡ Some x → all (take (i + 1) s) ≡ Some (take (i + 1) (set o i x))
more r n o s i x h ho hs e l =
    rw (add-one i, take-suc s i r (omega arith), take-suc-set o i x (omega arith), l) (all_more (take i s) (take i o) x e)

-- a place is over the limits: so is the whole
pub ends_over : (r : Option Rational) (s : List (Option Rational)) (i : ℕ) → i < length s → get_or s i r ≡ None → None ≡ D.outcome s
unfolding D.outcome
ends_over r s i h e = rw (all_over r s i h e)

-- every place is stored
pub ends_within : (o : Dimensions) (s : List (Option Rational)) (i : ℕ) → length o.powers ≤ i → length s ≤ i → all (take i s) ≡ Some (take i o.powers) → Some o ≡ D.outcome s
unfolding D.outcome
ends_within o s i ho hs e =
    let t : all s ≡ Some o.powers = rw (take_all i s hs, take_all i o.powers ho) at e in
    rw t

-- a rule that computes f, done with the exponents of each place, from the front
module _ (R : Rational → Rational → Option Rational → Type 0) (f : Rational → Rational → Option Rational) (a b : List Rational) (p : length a ≡ 12) (q : length b ≡ 12) (h : Computes R f a b) where
  answers_length : length (zip_with f a b) ≡ 12
  answers_length = zip_length f a b (p ∙ sym q) ∙ p

  answer_at : (d : Rational) (i : ℕ) (x : Option Rational) → i < 12 → R (get_or a i d) (get_or b i d) x → get_or (zip_with f a b) i None ≡ x
  answer_at d i x k e = zip_at f d None a b i (rw p k) (rw q k) ∙ sym (h i d x k e)

  -- over the limits there
  pub each_over : (d : Rational) (i : ℕ) → i < 12 → R (get_or a i d) (get_or b i d) None → None ≡ D.outcome (zip_with f a b)
  each_over d i k e = ends_over None (zip_with f a b) i (rw answers_length k) (answer_at d i None k e)

  -- one more place
  pub each_more : (d : Rational) (o : List Rational) (i : ℕ) (x : Rational) → i < 12 → length o ≡ 12 → R (get_or a i d) (get_or b i d) (Some x) → all (take i (zip_with f a b)) ≡ Some (take i o)
      → all (take (i + 1) (zip_with f a b)) ≡ Some (take (i + 1) (set o i x))
  each_more d o i x k l e m = more None 12 o (zip_with f a b) i x k l answers_length m (answer_at d i (Some x) k e)

  -- every place
  pub each_made : (o : List Rational) (i : ℕ) → 12 ≤ i → length o ≡ 12 → all (take i (zip_with f a b)) ≡ Some (take i o) → Some (D.dimensions o) ≡ D.outcome (zip_with f a b)
  each_made o i k l e = ends_within (D.dimensions o) (zip_with f a b) i (rw l k) (rw answers_length k) e

-- a list beside a constant
pub zip_replicate : (f : Rational → Rational → Option Rational) (a : List Rational) (n : ℕ) (e : Rational) → length a ≡ n → zip_with f a (replicate n e) ≡ map (λ (x : Rational). f x e) a
unfolding zip_with
zip_replicate f [] n e h = refl
zip_replicate f (x ∷ a) zero e h = absurd (omega arith)
zip_replicate f (x ∷ a) (suc n) e h = rw (zip_replicate f a n e (suc_inj h))

-- two lists are equal pair by pair
pub pointwise_alike : (E : Rational → Rational → Bool) → ((x y : Rational) → E x y ≡ F.equal x y) → (a b : List Rational) → pointwise E a b ≡ D.alike a b
pointwise_alike E h [] [] = refl
pointwise_alike E h [] (y ∷ b) = refl
pointwise_alike E h (x ∷ a) [] = refl
pointwise_alike E h (x ∷ a) (y ∷ b) = rw (h x y, pointwise_alike E h a b)
