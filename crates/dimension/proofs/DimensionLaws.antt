-- The laws of dimensions, each base by itself. SI Brochure, 9th edition, 2.3.3: the exponents of a product are the sums of the factors' exponents,
-- those of a quotient the differences, those of a power the products with its exponent. Order and grouping do not matter, dimension one is neutral,
-- a quotient undoes a product, and what a catalog declares stays within the limits in one product or quotient. Assumes nothing.
use mathlib.Core.Path.{◌≡◌, refl, sym, ◌∙◌, ap}
use mathlib.Core.Bool.{true}
use mathlib.Core.List.{List, [], ◌∷◌, zip_with, map}
use Rattle.std.specs.declared.option.Option.{Option}
use Rattle.std.specs.declared.option.Option.TheVariants.{None, Some}
use Prim.Native.Nat.{ℕ, zero, suc, ◌<◌, ◌≤◌, suc-le-suc, zero-le}
use native.Mathlib.Nat.{not-suc-le-zero}
use native.Mathlib.Omega.{arith}
use lib.IntN.{nat_abs}
use lib.ListN.{length, get_or, length-map, get_or-replicate, length-replicate, get_or-map}
use lib.Seq.{ext_get_or}
use Rattle.std.proofs.lemmas.Option.{none-some}
use Rattle.laws.specs.Options.{found}
use Rattle.laws.proofs.Cases.{and_left, and_right}
use Rattle.dimension.specs.Fraction as F
use Rattle.dimension.specs.Fraction.{IsSum, IsDifference, IsProduct, Proper}
use Rattle.dimension.specs.Dimension as D
use Rattle.dimension.specs.Dimension.{dimensions, all, exponent, Sound, Declared}
use Rattle.dimension.specs.declared.rational.Rational.{Rational}
use Rattle.dimension.specs.declared.dimensions.Dimensions.{Dimensions}
use Rattle.dimension.proofs.Places.{zip_at, zip_length}
use Rattle.dimension.proofs.ExponentLaws as E

-- ---- twelve answers: all are exponents, or one is over the limits
cons_some : (a : Rational) (o : Option (List Rational)) (m : List Rational) → found o (λ l. Some (a ∷ l)) None ≡ Some m → (l : List Rational) × (o ≡ Some l) × (m ≡ a ∷ l)
cons_some a (Some l) m e = (l, refl, cc)
cons_some a None m e = ([], cc, cc)

all_is : (l : List (Option Rational)) (m : List Rational) → all l ≡ Some m → l ≡ map Some m
all_is [] m e = let z : m ≡ [] = cc in rw z
all_is (None ∷ l) m e = cc
all_is (Some a ∷ l) m e =
    let t = cons_some a (all l) m e in
    rw t.2 (ap (λ (k : List (Option Rational)). Some a ∷ k) (all_is l t.0 t.1))

all_of : (m : List Rational) → all (map Some m) ≡ Some m
all_of [] = refl
all_of (a ∷ m) = rw (all_of m)

-- the answer at place k
abbrev answer_at : List (Option Rational) → ℕ → Option Rational
answer_at l k = get_or l k (Some F.zero)

some_not_none : {m : List Rational} → ◌≡◌ {A = Option (List Rational)} (Some m) None → ⊥
some_not_none e = let z : ◌≡◌ {A = ℕ} 0 1 = cc in omega arith

all_none : (l : List (Option Rational)) → all l ≡ None → (k : ℕ) × (k < length l) × (answer_at l k ≡ None)
all_none [] e = absurd (some_not_none e)
all_none (None ∷ l) e = (0, suc-le-suc zero-le, refl)
all_none (Some a ∷ l) e = go (all_none l) (all l) refl
  where
    go : (all l ≡ None → (k : ℕ) × (k < length l) × (answer_at l k ≡ None)) → (o : Option (List Rational)) → all l ≡ o → (k : ℕ) × (k < length (Some a ∷ l)) × (answer_at (Some a ∷ l) k ≡ None)
    go rest None q = let t = rest q in (suc t.0, suc-le-suc t.1, t.2)
    go rest (Some m) q = absurd (some_not_none (rw q at e))

module _ (l : List (Option Rational)) where
  told : (v : Dimensions) → D.outcome l ≡ Some v → l ≡ map Some v.powers
  unfolding D.outcome
  told v e = go (all l) refl
    where
      go : (o : Option (List Rational)) → all l ≡ o → l ≡ map Some v.powers
      go (Some m) p =
          let q : Some (dimensions m) ≡ Some v = rw p at e in
          all_is l m p ∙ ap (λ (r : Option Dimensions). map Some (D.or_one r).powers) q
      go None p =
          let q : None ≡ Some v = rw p at e in
          absurd (none-some v q)

  fine_of : (v : Dimensions) → l ≡ map Some v.powers → D.outcome l ≡ Some v
  unfolding D.outcome
  fine_of v e = rw (e, all_of v.powers)

  -- place by place: what is answered, and that it is
  told_at : (v : Dimensions) (k : ℕ) → D.outcome l ≡ Some v → answer_at l k ≡ Some (exponent v k)
  told_at v k e = ap (λ (m : List (Option Rational)). answer_at m k) (told v e) ∙ get_or-map Some v.powers k F.zero

  fine_at : (v : Dimensions) → length l ≡ 12 → length v.powers ≡ 12 → ((k : ℕ) → k < 12 → answer_at l k ≡ Some (exponent v k)) → D.outcome l ≡ Some v
  fine_at v p q h =
      fine_of v
      (ext_get_or (Some F.zero) l (map Some v.powers) (p ∙ sym (length-map v.powers Some ∙ q))
      (λ k b. h k (rw p at b) ∙ sym (get_or-map Some v.powers k F.zero)))

  told_length : (v : Dimensions) → D.outcome l ≡ Some v → length v.powers ≡ length l
  told_length v e = sym (ap length (told v e) ∙ length-map v.powers Some)

  over_at : D.outcome l ≡ None → (k : ℕ) × (k < length l) × (answer_at l k ≡ None)
  unfolding D.outcome
  over_at e = go (all l) refl
    where
      go : (o : Option (List Rational)) → all l ≡ o → (k : ℕ) × (k < length l) × (answer_at l k ≡ None)
      go None p = all_none l p
      go (Some m) p = let q : Some (dimensions m) ≡ None = rw p at e in absurd (none-some (dimensions m) (sym q))

-- ---- dimension one
one_at : (k : ℕ) → k < 12 → exponent D.one k ≡ F.zero
one_at k h = get_or-replicate 12 k F.zero F.zero h

pub one_sound : Sound D.one
one_sound = record { twelve = length-replicate 12 F.zero; proper = λ k h. rw (one_at k h) E.zero_proper }

-- twelve answers, each in lowest terms where there is one, make sound dimensions
outcome_sound : (l : List (Option Rational)) → length l ≡ 12 → ((k : ℕ) (r : Rational) → k < 12 → answer_at l k ≡ Some r → Proper r) → Sound (D.or_one (D.outcome l))
unfolding D.outcome
outcome_sound l p h = go (all l) refl
  where
    go : (o : Option (List Rational)) → all l ≡ o → Sound (D.or_one (found o (λ m. Some (dimensions m)) None))
    go (Some m) e =
        let q = all_is l m e in
        record {
          twelve = sym (length-map m Some) ∙ sym (ap length q) ∙ p;
          proper = λ k b. h k (get_or m k F.zero) b (ap (λ (x : List (Option Rational)). answer_at x k) q ∙ get_or-map Some m k F.zero);
        }
    go None e = one_sound

-- ---- sound dimensions that agree at each base are one
pub same_exponents : (a b : Dimensions) → length a.powers ≡ 12 → length b.powers ≡ 12 → ((k : ℕ) → k < 12 → exponent a k ≡ exponent b k) → a ≡ b
same_exponents a b p q h = ap dimensions (ext_get_or F.zero a.powers b.powers (p ∙ sym q) (λ k l. h k (rw p at l)))

-- ---- products and quotients, by one argument: f is done with the exponents of each base
module _ (f : Rational → Rational → Option Rational) (a b : Dimensions) (p : length a.powers ≡ 12) (q : length b.powers ≡ 12) where
  abbrev answers : List (Option Rational)
  answers = zip_with f a.powers b.powers

  answers_length : length answers ≡ 12
  answers_length = zip_length f a.powers b.powers (p ∙ sym q) ∙ p

  answers_at : (k : ℕ) → k < 12 → answer_at answers k ≡ f (exponent a k) (exponent b k)
  answers_at k h = zip_at f F.zero (Some F.zero) a.powers b.powers k (rw p h) (rw q h)

  zip_told : (v : Dimensions) (k : ℕ) → D.outcome answers ≡ Some v → k < 12 → f (exponent a k) (exponent b k) ≡ Some (exponent v k)
  zip_told v k e h = sym (answers_at k h) ∙ told_at answers v k e

  zip_made : (v : Dimensions) → length v.powers ≡ 12 → ((k : ℕ) → k < 12 → f (exponent a k) (exponent b k) ≡ Some (exponent v k)) → D.outcome answers ≡ Some v
  zip_made v r h = fine_at answers v answers_length r (λ k l. answers_at k l ∙ h k l)

  zip_twelve : (v : Dimensions) → D.outcome answers ≡ Some v → length v.powers ≡ 12
  zip_twelve v e = told_length answers v e ∙ answers_length

  zip_sound : ((x y r : Rational) → f x y ≡ Some r → Proper r) → Sound (D.or_one (D.outcome answers))
  zip_sound h = outcome_sound answers answers_length (λ k r l e. h (exponent a k) (exponent b k) r (sym (answers_at k l) ∙ e))

  zip_over : D.outcome answers ≡ None → (k : ℕ) × (k < 12) × (f (exponent a k) (exponent b k) ≡ None)
  zip_over e =
      let t = over_at answers e in
      let h : t.0 < 12 = rw answers_length at t.1 in
      (t.0, h, sym (answers_at t.0 h) ∙ t.2)

-- answers that agree at each base
zip_same : (f g : Rational → Rational → Option Rational) (a b c d : Dimensions) → length a.powers ≡ 12 → length b.powers ≡ 12 → length c.powers ≡ 12 → length d.powers ≡ 12
    → ((k : ℕ) → k < 12 → f (exponent a k) (exponent b k) ≡ g (exponent c k) (exponent d k))
    → D.outcome (zip_with f a.powers b.powers) ≡ D.outcome (zip_with g c.powers d.powers)
zip_same f g a b c d p q r s h =
    ap D.outcome
    (ext_get_or (Some F.zero) _ _ (answers_length f a b p q ∙ sym (answers_length g c d r s))
    (λ k l. let m : k < 12 = rw (answers_length f a b p q) at l in answers_at f a b p q k m ∙ h k m ∙ sym (answers_at g c d r s k m)))

module _ (a b : Dimensions) (p : length a.powers ≡ 12) (q : length b.powers ≡ 12) where
  -- what each base's exponent is
  pub product_at : (v : Dimensions) (k : ℕ) → D.product a b ≡ Some v → k < 12 → F.sum (exponent a k) (exponent b k) ≡ Some (exponent v k)
  unfolding D.product
  product_at v k e h = zip_told F.sum a b p q v k e h

  pub quotient_at : (v : Dimensions) (k : ℕ) → D.quotient a b ≡ Some v → k < 12 → F.difference (exponent a k) (exponent b k) ≡ Some (exponent v k)
  unfolding D.quotient
  quotient_at v k e h = zip_told F.difference a b p q v k e h

  -- SI Brochure 2.3.3, of a product and a quotient
  pub product_adds : (v : Dimensions) (k : ℕ) → D.product a b ≡ Some v → k < 12 → IsSum (exponent a k) (exponent b k) (exponent v k)
  product_adds v k e h = E.sum_value (exponent a k) (exponent b k) (exponent v k) (product_at v k e h)

  pub quotient_subtracts : (v : Dimensions) (k : ℕ) → D.quotient a b ≡ Some v → k < 12 → IsDifference (exponent a k) (exponent b k) (exponent v k)
  quotient_subtracts v k e h = E.difference_value (exponent a k) (exponent b k) (exponent v k) (quotient_at v k e h)

  -- given where each base has an exponent
  pub product_of_law : (v : Dimensions) → length v.powers ≡ 12 → ((k : ℕ) → k < 12 → F.sum (exponent a k) (exponent b k) ≡ Some (exponent v k)) → D.product a b ≡ Some v
  unfolding D.product
  product_of_law v r h = zip_made F.sum a b p q v r h

  pub quotient_of : (v : Dimensions) → length v.powers ≡ 12 → ((k : ℕ) → k < 12 → F.difference (exponent a k) (exponent b k) ≡ Some (exponent v k)) → D.quotient a b ≡ Some v
  unfolding D.quotient
  quotient_of v r h = zip_made F.difference a b p q v r h

  -- over the limits only where a base is
  pub product_over_law : D.product a b ≡ None → (k : ℕ) × (k < 12) × (F.sum (exponent a k) (exponent b k) ≡ None)
  unfolding D.product
  product_over_law e = zip_over F.sum a b p q e

  pub quotient_over : D.quotient a b ≡ None → (k : ℕ) × (k < 12) × (F.difference (exponent a k) (exponent b k) ≡ None)
  unfolding D.quotient
  quotient_over e = zip_over F.difference a b p q e

  -- twelve exponents in lowest terms, whatever the factors' are
  pub product_sound : Sound (D.or_one (D.product a b))
  unfolding D.product
  product_sound = zip_sound F.sum a b p q E.sum_proper

  pub quotient_sound : Sound (D.or_one (D.quotient a b))
  unfolding D.quotient
  quotient_sound = zip_sound F.difference a b p q E.difference_proper

  pub product_twelve : (v : Dimensions) → D.product a b ≡ Some v → length v.powers ≡ 12
  unfolding D.product
  product_twelve v e = zip_twelve F.sum a b p q v e

  pub quotient_twelve : (v : Dimensions) → D.quotient a b ≡ Some v → length v.powers ≡ 12
  unfolding D.quotient
  quotient_twelve v e = zip_twelve F.difference a b p q v e

  pub product_comm : D.product a b ≡ D.product b a
  unfolding D.product
  product_comm = zip_same F.sum F.sum a b b a p q q p (λ k h. E.sum_comm (exponent a k) (exponent b k))

-- ---- grouping
pub product_assoc : (a b c x y : Dimensions) → Sound a → Sound b → Sound c → D.product a b ≡ Some x → D.product b c ≡ Some y → D.product x c ≡ D.product a y
unfolding D.product
product_assoc a b c x y h k l p q =
    zip_same F.sum F.sum x c a y (product_twelve a b h.twelve k.twelve x p) l.twelve h.twelve (product_twelve b c k.twelve l.twelve y q)
    (λ i m. E.sum_assoc (exponent a i) (exponent b i) (exponent c i) (exponent x i) (exponent y i) (product_at a b h.twelve k.twelve x i p m) (product_at b c k.twelve l.twelve y i q m))

-- ---- a quotient undoes a product
module _ (a b x : Dimensions) (h : Sound a) (k : Sound b) where
  -- (a · b) / b is a
  pub quotient_back : D.product a b ≡ Some x → D.quotient x b ≡ Some a
  quotient_back e =
      quotient_of x b (product_twelve a b h.twelve k.twelve x e) k.twelve a h.twelve
      (λ i l. E.difference_back (exponent x i) (exponent b i) (exponent a i) (k.proper i l) (h.proper i l) (product_at a b h.twelve k.twelve x i e l))

  -- (a / b) · b is a
  pub product_back : D.quotient a b ≡ Some x → D.product x b ≡ Some a
  product_back e =
      product_of_law x b (quotient_twelve a b h.twelve k.twelve x e) k.twelve a h.twelve
      (λ i l. E.sum_back (exponent a i) (exponent b i) (exponent x i) (h.proper i l) (k.proper i l) (quotient_at a b h.twelve k.twelve x i e l))

module _ (a : Dimensions) (h : Sound a) where
  -- dimension one is neutral
  pub product_one : D.product a D.one ≡ Some a
  product_one = product_of_law a D.one h.twelve one_sound.twelve a h.twelve (λ k l. rw (one_at k l) (E.sum_zero (exponent a k) (h.proper k l)))

  pub one_product : D.product D.one a ≡ Some a
  one_product = product_comm D.one a one_sound.twelve h.twelve ∙ product_one

  pub quotient_one : D.quotient a D.one ≡ Some a
  quotient_one = quotient_back a D.one a h one_sound product_one

  -- what is divided by itself has dimension one
  pub quotient_self : D.quotient a a ≡ Some D.one
  quotient_self = quotient_back D.one a a one_sound h one_product

-- ---- powers: each exponent times e
module _ (a : Dimensions) (e : Rational) (p : length a.powers ≡ 12) where
  abbrev powered : List (Option Rational)
  powered = map (λ (x : Rational). F.product x e) a.powers

  powered_length : length powered ≡ 12
  powered_length = length-map a.powers (λ (x : Rational). F.product x e) ∙ p

  powered_at : (k : ℕ) → k < 12 → answer_at powered k ≡ F.product (exponent a k) e
  powered_at k h = within a.powers k (rw p h)
    where
      within : (l : List Rational) (k : ℕ) → k < length l → answer_at (map (λ (x : Rational). F.product x e) l) k ≡ F.product (get_or l k F.zero) e
      within [] k h = absurd (not-suc-le-zero h)
      within (x ∷ l) zero h = refl
      within (x ∷ l) (suc k) h = within l k (omega arith)

  pub power_at : (v : Dimensions) (k : ℕ) → D.power a e ≡ Some v → k < 12 → F.product (exponent a k) e ≡ Some (exponent v k)
  unfolding D.power
  power_at v k f h = sym (powered_at k h) ∙ told_at powered v k f

  -- SI Brochure 2.3.3, of a power
  pub power_multiplies : (v : Dimensions) (k : ℕ) → D.power a e ≡ Some v → k < 12 → IsProduct (exponent a k) e (exponent v k)
  power_multiplies v k f h = E.product_value (exponent a k) e (exponent v k) (power_at v k f h)

  pub power_of : (v : Dimensions) → length v.powers ≡ 12 → ((k : ℕ) → k < 12 → F.product (exponent a k) e ≡ Some (exponent v k)) → D.power a e ≡ Some v
  unfolding D.power
  power_of v r h = fine_at powered v powered_length r (λ k l. powered_at k l ∙ h k l)

  pub power_over : D.power a e ≡ None → (k : ℕ) × (k < 12) × (F.product (exponent a k) e ≡ None)
  unfolding D.power
  power_over f =
      let t = over_at powered f in
      let h : t.0 < 12 = rw powered_length at t.1 in
      (t.0, h, sym (powered_at t.0 h) ∙ t.2)

  pub power_sound : Sound (D.or_one (D.power a e))
  unfolding D.power
  power_sound = outcome_sound powered powered_length (λ k r l f. E.product_proper (exponent a k) e r (sym (powered_at k l) ∙ f))

  pub power_twelve : (v : Dimensions) → D.power a e ≡ Some v → length v.powers ≡ 12
  unfolding D.power
  power_twelve v f = told_length powered v f ∙ powered_length

module _ (a : Dimensions) (h : Sound a) where
  pub power_one : D.power a F.one ≡ Some a
  power_one = power_of a F.one h.twelve a h.twelve (λ k l. E.product_one (exponent a k) (h.proper k l))

  pub power_zero : D.power a F.zero ≡ Some D.one
  power_zero = power_of a F.zero h.twelve D.one one_sound.twelve (λ k l. rw (one_at k l) (E.product_zero (exponent a k) (h.proper k l).reduced.positive))

-- a power of a product is the product of the powers
pub power_product : (a b x s t : Dimensions) (e : Rational) → Sound a → Sound b → D.product a b ≡ Some x → D.power a e ≡ Some s → D.power b e ≡ Some t → D.power x e ≡ D.product s t
unfolding D.power D.product
power_product a b x s t e h k p q r =
    let n = product_twelve a b h.twelve k.twelve x p in
    let i = power_twelve a e h.twelve s q in
    let j = power_twelve b e k.twelve t r in
    ap D.outcome
    (ext_get_or (Some F.zero) _ _ (powered_length x e n ∙ sym (answers_length F.sum s t i j))
    (λ m l.
    let o : m < 12 = rw (powered_length x e n) at l in
    powered_at x e n m o
    ∙ E.product_sum (exponent a m) (exponent b m) e (exponent x m) (exponent s m) (exponent t m) (product_at a b h.twelve k.twelve x m p o) (power_at a e h.twelve s m q o) (power_at b e k.twelve t m r o)
    ∙ sym (answers_at F.sum s t i j m o)))

-- ---- what a catalog declares
pub declared_sound : (a : Dimensions) → Declared a → Sound a
declared_sound a h = record { twelve = h.twelve; proper = λ k l. E.declared_proper (exponent a k) (h.declared k l) }

-- 01: "Declared exponents keep one product inside 32 bits", at most 2,147,418,112 over each base
module _ (a b : Dimensions) (h : Declared a) (k : Declared b) where
  within_limits : (o : Option Dimensions) → (o ≡ None → ⊥) → o ≡ Some (D.or_one o)
  within_limits None n = absurd (n refl)
  within_limits (Some v) n = refl

  is_over : (r : Rational) (o : Option Rational) → o ≡ Some r → o ≡ None → ⊥
  is_over r o p q = let z : ◌≡◌ {A = ℕ} 0 1 = cc in omega arith

  pub declared_product : D.product a b ≡ Some (D.or_one (D.product a b))
  declared_product =
      within_limits (D.product a b)
      (λ e.
      let t = product_over_law a b h.twelve k.twelve e in
      let s = E.declared_sum (exponent a t.0) (exponent b t.0) (h.declared t.0 t.1) (k.declared t.0 t.1) in
      is_over s.0 _ s.1 t.2)

  pub declared_quotient : D.quotient a b ≡ Some (D.or_one (D.quotient a b))
  declared_quotient =
      within_limits (D.quotient a b)
      (λ e.
      let t = quotient_over a b h.twelve k.twelve e in
      let s = E.declared_difference (exponent a t.0) (exponent b t.0) (h.declared t.0 t.1) (k.declared t.0 t.1) in
      is_over s.0 _ s.1 t.2)

  answered : (x y : Rational) (o : Option Rational) → o ≡ Some x → o ≡ Some y → x ≡ y
  answered x y o p q = cc

  pub declared_product_size : (v : Dimensions) (i : ℕ) → D.product a b ≡ Some v → i < 12 → nat_abs (exponent v i).num ≤ 2147418112
  declared_product_size v i e l =
      let s = E.declared_sum (exponent a i) (exponent b i) (h.declared i l) (k.declared i l) in
      rw (answered (exponent v i) s.0 _ (product_at a b h.twelve k.twelve v i e l) s.1) s.2

  pub declared_quotient_size : (v : Dimensions) (i : ℕ) → D.quotient a b ≡ Some v → i < 12 → nat_abs (exponent v i).num ≤ 2147418112
  declared_quotient_size v i e l =
      let s = E.declared_difference (exponent a i) (exponent b i) (h.declared i l) (k.declared i l) in
      rw (answered (exponent v i) s.0 _ (quotient_at a b h.twelve k.twelve v i e l) s.1) s.2

-- ---- `equal` is true exactly for equal dimensions
alike_same : (a b : List Rational) → D.alike a b ≡ true → a ≡ b
alike_same [] [] e = refl
alike_same [] (y ∷ b) e = cc
alike_same (x ∷ a) [] e = cc
alike_same (x ∷ a) (y ∷ b) e =
    let p : x ≡ y = E.equal_same x y (and_left (F.equal x y) _ e) in
    let q : a ≡ b = alike_same a b (and_right (F.equal x y) _ e) in
    cc

same_alike : (a : List Rational) → D.alike a a ≡ true
same_alike [] = refl
same_alike (x ∷ a) = rw (E.same_equal x) (same_alike a)

pub equal_same : (a b : Dimensions) → D.equal a b ≡ true → a ≡ b
unfolding D.equal
equal_same a b e = ap dimensions (alike_same a.powers b.powers e)

pub same_equal : (a b : Dimensions) → a ≡ b → D.equal a b ≡ true
unfolding D.equal
same_equal a b e = rw (← e) (same_alike a.powers)
