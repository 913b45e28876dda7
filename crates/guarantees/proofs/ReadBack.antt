-- The words that a compilation writes are read as its kinds. Assumes nothing.
use Prim.Native.Nat.{ℕ, ◌+◌, ◌*◌, ◌<◌, ◌≤◌, min}
use mathlib.Core.Path.{◌≡◌, refl, sym, ◌∙◌, ap, fun_ext}
use mathlib.Core.Bool.{Bool, true, false, cond, true≢false}
use mathlib.Core.List.{List, []}
use Rattle.std.specs.declared.option.Option.{Option}
use Rattle.std.specs.declared.option.Option.TheVariants.{None, Some}
use native.Mathlib.Omega.{arith}
use native.Mathlib.Nat.{le_trans}
use lib.Dec.{eqb, ltb}
use lib.IntN.{ℤ, pos, negsuc, nat_abs}
use mir.Syntax.{w32}
use mir.Val.{SFits}
use borrow.Author.Tests.{lt-ltb, ltb-true, ltb-false}
use Rattle.laws.specs.Options.{is_some}
use Rattle.laws.specs.Ranges.{below}
use Rattle.laws.proofs.First.{first_below}
use Rattle.laws.proofs.Below.{below_in, below_past}
use Rattle.laws.proofs.Tab.{length_tab, tab_at}
use Rattle.dimension.specs.Integer as I
use Rattle.dimension.specs.Fraction as F
use Rattle.dimension.specs.Dimension as D
use Rattle.dimension.specs.declared.rational.Rational.{Rational}
use Rattle.dimension.specs.declared.dimensions.Dimensions.{Dimensions}
use Rattle.dimension.proofs.DimensionLaws as L
use Rattle.dimension.proofs.BitLaws as B
use Rattle.rules.specs.Refusal.{absent}
use Rattle.rules.specs.Catalog.{Id, Kind, blank, absent_kind, Catalog, meant, link, difference_of, target_of, rate_among}
use Rattle.rules.specs.Catalog as catalog
use Rattle.rules.specs.Table as table
use Rattle.rules.specs.Table.{word, index_or, index_word, exponent_of, exponent_from, dims_from}
use Rattle.guarantees.proofs.KindRules.{Quiet, find_below}
use Rattle.guarantees.proofs.Written.{Holds, head_kinds, head_dimensionless, head_time, flag_word, grade_word, difference_word, target_word, rate_word, num_word, den_word}

-- what an image that 4 does not refuse declares
pub record Fits (C : Catalog) : Type 0 where
  pub quiet : Quiet C
  pub kinds : C.kind_count ≤ 240
  pub rows : C.row_count ≤ 200
  pub grade : (k : ℕ) → (C.kind k).grade ≤ 3
  pub declared : (k : ℕ) (a : Dimensions) → (C.kind k).dims ≡ Some a → D.Declared a

-- ---- an index is read back
pub index_back : (o : Option ℕ) → ((k : ℕ) → o ≡ Some k → k < 240) → index_or (index_word o) ≡ o
index_back None h = refl
index_back (Some k) h = rw (lt-ltb k absent (le_trans (h k refl) (omega arith)))

-- f below n and a from there on is g
below_is : {A : Type 0} (n : ℕ) (a : A) (f g : ℕ → A) → ((k : ℕ) → k < n → f k ≡ g k) → ((k : ℕ) → n ≤ k → a ≡ g k) → below n a f ≡ g
below_is n a f g p q = fun_ext (λ k. go k (ltb k n) refl)
  where
    go : (k : ℕ) (t : Bool) → ltb k n ≡ t → below n a f k ≡ g k
    go k true e = let h = ltb-true k n e in below_in n a f k h ∙ p k h
    go k false e = let h = ltb-false k n e in below_past n a f k h ∙ q k h

-- ---- an exponent is read back
fits_32 : (z : ℤ) → nat_abs z ≤ 32768 → SFits w32 z
fits_32 (pos n) h = record { sfits = omega arith }
fits_32 (negsuc n) h = record { sfits = omega arith }

ratio_same : (n : ℤ) (d : ℕ) (x : Rational) → n ≡ x.num → d ≡ x.den → F.ratio n d ≡ x
ratio_same n d x p q i = record { num = p i; den = q i }

module _ (t : List ℕ) (C : Catalog) (holds : Holds t C) (fit : Fits C) where
  pub exponent_back : (k b : ℕ) (a : Dimensions) → k < C.kind_count → b < 12 → (C.kind k).dims ≡ Some a → exponent_from t (16 + 32 * k) b ≡ D.exponent a b
  unfolding exponent_from
  exponent_back k b a h l e =
      let m : k < 240 = le_trans h fit.kinds in
      let x : exponent_of C k b ≡ D.exponent a b = rw e in
      let n = fits_32 (D.exponent a b).num ((fit.declared k a e).declared b l).num in
      ratio_same _ _ (D.exponent a b)
      (ap (λ (w : ℕ). I.twos 2147483648 w) (num_word t C holds k m h b l ∙ ap (λ (y : Rational). I.bits32 y.num) x) ∙ B.twos_bits (D.exponent a b).num n)
      (den_word t C holds k m h b l ∙ ap (λ (y : Rational). y.den) x)

  dims_back : (k : ℕ) (a : Dimensions) → k < C.kind_count → (C.kind k).dims ≡ Some a → dims_from t (16 + 32 * k) ≡ a
  unfolding dims_from
  dims_back k a h e =
      L.same_exponents _ a (length_tab (exponent_from t (16 + 32 * k)) 12) (fit.declared k a e).twelve
      (λ b l. tab_at (exponent_from t (16 + 32 * k)) 12 b F.zero l ∙ exponent_back k b a h l e)

  abbrev read_dims : ℕ → Option Dimensions
  read_dims k = cond (eqb (word t (16 + 32 * k + 24)) 1) (Some (dims_from t (16 + 32 * k))) None

  given_back : (k : ℕ) → k < C.kind_count → read_dims k ≡ (C.kind k).dims
  given_back k h = go (C.kind k).dims refl
    where
      flag : word t (16 + 32 * k + 24) ≡ cond (is_some (C.kind k).dims) 1 0
      flag = flag_word t C holds k (le_trans h fit.kinds) h

      go : (o : Option Dimensions) → (C.kind k).dims ≡ o → read_dims k ≡ (C.kind k).dims
      go None p = let f : word t (16 + 32 * k + 24) ≡ 0 = rw p at flag in rw (f, p)
      go (Some a) p = let f : word t (16 + 32 * k + 24) ≡ 1 = rw p at flag in rw (f, p) (ap Some (dims_back k a h p))

  -- ---- links are in range
  pub link_small : (id : Id) (k : ℕ) → link C id ≡ Some k → k < 240
  unfolding link
  link_small id k e = go (blank id) refl
    where
      go : (b : Bool) → blank id ≡ b → k < 240
      go true p = let h : None ≡ Some k = rw p at e in let z : true ≡ false = cc in absurd (true≢false z)
      go false p = le_trans (find_below C id (rw p at e)) fit.kinds

  rate_small : (n j k : ℕ) → n ≤ 240 → rate_among C n j ≡ Some k → k < 240
  unfolding rate_among
  rate_small n j k h e = le_trans (first_below (λ k. meant j (target_of C k)) n e) h

  link_back : (id : Id) → index_or (index_word (link C id)) ≡ link C id
  link_back id = index_back (link C id) (link_small id)

  -- ---- past the count nothing is declared
  past : (k : ℕ) → C.kind_count ≤ k → C.kind k ≡ absent_kind
  past k h = fit.quiet k h

  quiet_link : (f : Kind → Id) → f absent_kind ≡ [] → (k : ℕ) → C.kind_count ≤ k → None ≡ link C (f (C.kind k))
  unfolding link blank
  quiet_link f e k h = rw (past k h, e)

  least : (m n : ℕ) → n ≤ m → min m n ≡ n
  least m n h = omega arith

  count_back : min 240 (word t 0) ≡ C.kind_count
  count_back = rw (head_kinds t C holds) (least 240 C.kind_count fit.kinds)

  -- ---- the whole
  abbrev small : (k : ℕ) → k < C.kind_count → k < 240
  small k h = le_trans h fit.kinds

  pub kinds_back : table.kinds_of t ≡ catalog.kinds_of C
  unfolding table.kinds_of catalog.kinds_of
  kinds_back i = record {
    count = count_back i;
    dims = (ap (λ (n : ℕ). below n None read_dims) count_back
        ∙ below_is C.kind_count None read_dims (λ k. (C.kind k).dims) given_back (λ k h. sym (ap (λ (x : Kind). x.dims) (past k h)))) i;
    grade = (ap (λ (n : ℕ). below n 0 (λ k. word t (16 + 32 * k + 25))) count_back
        ∙ below_is C.kind_count 0 (λ k. word t (16 + 32 * k + 25)) (λ k. (C.kind k).grade) (λ k h. grade_word t C holds k (small k h) h) (λ k h. sym (ap (λ (x : Kind). x.grade) (past k h)))) i;
    difference = (ap (λ (n : ℕ). below n None (λ k. index_or (word t (16 + 32 * k + 27)))) count_back
        ∙ below_is C.kind_count None (λ k. index_or (word t (16 + 32 * k + 27))) (difference_of C)
        (λ k h. ap index_or (difference_word t C holds k (small k h) h) ∙ link_back (C.kind k).difference) (quiet_link (λ x. x.difference) refl)) i;
    rate_of = (ap (λ (n : ℕ). below n None (λ k. index_or (word t (16 + 32 * k + 28)))) count_back
        ∙ below_is C.kind_count None (λ k. index_or (word t (16 + 32 * k + 28))) (target_of C)
        (λ k h. ap index_or (target_word t C holds k (small k h) h) ∙ link_back (C.kind k).rate_of) (quiet_link (λ x. x.rate_of) refl)) i;
    rate = (ap (λ (n : ℕ). below n None (λ k. index_or (word t (16 + 32 * k + 29)))) count_back
        ∙ below_is C.kind_count None (λ k. index_or (word t (16 + 32 * k + 29))) (below C.kind_count None (rate_among C C.kind_count))
        (λ k h. ap index_or (rate_word t C holds k (small k h) h) ∙ index_back _ (λ j e. rate_small C.kind_count k j fit.kinds e) ∙ sym (below_in C.kind_count None (rate_among C C.kind_count) k h))
        (λ k h. sym (below_past C.kind_count None (rate_among C C.kind_count) k h))) i;
    dimensionless = (ap index_or (head_dimensionless t C holds) ∙ link_back C.dimensionless) i;
    time = (ap index_or (head_time t C holds) ∙ link_back C.time) i;
  }
