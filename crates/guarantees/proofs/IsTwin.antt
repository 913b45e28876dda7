-- 44 is said by products of two kinds alone: where a formula is refused by it, its token is that very product, with the two kinds on top.
-- Assumes nothing.
use Prim.Native.Nat.{ℕ}
use mathlib.Core.Path.{◌≡◌, refl, ap}
use mathlib.Core.Bool.{Bool, true, false, cond, true≢false}
use mathlib.Core.List.{List, [], ◌∷◌}
use Rattle.std.specs.declared.option.Option.{Option}
use Rattle.std.specs.declared.option.Option.TheVariants.{None, Some}
use lib.Dec.{ltb}
use lib.IntN.{pos, neg_ℤ}
use lib.ListN.{length}
use Rattle.laws.specs.Out.{given, refused, mapped}
use Rattle.dimension.specs.Fraction as F
use Rattle.dimension.specs.declared.grade.ProductOp.{ProductOp}
use Rattle.rules.specs.Kinds.{Kinds, Rows, Graded}
use Rattle.rules.specs.Refusal.{Refusal, Answer, UnresolvedTwin}
use Rattle.rules.specs.Arithmetic.{summed, multiplied, agree, sum, derive, resolve, product, scaled, power, combine}
use Rattle.rules.specs.Formula.{Token, Unary, Binary, in_limits, combined, compared, Term, Number, Kind, stop, bad, onto, with_none, with_one, step, terms, with_number, two_kinds, unary_term, binary_term, kind_term}
use Rattle.guarantees.specs.AtToken.{times_token}
use Rattle.guarantees.proofs.Calm.{Calm, derive_calm, agree_calm, sum_calm, by_number_calm, number_by_calm, unary_calm, kind_calm}

-- rows of every left, operation and right: what they do not lift is no 44
abbrev pub every : Rows
every l op r = Some 0

pub not_twins : {A : Type 0} (m : Answer A) (l : ℕ) (op : ProductOp) (r : ℕ) (ks : List ℕ) → Calm every m → m ≡ refused (UnresolvedTwin l op r ks) → true ≡ false
not_twins (given a) l op r ks c e = cc
not_twins (refused x) l op r ks c e = let z : x ≡ UnresolvedTwin l op r ks = cc in rw z at c

module _ (K : Kinds) (rows : Rows) (l : ℕ) (op : ProductOp) (r : ℕ) (ks : List ℕ) where
  pub record IsTwin (t : Token) (s : List Term) : Type 0 where
    pub below : List Term
    pub token : t ≡ times_token op
    pub held : s ≡ Kind r ∷ Kind l ∷ below
    pub asked : product K rows l op r ≡ refused (UnresolvedTwin l op r ks)

  -- the product's own left, operation and right
  named : (a : ℕ) (o : ProductOp) (b : ℕ) → product K rows a o b ≡ refused (UnresolvedTwin l op r ks) → (a ≡ l) × (o ≡ op) × (b ≡ r)
  unfolding product
  named a o b e = go (derive K a o b) refl (derive_calm every K a o b)
    where
      at : (x : Graded) → derive K a o b ≡ given x → (u : List ℕ) → resolve K a o b x ≡ u → (w : Option ℕ) → rows a o b ≡ w → (a ≡ l) × (o ≡ op) × (b ≡ r)
      at x d (k ∷ []) p w q = let z : true ≡ false = cc in absurd (true≢false z)
      at x d [] p w q = let z : true ≡ false = cc in absurd (true≢false z)
      at x d (m ∷ j ∷ js) p (Some k) q = let z : true ≡ false = cc in absurd (true≢false z)
      at x d (m ∷ j ∷ js) p None q = (cc, cc, cc)

      go : (m : Answer Graded) → derive K a o b ≡ m → Calm every m → (a ≡ l) × (o ≡ op) × (b ≡ r)
      go (given x) d c = at x d (resolve K a o b x) refl (rows a o b) refl
      go (refused y) d c = let z : ◌≡◌ {A = Answer ℕ} (refused y) (refused (UnresolvedTwin l op r ks)) = cc in absurd (true≢false (not_twins {A = ℕ} (refused y) l op r ks c z))

  onto_stop : (s : List Term) (m : Answer Term) (x : Refusal) → onto s m ≡ stop x → m ≡ refused x
  onto_stop s (given a) x e = cc
  onto_stop s (refused y) x e = cc

  unmapped : (m : Answer ℕ) → mapped Kind m ≡ refused (UnresolvedTwin l op r ks) → m ≡ refused (UnresolvedTwin l op r ks)
  unmapped (given k) e = cc
  unmapped (refused y) e = cc

  none_stop : (s : List Term) (m : Answer Term) → Calm every m → with_none m s ≡ stop (UnresolvedTwin l op r ks) → true ≡ false
  none_stop s m c e = go (ltb (length s) 32) e
    where
      go : (t : Bool) → cond t (onto s m) bad ≡ stop (UnresolvedTwin l op r ks) → true ≡ false
      go true e = not_twins m l op r ks c (onto_stop s m (UnresolvedTwin l op r ks) e)
      go false e = cc

  unary_stop : (u : Unary) (s : List Term) (t : Bool) → cond t (with_one (unary_term K u) s) bad ≡ stop (UnresolvedTwin l op r ks) → true ≡ false
  unary_stop u [] true e = cc
  unary_stop u (a ∷ s) true e = not_twins (unary_term K u a) l op r ks (unary_calm every K u a) (onto_stop s (unary_term K u a) (UnresolvedTwin l op r ks) e)
  unary_stop u s false e = cc

  abbrev Asked : ℕ → Binary → ℕ → Type 0
  Asked x b y = (x ≡ l) × (b ≡ combined (multiplied op)) × (y ≡ r) × (product K rows l op r ≡ refused (UnresolvedTwin l op r ks))

  two_twin : (b : Binary) (x y : ℕ) → two_kinds K rows b x y ≡ refused (UnresolvedTwin l op r ks) → Asked x b y
  unfolding two_kinds combine
  two_twin (combined (summed t)) x y e = absurd (true≢false (not_twins (sum K t x y) l op r ks (sum_calm every K t x y) e))
  two_twin (combined (multiplied o)) x y e = let h = named x o y e in (h.0, ap (λ (p : ProductOp). combined (multiplied p)) h.1, h.2, cc (h.0, h.1, h.2))
  two_twin compared x y e = absurd (true≢false (not_twins (agree x y x) l op r ks (agree_calm every K x y x) e))

  binary_twin : (b : Binary) (x y : Term) (s : List Term) → binary_term K rows b x y ≡ refused (UnresolvedTwin l op r ks) → IsTwin (Token.binary b) (y ∷ x ∷ s)
  unfolding binary_term
  binary_twin b Number Number s e = let z : true ≡ false = cc in absurd (true≢false z)
  binary_twin b (Kind x) (Kind y) s e =
      let h = two_twin b x y (unmapped (two_kinds K rows b x y) e) in
      let p = h.0 in
      let q = h.2 in
      record { below = s; token = ap Token.binary h.1; held = cc; asked = h.3 }
  binary_twin b (Kind k) Number s e =
      let m = with_number K b k (scaled K 5 k) in
      absurd (true≢false (not_twins m l op r ks (by_number_calm every K b k) (unmapped m e)))
  binary_twin b Number (Kind k) s e =
      let m = with_number K b k (power K 5 k (Some (F.ratio (neg_ℤ (pos 1)) 1))) in
      absurd (true≢false (not_twins m l op r ks (number_by_calm every K b k (F.ratio (neg_ℤ (pos 1)) 1)) (unmapped m e)))

  pub is_twin : (t : Token) (s : List Term) → step (terms K rows) t s ≡ stop (UnresolvedTwin l op r ks) → IsTwin t s
  unfolding terms
  is_twin Token.number s e = absurd (true≢false (none_stop s (given Number) tt e))
  is_twin (Token.kind k) s e = absurd (true≢false (none_stop s (kind_term K k) (kind_calm every K k) e))
  is_twin (Token.unary u) s e = absurd (true≢false (unary_stop u s (in_limits u) e))
  is_twin (Token.binary b) [] e = let z : true ≡ false = cc in absurd (true≢false z)
  is_twin (Token.binary b) (y ∷ []) e = let z : true ≡ false = cc in absurd (true≢false z)
  is_twin (Token.binary b) (y ∷ x ∷ s) e = binary_twin b x y s (onto_stop s (binary_term K rows b x y) (UnresolvedTwin l op r ks) e)
  is_twin Token.unreadable s e = let z : true ≡ false = cc in absurd (true≢false z)
