-- The rule of a row of a catalog is the rule by what its ids name, over the entries of the rows before it, while those are accepted. Assumes
-- nothing.
use Prim.Native.Nat.{ℕ, ◌+◌, ◌<◌, ◌≤◌}
use mathlib.Core.Path.{◌≡◌, refl, sym, ◌∙◌, ap}
use mathlib.Core.Bool.{Bool, true, false, cond, not, ◌&&◌}
use mathlib.Core.List.{List, [], ◌∷◌}
use Rattle.std.specs.declared.result.Result.{Result}
use Rattle.std.specs.declared.result.Result.TheVariants.{Ok, Err}
use Rattle.std.specs.declared.option.Option.{Option}
use Rattle.std.specs.declared.option.Option.TheVariants.{None, Some}
use native.Mathlib.Omega.{arith}
use lib.Dec.{eqb}
use lib.ListN.{length, take}
use Rattle.laws.specs.Out.{Out, given, refused, ◌>>=◌, ◌>>◌, refuse_if}
use Rattle.laws.proofs.First.{first_below}
use Rattle.rules.specs.Kinds.{Kinds, Rows, Graded, point, carries}
use Rattle.rules.specs.Refusal as rule
use Rattle.rules.specs.Refusal.{Point, InvalidOperationRule}
use Rattle.rules.specs.Arithmetic.{operand, derive, resolve}
use Rattle.rules.specs.Layout.{kind_count, row_count}
use Rattle.rules.specs.Catalog.{Catalog, catalog_in, find, covers, row_among, kinds_of}
use Rattle.rules.specs.Compile.{Checked, called, several, fresh, row_rule, each_record}
use Rattle.rules.specs.Table.{entries_in}
use Rattle.rules.specs.Table as table
use Rattle.guarantees.proofs.Given.{record_given}
use Rattle.guarantees.proofs.RowRules.{Accepted, row_tells}
use Rattle.guarantees.proofs.InForce.{entries_said}
use Rattle.error.specs.Shown.{fine}
use Rattle.error.specs.declared.fault.Fault.{Fault}
use Rattle.written.specs.Shown.{rows_in}
use Rattle.compile.specs.Shown.{ruled, ruled_all, Reads}
use Rattle.compile.specs.declared.rows.Row.{Row}
use Rattle.compile.specs.Rows.{row_asked, row_shown, fresh_in, pair_fresh, or_several, row_several, row_fits, row_derived, row_named}
use Rattle.compile.proofs.RowAsked.{test, shown_given, shown_refused}
use Rattle.compile.proofs.Prefix.{used_in, used_front, used_next}
use Rattle.compile.proofs.EachRecord.{given_told, all_here, all_next}

bind_same : {E A B : Type 0} (m : Out E A) (f g : A → Out E B) → ((a : A) → f a ≡ g a) → (m >>= f) ≡ (m >>= g)
bind_same (given a) f g h = h a
bind_same (refused x) f g h = refl

module _ (C : Catalog) (i : ℕ) (few : C.kind_count ≤ 240) (before : (j : ℕ) → j < i → Accepted C j) where
  abbrev K : Kinds
  K = kinds_of C

  abbrev R : Rows
  R = table.rows_of (entries_in C i)

  abbrev by : ℕ → ℕ → ℕ → Row
  by l r k = record { left = l; op = (C.row i).op; right = r; result = k; commutative = (C.row i).commutative }

  -- 27
  fresh_same : (l r : ℕ) → fresh_in R l (C.row i).op r ≡ fresh C i l r
  unfolding fresh_in fresh row_among
  fresh_same l r = go (row_among C i l (C.row i).op r) refl
    where
      go : (o : Option ℕ) → row_among C i l (C.row i).op r ≡ o → fresh_in R l (C.row i).op r ≡ fresh C i l r
      go None p = let e : R l (C.row i).op r ≡ None = entries_said C l (C.row i).op r i before few ∙ rw p in rw (e, p)
      go (Some j) p =
          let a = before j (first_below (λ n. covers C l (C.row i).op r (C.row n)) i p) in
          let e : R l (C.row i).op r ≡ Some a.result = entries_said C l (C.row i).op r i before few ∙ rw p a.finds_result in
          rw (e, p)

  abbrev fresh_pair : ℕ → ℕ → Checked
  fresh_pair l r = fresh C i l r >> cond (C.row i).commutative (fresh C i r l) (given tt)

  pair_same : (l r k : ℕ) → pair_fresh R (by l r k) ≡ fresh_pair l r
  unfolding pair_fresh
  pair_same l r k = rw (fresh_same l r, fresh_same r l)

  -- 26
  several_same : (s : List ℕ) (g : Graded) (m : Checked) → or_several s g m ≡ (several C s g >> m)
  several_same (k ∷ []) g m = refl
  several_same (k ∷ j ∷ ks) g m = refl
  several_same [] g m = refl

  -- from 23 on
  abbrev from23 : ℕ → ℕ → ℕ → Checked
  from23 l r k =
      refuse_if (point K k) (Point l (C.row i).op r k)
      >> (operand K k
      >> (derive K l (C.row i).op r
      >>= (λ g. refuse_if (not (carries K g k)) (InvalidOperationRule g)
      >> (several C (resolve K l (C.row i).op r g) g >> fresh_pair l r))))

  named_same : (l r k : ℕ) → row_named K R (by l r k) ≡ from23 l r k
  unfolding row_named row_derived row_fits row_several
  named_same l r k =
      ap (λ (m : Checked). refuse_if (point K k) (Point l (C.row i).op r k) >> (operand K k >> m))
      (bind_same (derive K l (C.row i).op r) _ _
      (λ g. ap (λ (m : Checked). refuse_if (not (carries K g k)) (InvalidOperationRule g) >> m)
      (ap (or_several (resolve K l (C.row i).op r g) g) (pair_same l r k) ∙ several_same (resolve K l (C.row i).op r g) g (fresh_pair l r))))

  pub rule_same : (row_asked C i >>= row_named K R) ≡ row_rule C i
  unfolding row_asked row_rule called
  rule_same = go (test C i) refl (find C (C.row i).left) refl (find C (C.row i).right) refl (find C (C.row i).result) refl
    where
      go : (t : Bool) → test C i ≡ t → (a : Option ℕ) → find C (C.row i).left ≡ a → (b : Option ℕ) → find C (C.row i).right ≡ b → (c : Option ℕ) → find C (C.row i).result ≡ c
          → (row_asked C i >>= row_named K R) ≡ row_rule C i
      go true f a p b q c s = rw f
      go false f None p b q c s = rw (f, p)
      go false f (Some l) p None q c s = rw (f, p, q)
      go false f (Some l) p (Some r) q None s = rw (f, p, q, s)
      go false f (Some l) p (Some r) q (Some k) s = rw (f, p, q, s) (named_same l r k)

  -- 22 or 12, which code asks first
  pub asked_refused : {f : Fault} → Err f ≡ row_shown C i → Err f ≡ ruled i (row_rule C i)
  unfolding ruled fine
  asked_refused e =
      let r = shown_refused C i e in
      let z : row_rule C i ≡ refused r.0 = sym rule_same ∙ ap (λ (m : rule.Answer Row). m >>= row_named K R) r.1 in
      ap Err r.2 ∙ ap (λ (m : Checked). fine (rule.at i m)) (sym z)

  -- and what follows
  pub asked_given : {x : Row} {v : Result (Unit {0}) Fault} → Ok x ≡ row_shown C i → v ≡ ruled i (row_named K R x) → v ≡ ruled i (row_rule C i)
  asked_given e h =
      let z = sym rule_same ∙ ap (λ (m : rule.Answer Row). m >>= row_named K R) (shown_given C i e) in
      h ∙ ap (ruled i) (sym z)

-- ---- a turn of the loop over the rows of the image s: t are its kinds' words and ws its rows'
module _ (s : List ℕ) (kinds : kind_count s ≤ 240) (rows : row_count s ≤ 200) (i : ℕ) (h : i < row_count s) where
  abbrev C : Catalog
  C = catalog_in s

  accepted : each_record C (row_rule C) i ≡ given tt → (j : ℕ) → j < i → Accepted C j
  accepted p j l = row_tells C j (record_given C (row_rule C) i p j l)

  few : C.kind_count ≤ 240
  unfolding catalog_in
  few = kinds

  pub turn_asked : each_record C (row_rule C) i ≡ given tt → {f : Fault} → Err f ≡ row_shown C i → Err f ≡ ruled_all (row_rule C) (row_count s)
  turn_asked p e = all_here (row_rule C) i (row_count s) refl p h (asked_refused C i few (accepted p) e)

  module _ (t : List ℕ) (reads : Reads t s) {ws : List ℕ} (words : ws ≡ rows_in s) {used : ℕ} (u : used ≡ length (entries_in C i)) (p : each_record C (row_rule C) i ≡ given tt)
      {x : Row} (e : Ok x ≡ row_shown C i) where
    turn : {v : Result (Unit {0}) Fault} → v ≡ ruled i (row_named (table.kinds_of t) (table.rows_of (take used ws)) x) → v ≡ ruled i (row_rule C i)
    unfolding catalog_in rows_in
    turn q = asked_given C i few (accepted p) e (q ∙ rw (reads, used_front C rows words i (omega arith) u))

    pub turn_stop : {f : Fault} → Err f ≡ ruled i (row_named (table.kinds_of t) (table.rows_of (take used ws)) x) → Err f ≡ ruled_all (row_rule C) (row_count s)
    turn_stop q = all_here (row_rule C) i (row_count s) refl p h (turn q)

    pub turn_next : {y : Unit {0}} {w : ℕ} → Ok y ≡ ruled i (row_named (table.kinds_of t) (table.rows_of (take used ws)) x) → w ≡ cond (x.commutative && not (eqb x.left x.right)) 8 4
        → (used + w ≡ length (entries_in C (i + 1))) × (each_record C (row_rule C) (i + 1) ≡ given tt)
    turn_next q k = (used_next C i (row_tells C i (given_told i (row_rule C i) (turn q))) u (shown_given C i e) k, all_next (row_rule C) i p (turn q))

  -- what is used is part of the rows' words
  pub turn_in : {ws : List ℕ} → ws ≡ rows_in s → {used : ℕ} → used ≡ length (entries_in C i) → used ≤ length ws
  unfolding catalog_in rows_in
  turn_in words u = used_in C rows words i (omega arith) u
