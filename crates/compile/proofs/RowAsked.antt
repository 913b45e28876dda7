-- A row of an image by the kinds that its ids name: 22 and 12, or what is given of it. Assumes nothing.
use Prim.Native.Nat.{ℕ, ◌<◌, ◌≤◌}
use mathlib.Core.Path.{◌≡◌, refl, sym, ◌∙◌, ap}
use mathlib.Core.Bool.{Bool, true, false, ◌&&◌, true≢false}
use mathlib.Core.List.{List}
use Rattle.std.specs.declared.option.Option.{Option}
use Rattle.std.specs.declared.option.Option.TheVariants.{None, Some}
use Rattle.std.specs.declared.result.Result.{Result}
use Rattle.std.specs.declared.result.Result.TheVariants.{Ok, Err}
use Rattle.std.specs.Option.{ok_or}
use native.Mathlib.Omega.{arith}
use lib.ListN.{length, get_or, drop, replicate, length-replicate, get_or-append}
use Rattle.laws.specs.Out.{given, refused}
use Rattle.laws.specs.Ranges.{tab}
use Rattle.laws.proofs.Overlay.{overlay_length}
use Rattle.laws.proofs.Tab.{length_tab, tab_at}
use Rattle.dimension.specs.declared.grade.ProductOp.{ProductOp}
use Rattle.dimension.specs.declared.grade.ProductOp.TheVariants.{Div}
use Rattle.rules.specs.Kinds.{same_op}
use Rattle.rules.specs.Refusal as rule
use Rattle.rules.specs.Layout.{row_count}
use Rattle.rules.specs.Catalog.{Catalog, row_at, row_from, catalog_in, find}
use Rattle.rules.specs.Compile.{called}
use Rattle.error.specs.Shown.{fault, fault_of, shown}
use Rattle.error.specs.declared.fault.Fault.{Fault}
use Rattle.error.specs.declared.cause.Error.TheVariants as cause
use Rattle.written.specs.declared.rows.Named.{Named}
use Rattle.written.specs.Shown.{named_in, row_named, named_by, none_named}
use Rattle.compile.specs.declared.rows.Row.{Row}
use Rattle.compile.specs.Rows.{row_by_names, row_asked, row_shown}

-- ---- the list of what the ids of an image's rows name
module _ (s : List ℕ) (rows : row_count s ≤ 200) where
  abbrev named : List Named
  named = tab (row_named s) (row_count s)

  pub named_long : length (named_in s) ≡ 200
  named_long =
      let z : length named ≤ length (replicate {A = Named} 200 none_named) = rw (length_tab (row_named s) (row_count s), length-replicate {A = Named} 200 none_named) (omega arith) in
      overlay_length named (replicate 200 none_named) z ∙ length-replicate {A = Named} 200 none_named

  pub in_named : {l : List Named} (i : ℕ) → l ≡ named_in s → i < row_count s → i < length l
  in_named i e h = rw (e, named_long) (omega arith)

  named_is : (i : ℕ) (d : Named) → i < row_count s → get_or (named_in s) i d ≡ row_named s i
  named_is i d h =
      get_or-append named (drop (length named) (replicate 200 none_named)) d i (rw (length_tab (row_named s) (row_count s)) h)
      ∙ tab_at (row_named s) (row_count s) i d h

-- ---- what is answered
module _ (C : Catalog) (i : ℕ) where
  abbrev pub test : Bool
  test = (C.row i).commutative && same_op (C.row i).op Div

  quotient_shown : test ≡ true → Err (fault i (cause.CommutativeQuotient i)) ≡ row_shown C i
  unfolding row_shown row_asked
  quotient_shown e = rw e

  names_shown : test ≡ false → ok_or (row_by_names (named_by C (C.row i)) (C.row i).op (C.row i).commutative) (fault i (cause.Unknown i)) ≡ row_shown C i
  unfolding row_shown row_asked row_by_names named_by called
  names_shown e = go (find C (C.row i).left) refl (find C (C.row i).right) refl (find C (C.row i).result) refl
    where
      go : (a : Option ℕ) → find C (C.row i).left ≡ a → (b : Option ℕ) → find C (C.row i).right ≡ b → (c : Option ℕ) → find C (C.row i).result ≡ c
          → ok_or (row_by_names (named_by C (C.row i)) (C.row i).op (C.row i).commutative) (fault i (cause.Unknown i)) ≡ row_shown C i
      go None p b q c r = rw (e, p)
      go (Some j) p None q c r = rw (e, p, q)
      go (Some j) p (Some k) q None r = rw (e, p, q, r)
      go (Some j) p (Some k) q (Some m) r = rw (e, p, q, r)

  -- ---- what is told: none of 22, and a kind for each id
  abbrev Tells : Row → Option ℕ → Option ℕ → Option ℕ → Type 0
  Tells x a b c = (a ≡ Some x.left) × (b ≡ Some x.right) × (c ≡ Some x.result)
      × (x ≡ record { left = x.left; op = (C.row i).op; right = x.right; result = x.result; commutative = (C.row i).commutative })

  pub asked_tells : {x : Row} → row_asked C i ≡ given x → (find C (C.row i).left ≡ Some x.left) × (find C (C.row i).right ≡ Some x.right) × (find C (C.row i).result ≡ Some x.result)
      × (x ≡ record { left = x.left; op = (C.row i).op; right = x.right; result = x.result; commutative = (C.row i).commutative })
  unfolding row_asked called
  asked_tells {x} e = go test refl (find C (C.row i).left) refl (find C (C.row i).right) refl (find C (C.row i).result) refl
    where
      never : {y : rule.Refusal} {P : Type 0} → refused y ≡ given x → P
      never z = let w : true ≡ false = cc in absurd (true≢false w)

      go : (t : Bool) → test ≡ t → (a : Option ℕ) → find C (C.row i).left ≡ a → (b : Option ℕ) → find C (C.row i).right ≡ b → (c : Option ℕ) → find C (C.row i).result ≡ c → Tells x a b c
      go true f a p b q c r = never (rw f at e)
      go false f None p b q c r = never (rw (f, p) at e)
      go false f (Some j) p None q c r = never (rw (f, p, q) at e)
      go false f (Some j) p (Some k) q None r = never (rw (f, p, q, r) at e)
      go false f (Some j) p (Some k) q (Some m) r =
          let z : given (record { left = j; op = (C.row i).op; right = k; result = m; commutative = (C.row i).commutative }) ≡ given x = rw (f, p, q, r) at e in
          let y : record { left = j; op = (C.row i).op; right = k; result = m; commutative = (C.row i).commutative } ≡ x = cc in
          let w : ◌≡◌ {A = Row} x (record { left = x.left; op = (C.row i).op; right = x.right; result = x.result; commutative = (C.row i).commutative }) = rw (← y) in
          (ap (λ (u : Row). Some u.left) y, ap (λ (u : Row). Some u.right) y, ap (λ (u : Row). Some u.result) y, w)

  pub shown_given : {x : Row} → Ok x ≡ row_shown C i → row_asked C i ≡ given x
  unfolding row_shown
  shown_given {x} e = go (row_asked C i) refl
    where
      go : (m : rule.Answer Row) → row_asked C i ≡ m → row_asked C i ≡ given x
      go (given y) p =
          let z : Ok x ≡ Ok y = e ∙ ap (λ (n : rule.Answer Row). shown (λ u. u) (rule.at i n)) p in
          let w : x ≡ y = cc in
          p ∙ ap given (sym w)
      go (refused y) p =
          let z : Ok x ≡ Err (fault_of (record { place = i; refusal = y })) = e ∙ ap (λ (n : rule.Answer Row). shown (λ u. u) (rule.at i n)) p in
          let w : true ≡ false = cc in
          absurd (true≢false w)

  pub shown_refused : {f : Fault} → Err f ≡ row_shown C i → (y : rule.Refusal) × (row_asked C i ≡ refused y) × (f ≡ fault_of (record { place = i; refusal = y }))
  unfolding row_shown
  shown_refused {f} e = go (row_asked C i) refl
    where
      go : (m : rule.Answer Row) → row_asked C i ≡ m → (y : rule.Refusal) × (m ≡ refused y) × (f ≡ fault_of (record { place = i; refusal = y }))
      go (given y) p =
          let z : Err f ≡ Ok y = e ∙ ap (λ (n : rule.Answer Row). shown (λ u. u) (rule.at i n)) p in
          let w : true ≡ false = cc in
          absurd (true≢false w)
      go (refused y) p =
          let z : Err f ≡ Err (fault_of (record { place = i; refusal = y })) = e ∙ ap (λ (n : rule.Answer Row). shown (λ u. u) (rule.at i n)) p in
          let w : f ≡ fault_of (record { place = i; refusal = y }) = cc in
          (y, refl, w)

-- ---- the same of the image s and in the code's words
module _ (s : List ℕ) (rows : row_count s ≤ 200) (i : ℕ) (h : i < row_count s) {p : ℕ} (a : p ≡ row_at s i) {o : ProductOp} (b : o ≡ (row_from s p).op) {c : Bool} (d : c ≡ (row_from s p).commutative)
    {t : Bool} (e : t ≡ same_op o Div) where
  pub row_quotient : (c && t) ≡ true → {x : Fault} → x ≡ fault i (cause.CommutativeQuotient i) → Err x ≡ row_shown (catalog_in s) i
  unfolding catalog_in
  row_quotient q x = ap Err x ∙ quotient_shown (catalog_in s) i (rw (e, b, d, a) at q)

  pub row_names : (c && t) ≡ false → {l : List Named} (n : Named) {v : Option Row} {x : Fault} → l ≡ named_in s → v ≡ row_by_names (get_or l i n) o c → x ≡ fault i (cause.Unknown i)
      → {w : Result Row Fault} → w ≡ ok_or v x → w ≡ row_shown (catalog_in s) i
  unfolding catalog_in row_named
  row_names q n f g x z =
      z ∙ rw (g, x, f, named_is s rows i n h, b, d, a) (names_shown (catalog_in s) i (rw (e, b, d, a) at q))
