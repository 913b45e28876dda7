-- An id is blank, and two ids are the same, just where each byte says so. Assumes nothing.
use Prim.Native.Nat.{ℕ, zero, suc, ◌+◌, ◌<◌, ◌≤◌}
use mathlib.Core.Path.{◌≡◌, refl, sym, ◌∙◌, ap, ap₂, subst}
use mathlib.Core.Bool.{Bool, true, false, not, ◌&&◌}
use mathlib.Core.List.{List, [], ◌∷◌, ◌++◌}
use Rattle.std.specs.declared.option.Option.{Option}
use Rattle.std.specs.declared.option.Option.TheVariants.{None, Some}
use lib.Dec.{eqb}
use lib.ListN.{length, take, drop}
use native.Mathlib.Omega.{arith}
use borrow.Author.Tests.{not-true}
use Rattle.laws.proofs.All.{all_here}
use Rattle.std.proofs.lemmas.List.{length-take-le, take_all, ext_get_or, get_or-take, get_or-drop}
use Rattle.std.specs.Option.{IfSome, MatchOption}
use Rattle.std.specs.Array.{IsFirstChunk}
use Rattle.laws.specs.Ranges.{all, tab}
use Rattle.laws.proofs.Tab.{length_tab, tab_at}
use Rattle.rules.specs.Bytes.{byte}
use Rattle.rules.specs.Catalog.{blank, same, id_at}
use Rattle.catalog.specs.Shown.{byte_zero, bytes_alike}

and_true : (b : Bool) → (b && true) ≡ b
and_true true = refl
and_true false = refl

and_assoc : (a b c : Bool) → (a && (b && c)) ≡ ((a && b) && c)
and_assoc true b c = refl
and_assoc false b c = refl

-- ---- one byte more
blank_more : (a : List ℕ) (x : ℕ) → blank (a ++ (x ∷ [])) ≡ (blank a && eqb x 0)
unfolding blank
blank_more [] x = and_true (eqb x 0)
blank_more (y ∷ a) x = rw (blank_more a x) (and_assoc (eqb y 0) (blank a) (eqb x 0))

same_more : (a b : List ℕ) (x y : ℕ) → length a ≡ length b → same (a ++ (x ∷ [])) (b ++ (y ∷ [])) ≡ (same a b && eqb x y)
unfolding same
same_more [] [] x y e = and_true (eqb x y)
same_more [] (w ∷ b) x y e = cc
same_more (v ∷ a) [] x y e = cc
same_more (v ∷ a) (w ∷ b) x y e = let q : length a ≡ length b = cc in rw (same_more a b x y q) (and_assoc (eqb v w) (same a b) (eqb x y))

-- ---- all of them
blank_tab : (f : ℕ → ℕ) (n : ℕ) → blank (tab f n) ≡ all (λ i. eqb (f i) 0) n
unfolding blank tab all
blank_tab f zero = refl
blank_tab f (suc n) = blank_more (tab f n) (f n) ∙ rw (blank_tab f n)

same_tab : (f g : ℕ → ℕ) (n : ℕ) → same (tab f n) (tab g n) ≡ all (λ i. eqb (f i) (g i)) n
unfolding same tab all
same_tab f g zero = refl
same_tab f g (suc n) = same_more (tab f n) (tab g n) (f n) (g n) (length_tab f n ∙ sym (length_tab g n)) ∙ rw (same_tab f g n)

module _ (s : List ℕ) (p : ℕ) where
  pub blank_id : blank (id_at s p) ≡ all (byte_zero s p) 32
  unfolding id_at byte_zero
  blank_id = blank_tab (λ i. byte s (p + i)) 32

  pub same_ids : (t : List ℕ) (q : ℕ) → same (id_at s p) (id_at t q) ≡ all (bytes_alike s p t q) 32
  unfolding id_at bytes_alike
  same_ids t q = same_tab (λ i. byte s (p + i)) (λ i. byte t (q + i)) 32

  -- one byte that tells
  pub not_blank : (i : ℕ) {b : Bool} → i < 32 → b ≡ byte_zero s p i → not b ≡ true → false ≡ blank (id_at s p)
  not_blank i {b} h e q = all_here (byte_zero s p) i 32 h e (not-true b q) ∙ sym blank_id

  pub not_same : (q i : ℕ) {b : Bool} → i < 32 → b ≡ bytes_alike s p s q i → not b ≡ true → false ≡ same (id_at s p) (id_at s q)
  not_same q i {b} h e f = all_here (bytes_alike s p s q) i 32 h e (not-true b f) ∙ sym (same_ids s q)

  -- 32 bytes cut out are the id
  pub id_cut : 32 ≤ length (drop p s) → take 32 (drop p s) ≡ id_at s p
  unfolding id_at
  id_cut h =
      let l : length (take 32 (drop p s)) ≡ 32 = length-take-le 32 (drop p s) h in
      ext_get_or 0 _ _ (l ∙ sym (length_tab (λ i. byte s (p + i)) 32)) (λ i k.
      let m : i < 32 = omega (arith, l) in
      get_or-take 32 (drop p s) i 0 m ∙ get_or-drop p s i 0 ∙ sym (tab_at (λ i. byte s (p + i)) 32 i 0 m))

-- d is what follows place p, o its first 32 bytes, if there are as many
pub id_found : {X : Type 0} (now : X → List ℕ) (s : List ℕ) (p : ℕ) (o : Option X) {d : List ℕ} → d ≡ drop p s → MatchOption o (length d < 32) (λ y. IsFirstChunk d (now y) 32) → IfSome o (λ y. now y ≡ id_at s p)
id_found now s p None e m = tt
id_found now s p (Some y) e m = m.same ∙ ap (take 32) e ∙ id_cut s p (subst (λ l. 32 ≤ length l) e m.enough)

-- ---- an id by itself
id_whole : (a : List ℕ) → length a ≡ 32 → a ≡ id_at a 0
id_whole a e =
    let h : 32 ≤ length (drop 0 a) = omega (arith, e) in
    let l : length a ≤ 32 = omega (arith, e) in
    sym (take_all 32 a l) ∙ id_cut a 0 h

pub blank_whole : (a : List ℕ) {v : Bool} → length a ≡ 32 → v ≡ all (byte_zero a 0) 32 → v ≡ blank a
blank_whole a e q = q ∙ sym (blank_id a 0) ∙ ap blank (sym (id_whole a e))

pub same_whole : (a b : List ℕ) {v : Bool} → length a ≡ 32 → length b ≡ 32 → v ≡ all (bytes_alike a 0 b 0) 32 → v ≡ same a b
same_whole a b e f q = q ∙ sym (same_ids a 0 b 0) ∙ ap₂ same (sym (id_whole a e)) (sym (id_whole b f))
