-- Reading can stop at 63,489 bytes: an image has at most 61,952, and a formula of more than 1,536 is malformed at 0 whatever it says. So the program
-- may read into a buffer of that many. Assumes nothing.
use Prim.Native.Nat.{ℕ, zero, suc, ◌+◌, ◌-◌, ◌%◌, ◌<◌, ◌≤◌}
use mathlib.Core.Path.{◌≡◌, refl, sym, ◌∙◌, ap}
use mathlib.Core.Bool.{Bool, true, false, ◌&&◌}
use mathlib.Core.List.{List, [], ◌∷◌}
use native.Mathlib.Omega.{arith}
use borrow.Author.Tests.{lt-leb, leb-true, leb-false}
use lib.Dec.{eqb, leb}
use lib.ListN.{length, take, drop, length-take}
use lib.Seq.{take-nil, take_all, take-take, get_or-take}
use Rattle.laws.specs.Out.{given, refused, ◌>>=◌}
use Rattle.rules.specs.Kinds.{Kinds, Rows}
use Rattle.rules.specs.Refusal.{Placed}
use Rattle.rules.specs.Bytes.{le2}
use Rattle.rules.specs.Compile.{Compiled}
use Rattle.rules.specs.Image.{compile_image}
use Rattle.rules.specs.Token.{good_length}
use Rattle.rules.specs.Call.{formula_in}
use Rattle.rules.specs.Report.{image_length, image_part, formula_part, checked, line, kindcheck}

-- ---- the parts
le2_cut : (s : List ℕ) (n i : ℕ) → i + 1 < n → le2 (take n s) i ≡ le2 s i
unfolding le2
le2_cut s n i h = rw (get_or-take n s i 0 (omega (arith, h)), get_or-take n s (i + 1) 0 h)

length_cut : (s : List ℕ) (n : ℕ) → 11 < n → image_length (take n s) ≡ image_length s
unfolding image_length
length_cut s n h = rw (le2_cut s n 8 (omega (arith, h)), le2_cut s n 10 (omega (arith, h)))

image_most : (s : List ℕ) → image_length s ≤ 61952
unfolding image_length
image_most s = omega arith

drop_take : {A : Type 0} (m n : ℕ) (s : List A) → drop m (take n s) ≡ take (n - m) (drop m s)
drop_take zero n s = let e : n ≡ n - 0 = omega arith in ap (λ (k : ℕ). take k s) e
drop_take (suc m) zero s = let e : ◌≡◌ {A = ℕ} 0 (0 - suc m) = omega arith in ap (λ (k : ℕ). take k (drop (suc m) s)) e
drop_take (suc m) (suc n) [] = sym (take-nil (suc n - suc m))
drop_take (suc m) (suc n) (x ∷ s) = let e : n - m ≡ suc n - suc m = omega arith in drop_take m n s ∙ ap (λ (k : ℕ). take k (drop m s)) e

-- ---- the formula
too_long : (f : List ℕ) → 1536 < length f → good_length f ≡ false
unfolding good_length
too_long f h = rw (lt-leb (length f) 1536 h) (go (eqb (length f % 12) 0) (leb 12 (length f)))
  where
    go : (a b : Bool) → (a && b && false) ≡ false
    go true true = refl
    go true false = refl
    go false true = refl
    go false false = refl

formula_cut : (K : Kinds) (R : Rows) (f : List ℕ) (n : ℕ) → 1536 < n → formula_in K R (take n f) ≡ formula_in K R f
unfolding formula_in
formula_cut K R f n h = go (leb (length f) n) refl
  where
    go : (t : Bool) → leb (length f) n ≡ t → formula_in K R (take n f) ≡ formula_in K R f
    go true e = ap (formula_in K R) (take_all n f (leb-true (length f) n e))
    go false e =
        let l = leb-false (length f) n e in
        let m = length-take n f in
        rw (too_long (take n f) (omega (arith, h, l, m)), too_long f (omega (arith, h, l)))

checked_cut : (s f : List ℕ) (n : ℕ) → 1536 < n → checked s (take n f) ≡ checked s f
unfolding checked
checked_cut s f n h = go (compile_image s 9296)
  where
    go : (m : Placed Compiled) → (m >>= λ C. formula_in C.kinds C.rows (take n f)) ≡ (m >>= λ C. formula_in C.kinds C.rows f)
    go (given C) = formula_cut C.kinds C.rows f n h
    go (refused x) = refl

pub read_enough : (input : List ℕ) (n : ℕ) → 63489 ≤ n → kindcheck (take n input) ≡ kindcheck input
unfolding kindcheck
read_enough s n h =
    let l = image_most s in
    rw (length_cut s n (omega (arith, h)), take-take (image_length s) n s (omega (arith, h, l)), drop_take (image_length s) n s)
    (ap (line (image_part s)) (checked_cut (image_part s) (formula_part s) (n - image_length s) (omega (arith, h, l))))
