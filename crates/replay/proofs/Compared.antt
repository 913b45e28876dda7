-- A stored compilation compared with words: what is told of the kinds, the rows and the whole. Assumes nothing.
use Prim.Native.Nat.{ℕ, ◌+◌, ◌<◌}
use mathlib.Core.Path.{◌≡◌, refl, ◌∙◌, ap}
use mathlib.Core.Bool.{Bool, false}
use mathlib.Core.List.{List}
use native.Mathlib.Numerals.{add-one}
use lib.ListN.{length, drop, length-replicate}
use Rattle.laws.specs.Ranges.{all}
use Rattle.laws.proofs.All.{all_here}
use Rattle.rules.specs.Bytes.{le2}
use Rattle.rules.specs.Image.{compile_image, table_after}
use Rattle.rules.specs.Table.{kind_place}
use Rattle.std.specs.declared.result.Result.{Result}
use Rattle.error.specs.declared.fault.Fault.{Fault}
use Rattle.compile.specs.Shown.{compiled}
use Rattle.replay.specs.Compiled.{kind_as, kind_size, kind_at, kind_here, kinds_as, row_as, rows_as, lent, answered_as, compiled_so}

-- ---- one kind after another
module _ (s : List ℕ) (k : ℕ) {at : ℕ} {x : List ℕ} (p : at ≡ kind_at s k) (q : x ≡ drop at s) where
  pub next_kind : {m : ℕ} → m ≡ kind_size x → at + m ≡ kind_at s (k + 1)
  unfolding kind_at
  next_kind e = rw (add-one k, kind_at, ← p, ← q, ← e)

  pub kind_here_law : (t : List ℕ) {y : List ℕ} {r : Bool} → y ≡ drop (kind_place k) t → r ≡ kind_as x y → r ≡ kind_here s t k
  unfolding kind_here
  kind_here_law t w e = rw (← p, ← q, ← w) e

pub first_kind : (s : List ℕ) → 8 ≡ kind_at s 0
unfolding kind_at
first_kind s = refl

pub kind_differs : (s t : List ℕ) (k : ℕ) {at n : ℕ} {x y : List ℕ} {b : Bool} → at ≡ kind_at s k → x ≡ drop at s → y ≡ drop (kind_place k) t → n ≡ le2 s 4 → k < n → b ≡ kind_as x y → b ≡ false → false ≡ kinds_as s t
unfolding kinds_as
kind_differs s t k p q w e l h f = rw (← e) (all_here (kind_here s t) k _ l (kind_here_law s k p q t w h) f)

pub rows_told : (s t : List ℕ) {n e m : ℕ} {x : List ℕ} {r : Bool} → n ≡ le2 s 4 → e ≡ kind_at s n → x ≡ drop e s → m ≡ le2 s 6 → r ≡ all (row_as x t) m → r ≡ rows_as s t
unfolding rows_as
rows_told s t p q u v f = rw (← p, ← q, ← u, ← v) f

-- ---- the answer
pub compiled_told : (s image : List ℕ) {a : Result (Unit {0}) Fault} {u t : List ℕ} {r : Bool} → u ≡ lent → a ≡ compiled (compile_image image (length u)) → t ≡ table_after image u → r ≡ answered_as s a t → r ≡ compiled_so s image
unfolding compiled_so
compiled_told s image {a} {u} {t} p q e f =
    let n : length u ≡ 9300 = ap length p ∙ length-replicate {A = ℕ} 9300 2863311530 in
    rw (← n, ← p, ← q, ← e) f
