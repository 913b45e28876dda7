-- What the code finds on its way to a kind's part, and the part. Assumes nothing.
use Prim.Native.Nat.{ℕ, ◌<◌, ◌≤◌}
use mathlib.Core.Path.{◌≡◌, refl, sym, ◌∙◌, ap}
use mathlib.Core.Bool.{Bool, true, false, not, cond}
use mathlib.Core.List.{List, []}
use lib.Dec.{ltb}
use lib.ListN.{take, drop}
use borrow.Author.Tests.{lt-ltb, le-ltb, not-true, not-false}
use Rattle.laws.specs.Out.{given, refused}
use Rattle.rules.specs.Layout.{kind_count}
use Rattle.rules.specs.Catalog.{kind_at}
use Rattle.rules.specs.Image.{image_check}
use Rattle.rules.specs.Refusal.{Placed}
use Rattle.rules.specs.Report.{id_part, kind_part}
use Rattle.std.specs.declared.result.Result.{Result}
use Rattle.std.specs.Result.{is_ok}
use Rattle.error.specs.Shown.{fine}
use Rattle.error.specs.declared.fault.Fault.{Fault}
use Rattle.report.specs.Shown.{is_readable, padded, id_length}

-- whether a check of the image passed
pub readable : (s : List ℕ) {a : Result (Unit {0}) Fault} {b : Bool} → a ≡ fine (image_check s) → b ≡ is_ok a → b ≡ is_readable s
unfolding is_readable fine
readable s h e = go (image_check s) (e ∙ ap is_ok h)
  where
    go : (m : Placed (Unit {0})) {b : Bool} → b ≡ is_ok (fine m) → b ≡ elim m [ given u ↦ true | refused x ↦ false ]
    go (given u) q = q
    go (refused x) q = q

pub id_told : (s : List ℕ) (p : ℕ) {n : ℕ} {r : List ℕ} → n ≡ id_length s p → r ≡ take n (drop p s) → r ≡ id_part s p
unfolding id_part id_length padded
id_told s p e h = h ∙ ap (λ (m : ℕ). take m (drop p s)) e

read : (s : List ℕ) (k : ℕ) → is_readable s ≡ true → kind_part s k ≡ cond (ltb k (kind_count s)) (id_part s (kind_at k)) []
unfolding kind_part is_readable
read s k = go (image_check s)
  where
    go : (m : Placed (Unit {0})) → (elim m [ given u ↦ true | refused x ↦ false ]) ≡ true → (elim m [ given u ↦ cond (ltb k (kind_count s)) (id_part s (kind_at k)) [] | refused x ↦ [] ]) ≡ cond (ltb k (kind_count s)) (id_part s (kind_at k)) []
    go (given u) q = refl
    go (refused x) q = cc

module _ (s : List ℕ) (k : ℕ) {r : List ℕ} {b : Bool} (e : b ≡ is_readable s) where
  pub unreadable_empty : not b ≡ true → r ≡ [] → r ≡ kind_part s k
  unfolding kind_part is_readable
  unreadable_empty t h = go (image_check s) (sym e ∙ not-true b t)
    where
      go : (m : Placed (Unit {0})) → (elim m [ given u ↦ true | refused x ↦ false ]) ≡ false → r ≡ elim m [ given u ↦ cond (ltb k (kind_count s)) (id_part s (kind_at k)) [] | refused x ↦ [] ]
      go (given u) q = cc
      go (refused x) q = h

  module _ (t : not b ≡ false) {n : ℕ} (c : n ≡ kind_count s) where
    pub kind_told : {p : ℕ} → k < n → p ≡ kind_at k → r ≡ id_part s p → r ≡ kind_part s k
    kind_told l q h = rw (read s k (sym e ∙ not-false b t), ← c, lt-ltb k n l, ← q) h

    pub past_empty : n ≤ k → r ≡ [] → r ≡ kind_part s k
    past_empty l h = rw (read s k (sym e ∙ not-false b t), ← c, le-ltb k n l) h

pub ruleset kind_parts = (unreadable_empty, kind_told, past_empty)
