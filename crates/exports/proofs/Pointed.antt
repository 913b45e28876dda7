-- The three words of the report's part: they point at it, and what the code writes are they. Assumes nothing.
use Prim.Native.Nat.{ℕ, zero, suc, ◌+◌, ◌≤◌}
use mathlib.Core.Path.{◌≡◌, refl, sym, ◌∙◌, ap, subst}
use mathlib.Core.Bool.{Bool, true, false, cond, not}
use mathlib.Core.List.{List, [], ◌∷◌}
use native.Mathlib.Omega.{arith}
use borrow.Author.Tests.{ne_eqb}
use lib.Dec.{eqb, ltb}
use lib.ListN.{length, take, drop, get_or, length-take, length-drop}
use lib.Seq.{take_all}
use Rattle.laws.specs.Options.{found}
use Rattle.laws.specs.Out.{given, refused}
use Rattle.laws.specs.Ranges.{first, overlay}
use Rattle.rules.specs.Catalog.{kind_at}
use Rattle.rules.specs.Formula.{Term, Number, Kind}
use Rattle.rules.specs.Image.{image_check}
use Rattle.rules.specs.Layout.{kind_count, filled}
use Rattle.rules.specs.Refusal.{Placed}
use Rattle.rules.specs.Report.{id_part, kind_part, report}
use Rattle.exports.specs.Shown.{has_room_for, laid}
use Rattle.exports.specs.Part.{term_by, kind_start, part_words, pointed, has_part_room, part_written}

-- ---- the words point at the report's part
taken : (m : ℕ) (s : List ℕ) → take (length (take m s)) s ≡ take m s
taken zero s = refl
taken (suc m) [] = refl
taken (suc m) (x ∷ s) = ap (λ (l : List ℕ). x ∷ l) (taken m s)

-- a list is the part of the image that its length and its start tell
abbrev Lies : List ℕ → ℕ → List ℕ → Type 0
Lies s k l = take (length l) (drop (kind_start k (length l)) s) ≡ l

lies : (s : List ℕ) (k m : ℕ) (l : List ℕ) → l ≡ take m (drop (kind_at k) s) → Lies s k l
unfolding kind_start
lies s k m [] e = refl
lies s k m (x ∷ l) e =
    let n : eqb (length (x ∷ l)) 0 ≡ false = ne_eqb (length (x ∷ l)) 0 (λ q. omega (arith, q)) in
    rw n (subst (λ (z : List ℕ). take (length z) (drop (kind_at k) s) ≡ z) (sym e) (taken m (drop (kind_at k) s)))

id_lies : (s : List ℕ) (k : ℕ) → Lies s k (id_part s (kind_at k))
unfolding id_part
id_lies s k = lies s k (found (first (λ i. not (filled s (kind_at k + i))) 32) (λ i. i) 32) (id_part s (kind_at k)) refl

kind_lies : (s : List ℕ) (k : ℕ) → Lies s k (kind_part s k)
unfolding kind_part
kind_lies s k = go (image_check s)
  where
    inside : (b : Bool) → Lies s k (cond b (id_part s (kind_at k)) [])
    inside true = id_lies s k
    inside false = refl

    go : (m : Placed (Unit {0})) → Lies s k (elim m [ given u ↦ cond (ltb k (kind_count s)) (id_part s (kind_at k)) [] | refused x ↦ [] ])
    go (given u) = inside (ltb k (kind_count s))
    go (refused x) = refl

-- also with more words after them
report_lies : (image word old : List ℕ) (t : Term) → pointed image word (overlay (part_words image word t) old) ≡ report image word t
unfolding pointed part_words report
report_lies image word old Number = take_all (length word) word (omega arith)
report_lies image word old (Kind k) = kind_lies image k

-- the part does not reach past the end of the slice that lends it
empty_start : (k : ℕ) → kind_start k 0 ≡ 0
unfolding kind_start
empty_start k = refl

kind_within : (s : List ℕ) (k : ℕ) → kind_start k (length (kind_part s k)) + length (kind_part s k) ≤ length s
kind_within s k = go (kind_part s k) (kind_lies s k)
  where
    go : (l : List ℕ) → Lies s k l → kind_start k (length l) + length l ≤ length s
    go [] e = omega (arith, empty_start k)
    go (x ∷ l) e =
        let n = ap length e in
        omega (arith, simp (length-take, length-drop) at n)

pub part_within : (image word : List ℕ) (t : Term) → get_or (part_words image word t) 1 0 + get_or (part_words image word t) 2 0 ≤ length (cond (eqb (get_or (part_words image word t) 0 0) 0) word image)
unfolding part_words report
part_within image word Number = omega arith
part_within image word (Kind k) = kind_within image k

-- ---- what the call promises, by what it is asked to report
abbrev Promised : List ℕ → List ℕ → List ℕ → Bool → List ℕ → Term → Type 0
Promised image word old v new t = (v ≡ has_part_room old) × ((new ≡ part_written (part_words image word t) old) × (v ≡ true → pointed image word new ≡ report image word t))

module _ (image word old : List ℕ) {v : Bool} {new : List ℕ} where
  promised : (t : Term) → v ≡ has_part_room old → new ≡ part_written (part_words image word t) old → Promised image word old v new t
  unfolding part_written
  promised t h e = (h, (e, λ q. rw (e, sym h ∙ q) (report_lies image word old t)))

  pub kind_promised : {b : Bool} (k : ℕ) {p : ℕ} {l : List ℕ} → b ≡ true → l ≡ kind_part image k → p ≡ kind_start k (length l) → v ≡ has_room_for (1 ∷ p ∷ length l ∷ []) old → new ≡ laid (1 ∷ p ∷ length l ∷ []) old → Promised image word old v new (term_by b k)
  unfolding term_by part_words report has_part_room part_written has_room_for laid
  kind_promised k q e g h i = rw q (promised (Kind k) h (i ∙ rw (g, e)))

  pub number_promised : {b : Bool} (k : ℕ) → b ≡ false → v ≡ has_room_for (0 ∷ 0 ∷ length word ∷ []) old → new ≡ laid (0 ∷ 0 ∷ length word ∷ []) old → Promised image word old v new (term_by b k)
  unfolding term_by part_words report has_part_room part_written has_room_for laid
  number_promised k q h i = rw q (promised Number h i)
