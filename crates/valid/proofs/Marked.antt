-- The marks of a kind, from what the code's tests said in turn. Assumes nothing.
use Rattle.std.proofs.Common.{◌≡◌, ℕ, ◌+◌, ◌<◌, ◌≤◌, Bool, true, false, ◌&&◌, eqb, ltb, List, sym, le-ltb, lt-ltb, eq-eqb, ne_eqb}
use mathlib.Core.Bool.{or-true, or-false}
use Rattle.rules.specs.Table.{word, is_kind, link_fine, marks_fine}
use Rattle.valid.specs.Shown.{role_fine}

-- ---- a link; n is the count of kinds as it was read
module _ (t : List ℕ) (w : ℕ) where
  pub link_none : w ≡ 65535 → true ≡ link_fine t w
  link_none e = rw (eq-eqb w 65535 e) (sym (or-true (is_kind t w)))

  pub link_tells : {n : ℕ} → (w ≡ 65535 → ⊥) → n ≡ word t 0 → ltb w n ≡ link_fine t w
  link_tells h q = rw (ne_eqb w 65535 h, q) (sym (or-false (is_kind t w)))

pub ruleset links = (link_none, link_tells)

-- ---- the role of the kind whose words begin at p
module _ (t : List ℕ) (p : ℕ) where
  pub point_tells : {n : ℕ} → word t (p + 26) ≡ 1 → n ≡ word t 0 → ltb (word t (p + 27)) n ≡ role_fine t p
  unfolding role_fine
  point_tells e q = rw (e, q)

  pub other_tells : (word t (p + 26) ≡ 1 → ⊥) → (ltb (word t (p + 26)) 3 && eqb (word t (p + 27)) 65535) ≡ role_fine t p
  unfolding role_fine
  other_tells h = rw (ne_eqb (word t (p + 26)) 1 h)

pub ruleset roles = (point_tells, other_tells)

-- ---- all of them: r and l are what the tests of role and target say
module _ (t : List ℕ) (p : ℕ) where
  pub flag_wrong : 2 ≤ word t (p + 24) → false ≡ marks_fine t p
  unfolding marks_fine
  flag_wrong h = rw (le-ltb (word t (p + 24)) 2 h)

  module _ (f : word t (p + 24) < 2) where
    pub grade_wrong : 4 ≤ word t (p + 25) → false ≡ marks_fine t p
    unfolding marks_fine
    grade_wrong h = rw (lt-ltb (word t (p + 24)) 2 f, le-ltb (word t (p + 25)) 4 h)

    module _ (g : word t (p + 25) < 4) {r : Bool} (e : r ≡ role_fine t p) where
      pub role_wrong : r ≡ false → false ≡ marks_fine t p
      unfolding marks_fine role_fine
      role_wrong h = rw (lt-ltb (word t (p + 24)) 2 f, lt-ltb (word t (p + 25)) 4 g, ← e, h)

      module _ (h : r ≡ true) {l : Bool} (q : l ≡ link_fine t (word t (p + 28))) where
        pub target_wrong : l ≡ false → false ≡ marks_fine t p
        unfolding marks_fine role_fine
        target_wrong x = rw (lt-ltb (word t (p + 24)) 2 f, lt-ltb (word t (p + 25)) 4 g, ← e, h, ← q, x)

        pub rate_tells : {v : Bool} → l ≡ true → v ≡ link_fine t (word t (p + 29)) → v ≡ marks_fine t p
        unfolding marks_fine role_fine
        rate_tells x y = rw (lt-ltb (word t (p + 24)) 2 f, lt-ltb (word t (p + 25)) 4 g, ← e, h, ← q, x) y

pub ruleset marked = (flag_wrong, grade_wrong, role_wrong, target_wrong, rate_tells)
