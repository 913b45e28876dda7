-- How many bytes come before the first zero, by places. Assumes nothing.
use Rattle.std.proofs.Common.{◌≡◌, ℕ, zero, suc, ◌+◌, Bool, true, false, List, [], ◌∷◌, refl, sym, ap, ◌∙◌, arith}
use Rattle.std.specs.Prelude.{not, cond, eqb, length, get_or, take, drop}
use Rattle.std.specs.List.{prefix_len}
use Rattle.std.specs.declared.option.Option.{Option}
use Rattle.std.specs.declared.option.Option.TheVariants.{None, Some}
use Rattle.std.proofs.lemmas.List.{get_or-drop}
use Rattle.laws.specs.Options.{found, or_else}
use Rattle.laws.specs.Ranges.{first}
use Rattle.rules.specs.Layout.{filled}
use Rattle.report.specs.Shown.{padded, id_length}

-- the first number below suc m that passes, the first place apart
abbrev later : Option ℕ → Option ℕ
later o = found o (λ (i : ℕ). Some (suc i)) None

abbrev reach : Option ℕ → ℕ → ℕ
reach o m = found o (λ (i : ℕ). i) m

alone : (b : Bool) → or_else None (cond b (Some 0) None) ≡ or_else (cond b (Some 0) None) (later None)
alone true = refl
alone false = refl

joined : (a f : Option ℕ) (b : Bool) (m : ℕ) → or_else (or_else a (later f)) (cond b (Some (suc m)) None) ≡ or_else a (later (or_else f (cond b (Some m) None)))
joined (Some x) f b m = refl
joined None (Some y) b m = refl
joined None None true m = refl
joined None None false m = refl

first_apart : (test : ℕ → Bool) (m : ℕ) → first test (suc m) ≡ or_else (cond (test 0) (Some 0) None) (later (first (λ (k : ℕ). test (suc k)) m))
unfolding first
first_apart test zero = alone (test 0)
first_apart test (suc m) =
    ap (λ (o : Option ℕ). or_else o (cond (test (suc m)) (Some (suc m)) None)) (first_apart test m) ∙ joined (cond (test 0) (Some 0) None) (first (λ (k : ℕ). test (suc k)) m) (test (suc m)) m

-- a byte that is no padding
abbrev pub full : ℕ → Bool
full b = not (eqb b 0)

one_more : (n : ℕ) → 1 + n ≡ suc n
one_more n = omega arith

step : (b : Bool) (n m : ℕ) (f : Option ℕ) → n ≡ reach f m → cond b (1 + n) 0 ≡ reach (or_else (cond (not b) (Some 0) None) (later f)) (suc m)
step true n m (Some i) e = one_more n ∙ ap suc e
step true n m None e = one_more n ∙ ap suc e
step false n m f e = refl

counted : (s : List ℕ) (m : ℕ) (test : ℕ → Bool) → ((i : ℕ) → not (full (get_or s i 0)) ≡ test i) → prefix_len full (take m s) ≡ reach (first test m) m
unfolding first
counted [] zero test h = refl
counted (x ∷ s) zero test h = refl
counted [] (suc m) test h =
    ap (λ (b : Bool). reach (or_else (cond b (Some 0) None) (later (first (λ (k : ℕ). test (suc k)) m))) (suc m)) (h 0) ∙ sym (ap (λ (o : Option ℕ). reach o (suc m)) (first_apart test m))
counted (x ∷ s) (suc m) test h =
    step (full x) (prefix_len full (take m s)) m (first (λ (k : ℕ). test (suc k)) m) (counted s m (λ (k : ℕ). test (suc k)) (λ (i : ℕ). h (suc i)))
    ∙ ap (λ (b : Bool). reach (or_else (cond b (Some 0) None) (later (first (λ (k : ℕ). test (suc k)) m))) (suc m)) (h 0)
    ∙ sym (ap (λ (o : Option ℕ). reach o (suc m)) (first_apart test m))

-- the bytes of the id at p that come before its padding
pub id_counted : (s : List ℕ) (p : ℕ) → prefix_len full (take 32 (drop p s)) ≡ id_length s p
unfolding id_length padded filled first
id_counted s p = counted (drop p s) 32 (padded s p) (λ (i : ℕ). ap (λ (v : ℕ). not (full v)) (get_or-drop p s i 0))
