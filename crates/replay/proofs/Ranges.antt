-- `all` and `find` of std over the numbers below n are `all` and `first`. Assumes nothing.
use Rattle.std.proofs.Common.{◌≡◌, ℕ, zero, suc, ◌+◌, Bool, true, false, List, [], ◌∷◌, ◌++◌, refl, sym, ap, ◌∙◌, arith}
use Rattle.std.specs.List.{range_with_len, list_all, find, FoldsTo}
use Rattle.std.specs.declared.ops.Range.{Range}
use Rattle.std.specs.declared.option.Option.{Option}
use Rattle.std.specs.declared.option.Option.TheVariants.{None, Some}
use Rattle.std.proofs.Math.Bool.{and-true}
use Rattle.std.proofs.lemmas.List.Folds.{list_all-append}
use Rattle.std.specs.Bool.{⊤}
use Rattle.std.specs.Fn.{Called, CalledAt}
use Rattle.std.specs.Iterator.{YieldsThen}
use Rattle.std.specs.Option.{option_map, MatchOption}
use Rattle.std.proofs.iter.Yields.{nat_range_steps}
use Rattle.std.proofs.lemmas.Iterator.{YieldsList, YieldsList-from_range}
use Rattle.std.proofs.lemmas.Iterator.Search.{all_from_yields_List, find_from_yields_List}
use denote.Param.Members.{Mut}
use denote.Ref.{Bor}
use Rattle.laws.specs.Options.{or_else}
use Rattle.laws.specs.Ranges.{all, first}

-- the numbers from a on, the last of them apart
last_apart : (a n : ℕ) → range_with_len a (suc n) ≡ range_with_len a n ++ ((a + n) ∷ [])
last_apart a zero =
    let e : a ≡ a + 0 = omega arith in
    ap (λ (m : ℕ). m ∷ []) e
last_apart a (suc n) =
    let e : (a + 1) + n ≡ a + suc n = omega arith in
    ap (λ (r : List ℕ). a ∷ r) (last_apart (a + 1) n ∙ ap (λ (m : ℕ). range_with_len (a + 1) n ++ (m ∷ [])) e)

last_below : (n : ℕ) → range_with_len 0 (suc n) ≡ range_with_len 0 n ++ (n ∷ [])
last_below n =
    let e : 0 + n ≡ n = omega arith in
    last_apart 0 n ∙ ap (λ (m : ℕ). range_with_len 0 n ++ (m ∷ [])) e

find_append : (test : ℕ → Bool) (xs ys : List ℕ) → find test (xs ++ ys) ≡ or_else (find test xs) (find test ys)
find_append test [] ys = refl
find_append test (x ∷ xs) ys = go (test x) refl (find_append test xs ys)
  where
    go : (b : Bool) → test x ≡ b → find test (xs ++ ys) ≡ or_else (find test xs) (find test ys) → find test ((x ∷ xs) ++ ys) ≡ or_else (find test (x ∷ xs)) (find test ys)
    go true e ih = rw e
    go false e ih = rw e ih

module _ (test : ℕ → Bool) where
  all_below : (n : ℕ) → list_all test (range_with_len 0 n) ≡ all test n
  unfolding all
  all_below zero = refl
  all_below (suc n) =
      ap (list_all test) (last_below n) ∙ list_all-append test (range_with_len 0 n) (n ∷ []) ∙ rw (all_below n, and-true)

  first_below : (n : ℕ) → find test (range_with_len 0 n) ≡ first test n
  unfolding first
  first_below zero = refl
  first_below (suc n) =
      ap (find test) (last_below n) ∙ find_append test (range_with_len 0 n) (n ∷ []) ∙ rw (first_below n)

as_it_is : (o : Option ℕ) → option_map (λ (x : ℕ). x) o ≡ o
as_it_is (Some n) = refl
as_it_is None = refl

-- ---- what a call over `0..n` answers, where its closure computes the test
module _ {F : Type 0} (test : ℕ → Bool) (n : ℕ) (u : Range ℕ) (f : F) where
  chain : YieldsList nat_range_steps (λ x. x) (record { start = 0; end = n }) (range_with_len 0 n)
  chain = YieldsList-from_range 0 n n refl (omega arith)

  pub all_told : {g : Mut F (ℕ × Unit {0}) Bool} (r : Bool) → (xs : List ℕ) × (o : Option ℕ) × (j : F) × YieldsThen nat_range_steps (record { start = 0; end = n }) xs o u × FoldsTo (λ p x q. Called g p (x, tt) true q) f xs j × MatchOption o (r ≡ true) (λ x. (r ≡ false) × ((h : F) × Called g j (x, tt) false h)) → ((x : ℕ) (b : Bool) (q : F) → Called g f (x, tt) b q → (q ≡ f) × (b ≡ test x)) → r ≡ all test n
  all_told r ran closure = all_from_yields_List test u f r ran chain closure ∙ all_below test n

  pub first_told : {g : Mut F (Bor ℕ × Unit {0}) Bool} (r : Option ℕ) → (xs : List ℕ) × (j : F) × YieldsThen nat_range_steps (record { start = 0; end = n }) xs r u × FoldsTo (λ p x q. CalledAt g p x false q) f xs j × MatchOption r ⊤ (λ x. (h : F) × CalledAt g j x true h) → ((x : ℕ) (b : Bool) (q : F) → CalledAt g f x b q → (q ≡ f) × (b ≡ test x)) → r ≡ first test n
  first_told r ran closure = sym (as_it_is r) ∙ find_from_yields_List test u f r ran chain closure ∙ first_below test n
