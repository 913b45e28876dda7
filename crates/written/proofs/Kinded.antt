-- The kinds' words against the definitions: what the list of links says of roles, differences and rates, and the words of all kinds one after the
-- other. Assumes nothing.
use Prim.Native.Nat.{ℕ, zero, suc, ◌+◌, ◌*◌, ◌/◌, ◌%◌, ◌<◌, ◌≤◌}
use mathlib.Core.Path.{◌≡◌, refl, sym, ◌∙◌, ap}
use mathlib.Core.List.{List, [], ◌∷◌, ◌++◌, append_assoc, append-nil}
use Rattle.std.specs.declared.option.Option.TheVariants.{None}
use native.Mathlib.Nat.{add-suc, add-zero}
use native.Mathlib.Omega.{arith}
use borrow.Author.Tests.{lt-ltb}
use lib.ListN.{get_or}
use Rattle.laws.specs.Options.{found}
use Rattle.laws.specs.Ranges.{first, tab, overlay}
use Rattle.laws.proofs.Below.{below_in}
use Rattle.laws.proofs.First.{first_same}
use Rattle.laws.proofs.Tab.{tab_at, tab_same}
use Rattle.dimension.specs.Dimension as D
use Rattle.rules.specs.Layout.{kind_count}
use Rattle.rules.specs.Catalog.{Catalog, kind_at, kind_from, catalog_in, meant, difference_of, target_of, rate_among, is_difference, role}
use Rattle.rules.specs.Table.{exponent_word, exponent_of, mark_words, kind_word}
use Rattle.catalog.proofs.Found.{kind_in_law}
use Rattle.table.specs.Shown.{exponents_of}
use Rattle.written.specs.declared.links.Links.{Links}
use Rattle.written.specs.Shown.{flat, link_of, first_to, links_by, no_links, role_by, marks_by, kind_by, kind_in, kinds_word}

-- ---- a rule's list, a part at a time
pub tab_append : (f : ℕ → ℕ) (m n : ℕ) → tab f (m + n) ≡ tab f m ++ tab (λ i. f (m + i)) n
unfolding tab
tab_append f m zero = rw (add-zero m) (sym (append-nil (tab f m)))
tab_append f m (suc n) = rw (add-suc m n, tab, tab_append f m n) (append_assoc (tab f m) (tab (λ i. f (m + i)) n) (f (m + n) ∷ []))

-- ---- the words of a kind are its exponents' and its marks, and two zeros
exponents_part : (C : Catalog) (k : ℕ) → tab (kind_word C k) 24 ≡ exponents_of (found (C.kind k).dims (λ e. e) D.one)
unfolding exponents_of kind_word
exponents_part C k = tab_same (kind_word C k) (λ i. exponent_word (exponent_of C k (i / 2)) i) 24 (λ i h. rw (lt-ltb i 24 h))

marks_part : (C : Catalog) (k : ℕ) → tab (λ i. kind_word C k (24 + i)) 8 ≡ mark_words C k ++ (0 ∷ 0 ∷ [])
unfolding tab kind_word mark_words
marks_part C k = refl

pub kind_split : (C : Catalog) (k : ℕ) → tab (kind_word C k) 32 ≡ exponents_of (found (C.kind k).dims (λ e. e) D.one) ++ (mark_words C k ++ (0 ∷ 0 ∷ []))
kind_split C k = tab_append (kind_word C k) 24 8 ∙ rw (exponents_part C k, marks_part C k)

none_yet : (f : ℕ → ℕ) → [] ≡ tab f (32 * 0)
unfolding tab
none_yet f = refl

-- ---- kinds are one after the other
kinds_part : (C : Catalog) (m i : ℕ) → i < 32 → kinds_word C (32 * m + i) ≡ kind_word C m i
unfolding kinds_word
kinds_part C m i h =
    let a : (32 * m + i) / 32 ≡ m = omega arith in
    let b : (32 * m + i) % 32 ≡ i = omega arith in
    rw (a, b)

kinds_more : (C : Catalog) (m : ℕ) → tab (kinds_word C) (32 * suc m) ≡ tab (kinds_word C) (32 * m) ++ tab (kind_word C m) 32
kinds_more C m =
    let e : 32 * suc m ≡ 32 * m + 32 = omega arith in
    rw e (tab_append (kinds_word C) (32 * m) 32 ∙ ap (λ (l : List ℕ). tab (kinds_word C) (32 * m) ++ l) (tab_same (λ i. kinds_word C (32 * m + i)) (kind_word C m) 32 (kinds_part C m)))

pub count_in : (s : List ℕ) → (catalog_in s).kind_count ≡ kind_count s
unfolding catalog_in
count_in s = refl

-- ---- kind k of an image, by what is listed of it
module _ (s : List ℕ) where
  -- what its ids name
  pub link_difference : (k : ℕ) → k < kind_count s → link_of s 32 k ≡ difference_of (catalog_in s) k
  unfolding link_of kind_from
  link_difference k l = rw (kind_in_law s k l)

  pub link_target : (k : ℕ) → k < kind_count s → link_of s 64 k ≡ target_of (catalog_in s) k
  unfolding link_of kind_from
  link_target k l = rw (kind_in_law s k l)

  -- who first names k as a difference, and its rate
  named_first : (k : ℕ) → first_to s 32 (kind_count s) k ≡ first (λ j. meant k (difference_of (catalog_in s) j)) (kind_count s)
  unfolding first_to
  named_first k = first_same _ _ (kind_count s) (λ i m. ap (meant k) (link_difference i m))

  rate_first : (k : ℕ) → first_to s 64 (kind_count s) k ≡ rate_among (catalog_in s) (kind_count s) k
  unfolding first_to rate_among
  rate_first k = first_same _ _ (kind_count s) (λ i m. ap (meant k) (link_target i m))

  role_told : (k : ℕ) → role_by (difference_of (catalog_in s) k) (first_to s 32 (kind_count s) k) ≡ role (catalog_in s) k
  unfolding role_by role is_difference catalog_in
  role_told k = rw (named_first k)

  -- ---- its words
  links_told : (k : ℕ) → k < kind_count s
      → links_by s (kind_count s) k ≡ record { difference = difference_of (catalog_in s) k; target = target_of (catalog_in s) k; named = first_to s 32 (kind_count s) k; rate = rate_among (catalog_in s) (kind_count s) k }
  unfolding links_by
  links_told k l = rw (below_in (kind_count s) None (link_of s 32) k l, below_in (kind_count s) None (link_of s 64) k l, link_difference k l, link_target k l, rate_first k)

  marks_told : (k : ℕ) → k < kind_count s → marks_by (kind_from s (kind_at k)) (links_by s (kind_count s) k) ≡ mark_words (catalog_in s) k ++ (0 ∷ 0 ∷ [])
  unfolding marks_by mark_words
  marks_told k l = rw (links_told k l, role_told k, ← kind_in_law s k l, count_in s)

  kind_told : (ls : List Links) {m : ℕ} → ls ≡ tab (links_by s (kind_count s)) m → kind_count s ≤ m → (k : ℕ) → k < kind_count s → kind_in s ls k ≡ tab (kind_word (catalog_in s) k) 32
  unfolding kind_in kind_by
  kind_told ls {m} e h k l =
      let y : get_or ls k no_links ≡ links_by s (kind_count s) k = rw e (tab_at (links_by s (kind_count s)) m k no_links (omega arith)) in
      rw (y, marks_told k l, ← kind_in_law s k l) (sym (kind_split (catalog_in s) k))

  flat_told : (ls : List Links) {n : ℕ} → ls ≡ tab (links_by s (kind_count s)) n → kind_count s ≤ n → (m : ℕ) → m ≤ kind_count s → flat (kind_in s ls) m ≡ tab (kinds_word (catalog_in s)) (32 * m)
  unfolding flat
  flat_told ls e h zero l = none_yet (kinds_word (catalog_in s))
  flat_told ls e h (suc m) l = rw (flat, flat_told ls e h m (omega arith), kind_told ls e h m (omega arith)) (sym (kinds_more (catalog_in s) m))

-- the words of all kinds, one after the other
pub kinds_told : (s : List ℕ) (ls : List Links) (t₀ : List ℕ) {m n : ℕ} {v : List ℕ} → kind_count s ≤ m → n ≡ kind_count s → ls ≡ tab (links_by s (kind_count s)) m
    → v ≡ overlay (flat (kind_in s ls) n) t₀ → v ≡ overlay (tab (kinds_word (catalog_in s)) (32 * kind_count s)) t₀
kinds_told s ls t₀ h c d e = e ∙ rw (c, flat_told s ls d h (kind_count s) (omega arith))
