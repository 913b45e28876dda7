-- The links of all kinds, listed in one pass: k kinds are seen, and the list has what their own ids name and the first of them to name each kind.
-- Assumes nothing.
use Prim.Native.Nat.{ℕ, ◌+◌, ◌<◌, ◌≤◌}
use mathlib.Core.Path.{◌≡◌, refl, sym, ◌∙◌}
use mathlib.Core.Bool.{Bool, true, false, cond, true≢false}
use mathlib.Core.List.{List}
use Rattle.std.specs.declared.option.Option.{Option}
use Rattle.std.specs.declared.option.Option.TheVariants.{None, Some}
use native.Mathlib.Numerals.{add-one}
use native.Mathlib.Omega.{arith}
use borrow.Author.Tests.{ltb-true, ltb-false, eqb-true, eqb-false, eq-eqb, ne_eqb}
use lib.Dec.{eqb, ltb}
use lib.ListN.{get_or, set, replicate, length-set, length-replicate, get_or-replicate}
use lib.Seq.{ext_get_or, get_or-set_same, get_or-set_other}
use Rattle.std.specs.Option.{option_or}
use Rattle.laws.specs.Options.{or_else}
use Rattle.laws.specs.Ranges.{first, below, tab}
use Rattle.laws.proofs.Below.{below_in, below_past}
use Rattle.laws.proofs.First.{first_below}
use Rattle.laws.proofs.Tab.{length_tab, tab_at, tab_same}
use Rattle.rules.specs.Layout.{kind_count}
use Rattle.rules.specs.Catalog.{Id, catalog_in, blank, find, link, meant}
use Rattle.written.specs.declared.links.Links.{Links}
use Rattle.written.specs.Shown.{link_of, first_to, links_by, no_links}

-- a store makes one rule's list another's, where they agree elsewhere
tab_set : (f g : ℕ → Links) (n j : ℕ) (v : Links) → j < n → v ≡ g j → ((i : ℕ) → i < n → (i ≡ j → ⊥) → f i ≡ g i) → set (tab f n) j v ≡ tab g n
tab_set f g n j v h e same =
    ext_get_or no_links (set (tab f n) j v) (tab g n) (length-set (tab f n) j v ∙ length_tab f n ∙ sym (length_tab g n)) (λ i l. at i (rw (length-set (tab f n) j v, length_tab f n) at l))
  where
    at : (i : ℕ) → i < n → get_or (set (tab f n) j v) i no_links ≡ get_or (tab g n) i no_links
    at i l = go (eqb i j) refl
      where
        go : (b : Bool) → eqb i j ≡ b → get_or (set (tab f n) j v) i no_links ≡ get_or (tab g n) i no_links
        go true p = rw (eqb-true i j p) (get_or-set_same (tab f n) j v no_links (rw (length_tab f n) h) ∙ e ∙ sym (tab_at g n j no_links h))
        go false p = get_or-set_other (tab f n) j i v no_links (eqb-false i j p) ∙ tab_at f n i no_links l ∙ same i l (eqb-false i j p) ∙ sym (tab_at g n i no_links l)

or_same : (a b : Option ℕ) → option_or a b ≡ or_else a b
or_same (Some i) b = refl
or_same None b = refl

-- ---- what a kind's own id names
own_other : (f : ℕ → Option ℕ) (k i : ℕ) → (i ≡ k → ⊥) → below k None f i ≡ below (k + 1) None f i
own_other f k i n = go (ltb i k) refl
  where
    go : (b : Bool) → ltb i k ≡ b → below k None f i ≡ below (k + 1) None f i
    go true p = let l = ltb-true i k p in below_in k None f i l ∙ sym (below_in (k + 1) None f i (omega (arith, l)))
    go false p =
        let l = ltb-false i k p in
        let m : k + 1 ≤ i = omega (arith, l, n) in
        below_past k None f i l ∙ sym (below_past (k + 1) None f i m)

own_here : (f : ℕ → Option ℕ) (k : ℕ) → f k ≡ below (k + 1) None f k
own_here f k = sym (below_in (k + 1) None f k (omega arith))

-- ---- who names a kind
module _ (s : List ℕ) (at k : ℕ) where
  step : (j : ℕ) → first_to s at (k + 1) j ≡ or_else (first_to s at k j) (cond (meant j (link_of s at k)) (Some k) None)
  unfolding first_to first
  step j = rw (add-one, first)

  other : (j : ℕ) → meant j (link_of s at k) ≡ false → first_to s at k j ≡ first_to s at (k + 1) j
  other j e = rw (step j, e) (sym (or_none (first_to s at k j)))
    where
      or_none : (o : Option ℕ) → or_else o None ≡ o
      or_none (Some i) = refl
      or_none None = refl

  here : (j : ℕ) → link_of s at k ≡ Some j → or_else (first_to s at k j) (Some k) ≡ first_to s at (k + 1) j
  here j g = rw (step j, g, eq-eqb j j refl)

  -- kind k names none, or another
  nobody : link_of s at k ≡ None → (i : ℕ) → first_to s at k i ≡ first_to s at (k + 1) i
  nobody g i = other i (rw g)

  elsewhere : (j : ℕ) → link_of s at k ≡ Some j → (i : ℕ) → (i ≡ j → ⊥) → first_to s at k i ≡ first_to s at (k + 1) i
  elsewhere j g i n = other i (rw g (ne_eqb j i (λ p. n (sym p))))

module _ (s : List ℕ) (m : ℕ) where
  -- what is listed of kind i when of a and b kinds it is what their own ids name, of c and d kinds whom they name
  abbrev pub partly : ℕ → ℕ → ℕ → ℕ → ℕ → Links
  partly a b c d i = record { difference = below a None (link_of s 32) i; target = below b None (link_of s 64) i; named = first_to s 32 c i; rate = first_to s 64 d i }

  module _ (k : ℕ) (h : k < m) {l : List Links} where
    pub put_difference : {x : Option ℕ} → l ≡ tab (partly k k k k) m → x ≡ link_of s 32 k
        → set l k (record { difference = x; target = (get_or l k no_links).target; named = (get_or l k no_links).named; rate = (get_or l k no_links).rate }) ≡ tab (partly (k + 1) k k k) m
    put_difference e p =
        rw (e, tab_at (partly k k k k) m k no_links h, p)
        (tab_set (partly k k k k) (partly (k + 1) k k k) m k _ h (rw (own_here (link_of s 32) k)) (λ i z n. rw (own_other (link_of s 32) k i n)))

    pub put_target : {x : Option ℕ} → l ≡ tab (partly (k + 1) k k k) m → x ≡ link_of s 64 k
        → set l k (record { difference = (get_or l k no_links).difference; target = x; named = (get_or l k no_links).named; rate = (get_or l k no_links).rate }) ≡ tab (partly (k + 1) (k + 1) k k) m
    put_target e p =
        rw (e, tab_at (partly (k + 1) k k k) m k no_links h, p)
        (tab_set (partly (k + 1) k k k) (partly (k + 1) (k + 1) k k) m k _ h (rw (own_here (link_of s 64) k)) (λ i z n. rw (own_other (link_of s 64) k i n)))

  module _ (k : ℕ) {l : List Links} (j : ℕ) (h : j < m) where
    pub put_named : {o : Option ℕ} → l ≡ tab (partly (k + 1) (k + 1) k k) m → link_of s 32 k ≡ Some j → o ≡ option_or (get_or l j no_links).named (Some k)
        → set l j (record { difference = (get_or l j no_links).difference; target = (get_or l j no_links).target; named = o; rate = (get_or l j no_links).rate }) ≡ tab (partly (k + 1) (k + 1) (k + 1) k) m
    put_named e g p =
        rw (p, or_same, e, tab_at (partly (k + 1) (k + 1) k k) m j no_links h)
        (tab_set (partly (k + 1) (k + 1) k k) (partly (k + 1) (k + 1) (k + 1) k) m j _ h (rw (here s 32 k j g)) (λ i z n. rw (elsewhere s 32 k j g i n)))

    pub put_rate : {o : Option ℕ} → l ≡ tab (partly (k + 1) (k + 1) (k + 1) k) m → link_of s 64 k ≡ Some j → o ≡ option_or (get_or l j no_links).rate (Some k)
        → set l j (record { difference = (get_or l j no_links).difference; target = (get_or l j no_links).target; named = (get_or l j no_links).named; rate = o }) ≡ tab (partly (k + 1) (k + 1) (k + 1) (k + 1)) m
    put_rate e g p =
        rw (p, or_same, e, tab_at (partly (k + 1) (k + 1) (k + 1) k) m j no_links h)
        (tab_set (partly (k + 1) (k + 1) (k + 1) k) (partly (k + 1) (k + 1) (k + 1) (k + 1)) m j _ h (rw (here s 64 k j g)) (λ i z n. rw (elsewhere s 64 k j g i n)))

  pub keep_named : (k : ℕ) → link_of s 32 k ≡ None → tab (partly (k + 1) (k + 1) k k) m ≡ tab (partly (k + 1) (k + 1) (k + 1) k) m
  keep_named k g = tab_same (partly (k + 1) (k + 1) k k) (partly (k + 1) (k + 1) (k + 1) k) m (λ i z. rw (nobody s 32 k g i))

  pub keep_rate : (k : ℕ) → link_of s 64 k ≡ None → tab (partly (k + 1) (k + 1) (k + 1) k) m ≡ tab (partly (k + 1) (k + 1) (k + 1) (k + 1)) m
  keep_rate k g = tab_same (partly (k + 1) (k + 1) (k + 1) k) (partly (k + 1) (k + 1) (k + 1) (k + 1)) m (λ i z. rw (nobody s 64 k g i))

  pub same_by : (k : ℕ) → tab (links_by s k) m ≡ tab (partly k k k k) m
  unfolding links_by
  same_by k = tab_same (links_by s k) (partly k k k k) m (λ i z. refl)

  start : (i : ℕ) → no_links ≡ links_by s 0 i
  unfolding links_by first_to first
  start i = rw (below_past 0 None (link_of s 32) i (omega arith), below_past 0 None (link_of s 64) i (omega arith))

  pub none_listed : replicate m no_links ≡ tab (links_by s 0) m
  none_listed =
      ext_get_or no_links (replicate m no_links) (tab (links_by s 0) m) (length-replicate m no_links ∙ sym (length_tab (links_by s 0) m))
      (λ i h. at i (rw (length-replicate {A = Links} m no_links) at h))
    where
      at : (i : ℕ) → i < m → get_or (replicate m no_links) i no_links ≡ get_or (tab (links_by s 0) m) i no_links
      at i h = get_or-replicate m i no_links no_links h ∙ start i ∙ sym (tab_at (links_by s 0) m i no_links h)

  -- an id names a kind that is listed
  pub listed_below : (id : Id) {u : Option ℕ} {j : ℕ} → kind_count s ≤ m → u ≡ link (catalog_in s) id → u ≡ Some j → j < m
  unfolding catalog_in link find
  listed_below id {u} {j} few e p = go (blank id) refl
    where
      go : (b : Bool) → blank id ≡ b → j < m
      go true q = let y : None ≡ Some j = rw q at (sym e ∙ p) in let z : true ≡ false = cc in absurd (true≢false z)
      go false q =
          let f : find (catalog_in s) id ≡ Some j = rw q at (sym e ∙ p) in
          let l = first_below _ (kind_count s) f in
          omega (arith, l, few)
