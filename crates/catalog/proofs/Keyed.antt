-- Ids found with the help of their keys: equal ids have equal keys, so with an image's own keys every id is found as without. Assumes nothing.
use Prim.Native.Nat.{ℕ, zero, suc, ◌+◌, ◌*◌, ◌<◌, ◌≤◌}
use mathlib.Core.Path.{◌≡◌, refl, sym, ◌∙◌, ap, ap₂, subst}
use mathlib.Core.Bool.{Bool, true, false, cond, ◌&&◌, ◌||◌}
use mathlib.Core.List.{List}
use Rattle.std.specs.declared.option.Option.TheVariants.{None, Some}
use mathlib.Core.Logic.{⊎_elim}
use native.Mathlib.Nat.{eq-or-lt_of_le, le_of_suc-le-suc, not-suc-le-zero}
use native.Mathlib.Numerals.{add-one}
use native.Mathlib.Omega.{arith}
use borrow.Author.Tests.{le-leb, lt-leb, ltb-true, leb-true, leb-false, eqb-true, eq-eqb}
use lib.Dec.{eqb, ltb, leb}
use lib.ListN.{length, take, drop, get_or, replicate, get_or-append}
use Rattle.std.proofs.lemmas.List.{length-take-le, length-drop, get_or-take, get_or-drop}
use Rattle.std.specs.List.{IsAnyAnswer}
use Rattle.laws.specs.Options.{is_some, or_else}
use Rattle.laws.specs.Ranges.{first, first_from, sum, tab}
use Rattle.laws.proofs.All.{all_at}
use Rattle.laws.proofs.First.{first_misses, first_same}
use Rattle.laws.proofs.FirstFrom.{from_start, from_split, any_next}
use Rattle.laws.proofs.Overlay.{overlay_length}
use Rattle.laws.proofs.Tab.{length_tab, tab_at}
use Rattle.rules.specs.Bytes.{byte, le2}
use Rattle.rules.specs.Layout.{kind_count}
use Rattle.rules.specs.Catalog.{same, id_at, kind_at, kind_from, catalog_in, find, link}
use Rattle.catalog.specs.Shown.{bytes_alike}
use Rattle.catalog.specs.Keys.{key_part, key_at, kind_key, key_count, keys_in, key_fits, named_by, find_by, link_by}
use Rattle.catalog.proofs.Alike.{same_ids}
use Rattle.catalog.proofs.Found.{kind_in_law}

-- ---- a key in a list
pub fits_past_law : (keys : List ℕ) (key k : ℕ) {v : Bool} → length keys ≤ k → v ≡ true → v ≡ key_fits keys key k
unfolding key_fits
fits_past_law keys key k h q = rw (le-leb (length keys) k h) q

pub fits_listed : (keys : List ℕ) (key k : ℕ) {v : Bool} → k < length keys → v ≡ eqb (get_or keys k 0) key → v ≡ key_fits keys key k
unfolding key_fits
fits_listed keys key k h q = rw (lt-leb (length keys) k h) q

-- ---- a key looked for among those from place p on
module _ (test : ℕ → Bool) (p : ℕ) where
  none_from : (n : ℕ) → ((i : ℕ) → i < n → test (p + i) ≡ false) → first_from test p n ≡ None
  unfolding first_from
  none_from zero h = refl
  none_from (suc n) h = rw (first_from, none_from n (λ i l. h i (omega arith)), h n (omega arith))

  or_true : (b : Bool) → (b || true) ≡ true
  or_true true = refl
  or_true false = refl

  some_from : (n i : ℕ) → i < n → test (p + i) ≡ true → is_some (first_from test p n) ≡ true
  some_from zero i l t = absurd (not-suc-le-zero l)
  some_from (suc n) i l t = rw (← add-one n, ← any_next test p n refl refl) (⊎_elim (λ (z : i ≡ n). rw (← z, t) (or_true _)) (λ m. rw (some_from n i m t) refl) (eq-or-lt_of_le (le_of_suc-le-suc l)))

pub any_key : (keys : List ℕ) (key p n : ℕ) {m : ℕ} {v : Bool} → p + n ≤ length keys → m ≡ n → IsAnyAnswer (λ y b. eqb y key ≡ b) (take m (drop p keys)) v → v ≡ is_some (first_from (key_fits keys key) p n)
any_key keys key p n {m} {v} h q a = go v (subst (λ (k : ℕ). IsAnyAnswer (λ y b. eqb y key ≡ b) (take k (drop p keys)) v) q a)
  where
    enough : n ≤ length (drop p keys)
    enough = rw (length-drop p keys) (omega (arith, h))

    there : (i : ℕ) → i < n → get_or (take n (drop p keys)) i 0 ≡ get_or keys (p + i) 0
    there i l = get_or-take n (drop p keys) i 0 l ∙ get_or-drop p keys i 0

    told : (i : ℕ) (b : Bool) → i < n → eqb (get_or (take n (drop p keys)) i 0) key ≡ b → key_fits keys key (p + i) ≡ b
    told i b l e = sym (fits_listed keys key (p + i) (omega (arith, h)) (sym e ∙ ap (λ (x : ℕ). eqb x key) (there i l)))

    go : (v : Bool) → IsAnyAnswer (λ y b. eqb y key ≡ b) (take n (drop p keys)) v → v ≡ is_some (first_from (key_fits keys key) p n)
    go true m = sym (some_from (key_fits keys key) p n m.0 (omega (arith, m.1, length-take-le n (drop p keys) enough)) (told m.0 true (omega (arith, m.1, length-take-le n (drop p keys) enough)) (m.2 0)))
    go false m = ap is_some (sym (none_from (key_fits keys key) p n (λ i l. told i false l (m i 0 (omega arith) (omega (arith, l, length-take-le n (drop p keys) enough))))))

-- ---- kinds passed over: none of the first k has the key
nowhere : (test : ℕ → Bool) (n : ℕ) → ((i : ℕ) → i < n → test i ≡ false) → first test n ≡ None
unfolding first
nowhere test zero h = refl
nowhere test (suc n) h = rw (first, nowhere test n (λ i l. h i (omega arith)), h n (omega arith))

module _ (keys : List ℕ) (key : ℕ) where
  pub over_next : (k : ℕ) → first (key_fits keys key) k ≡ None → first_from (key_fits keys key) k 16 ≡ None → first (key_fits keys key) (k + 16) ≡ None
  over_next k e f =
      sym (from_start (key_fits keys key) (k + 16)) ∙ from_split (key_fits keys key) 0 k 16
      ∙ ap₂ or_else (from_start (key_fits keys key) k ∙ e) (let z : 0 + k ≡ k = omega arith in rw z f)

  -- nor the key and the id
  pub over_named : (s : List ℕ) (p k : ℕ) → first (key_fits keys key) k ≡ None → first (named_by s keys p key) k ≡ None
  unfolding named_by
  over_named s p k e = nowhere (named_by s keys p key) k (λ i h. rw (first_misses (key_fits keys key) k i e h))

module _ (s keys : List ℕ) (p : ℕ) {key n : ℕ} (a : key ≡ key_at s p) (c : n ≡ kind_count s) where
  pub by_here : (k : ℕ) → first (named_by s keys p key) n ≡ Some k → Some k ≡ find_by s keys p
  unfolding find_by
  by_here k e = rw (← a, ← c, e)

-- ---- equal ids have equal keys
sum_same : (f g : ℕ → ℕ) (n : ℕ) → ((k : ℕ) → k < n → f k ≡ g k) → sum f n ≡ sum g n
unfolding sum
sum_same f g zero h = refl
sum_same f g (suc n) h = ap₂ (λ (x y : ℕ). x + y) (sum_same f g n (λ k l. h k (omega arith))) (h n (omega arith))

module _ (s t : List ℕ) (p q : ℕ) (e : (i : ℕ) → i < 32 → byte s (p + i) ≡ byte t (q + i)) where
  parts_same : (i : ℕ) → i < 16 → key_part s p i ≡ key_part t q i
  unfolding key_part le2
  parts_same i h =
      let a : byte s (p + 2 * i) ≡ byte t (q + 2 * i) = e (2 * i) (omega arith) in
      let x : p + 2 * i + 1 ≡ p + (2 * i + 1) = omega arith in
      let y : q + 2 * i + 1 ≡ q + (2 * i + 1) = omega arith in
      rw (x, y, a, e (2 * i + 1) (omega arith))

  key_alike : key_at s p ≡ key_at t q
  unfolding key_at
  key_alike = sum_same (key_part s p) (key_part t q) 16 parts_same

keys_same : (s : List ℕ) (p q : ℕ) → same (id_at s p) (id_at s q) ≡ true → key_at s p ≡ key_at s q
unfolding bytes_alike
keys_same s p q e = key_alike s s p q (λ i h. eqb-true (byte s (p + i)) (byte s (q + i)) (all_at (bytes_alike s p s q) 32 i (sym (same_ids s p s q) ∙ e) h))

-- the key of an id cut out
pub key_there : (s : List ℕ) (p : ℕ) {a : List ℕ} {v : ℕ} → a ≡ id_at s p → v ≡ key_at a 0 → v ≡ key_at s p
unfolding id_at
key_there s p {a} e q =
    q ∙ key_alike a s 0 p (λ i h.
    let z : 0 + i ≡ i = omega arith in
    ap (byte a) z ∙ ap (λ (l : List ℕ). byte l i) e ∙ tab_at (λ i. byte s (p + i)) 32 i 0 h)

-- ---- an image's own keys
count_below : (s : List ℕ) (k : ℕ) → k < kind_count s → k < 240 → k < key_count s
unfolding key_count
count_below s k h l = go (ltb (kind_count s) 240)
  where
    go : (b : Bool) → k < cond b (kind_count s) 240
    go true = h
    go false = l

count_few : (s : List ℕ) → key_count s ≤ 240
unfolding key_count
count_few s = go (ltb (kind_count s) 240) refl
  where
    go : (b : Bool) → ltb (kind_count s) 240 ≡ b → cond b (kind_count s) 240 ≤ 240
    go true p = let h = ltb-true (kind_count s) 240 p in omega arith
    go false p = omega arith

pub keys_long : (s : List ℕ) → length (keys_in s) ≡ 240
unfolding keys_in
keys_long s = overlay_length (tab (kind_key s) (key_count s)) (replicate 240 0) (rw (length_tab (kind_key s) (key_count s)) (count_few s))

-- the list has the key of each kind below 240
own_key : (s : List ℕ) (k : ℕ) → k < kind_count s → k < 240 → get_or (keys_in s) k 0 ≡ kind_key s k
unfolding keys_in
own_key s k h l =
    let m = count_below s k h l in
    get_or-append (tab (kind_key s) (key_count s)) _ 0 k (rw (length_tab (kind_key s) (key_count s)) m) ∙ tab_at (kind_key s) (key_count s) k 0 m

module _ (s : List ℕ) {keys : List ℕ} (o : keys ≡ keys_in s) (p : ℕ) where
  own_long : length keys ≡ 240
  own_long = ap length o ∙ keys_long s

  own_fits : (k : ℕ) → k < kind_count s → same (id_at s (kind_at k)) (id_at s p) ≡ true → key_fits keys (key_at s p) k ≡ true
  unfolding kind_key
  own_fits k h e = go (leb 240 k) refl
    where
      go : (b : Bool) → leb 240 k ≡ b → key_fits keys (key_at s p) k ≡ true
      go true q = sym (fits_past_law keys (key_at s p) k (let l = leb-true 240 k q in omega (arith, own_long)) refl)
      go false q =
          let l : k < 240 = leb-false 240 k q in
          let d : get_or keys k 0 ≡ key_at s p = ap (λ (t : List ℕ). get_or t k 0) o ∙ own_key s k h l ∙ keys_same s (kind_at k) p e in
          sym (fits_listed keys (key_at s p) k (omega (arith, own_long)) (sym (eq-eqb (get_or keys k 0) (key_at s p) d)))

  own_named : (k : ℕ) → k < kind_count s → named_by s keys p (key_at s p) k ≡ same ((catalog_in s).kind k).id (id_at s p)
  unfolding named_by kind_from
  own_named k h = rw (kind_in_law s k h) (go (same (id_at s (kind_at k)) (id_at s p)) refl (key_fits keys (key_at s p) k) refl)
    where
      go : (t : Bool) → same (id_at s (kind_at k)) (id_at s p) ≡ t → (f : Bool) → key_fits keys (key_at s p) k ≡ f → (f && t) ≡ t
      go true e true q = refl
      go true e false q = sym q ∙ own_fits k h e
      go false e true q = refl
      go false e false q = refl

  -- every id is found as without keys
  pub own_find : find_by s keys p ≡ find (catalog_in s) (id_at s p)
  unfolding find_by find catalog_in
  own_find = first_same _ _ (kind_count s) own_named

  pub own_link : link_by s keys p ≡ link (catalog_in s) (id_at s p)
  unfolding link_by link
  own_link = rw own_find
