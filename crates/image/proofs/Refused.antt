-- 1, 5, 2, 3, 4 in their order: what is answered at each refusal, and where there is none. Assumes nothing.
use Prim.Native.Nat.{ℕ, ◌*◌, ◌/◌, ◌%◌, ◌≤◌, ◌<◌}
use mathlib.Core.Path.{◌≡◌, refl, sym, ◌∙◌, ap}
use mathlib.Core.Bool.{Bool, true, false, not, ◌||◌}
use mathlib.Core.List.{List}
use Rattle.std.specs.declared.option.Option.TheVariants.{None, Some}
use native.Mathlib.Omega.{arith}
use borrow.Author.Tests.{eqb-true, eq-eqb, ne_eqb, not-false, ltb-false, lt-ltb, le-ltb}
use lib.Dec.{eqb, ltb}
use lib.ListN.{length}
use Rattle.laws.specs.Ranges.{first, first_from}
use Rattle.laws.proofs.Cases.{or_neither}
use Rattle.laws.proofs.FirstFrom.{from_start}
use Rattle.rules.specs.Bytes.{le4}
use Rattle.rules.specs.Layout.{byte_wrong}
use Rattle.laws.specs.Out.{◌>>◌, refuse_if}
use Rattle.rules.specs.Refusal as rule
use Rattle.rules.specs.Refusal.{at}
use Rattle.rules.specs.Table.{table_size, room_for}
use Rattle.rules.specs.Image.{length_wrong, length_check, sum_wrong, readable, image_check, lent_check}
use Rattle.std.specs.declared.result.Result.{Result}
use Rattle.std.specs.declared.result.Result.TheVariants.{Ok, Err}
use Rattle.error.specs.Shown.{fault, fine}
use Rattle.error.specs.declared.fault.Fault.{Fault}
use Rattle.error.specs.declared.cause.Error.{Error}
use Rattle.error.specs.declared.cause.Error.TheVariants.{ImageLength, WrongBlock, Schema, WrongByte, Short}
use Rattle.std.specs.declared.option.Option.{Option}
use Rattle.image.proofs.Finds.{at_some, nothing_none}

abbrev no : Error → ℕ → Result (Unit {0}) Fault
no e p = Err (fault p e)

module _ (s : List ℕ) where
  pub length_refused : length_wrong s ≡ true → no (ImageLength (length s)) 0 ≡ fine (length_check s)
  unfolding length_check fine
  length_refused e = rw e

  pub length_right : length_wrong s ≡ false → Ok tt ≡ fine (length_check s)
  unfolding length_check fine
  length_right e = rw e

  -- what a length that is refused is, of either check, and that one that isn't is right
  pub length_stops : {x : Fault} → Err x ≡ fine (length_check s) → Err x ≡ fine (image_check s)
  unfolding image_check length_check fine
  length_stops {x} h = go (length_wrong s) h
    where
      go : (b : Bool) → Err x ≡ fine (at 0 (refuse_if b (rule.ImageLength (length s)))) → Err x ≡ fine (at 0 (refuse_if b (rule.ImageLength (length s))) >> readable s)
      go true h = h
      go false h = cc

  pub lent_stops : (room : ℕ) {x : Fault} → Err x ≡ fine (length_check s) → Err x ≡ fine (lent_check s room)
  unfolding lent_check length_check fine
  lent_stops room {x} h = go (length_wrong s) h
    where
      go : (b : Bool) → Err x ≡ fine (at 0 (refuse_if b (rule.ImageLength (length s)))) → Err x ≡ fine (at 0 (refuse_if b (rule.ImageLength (length s))) >> (at 0 (room_for table_size room) >> readable s))
      go true h = h
      go false h = cc

  pub right_length : {u : Unit {0}} → Ok u ≡ fine (length_check s) → length_wrong s ≡ false
  unfolding length_check fine
  right_length {u} h = go (length_wrong s) h
    where
      go : (b : Bool) → Ok u ≡ fine (at 0 (refuse_if b (rule.ImageLength (length s)))) → b ≡ false
      go true h = cc
      go false h = refl

  module _ (l : length_wrong s ≡ false) where
    pub image_readable : fine (readable s) ≡ fine (image_check s)
    unfolding image_check length_check
    image_readable = rw l

    pub room_refused : (room : ℕ) → room < 9296 → no (Short room) 0 ≡ fine (lent_check s room)
    unfolding lent_check length_check fine
    room_refused room h = rw (l, lt-ltb room 9296 h)

    pub lent_readable : (room : ℕ) → 9296 ≤ room → fine (readable s) ≡ fine (lent_check s room)
    unfolding lent_check length_check
    lent_readable room h = rw (l, le-ltb room 9296 h)

    -- a whole number of blocks
    pub whole_blocks : 512 * (length s / 512) ≡ length s
    unfolding length_wrong
    whole_blocks =
        let e = (or_neither (eqb (length s) 0) (not (eqb (length s % 512) 0)) (or_neither (eqb (length s) 0 || not (eqb (length s % 512) 0)) (ltb 61952 (length s)) l).0).1 in
        let z : length s % 512 ≡ 0 = eqb-true (length s % 512) 0 (not-false _ e) in
        omega arith

    -- at most 121 of them
    pub few_blocks : length s ≤ 61952
    unfolding length_wrong
    few_blocks = ltb-false 61952 (length s) (or_neither (eqb (length s) 0 || not (eqb (length s % 512) 0)) (ltb 61952 (length s)) l).1

    looked : first_from (byte_wrong s) 0 (512 * (length s / 512)) ≡ first (byte_wrong s) (length s)
    looked = ap (first_from (byte_wrong s) 0) whole_blocks ∙ from_start (byte_wrong s) (length s)

    pub blocks_refused : {b : ℕ} → first (sum_wrong s) (length s / 512) ≡ Some b → no (WrongBlock b) b ≡ fine (readable s)
    unfolding readable fine
    blocks_refused e = rw e

    module _ (b : first (sum_wrong s) (length s / 512) ≡ None) where
      pub schema_refused : (le4 s 4 ≡ 4 → ⊥) → no (Schema (le4 s 4)) 0 ≡ fine (readable s)
      unfolding readable fine
      schema_refused e = rw (b, ne_eqb (le4 s 4) 4 e)

      module _ (v : le4 s 4 ≡ 4) where
        pub byte_refused : {i : ℕ} → first_from (byte_wrong s) 0 (512 * (length s / 512)) ≡ Some i → no (WrongByte i) i ≡ fine (readable s)
        unfolding readable fine
        byte_refused e = rw (b, eq-eqb (le4 s 4) 4 v, sym looked ∙ e)

        pub image_fine : first_from (byte_wrong s) 0 (512 * (length s / 512)) ≡ None → Ok tt ≡ fine (readable s)
        unfolding readable fine
        image_fine e = rw (b, eq-eqb (le4 s 4) 4 v, sym looked ∙ e)

-- ---- the same in the code's words: f and g are what its searches found, n its schema
module _ (s : List ℕ) where
  pub length_told : {x : Fault} → {t : Bool} → t ≡ true → t ≡ length_wrong s → x ≡ fault 0 (ImageLength (length s)) → Err x ≡ fine (length_check s)
  length_told p e h = ap Err h ∙ length_refused s (sym e ∙ p)

  pub length_fine : {t : Bool} → t ≡ false → t ≡ length_wrong s → Ok tt ≡ fine (length_check s)
  length_fine p e = length_right s (sym e ∙ p)

  -- a is the answer about the length
  module _ {a : Result (Unit {0}) Fault} (e : a ≡ fine (length_check s)) where
    pub image_stops : {x : Fault} → a ≡ Err x → Err x ≡ fine (image_check s)
    image_stops p = length_stops s (sym p ∙ e)

    pub room_stops : (room : ℕ) {x : Fault} → a ≡ Err x → Err x ≡ fine (lent_check s room)
    room_stops room p = lent_stops s room (sym p ∙ e)

    module _ {u : Unit {0}} (p : a ≡ Ok u) where
      pub known_right : length_wrong s ≡ false
      known_right = right_length s (sym p ∙ e)

      pub readable_told : {b : Result (Unit {0}) Fault} → b ≡ fine (readable s) → b ≡ fine (image_check s)
      readable_told h = h ∙ image_readable s known_right

      module _ (room : ℕ) where
        pub lent_room : {x : Fault} → room < 9296 → x ≡ fault 0 (Short room) → Err x ≡ fine (lent_check s room)
        lent_room r h = ap Err h ∙ room_refused s known_right room r

        pub lent_told : {b : Result (Unit {0}) Fault} → 9296 ≤ room → b ≡ fine (readable s) → b ≡ fine (lent_check s room)
        lent_told r h = h ∙ lent_readable s known_right room r

  module _ (l : length_wrong s ≡ false) {f : Option ℕ} (e : f ≡ first (sum_wrong s) (length s / 512)) where
    pub block_told : {x : Fault} → {b : ℕ} → f ≡ Some b → x ≡ fault b (WrongBlock b) → Err x ≡ fine (readable s)
    block_told p h = ap Err h ∙ blocks_refused s l (at_some _ p e)

    module _ (q : f ≡ None) {n : ℕ} (u : n ≡ le4 s 4) where
      pub schema_told : {x : Fault} → (n ≡ 4 → ⊥) → x ≡ fault 0 (Schema n) → Err x ≡ fine (readable s)
      schema_told p h = ap Err h ∙ ap (λ (m : ℕ). no (Schema m) 0) u ∙ schema_refused s l (nothing_none _ q e) (λ z. p (u ∙ z))

      module _ (v : n ≡ 4) {g : Option ℕ} (d : g ≡ first_from (byte_wrong s) 0 (512 * (length s / 512))) where
        pub byte_told : {x : Fault} → {i : ℕ} → g ≡ Some i → x ≡ fault i (WrongByte i) → Err x ≡ fine (readable s)
        byte_told p h = ap Err h ∙ byte_refused s l (nothing_none _ q e) (sym u ∙ v) (at_some _ p d)

        pub fine_told : g ≡ None → Ok tt ≡ fine (readable s)
        fine_told p = image_fine s l (nothing_none _ q e) (sym u ∙ v) (nothing_none _ p d)

-- ---- what the parts ask of the length
pub few_sums : (s : List ℕ) → length_wrong s ≡ false → length s / 512 ≤ 1000
few_sums s l = omega (arith, few_blocks s l)

pub few_layouts : (s : List ℕ) → length_wrong s ≡ false → length s / 512 ≤ 200
few_layouts s l = omega (arith, few_blocks s l)

pub ruleset lengths = (known_right, few_sums, few_layouts)

pub ruleset refusals = (length_told, length_fine, image_stops, room_stops, readable_told, lent_room, lent_told, block_told, schema_told, byte_told, fine_told)
