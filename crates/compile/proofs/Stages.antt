-- One stage of a compilation after the other: it is refused, or what the next answers. Assumes nothing.
use Prim.Native.Nat.{ℕ}
use Rattle.std.specs.declared.result.Result.{Result}
use Rattle.std.specs.declared.result.Result.TheVariants.{Ok, Err}
use Rattle.error.specs.declared.fault.Fault.{Fault}
use Rattle.rules.specs.Refusal as rule
use mathlib.Core.Path.{◌≡◌, refl, ◌∙◌, ap}
use mathlib.Core.List.{List}
use lib.ListN.{length}
use Rattle.laws.specs.Out.{given, refused, ◌>>◌}
use Rattle.laws.specs.Ranges.{overlay}
use Rattle.rules.specs.Layout.{kind_count, row_count}
use Rattle.rules.specs.Refusal.{Placed, at}
use Rattle.rules.specs.Catalog.{Catalog, catalog_in, kinds_of, rows_of}
use Rattle.rules.specs.Compile.{Checked, compiles, compile, each_record, id_rule, difference_rule, dimensionless_rule, time_rule, rate_rule, row_rule}
use Rattle.rules.specs.Image.{lent_check, compile_image, table_after}
use Rattle.rules.specs.Table.{table_words}
use Rattle.error.specs.Shown.{fine}
use Rattle.compile.specs.Shown.{ruled, ruled_all, kinds_ruled, compiled}
use Rattle.compile.proofs.Told.{fine_refused, fine_given}

pub stage_refused : (m n : Placed (Unit {0})) {f : Fault} → Err f ≡ fine m → Err f ≡ fine (m >> n)
stage_refused m n e = let r = fine_refused m e in e ∙ rw r.1

pub stage_passed : (m n : Placed (Unit {0})) {u : Unit {0}} {v : Result (Unit {0}) Fault} → Ok u ≡ fine m → v ≡ fine n → v ≡ fine (m >> n)
stage_passed m n e h = rw (fine_given m e) h

-- ---- the rules of kinds, then those of rows
after : (m n o : Placed (Unit {0})) → ((m >> n) >> o) ≡ (m >> (n >> o))
after (given u) n o = refl
after (refused f) n o = refl

pub then_rows : (C : Catalog) → (kinds_ruled C >> each_record C (row_rule C) C.row_count) ≡ compiles C
unfolding kinds_ruled compiles
then_rows C =
    after (each_record C (id_rule C) C.kind_count) _ _
    ∙ ap (λ (m : Placed (Unit {0})). each_record C (id_rule C) C.kind_count >> m) (
    after (each_record C (difference_rule C) C.kind_count) _ _
    ∙ ap (λ (m : Placed (Unit {0})). each_record C (difference_rule C) C.kind_count >> m) (
    after (at 12 (dimensionless_rule C)) _ _
    ∙ ap (λ (m : Placed (Unit {0})). at 12 (dimensionless_rule C) >> m) (after (at 44 (time_rule C)) _ _)))

pub then_rows_of : (s : List ℕ) → (kinds_ruled (catalog_in s) >> each_record (catalog_in s) (row_rule (catalog_in s)) (row_count s)) ≡ compiles (catalog_in s)
unfolding catalog_in
then_rows_of s = then_rows (catalog_in s)

-- ---- the rules of kinds, stage by stage: the ids, the differences, the dimensionless kind and the time kind
pub kinds_told : (s : List ℕ) (rule : Catalog → ℕ → Checked) {n : ℕ} {v : Result (Unit {0}) Fault} → n ≡ kind_count s → v ≡ ruled_all (rule (catalog_in s)) n → v ≡ fine (each_record (catalog_in s) (rule (catalog_in s)) (catalog_in s).kind_count)
unfolding ruled_all catalog_in
kinds_told s rule q e = rw q at e

pub rule_told : (p : ℕ) (m : Checked) {v : Result (Unit {0}) Fault} → v ≡ ruled p m → v ≡ fine (at p m)
unfolding ruled
rule_told p m e = e

module _ (C : Catalog) where
  abbrev ids : Placed (Unit {0})
  ids = each_record C (id_rule C) C.kind_count

  abbrev differences : Placed (Unit {0})
  differences = each_record C (difference_rule C) C.kind_count

  abbrev neutral : Placed (Unit {0})
  neutral = at 12 (dimensionless_rule C)

  abbrev instant : Placed (Unit {0})
  instant = at 44 (time_rule C)

  pub ids_refused : {f : Fault} → Err f ≡ fine ids → Err f ≡ fine (kinds_ruled C)
  unfolding kinds_ruled
  ids_refused e = stage_refused ids _ e

  module _ {i : Unit {0}} (e : Ok i ≡ fine ids) where
    pub differences_refused : {f : Fault} → Err f ≡ fine differences → Err f ≡ fine (kinds_ruled C)
    unfolding kinds_ruled
    differences_refused f = stage_passed ids _ e (stage_refused differences _ f)

    module _ {d : Unit {0}} (f : Ok d ≡ fine differences) where
      pub neutral_refused : {x : Fault} → Err x ≡ fine neutral → Err x ≡ fine (kinds_ruled C)
      unfolding kinds_ruled
      neutral_refused g = stage_passed ids _ e (stage_passed differences _ f (stage_refused neutral _ g))

      module _ {o : Unit {0}} (g : Ok o ≡ fine neutral) where
        pub instant_refused : {x : Fault} → Err x ≡ fine instant → Err x ≡ fine (kinds_ruled C)
        unfolding kinds_ruled
        instant_refused h = stage_passed ids _ e (stage_passed differences _ f (stage_passed neutral _ g (stage_refused instant _ h)))

        pub rates_answer : {t : Unit {0}} {v : Result (Unit {0}) Fault} → Ok t ≡ fine instant → v ≡ fine (each_record C (rate_rule C) C.kind_count) → v ≡ fine (kinds_ruled C)
        unfolding kinds_ruled
        rates_answer h z = stage_passed ids _ e (stage_passed differences _ f (stage_passed neutral _ g (stage_passed instant _ h z)))

-- ---- then those of rows
module _ (s : List ℕ) where
  pub kinds_stop : {f : Fault} → Err f ≡ fine (kinds_ruled (catalog_in s)) → Err f ≡ fine (compiles (catalog_in s))
  kinds_stop e = stage_refused (kinds_ruled (catalog_in s)) _ e ∙ ap fine (then_rows (catalog_in s))

  pub rows_answer : {u : Unit {0}} {v : Result (Unit {0}) Fault} → Ok u ≡ fine (kinds_ruled (catalog_in s)) → v ≡ ruled_all (row_rule (catalog_in s)) (row_count s) → v ≡ fine (compiles (catalog_in s))
  unfolding ruled_all
  rows_answer e h = stage_passed (kinds_ruled (catalog_in s)) (each_record (catalog_in s) (row_rule (catalog_in s)) (row_count s)) e h ∙ ap fine (then_rows_of s)

-- ---- the whole: what is answered, and what the table then holds
module _ (s old : List ℕ) where
  abbrev Answers : Result (Unit {0}) Fault → List ℕ → Type 0
  Answers v t = (v ≡ compiled (compile_image s (length old))) × (t ≡ table_after s old)

  stops : (x : rule.Fault) {v : Result (Unit {0}) Fault} → compile_image s (length old) ≡ refused x → v ≡ fine (refused x) → Answers v old
  unfolding table_after compiled fine
  stops x e h = (rw e h, rw (table_after, e))

  lent_refused : (x : rule.Fault) → lent_check s (length old) ≡ refused x → compile_image s (length old) ≡ refused x
  unfolding compile_image
  lent_refused x e = rw e

  rules_refused : (x : rule.Fault) → lent_check s (length old) ≡ given tt → compiles (catalog_in s) ≡ refused x → compile_image s (length old) ≡ refused x
  unfolding compile_image compile
  rules_refused x l e = rw (l, e)

  pub lent_stops : {f : Fault} → Err f ≡ fine (lent_check s (length old)) → Answers (Err f) old
  lent_stops e = let r = fine_refused (lent_check s (length old)) e in stops r.0 (lent_refused r.0 r.1) (e ∙ ap fine r.1)

  pub rules_stop : {f : Fault} → lent_check s (length old) ≡ given tt → Err f ≡ fine (compiles (catalog_in s)) → Answers (Err f) old
  rules_stop l e = let r = fine_refused (compiles (catalog_in s)) e in stops r.0 (rules_refused r.0 l r.1) (e ∙ ap fine r.1)

  passed_all : lent_check s (length old) ≡ given tt → compiles (catalog_in s) ≡ given tt → compile_image s (length old) ≡ given (record { kinds = kinds_of (catalog_in s); rows = rows_of (catalog_in s) })
  unfolding compile_image compile
  passed_all l r = rw (l, r)

  pub all_compiled : {t w : List ℕ} → lent_check s (length old) ≡ given tt → compiles (catalog_in s) ≡ given tt → w ≡ table_words (catalog_in s) → t ≡ overlay w old → Answers (Ok tt) t
  unfolding table_after compiled
  all_compiled l r w h = (rw (passed_all l r), rw (table_after, passed_all l r, ← w) h)
