-- 5 and 40 of what is lent, one law a return (`checks`). Assumes nothing.
use Prim.Native.Nat.{ℕ, ◌<◌, ◌≤◌}
use mathlib.Core.Path.{◌≡◌, sym, ◌∙◌}
use mathlib.Core.Bool.{Bool, true, false, not}
use mathlib.Core.List.{List}
use Rattle.std.specs.declared.result.Result.TheVariants.{Ok, Err}
use borrow.Author.Tests.{lt-ltb, le-ltb, not-true, not-false}
use lib.ListN.{length}
use Rattle.rules.specs.Table.{is_table, are_rows}
use Rattle.rules.specs.Lookup as lone
use Rattle.error.specs.declared.cause.Error.TheVariants as cause
use Rattle.lookup.specs.Shown.{tested, lent}

module _ (t rows twins : List ℕ) where
  pub table_short : length t < 9296 → Err (cause.Short (length t)) ≡ tested (lent t rows twins)
  unfolding tested lent lone.roomy
  table_short h = rw (lt-ltb (length t) 9296 h)

  module _ (a : 9296 ≤ length t) where
    pub list_short : length twins < 240 → Err (cause.Short (length twins)) ≡ tested (lent t rows twins)
    unfolding tested lent lone.roomy
    list_short h = rw (le-ltb (length t) 9296 a, lt-ltb (length twins) 240 h)

    module _ (b : 240 ≤ length twins) {x : Bool} (p : x ≡ is_table t) where
      pub no_table : not x ≡ true → Err cause.NoTable ≡ tested (lent t rows twins)
      unfolding tested lent lone.roomy lone.tabled
      no_table q = rw (le-ltb (length t) 9296 a, le-ltb (length twins) 240 b, sym p ∙ not-true x q)

      module _ (q : not x ≡ false) {y : Bool} (s : y ≡ are_rows t rows) where
        pub no_rows : not y ≡ true → Err cause.NoTable ≡ tested (lent t rows twins)
        unfolding tested lent lone.roomy lone.tabled
        no_rows u = rw (le-ltb (length t) 9296 a, le-ltb (length twins) 240 b, sym p ∙ not-false x q, sym s ∙ not-true y u)

        pub all_lent : not y ≡ false → Ok tt ≡ tested (lent t rows twins)
        unfolding tested lent lone.roomy lone.tabled
        all_lent u = rw (le-ltb (length t) 9296 a, le-ltb (length twins) 240 b, sym p ∙ not-false x q, sym s ∙ not-false y u)

pub ruleset checks = (table_short, list_short, no_table, no_rows, all_lent)
