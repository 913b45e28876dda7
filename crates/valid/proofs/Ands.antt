-- Code that returns at the first test that fails, against tests joined by `and`. Assumes nothing.
use Rattle.std.proofs.Common.{◌≡◌, Bool, true, false, ◌&&◌}
use Rattle.laws.proofs.Cases.{true_via, false_via, and_both}

pub and_stop : {s : Bool} (t : Bool) → s ≡ false → false ≡ (s && t)
and_stop t p = rw p

pub and_on : {s v : Bool} (t : Bool) → s ≡ true → v ≡ t → v ≡ (s && t)
and_on t p e = rw p e

pub ruleset ands = (and_stop, and_on, true_via, false_via, and_both)
