-- `written::links::list_links` meets its contract: k kinds are seen.
use mathlib.Core.Path.{◌≡◌}
use lib.ListN.{length}
use Rattle.laws.specs.Ranges.{tab}
use Rattle.written.specs.Shown.{links_by}
use Rattle.written.proofs.links.list_links.Given as goal

abbrev pub invariant-loop-k : goal.invariant-loop-k
invariant-loop-k l = (length l.links ≡ length l.initial.links) × (l.links ≡ tab (links_by l.keyed.image.now l.k) (length l.initial.links))
