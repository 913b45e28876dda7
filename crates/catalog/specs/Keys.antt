-- Keys of ids: equal ids have equal keys, so an id need only be compared where the keys agree.
use Rattle.std.specs.Prelude.{ℕ, ◌+◌, ◌*◌, Bool, cond, ◌&&◌, ◌||◌, List, eqb, ltb, leb, length, get_or, replicate}
use Rattle.std.specs.declared.option.Option.{Option}
use Rattle.std.specs.declared.option.Option.TheVariants.{None}
use Rattle.laws.specs.Ranges.{first, sum, tab, overlay}
use Rattle.rules.specs.Bytes.{le2}
use Rattle.rules.specs.Layout.{kind_count}
use Rattle.rules.specs.Catalog.{blank, same, id_at, kind_at, catalog_in}

-- what 16-bit number i of the id at p adds to its key
unfoldable pub key_part : List ℕ → ℕ → ℕ → ℕ
key_part s p i = (i + 1) * le2 s (p + 2 * i)

unfoldable pub key_at : List ℕ → ℕ → ℕ
key_at s p = sum (key_part s p) 16

-- ---- the keys of the kinds, at most 240
unfoldable pub kind_key : List ℕ → ℕ → ℕ
kind_key s k = key_at s (kind_at k)

unfoldable pub key_count : List ℕ → ℕ
key_count s = cond (ltb (kind_count s) 240) (kind_count s) 240

unfoldable pub keys_in : List ℕ → List ℕ
keys_in s = overlay (tab (kind_key s) (key_count s)) (replicate 240 0)

-- ---- an id looked for with the help of a list of keys
-- kind k has this key; past the end of the list it may have any
unfoldable pub key_fits : List ℕ → ℕ → ℕ → Bool
key_fits keys key k = leb (length keys) k || eqb (get_or keys k 0) key

-- kind k has this key and the id at p
unfoldable pub named_by : List ℕ → List ℕ → ℕ → ℕ → ℕ → Bool
named_by s keys p key k = key_fits keys key k && same ((catalog_in s).kind k).id (id_at s p)

-- the first kind of the id at p
unfoldable pub find_by : List ℕ → List ℕ → ℕ → Option ℕ
find_by s keys p = first (named_by s keys p (key_at s p)) (kind_count s)

-- what it names if it is declared
unfoldable pub link_by : List ℕ → List ℕ → ℕ → Option ℕ
link_by s keys p = cond (blank (id_at s p)) None (find_by s keys p)
