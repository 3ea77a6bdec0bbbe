-- Keys that are one, and what entries have at a key.
use Rattle.std.specs.Prelude.{◌≡◌, true, Option, List}
use Rattle.std.specs.Ordering.{eq_by_cmp}
use Rattle.std.specs.BTreeMap.{is_at}
use Rattle.std.specs.Map.{lookup}
use Rattle.wl_lattice.specs.KeyByKey.{tied_by}
use Rattle.wl_replica.specs.Keys.{Key, key_cmp}
use Rattle.wl_replica.proofs.KeyLaws.{exact_keys}

-- keys that compare alike are one
pub same_key : (q k : Key) → eq_by_cmp key_cmp q k ≡ true → q ≡ k
same_key q k e = exact_keys q k (tied_by (key_cmp q k) e)

-- what entries have at a key
abbrev pub found : {W : Type 0} → List (Key × W) → Key → Option W
found es q = lookup (is_at (key_cmp q)) es
