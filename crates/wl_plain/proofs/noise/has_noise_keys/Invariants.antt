use Rattle.std.proofs.Common.{◌≡◌}
use Rattle.toml.specs.View.{members_view, table_view}
use Rattle.wl_plain.specs.Noise.{has_noise_keys}
use Rattle.wl_plain.proofs.noise.has_noise_keys.Given as goal

-- all members that are left are keys of noise, if all are
abbrev pub invariant-loop-key : goal.invariant-loop-key
invariant-loop-key l =
    goal.iterator-loop-key.can_next l.key-iterator × goal.iterator-loop-key.is_finite l.key-iterator
    × (has_noise_keys (members_view l.key-iterator) ≡ has_noise_keys (table_view l.table))
