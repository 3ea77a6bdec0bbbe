use Rattle.std.proofs.Common.{◌≡◌, ◌++◌, drop, string_bytes}
use Rattle.std.specs.List.{flat_map}
use Rattle.toml.specs.View.{table_view}
use Rattle.wl_setup.specs.Keys.{key_text}
use Rattle.wl_setup.specs.Kinds.{value_at}
use Rattle.wl_explain.specs.Refusals.{key_words}
use Rattle.wl_explain.proofs.refusal.keys_in.Given as goal

-- what is said, and then what is said of the keys that are left
abbrev pub invariant-loop-key : goal.invariant-loop-key
invariant-loop-key l =
    string_bytes l.text ++ flat_map (λ k. key_words (key_text k) (value_at k (table_view l.table))) (drop l.key-index l.keys)
    ≡ flat_map (λ k. key_words (key_text k) (value_at k (table_view l.table))) l.keys
