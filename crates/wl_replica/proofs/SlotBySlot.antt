-- A joined state, slot by slot.
use Rattle.std.specs.Prelude.{◌≡◌, ℕ, max, [], Option, None, Some, unwrap_or, refl}
use Rattle.std.specs.FinMap.{get, get-empty}
use Rattle.std.proofs.Common.{ap, ◌∙◌, arith}
use Rattle.wl_lattice.specs.declared.FlatWord.{FlatWord}
use Rattle.wl_lattice.specs.declared.FlatWord.TheVariants as flat
use Rattle.wl_lattice.specs.declared.MaxWord.{MaxWord}
use Rattle.wl_lattice.specs.Words.{joined_flat, joined_max, max_word}
use Rattle.wl_lattice.specs.Maps.{joined_options}
use Rattle.wl_replica.specs.Keys.{Key, key_cmp}
use Rattle.wl_replica.specs.State.{State, state_of, states_joined, edge_at, silence_at}
use Rattle.wl_replica.proofs.States.{edge_maps, silence_maps}

flat_options : (a b : Option FlatWord) → unwrap_or (joined_options joined_flat a b) flat.Nothing ≡ joined_flat (unwrap_or a flat.Nothing) (unwrap_or b flat.Nothing)
flat_options None b = refl
flat_options (Some flat.Nothing) None = refl
flat_options (Some (flat.Value t)) None = refl
flat_options (Some flat.Clash) None = refl
flat_options (Some v) (Some w) = refl

max_options : (a b : Option MaxWord) → (unwrap_or (joined_options joined_max a b) (max_word 0)).word ≡ max (unwrap_or a (max_word 0)).word (unwrap_or b (max_word 0)).word
max_options None b = omega arith
max_options (Some v) None = omega arith
max_options (Some v) (Some w) = refl

pub edge_at-joined : (a b : State) (q : Key) → edge_at (states_joined a b) q ≡ joined_flat (edge_at a q) (edge_at b q)
edge_at-joined a b q = ap (λ o. unwrap_or o flat.Nothing) (edge_maps.key_by_key a.edges b.edges q) ∙ flat_options (get a.edges q) (get b.edges q)

pub silence_at-joined : (a b : State) (q : Key) → (silence_at (states_joined a b) q).word ≡ max (silence_at a q).word (silence_at b q).word
silence_at-joined a b q = ap (λ o. (unwrap_or o (max_word 0)).word) (silence_maps.key_by_key a.silences b.silences q) ∙ max_options (get a.silences q) (get b.silences q)

pub edge_at-none : (nodes : ℕ) (q : Key) → edge_at (state_of nodes []) q ≡ flat.Nothing
edge_at-none nodes q = ap (λ o. unwrap_or o flat.Nothing) (get-empty key_cmp q)

pub silence_at-none : (nodes : ℕ) (q : Key) → (silence_at (state_of nodes []) q).word ≡ 0
silence_at-none nodes q = ap (λ o. (unwrap_or o (max_word 0)).word) (get-empty key_cmp q)
