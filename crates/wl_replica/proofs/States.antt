-- The laws of states, from those of maps of words.
use Rattle.std.specs.Prelude.{◌≡◌, ℕ, List, [], ◌∷◌, ◌++◌, Option, None, Some, refl}
use Rattle.std.specs.List.{filter_map, cons_option}
use Rattle.std.specs.FinMap.{FinMap, empty}
use Rattle.std.proofs.Common.{sym, ap, ◌∙◌}
use Rattle.wl_lattice.specs.declared.FlatWord.{FlatWord}
use Rattle.wl_lattice.specs.declared.MaxWord.{MaxWord}
use Rattle.wl_lattice.specs.Words.{joined_flat, joined_max}
use Rattle.wl_lattice.specs.WordLaws.{flat_laws, max_laws}
use Rattle.wl_lattice.specs.Maps.{joined_maps, map_of, MapLaws}
use Rattle.wl_replica.proofs.SameWords.{same_words}
use Rattle.wl_lattice.specs.KeyByKey.{map_laws}
use Rattle.wl_record_core.specs.declared.record.Record.{Record}
use Rattle.wl_replica.specs.Keys.{Key, key_cmp}
use Rattle.wl_replica.proofs.KeyLaws.{key_cmp_total, exact_keys}
use Rattle.wl_replica.specs.State.{State, edge_word, silence_word, state_of, states_joined, state_with_records}
use Rattle.wl_replica.specs.Laws.{SameRecordsSameState, TakingIsJoining, IsJoining}

-- the maps of edges, and of silences, are joined key by key
pub edge_maps : MapLaws {K = Key} key_cmp joined_flat
edge_maps = map_laws flat_laws key_cmp_total exact_keys

pub silence_maps : MapLaws {K = Key} key_cmp joined_max
silence_maps = map_laws max_laws key_cmp_total exact_keys

-- states with the same parts are the same
pub same_parts : (m n : ℕ) (e f : FinMap key_cmp FlatWord) (s t : FinMap key_cmp MaxWord) → m ≡ n → e ≡ f → s ≡ t → ◌≡◌ {A = State} (record { nodes = m; edges = e; silences = s }) (record { nodes = n; edges = f; silences = t })
same_parts m n e f s t p q r = λ i. record { nodes = p i; edges = q i; silences = r i }

pub same_state : SameRecordsSameState
same_state nodes xs ys h =
    let edges = edge_maps.of_members (filter_map edge_word xs) (filter_map edge_word ys) (same_words edge_word xs ys h) in
    let silences = silence_maps.of_members (filter_map silence_word xs) (filter_map silence_word ys) (same_words silence_word xs ys h) in
    same_parts _ _ _ _ _ _ refl edges silences

-- a map with nothing joined in is as it was
nothing_joined : {W : Type 0} {join : W → W → W} (laws : MapLaws {K = Key} key_cmp join) (m : FinMap key_cmp W) → joined_maps join m empty ≡ m
nothing_joined laws m = laws.commutes m empty ∙ laws.neutral m

pub joining : IsJoining
joining = record {
  commutes = λ a b h. same_parts _ _ _ _ _ _ h (edge_maps.commutes a.edges b.edges) (silence_maps.commutes a.silences b.silences);
  associates = λ a b c. same_parts _ _ _ _ _ _ refl (edge_maps.associates a.edges b.edges c.edges) (silence_maps.associates a.silences b.silences c.silences);
  idempotent = λ a. same_parts _ _ _ _ _ _ refl (edge_maps.idempotent a.edges) (silence_maps.idempotent a.silences);
  neutral = λ a. same_parts _ _ _ _ _ _ refl (nothing_joined edge_maps a.edges) (nothing_joined silence_maps a.silences);
}

pub filter_map-append : {A B : Type 0} (f : A → Option B) (xs ys : List A) → filter_map f (xs ++ ys) ≡ filter_map f xs ++ filter_map f ys
filter_map-append f [] ys = refl
filter_map-append {A} {B} f (x ∷ xs) ys = ap (cons_option (f x)) (filter_map-append f xs ys) ∙ cons_append (f x) where
  cons_append : (g : Option B) → cons_option g (filter_map f xs ++ filter_map f ys) ≡ cons_option g (filter_map f xs) ++ filter_map f ys
  cons_append None = refl
  cons_append (Some y) = refl

-- the states of two lists, joined
pub state_of-append : (nodes : ℕ) (xs ys : List Record) → states_joined (state_of nodes xs) (state_of nodes ys) ≡ state_of nodes (xs ++ ys)
state_of-append nodes xs ys =
    let edges = sym (ap (map_of key_cmp joined_flat) (filter_map-append edge_word xs ys) ∙ edge_maps.of_both (filter_map edge_word xs) (filter_map edge_word ys)) in
    let silences = sym (ap (map_of key_cmp joined_max) (filter_map-append silence_word xs ys) ∙ silence_maps.of_both (filter_map silence_word xs) (filter_map silence_word ys)) in
    same_parts _ _ _ _ _ _ refl edges silences

pub taking : TakingIsJoining
taking = record {
  both = state_of-append;
  more = state_of-append;
  in_parts = λ s xs ys. joining.associates s (state_of s.nodes xs) (state_of s.nodes ys) ∙ ap (states_joined s) (state_of-append s.nodes xs ys);
}

-- what took some records, and takes more, took all of them
pub taken_after : (s t : State) (more : List Record) → t ≡ state_with_records s more → (rs : List Record) → s ≡ state_of s.nodes rs → t ≡ state_of s.nodes (rs ++ more)
taken_after s t more is rs before = is ∙ (ap (λ u. states_joined u (state_of s.nodes more)) before ∙ state_of-append s.nodes rs more)

pub joined_after : (s t u : State) → u ≡ states_joined s t → (mine theirs : List Record) → s ≡ state_of s.nodes mine → t ≡ state_of s.nodes theirs → u ≡ state_of s.nodes (mine ++ theirs)
joined_after s t u is mine theirs p q = is ∙ ((λ i. states_joined (p i) (q i)) ∙ state_of-append s.nodes mine theirs)
