-- How a state is coded, so that a proof can tell two states apart.
use Rattle.std.specs.Prelude.{◌≡◌, ℕ, Option, None, Some, refl}
use Rattle.std.specs.Coded.{Coded, code_by, coded×, coded_ℕ, coded_option}
use Rattle.std.specs.FinMap.{FinMap, code}
use Rattle.wl_lattice.specs.declared.FlatWord.{FlatWord}
use Rattle.wl_lattice.specs.declared.FlatWord.TheVariants as flat
use Rattle.wl_lattice.specs.declared.MaxWord.{MaxWord}
use Rattle.wl_lattice.specs.Words.{max_word}
use Rattle.wl_replica.specs.Keys.{Key, key_cmp}
use Rattle.wl_replica.specs.State.{State}

abbrev pub coded_key : Coded Key
coded_key = coded× coded_ℕ coded_ℕ

abbrev pub flat_out : FlatWord → Option (Option ℕ)
flat_out flat.Nothing = None
flat_out (flat.Value n) = Some (Some n)
flat_out flat.Clash = Some None

abbrev pub flat_back : Option (Option ℕ) → FlatWord
flat_back None = flat.Nothing
flat_back (Some (Some n)) = flat.Value n
flat_back (Some None) = flat.Clash

pub flat_round : (w : FlatWord) → flat_back (flat_out w) ≡ w
flat_round flat.Nothing = refl
flat_round (flat.Value n) = refl
flat_round flat.Clash = refl

abbrev pub coded_flat : Coded FlatWord
coded_flat = code_by (Option (Option ℕ)) (coded_option (coded_option coded_ℕ)) flat_out flat_back flat_round

abbrev pub coded_max : Coded MaxWord
coded_max = code_by ℕ coded_ℕ (λ w. w.word) max_word (λ _. refl)

abbrev pub Parts : Type 0
Parts = ℕ × (FinMap key_cmp FlatWord × FinMap key_cmp MaxWord)

abbrev pub coded_state : Coded State
coded_state = code_by Parts (coded× coded_ℕ (coded× (code coded_key coded_flat) (code coded_key coded_max)))
    (λ s. (s.nodes, (s.edges, s.silences))) (λ p. record { nodes = p.0; edges = p.1.0; silences = p.1.1 }) (λ _. refl)
