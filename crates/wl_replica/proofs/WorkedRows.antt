-- The definitions at worked examples.
use Rattle.std.specs.Prelude.{◌≡◌, ℕ, List, [], ◌∷◌, refl}
use Rattle.std.specs.List.{filter_map, flat_map, range_with_len}
use Rattle.std.proofs.Common.{◌∙◌}
use Rattle.wl_lattice.specs.Words.{joined_flat, joined_max}
use Rattle.wl_record_core.specs.declared.record.Record.{Record}
use Rattle.wl_record_core.specs.declared.record.Record.TheVariants.{Edge, Clash, Silence}
use Rattle.wl_replica.specs.Keys.{key_cmp}
use Rattle.wl_replica.proofs.EntryLemmas.{listed, entries-map_of}
use Rattle.wl_replica.proofs.KeyLaws.{key_cmp_total}
use Rattle.wl_replica.specs.State.{edge_word, silence_word, state_of}
use Rattle.wl_replica.specs.Canonical.{canonical, records_of_node}

listing : ℕ → List Record → List Record
listing nodes rs = flat_map (records_of_node (listed key_cmp joined_flat (filter_map edge_word rs)) (listed key_cmp joined_max (filter_map silence_word rs))) (range_with_len 0 nodes)

canonical-state_of : (nodes : ℕ) (rs : List Record) → canonical (state_of nodes rs) ≡ listing nodes rs
unfolding listing
canonical-state_of nodes rs = λ i. flat_map (records_of_node (entries-map_of key_cmp_total joined_flat (filter_map edge_word rs) i) (entries-map_of key_cmp_total joined_max (filter_map silence_word rs) i)) (range_with_len 0 nodes)

repeated : canonical (state_of 16 (Edge 0 0 100 ∷ Edge 0 0 100 ∷ [])) ≡ Edge 0 0 100 ∷ []
unfolding listing
repeated = canonical-state_of 16 (Edge 0 0 100 ∷ Edge 0 0 100 ∷ []) ∙ refl

bottom_silence : canonical (state_of 16 (Silence 0 0 0 ∷ [])) ≡ []
unfolding listing
bottom_silence = canonical-state_of 16 (Silence 0 0 0 ∷ []) ∙ refl

two_ticks : canonical (state_of 16 (Edge 0 0 100 ∷ Edge 0 0 101 ∷ [])) ≡ Clash 0 0 ∷ []
unfolding listing
two_ticks = canonical-state_of 16 (Edge 0 0 100 ∷ Edge 0 0 101 ∷ []) ∙ refl

two_ticks_turned : canonical (state_of 16 (Edge 0 0 101 ∷ Edge 0 0 100 ∷ [])) ≡ Clash 0 0 ∷ []
unfolding listing
two_ticks_turned = canonical-state_of 16 (Edge 0 0 101 ∷ Edge 0 0 100 ∷ []) ∙ refl

clash_first : canonical (state_of 16 (Clash 0 0 ∷ Edge 0 0 100 ∷ [])) ≡ Clash 0 0 ∷ []
unfolding listing
clash_first = canonical-state_of 16 (Clash 0 0 ∷ Edge 0 0 100 ∷ []) ∙ refl

five_records : canonical (state_of 16 (Silence 1 0 9 ∷ Edge 0 1 20 ∷ Silence 0 0 3 ∷ Edge 0 0 10 ∷ Silence 0 0 5 ∷ [])) ≡ Edge 0 0 10 ∷ Edge 0 1 20 ∷ Silence 0 0 5 ∷ Silence 1 0 9 ∷ []
unfolding listing
five_records = canonical-state_of 16 (Silence 1 0 9 ∷ Edge 0 1 20 ∷ Silence 0 0 3 ∷ Edge 0 0 10 ∷ Silence 0 0 5 ∷ []) ∙ refl
