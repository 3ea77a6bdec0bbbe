-- The slots of states.
use Rattle.std.proofs.Common.{◌≡◌, ℕ, ◌⊎◌, inl, inr, Bool, true, false, ◌&&◌, ◌==◌, List, [], ◌∷◌, Option, None, Some, unwrap_or, refl, sym, ◌∙◌, ap, arith, cond}
use Rattle.std.proofs.lemmas.Bool.{cases_eq, cond-true, cond-false, eq-eqb, ne_eqb}
use Rattle.std.proofs.lemmas.Bool.Decides.{nat_tests}
use Rattle.std.specs.Ordering.{eq_by_cmp}
use Rattle.std.specs.FinMap.{get}
use Rattle.std.specs.List.{cons_option}
use Rattle.wl_lattice.specs.declared.FlatWord.{FlatWord}
use Rattle.wl_lattice.specs.declared.FlatWord.TheVariants as flat
use Rattle.wl_lattice.specs.declared.MaxWord.{MaxWord}
use Rattle.wl_lattice.specs.Words.{joined_flat, joined_max, max_word}
use Rattle.wl_lattice.specs.Maps.{map_of}
use Rattle.wl_record_core.specs.declared.record.Record.{Record}
use Rattle.wl_record_core.specs.declared.record.Record.TheVariants.{Edge, Clash, Silence}
use Rattle.wl_replica.specs.Keys.{Key, key_cmp}
use Rattle.wl_replica.specs.State.{State, silence_word, states_joined, state_with_record, state_of, slots_of}
use Rattle.wl_replica.specs.Slots.{slots_joined, slots_only, slots_of_records}
use Rattle.wl_replica.specs.SlotsOf.{SlotsOfStates}
use Rattle.wl_replica.proofs.SlotBySlot.{edge_at-joined, silence_at-joined, edge_at-none, silence_at-none}
use Rattle.wl_replica.proofs.SlotsProofs.{slots_laws, slots_same}
use Rattle.wl_replica.proofs.States.{edge_maps, silence_maps, state_of-append}

pub slots_of-joined : (s t : State) → slots_of (states_joined s t) ≡ slots_joined (slots_of s) (slots_of t)
slots_of-joined s t = slots_same _ _ (λ i n. edge_at-joined s t (i, n)) (λ i n. silence_at-joined s t (i, n))

-- keys are equal where both numbers are
key_eq : (j n i s : ℕ) → eq_by_cmp key_cmp (j, n) (i, s) ≡ (j == i && (n == s))
key_eq j n i s = grind (arith, nat_tests)

one_edge : (k : Key) (v : FlatWord) (q : Key) → unwrap_or (get (map_of key_cmp joined_flat ((k, v) ∷ [])) q) flat.Nothing ≡ cond (eq_by_cmp key_cmp q k) v flat.Nothing
one_edge k v q = ap (λ o. unwrap_or o flat.Nothing) (edge_maps.of_entries ((k, v) ∷ []) q) ∙ pick (eq_by_cmp key_cmp q k)
  where
    pick : (b : Bool) → unwrap_or (cond b (Some v) None) flat.Nothing ≡ cond b v flat.Nothing
    pick true = refl
    pick false = refl

one_silence : (k : Key) (u : ℕ) (q : Key) → (unwrap_or (get (map_of key_cmp joined_max ((k, max_word u) ∷ [])) q) (max_word 0)).word ≡ cond (eq_by_cmp key_cmp q k) u 0
one_silence k u q = ap (λ o. (unwrap_or o (max_word 0)).word) (silence_maps.of_entries ((k, max_word u) ∷ []) q) ∙ pick (eq_by_cmp key_cmp q k)
  where
    pick : (b : Bool) → (unwrap_or (cond b (Some (max_word u)) None) (max_word 0)).word ≡ cond b u 0
    pick true = refl
    pick false = refl

-- one record
pub slots_of-one : (nodes : ℕ) (r : Record) → slots_of (state_of nodes (r ∷ [])) ≡ slots_only r
slots_of-one nodes (Edge i s t) = slots_same _ _ (λ j n. one_edge (i, s) (flat.Value t) (j, n) ∙ ap (λ b. cond b (flat.Value t) flat.Nothing) (key_eq j n i s)) (λ j n. silence_at-none nodes (j, n))
slots_of-one nodes (Clash i s) = slots_same _ _ (λ j n. one_edge (i, s) flat.Clash (j, n) ∙ ap (λ b. cond b flat.Clash flat.Nothing) (key_eq j n i s)) (λ j n. silence_at-none nodes (j, n))
slots_of-one nodes (Silence i c u) = slots_same _ _ (λ j n. edge_at-none nodes (j, n)) (λ j n. told j n (cases_eq u 0))
  where
    word : ℕ → ℕ → Option (Key × MaxWord) → ℕ
    word j n o = (unwrap_or (get (map_of key_cmp joined_max (cons_option o [])) (j, n)) (max_word 0)).word

    none : (b : Bool) → u ≡ 0 → ◌≡◌ {A = ℕ} 0 (cond b u 0)
    none true e = sym e
    none false e = refl

    told : (j n : ℕ) → (u ≡ 0) ⊎ (u ≡ 0 → ⊥) → word j n (silence_word (Silence i c u)) ≡ cond (j == i && (n == c)) u 0
    told j n (inl e) = ap (word j n) (cond-true (u == 0) None (Some ((i, c), max_word u)) (eq-eqb u 0 e)) ∙ (silence_at-none nodes (j, n) ∙ none (j == i && (n == c)) e)
    told j n (inr e) = ap (word j n) (cond-false (u == 0) None (Some ((i, c), max_word u)) (ne_eqb u 0 e)) ∙ (one_silence (i, c) u (j, n) ∙ ap (λ b. cond b u 0) (key_eq j n i c))

pub slots_of-taken : (s : State) (r : Record) → slots_of (state_with_record s r) ≡ slots_joined (slots_of s) (slots_only r)
slots_of-taken s r = slots_of-joined s (state_of s.nodes (r ∷ [])) ∙ ap (slots_joined (slots_of s)) (slots_of-one s.nodes r)

pub slots_of-records : (nodes : ℕ) (rs : List Record) → slots_of (state_of nodes rs) ≡ slots_of_records rs
slots_of-records nodes [] = slots_same _ _ (λ i n. edge_at-none nodes (i, n)) (λ i n. silence_at-none nodes (i, n))
slots_of-records nodes (r ∷ rs) =
    ap slots_of (sym (state_of-append nodes (r ∷ []) rs)) ∙ (slots_of-joined (state_of nodes (r ∷ [])) (state_of nodes rs)
    ∙ ((λ i. slots_joined (slots_of-one nodes r i) (slots_of-records nodes rs i)) ∙ slots_laws.commutes (slots_only r) (slots_of_records rs)))

pub slots_of_states : SlotsOfStates
slots_of_states = record { records = slots_of-records; both = slots_of-joined; one_more = slots_of-taken }
