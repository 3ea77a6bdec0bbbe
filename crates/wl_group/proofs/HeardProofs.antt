-- What a place finds: how long a node's level stays, what all nodes make of the line, and the disturbances.
use Rattle.std.proofs.Common.{◌≡◌, ℕ, zero, suc, ◌+◌, ◌-◌, ◌<◌, ◌≤◌, Bool, true, false, ◌&&◌, ◌||◌, ◌⊎◌, inl, inr, List, [], length, replicate, nat_le, refl, sym, ◌∙◌, ap, subst, arith}
use Rattle.std.specs.Prelude.{slice_index_or, slice_set}
use Rattle.std.proofs.Math.ListN.{length-set}
use Rattle.std.proofs.lemmas.Bool.{cases_lt, cases_eq, le-leb, lt-leb, and_parts, leb-true}
use Rattle.std.proofs.lemmas.List.{get_or_past, get_or-set_same, get_or-set_other, length-replicate}
use Rattle.wl_lattice.specs.declared.FlatWord.{FlatWord}
use Rattle.wl_topology.specs.Driven.{driven, DrivenLaws}
use Rattle.wl_topology.specs.Limits.{most_places}
use Rattle.wl_record_core.specs.Truth.{odd}
use Rattle.wl_replica.specs.Slots.{Contents, HoldsTrue}
use Rattle.wl_replica.specs.Known.{tick_in, after_edges, run_length, horizon}
use Rattle.wl_replica.specs.KnownLaws.{KnownLaws}
use Rattle.wl_plan.specs.declared.plan.Plan.{Plan}
use Rattle.wl_plan.specs.Line.{Line}
use Rattle.wl_plan.specs.Simulation.{level, changes}
use Rattle.wl_plan.specs.Sound.{IsSound}
use Rattle.wl_pulse.specs.declared.pulse.Pulse.{Pulse}
use Rattle.wl_group.specs.GroupLaws.{WaveIsLevel}
use Rattle.wl_group.specs.declared.heard.Source.{Source}
use Rattle.wl_group.specs.Heard.{AreNotAfter, HasComeBy, IsHeardOf, IsDisturbed, IsStretch, no_stretch, no_source, AreStretches, AreDisturbed, AreHeardOf, ArePlaceSources}

-- ---- one node

-- until the next change, a node's level is that after as many changes
pub level_stays : KnownLaws → WaveIsLevel → (l : Line) → IsSound l → (w : Contents) → HoldsTrue l.nodes (changes l) w → (i : ℕ) → i < l.nodes
    → (s t count : ℕ) → AreNotAfter w i (run_length w i) s count → s ≤ t → t < horizon w i
    → (count < run_length w i → t < tick_in (w.edge i count)) → level l i t ≡ odd count
level_stays knows agree l sound w truth i b s t count are from early before =
    sym (agree l sound w truth i t b early)
    ∙ knows.wave_counted w i t count are.few early (λ some. (let c = are.come some in omega arith)) before

-- all had come where the last one had
pub all_come : (w : Contents) (i m t : ℕ) → (0 < m → tick_in (w.edge i (m - 1)) ≤ t) → AreNotAfter w i m t m
all_come w i m t come = record { few = omega arith; come = come; others = λ some. absurd (omega arith) }

-- a delay later it is heard
pub heard_after : (delay t : ℕ) (b wave : Bool) → delay ≤ t → b ≡ wave → (nat_le delay t && b) ≡ wave
heard_after delay t b wave h e = ap (λ v. v && b) (le-leb delay t h) ∙ e

-- the last of some changes, where there is one
last_edge : (e : ℕ → FlatWord) (m : ℕ) → 0 < m → after_edges e m ≡ suc (tick_in (e (m - 1)))
last_edge e zero some = absurd (omega arith)
last_edge e (suc m) some =
    let same : m ≡ suc m - 1 = omega arith in
    ap (λ k. suc (tick_in (e k))) same

no_edge : (e : ℕ → FlatWord) (m : ℕ) → after_edges e m ≡ 0 → m ≡ 0
no_edge e zero none = refl
no_edge e (suc m) none = absurd (omega (arith, none))

-- after the last change that is known has come, the level stays as far as it is known
pub heard_to_the_last : KnownLaws → WaveIsLevel → (l : Line) → IsSound l → (w : Contents) → HoldsTrue l.nodes (changes l) w → (i j : ℕ) → i < l.nodes
    → (t u : ℕ) → HasComeBy l w i j t → t ≤ u → u < horizon w i + l.delay i j
    → (nat_le (l.delay i j) u && level l i (u - l.delay i j)) ≡ odd (run_length w i)
heard_to_the_last knows agree l sound w truth i j b t u come from until = elim (cases_lt u (l.delay i j)) [
  | inl before ↦
      let none = no_edge (w.edge i) (run_length w i) (omega (arith, come, from, before)) in
      ap (λ v. v && level l i (u - l.delay i j)) (lt-leb (l.delay i j) u before) ∙ ap odd (sym none)
  | inr after ↦ heard_after (l.delay i j) u (level l i (u - l.delay i j)) (odd (run_length w i)) after
      (level_stays knows agree l sound w truth i b (u - l.delay i j) (u - l.delay i j) (run_length w i)
      (all_come w i (run_length w i) (u - l.delay i j) (λ some. let last = last_edge (w.edge i) (run_length w i) some in omega (arith, last, come, from, after)))
      (omega arith) (omega (arith, until, after)) (λ past. absurd (omega (arith, past))))
]

-- ---- all nodes

-- one node that drove dominant is enough
pub driven_by_one : DrivenLaws → (n : ℕ) (delay : ℕ → ℕ → ℕ) (drove : ℕ → ℕ → Bool) (i j t : ℕ) → i < n
    → (nat_le (delay i j) t && drove i (t - delay i j)) ≡ true → driven n delay drove j t ≡ true
driven_by_one laws n delay drove i j t b h =
    let p = and_parts (nat_le (delay i j) t) (drove i (t - delay i j)) h in
    laws.dominant_from n delay drove i j t b (leb-true (delay i j) t p.0) p.1

-- ---- nodes that are asked round and round

-- node i is the k-th after the first of n
abbrev pub Turn : ℕ → ℕ → ℕ → ℕ → Type 0
Turn first n k i = (i ≡ first + k) ⊎ (i + n ≡ first + k)

-- it is one of the k nodes from the first on
abbrev pub IsAsked : ℕ → ℕ → ℕ → ℕ → Type 0
IsAsked first n k i = (first ≤ i × i < first + k) ⊎ (i + n < first + k)

pub none_asked_yet : (first n i : ℕ) → first < n → IsAsked first n 0 i → ⊥
none_asked_yet first n i b (inl p) = let a = p.0 in let h = p.1 in omega arith
none_asked_yet first n i b (inr h) = omega arith

pub all_asked : (first n k i : ℕ) → i < n → n ≤ k → IsAsked first n k i
all_asked first n k i b all = elim (cases_lt i first) [
  | inl before ↦ inr (omega arith)
  | inr after ↦ inl (after, omega arith)
]

pub next_inside : (n i next : ℕ) → i < n → (i + 1 < n → next ≡ i + 1) → (n ≤ i + 1 → next ≡ 0) → next < n
next_inside n i next b on round = elim (cases_lt (i + 1) n) [
  | inl more ↦ let e = on more in omega arith
  | inr last ↦ let e = round last in omega arith
]

pub next_turn : (first n k i next : ℕ) → first < n → k < n → i < n → Turn first n k i → (i + 1 < n → next ≡ i + 1) → (n ≤ i + 1 → next ≡ 0) → Turn first n (k + 1) next
next_turn first n k i next b few inside turn on round = elim (cases_lt (i + 1) n) [
  | inl more ↦ let e = on more in elim turn [
    | inl straight ↦ inl (omega arith)
    | inr turned ↦ inr (omega arith)
  ]
  | inr last ↦ let e = round last in elim turn [
    | inl straight ↦ inr (omega arith)
    | inr turned ↦ absurd (omega arith)
  ]
]

-- one more was asked: that one, or one before
pub asked_or_now : (first n k i m : ℕ) → i < n → m < n → Turn first n k i → IsAsked first n (k + 1) m → (m ≡ i) ⊎ IsAsked first n k m
asked_or_now first n k i m inside b turn (inl p) = let from = p.0 in let until = p.1 in elim (cases_eq m i) [
  | inl same ↦ inl same
  | inr other ↦ elim turn [
    | inl straight ↦ inr (inl (from, omega arith))
    | inr turned ↦ inr (inl (from, omega arith))
  ]
]
asked_or_now first n k i m inside b turn (inr until) = elim (cases_eq m i) [
  | inl same ↦ inl same
  | inr other ↦ elim turn [
    | inl straight ↦ absurd (omega arith)
    | inr turned ↦ inr (inr (omega arith))
  ]
]

-- ---- disturbances

-- without a disturbance the line is as the nodes make it
pub without_disturbance : (b d v : Bool) → d ≡ false → b ≡ v → (b || d) ≡ v
without_disturbance true d v none is = is
without_disturbance false d v none is = none ∙ is

-- ---- what a group keeps of each place

nothing_at : {A : Type 0} (none : A) (n i : ℕ) → slice_index_or (replicate n none) i none ≡ none
nothing_at none zero i = refl
nothing_at none (suc n) zero = refl
nothing_at none (suc n) (suc i) = nothing_at none n i

empty_stretch : (l : Line) (j : ℕ) → IsStretch l j no_stretch
empty_stretch l j t from until = absurd (omega arith)

empty_disturbed : (plan : Plan) (j : ℕ) → IsDisturbed plan j no_stretch
empty_disturbed plan j t from until = absurd (omega arith)

empty_source : (l : Line) (j i : ℕ) → IsHeardOf l i j no_source.heard
empty_source l j i t from until = absurd (omega arith)

pub nothing_heard : (l : Line) (n : ℕ) → AreStretches l (replicate n no_stretch)
nothing_heard l n j = subst (IsStretch l j) (sym (nothing_at no_stretch n j)) (empty_stretch l j)

pub nothing_disturbed : (plan : Plan) (n : ℕ) → AreDisturbed plan (replicate n no_stretch)
nothing_disturbed plan n j = subst (IsDisturbed plan j) (sym (nothing_at no_stretch n j)) (empty_disturbed plan j)

-- with another value at one place
one_set : {A : Type 0} (P : ℕ → A → Type 0) (none : A) → ((j : ℕ) → P j none) → (xs : List A) (i : ℕ) (new : A)
    → ((j : ℕ) → P j (slice_index_or xs j none)) → P i new → (j : ℕ) → P j (slice_index_or (slice_set xs i new) j none)
one_set P none empty xs i new are is j = elim (cases_eq j i) [
  | inl same ↦ subst (λ n. P n (slice_index_or (slice_set xs i new) n none)) (sym same) (elim (cases_lt i (length xs)) [
    | inl there ↦ subst (P i) (sym (get_or-set_same xs i new none there)) is
    | inr past ↦
        let e = length-set xs i new in
        subst (P i) (sym (get_or_past (slice_set xs i new) i none (omega arith))) (empty i)
  ])
  | inr other ↦ subst (P j) (sym (get_or-set_other xs i j new none other)) (are j)
]

pub one_more_heard : (l : Line) (heard : List Pulse) (i : ℕ) (new : Pulse) → AreStretches l heard → IsStretch l i new → AreStretches l (slice_set heard i new)
one_more_heard l heard i new are is = one_set (IsStretch l) no_stretch (empty_stretch l) heard i new are is

pub one_more_disturbed : (plan : Plan) (disturbances : List Pulse) (i : ℕ) (new : Pulse) → AreDisturbed plan disturbances → IsDisturbed plan i new → AreDisturbed plan (slice_set disturbances i new)
one_more_disturbed plan disturbances i new are is = one_set (IsDisturbed plan) no_stretch (empty_disturbed plan) disturbances i new are is

-- what a place keeps of the nodes, with one that was asked
pub one_more_source : (l : Line) (j : ℕ) (sources : List Source) (i : ℕ) (new : Source) → AreHeardOf l j sources → IsHeardOf l i j new.heard → AreHeardOf l j (slice_set sources i new)
one_more_source l j sources i new are is = one_set (λ k s. IsHeardOf l k j s.heard) no_source (empty_source l j) sources i new are is

no_sources : (l : Line) (j : ℕ) → AreHeardOf l j []
no_sources l j i = empty_source l j i

-- no place has asked a node
none_asked : (l : Line) (j n m i : ℕ) → AreHeardOf l j (slice_index_or (replicate n (replicate m no_source)) i [])
none_asked l j zero m i = no_sources l j
none_asked l j (suc n) m zero = λ k. subst (λ (s : Source). IsHeardOf l k j s.heard) (sym (nothing_at no_source m k)) (empty_source l j k)
none_asked l j (suc n) m (suc i) = none_asked l j n m i

pub nothing_asked : (l : Line) (m : ℕ) → ArePlaceSources l (replicate most_places (replicate m no_source))
nothing_asked l m = record { count = length-replicate most_places (replicate m no_source); each = λ j. none_asked l j most_places m j }

-- with what one place keeps now
pub one_place_more : (l : Line) (places : List (List Source)) (j : ℕ) (new : List Source) → ArePlaceSources l places → AreHeardOf l j new → ArePlaceSources l (slice_set places j new)
one_place_more l places j new are is = record {
  count = length-set places j new ∙ are.count;
  each = one_set (AreHeardOf l) [] (no_sources l) places j new are.each is;
}
