-- Below its place horizon a member reads the line as it is, what it emits is true, and it stays where the simulation has it.
use Rattle.std.proofs.Common.{◌≡◌, ℕ, zero, suc, ◌+◌, ◌-◌, ◌<◌, ◌≤◌, Bool, true, false, inl, inr, List, [], ◌∷◌, ◌++◌, length, refl, sym, ◌∙◌, ap, subst, arith, nat_lt, length-append, add-one, Some, slice_get, if◌then◌else◌}
use Rattle.std.specs.Prelude.{Contains}
use Rattle.std.proofs.lemmas.Bool.{cases_lt, cases_eq, cases_Bool, cond-true, cond-false, and_parts, ltb-true}
use Rattle.std.proofs.lemmas.List.Elements.{Contains-append_left, Contains-append_right}
use Rattle.wl_level.specs.declared.Level.{Level}
use Rattle.wl_level.specs.Levels.{level_of}
use Rattle.wl_record_core.specs.declared.record.Record.{Record}
use Rattle.wl_record_core.specs.declared.record.Record.TheVariants.{Edge, Silence}
use Rattle.wl_record_core.specs.Limits.{most_edges}
use Rattle.wl_record_core.specs.Truth.{count_below, IsTrueOf, AreTrueOf}
use Rattle.wl_record_core.specs.TableLaws.{TableLaws}
use Rattle.wl_replica.specs.Slots.{Contents, slots_joined, slots_only, slots_of_records, HoldsTrue, IsBelow}
use Rattle.wl_replica.specs.Known.{is_tick, horizon, place_horizon, wave_at}
use Rattle.wl_replica.specs.KnownLaws.{SlotsLaws, KnownLaws}
use Rattle.wl_plan.specs.Limits.{most_quiet}
use Rattle.wl_plan.specs.Line.{Line, found, reach}
use Rattle.wl_plan.specs.Simulation.{history, level, seen, differs, changes, AreInside}
use Rattle.wl_plan.specs.Sound.{IsSound}
use Rattle.wl_plan.specs.SimulationLaws.{SimulationLaws}
use Rattle.wl_group.specs.Member.{Member, fresh, next_tick, can_run, turns, member_after_quantum, emission, level_read}
use Rattle.wl_group.specs.Party.{Party, slots, initial_silences, initial_party, party_with}
use Rattle.wl_group.specs.Advanced.{emission_of, run_next, Steps, none, more}
use Rattle.wl_group.specs.Holds.{IsMember, IsGroup, IsTold}
use Rattle.wl_group.specs.GroupLaws.{WaveIsLevel, GroupLaws}
use Rattle.wl_group.proofs.Facts.{put_at, true_append}

-- an entry that is there has a place of the list
get_below : (xs : List ℕ) (s t : ℕ) → slice_get xs s ≡ Some t → s < length xs
get_below [] s t h = cc
get_below (x ∷ xs) zero t h = omega arith
get_below (x ∷ xs) (suc s) t h = (let r = get_below xs s t h in omega arith)

-- an element of a list, by its place
first_there : (r : Record) (rs : List Record) → Contains (r ∷ rs) r
first_there r rs = (0, omega arith, refl)

later_there : (r q : Record) (rs : List Record) → Contains rs r → Contains (q ∷ rs) r
later_there r q rs h = (suc h.0, (let b = h.1 in omega arith), h.2)

-- each node that passes has its first silence there
first_in : (l : Line) (test : ℕ → Bool) (n i : ℕ) → i < n → test i ≡ true → Contains (initial_silences l test n) (Silence i 0 (reach l i []))
first_in l test zero i h t = absurd (omega arith)
first_in l test (suc n) i h t = elim (cases_eq i n) [
  | inl e ↦ Contains-append_right (initial_silences l test n) _ _ (subst (λ v. Contains (if test v then Silence v 0 (reach l v []) ∷ [] else []) (Silence i 0 (reach l i []))) e
      (subst (λ rs. Contains rs (Silence i 0 (reach l i []))) (sym (cond-true (test i) (Silence i 0 (reach l i []) ∷ []) [] t)) (first_there _ [])))
  | inr o ↦ Contains-append_left (initial_silences l test n) _ _ (first_in l test n i (omega arith) t)
]

module _ (tables : TableLaws) (joins : SlotsLaws) (knows : KnownLaws) (sims : SimulationLaws) where
  wave_is_level : WaveIsLevel
  wave_is_level l s w h i t b p = knows.wave_agrees l.nodes (changes l) w i t (sims.changes_increase l i) h p ∙ sym (sims.level_odd l i t s.causal b)

  -- below the place horizon the line is read as it is
  found_is : (l : Line) → IsSound l → (w : Contents) (j t : ℕ) → HoldsTrue l.nodes (changes l) w → t < place_horizon l.nodes l.delay w j → found l (wave_at w) j t ≡ found l (level l) j t
  found_is l s w j t h p =
      sims.found_same l (wave_at w) (level l) j t (λ i c early. let q = knows.place_known l.nodes l.delay w i j t c p in wave_is_level l s w h i (t - l.delay i j) c (omega arith))

  -- no place horizon falls
  pub place_keeps : (l : Line) (a b : Contents) (j : ℕ) → 0 < l.nodes → HoldsTrue l.nodes (changes l) a → HoldsTrue l.nodes (changes l) b → IsBelow a b → (t : ℕ)
      → t < place_horizon l.nodes l.delay a j → t < place_horizon l.nodes l.delay b j
  place_keeps l a b j p ha hb up t h = knows.place_above l.nodes l.delay b j t p (λ i c.
      let q = knows.place_known l.nodes l.delay a i j t c h in
      let r = knows.horizon_keeps l.nodes (changes l) a b i (sims.changes_increase l i) ha hb up in
      omega arith)

  -- a member stays one where more that is true is held
  pub member_keeps : (l : Line) (i : ℕ) (m : Member) (a b : Contents) → i < l.nodes → HoldsTrue l.nodes (changes l) a → HoldsTrue l.nodes (changes l) b → IsBelow a b → IsMember l i m a → IsMember l i m b
  member_keeps l i m a b p ha hb up h = record {
    state = h.state;
    inside = h.inside;
    read = λ k c. place_keeps l a b i (omega arith) ha hb up _ (h.read k c);
    count = h.count;
    known = (let r = knows.horizon_keeps l.nodes (changes l) a b i (sims.changes_increase l i) ha hb up in let q = h.known in omega arith);
  }

  pub group_joins : (l : Line) (belongs : ℕ → Bool) (members : ℕ → Member) (w x : Contents) → IsGroup l belongs members w → HoldsTrue l.nodes (changes l) x → IsGroup l belongs members (slots_joined w x)
  group_joins l belongs members w x g h =
      let t = knows.true_joined l.nodes (changes l) w x g.truth h in
      record { truth = t; each = λ i b m. member_keeps l i (members i) w (slots_joined w x) b g.truth t (joins.above_first w x) (g.each i b m) }

  taking_holds : (l : Line) → IsSound l → (belongs : ℕ → Bool) (rs : List Record) (p : Party) → IsGroup l belongs p.members (slots p)
      → HoldsTrue l.nodes (changes l) (slots_of_records rs) → IsGroup l belongs (party_with rs p).members (slots (party_with rs p))
  taking_holds l s belongs rs p v t = subst (IsGroup l belongs p.members) (sym (joins.of_two_lists rs p.taken)) (group_joins l belongs p.members (slots p) (slots_of_records rs) v t)

  -- no more changes lie below a tick than there are
  pub count_most : (l : Line) → IsSound l → (i u : ℕ) → i < l.nodes → count_below u (changes l i) ≤ most_edges
  count_most l s i u b = (let f = s.few_changes i b in elim (cases_lt u l.stop) [
    | inl early ↦ (let a = tables.count_less u l.stop (changes l i) (omega arith) in let e = sims.all_at_end l i l.stop s.causal b (omega arith) in omega arith)
    | inr late ↦ (let e = sims.all_at_end l i u s.causal b late in omega arith)
  ])

  -- a node's reach is not before its next quantum, and within what records name
  reach_late : (l : Line) → IsSound l → (i : ℕ) (saw : List Level) → i < l.nodes → l.instant i (length saw) ≤ reach l i saw
  reach_late l s i saw b = sims.clock_later l i (length saw) (length saw + l.quiet i saw) s.causal b (omega arith)

  reach_most : (l : Line) → IsSound l → (i k : ℕ) (saw : List Level) → i < l.nodes → length saw ≡ k → reach l i saw ≤ l.instant i (k + most_quiet)
  reach_most l s i k saw b e = (let q = s.little_quiet i saw b in sims.clock_later l i (length saw + l.quiet i saw) (k + most_quiet) s.causal b (omega arith))

  -- a node's first silence is true
  first_true : (l : Line) → IsSound l → (i : ℕ) → i < l.nodes → IsTrueOf l.nodes (changes l) (Silence i 0 (reach l i []))
  unfolding seen
  first_true l s i b = (
    b,
    sims.reach_count l i 0 s.causal b (λ j c. absurd (omega arith)) ∙ sims.none_at_first l i s.causal b,
    ((let f = s.few_nodes in omega arith), omega arith, (let r = reach_most l s i 0 [] b refl in let f = s.first_fits i b in let e : l.instant i (0 + most_quiet) ≡ l.instant i most_quiet = ap (l.instant i) (omega arith) in omega arith)),
  )

  firsts_true : (l : Line) → IsSound l → (test : ℕ → Bool) (n : ℕ) → n ≤ l.nodes → AreTrueOf l.nodes (changes l) (initial_silences l test n)
  firsts_true l s test zero h = tt
  firsts_true l s test (suc n) h =
      true_append l.nodes (changes l) (initial_silences l test n) _ (firsts_true l s test n (omega arith))
      (elim (cases_Bool (test n)) [
        | inl y ↦ subst (AreTrueOf l.nodes (changes l)) (sym (cond-true (test n) (Silence n 0 (reach l n []) ∷ []) [] y)) (first_true l s n (omega arith), tt)
        | inr x ↦ subst (AreTrueOf l.nodes (changes l)) (sym (cond-false (test n) (Silence n 0 (reach l n []) ∷ []) [] x)) tt
      ])

  begun_holds : (l : Line) → IsSound l → (belongs : ℕ → Bool) → IsGroup l belongs (initial_party l belongs).members (slots (initial_party l belongs))
  unfolding seen
  begun_holds l s belongs =
      let rs = initial_silences l belongs l.nodes in
      let t = knows.true_records l.nodes (changes l) rs (firsts_true l s belongs l.nodes (omega arith)) in
      record {
        truth = t;
        each = λ i b m.
            record {
              state = refl;
              inside = λ k c. absurd (omega arith);
              read = λ k c. absurd (omega arith);
              count = sym (sims.none_at_first l i s.causal b);
              known = knows.horizon_reached l.nodes (changes l) (slots_of_records rs) i 0 (l.instant i 0) (sims.changes_increase l i) t (omega arith) (λ n c. absurd (omega arith))
                  (let e = knows.silence_held (slots_of_records rs) i 0 (reach l i []) (joins.of_a_record (Silence i 0 (reach l i [])) rs (first_in l belongs l.nodes i b m)) in let f = reach_late l s i [] b in omega arith);
            };
      }

  member_history : (l : Line) → IsSound l → (i : ℕ) (m : Member) (w : Contents) → i < l.nodes → IsMember l i m w → m.saw ≡ (history l (next_tick l i m)).seen i
  member_history l s i m w b h =
      h.state ∙ (ap (seen l i) (sym (sims.ran_now l i (length m.saw) s.causal b h.inside)) ∙ sym (sims.history_seen l i (next_tick l i m) s.causal b))

  member_ended : (l : Line) → IsSound l → (i : ℕ) (m : Member) (w : Contents) → i < l.nodes → IsMember l i m w → l.stop ≤ next_tick l i m
      → (m.saw ≡ (history l l.stop).seen i) × (m.changed ≡ length (changes l i))
  member_ended l s i m w b h late = (
    h.state ∙ (ap (seen l i) (sym (sims.ran_at_end l i (length m.saw) s.causal b h.inside late)) ∙ sym (sims.history_seen l i l.stop s.causal b)),
    h.count ∙ sims.all_at_end l i (next_tick l i m) s.causal b late,
  )

  -- What the next quantum of a member does, where it can run.
  module _ (l : Line) (s : IsSound l) (w : Contents) (truth : HoldsTrue l.nodes (changes l) w) (i : ℕ) (m : Member) (b : i < l.nodes) (can : can_run l i m w ≡ true) where
    early : next_tick l i m < l.stop
    early = ltb-true (next_tick l i m) l.stop (and_parts (nat_lt (next_tick l i m) l.stop) (nat_lt (next_tick l i m) (place_horizon l.nodes l.delay w i)) can).0

    place_is_known : next_tick l i m < place_horizon l.nodes l.delay w i
    place_is_known = ltb-true (next_tick l i m) (place_horizon l.nodes l.delay w i) (and_parts (nat_lt (next_tick l i m) l.stop) (nat_lt (next_tick l i m) (place_horizon l.nodes l.delay w i)) can).1

    read_is_found : level_read l i m w ≡ level_of (found l (level l) i (next_tick l i m))
    read_is_found = ap level_of (found_is l s w i (next_tick l i m) truth place_is_known)

    longer : length (member_after_quantum l i m (level_read l i m w)).saw ≡ suc (length m.saw)
    longer = length-append m.saw (level_read l i m w ∷ []) ∙ add-one (length m.saw)

    -- the tick after
    due_next : next_tick l i (member_after_quantum l i m (level_read l i m w)) ≡ l.instant i (suc (length m.saw))
    due_next = ap (l.instant i) longer

    module _ (h : IsMember l i m w) where
      state_next : (member_after_quantum l i m (level_read l i m w)).saw ≡ seen l i (suc (length m.saw))
      unfolding seen
      state_next = ap (λ v. v ++ level_read l i m w ∷ []) h.state ∙ ap (λ v. seen l i (length m.saw) ++ v ∷ []) read_is_found

      inside_next : AreInside l i (suc (length m.saw))
      inside_next = λ k c. elim (cases_eq k (length m.saw)) [
        | inl e ↦ subst (λ v. l.instant i v < l.stop) (sym e) early
        | inr o ↦ h.inside k (omega arith)
      ]

      turns_is : turns l i m (level_read l i m w) ≡ differs (l.drives i (seen l i (suc (length m.saw)))) (l.drives i (seen l i (length m.saw)))
      turns_is =
          ap (λ v. differs (l.drives i v) (l.drives i m.saw)) state_next
          ∙ ap (λ v. differs (l.drives i (seen l i (suc (length m.saw)))) (l.drives i v)) h.state

      changed_yes : turns l i m (level_read l i m w) ≡ true → (member_after_quantum l i m (level_read l i m w)).changed ≡ suc m.changed
      changed_yes y = cond-true (turns l i m (level_read l i m w)) _ _ y

      changed_no : turns l i m (level_read l i m w) ≡ false → (member_after_quantum l i m (level_read l i m w)).changed ≡ m.changed
      changed_no n = cond-false (turns l i m (level_read l i m w)) _ _ n

      changed_next : (member_after_quantum l i m (level_read l i m w)).changed ≡ count_below (l.instant i (suc (length m.saw))) (changes l i)
      changed_next = elim (cases_Bool (turns l i m (level_read l i m w))) [
        | inl y ↦ changed_yes y ∙ (ap suc h.count ∙ sym (sims.turn l i (length m.saw) s.causal b inside_next (sym turns_is ∙ y)).1)
        | inr n ↦ changed_no n ∙ (h.count ∙ sym (sims.no_turn l i (length m.saw) s.causal b inside_next (sym turns_is ∙ n)))
      ]

      changed_few : (member_after_quantum l i m (level_read l i m w)).changed ≤ most_edges
      changed_few = (let e = changed_next in let c = count_most l s i (l.instant i (suc (length m.saw))) b in omega arith)

      silence_true : IsTrueOf l.nodes (changes l) (Silence i (member_after_quantum l i m (level_read l i m w)).changed (reach l i (member_after_quantum l i m (level_read l i m w)).saw))
      silence_true = (
        b,
        ap (λ v. count_below (reach l i v) (changes l i)) state_next ∙ (sims.reach_count l i (suc (length m.saw)) s.causal b inside_next ∙ sym changed_next),
        ((let f = s.few_nodes in omega arith), changed_few, (let r = reach_most l s i (suc (length m.saw)) (member_after_quantum l i m (level_read l i m w)).saw b longer in let f = s.next_fits i (length m.saw) b early in omega arith)),
      )

      edge_entry : turns l i m (level_read l i m w) ≡ true → slice_get (changes l i) m.changed ≡ Some (next_tick l i m)
      edge_entry y = ap (slice_get (changes l i)) h.count ∙ (sims.turn l i (length m.saw) s.causal b inside_next (sym turns_is ∙ y)).0

      edge_true : turns l i m (level_read l i m w) ≡ true → IsTrueOf l.nodes (changes l) (Edge i m.changed (next_tick l i m))
      edge_true y = (
        b,
        edge_entry y,
        ((let f = s.few_nodes in omega arith), (let g = get_below (changes l i) m.changed (next_tick l i m) (edge_entry y) in let f = s.few_changes i b in omega arith), (let e = early in let f = s.end_fits in omega arith)),
      )

      -- what it emits, by whether its drive changed
      emission_yes : turns l i m (level_read l i m w) ≡ true → emission l i m (level_read l i m w) ≡ Edge i m.changed (next_tick l i m) ∷ Silence i (member_after_quantum l i m (level_read l i m w)).changed (reach l i (member_after_quantum l i m (level_read l i m w)).saw) ∷ []
      emission_yes y = ap (λ v. v ++ Silence i (member_after_quantum l i m (level_read l i m w)).changed (reach l i (member_after_quantum l i m (level_read l i m w)).saw) ∷ []) (cond-true (turns l i m (level_read l i m w)) (Edge i m.changed (next_tick l i m) ∷ []) [] y)

      emission_no : turns l i m (level_read l i m w) ≡ false → emission l i m (level_read l i m w) ≡ Silence i (member_after_quantum l i m (level_read l i m w)).changed (reach l i (member_after_quantum l i m (level_read l i m w)).saw) ∷ []
      emission_no n = ap (λ v. v ++ Silence i (member_after_quantum l i m (level_read l i m w)).changed (reach l i (member_after_quantum l i m (level_read l i m w)).saw) ∷ []) (cond-false (turns l i m (level_read l i m w)) (Edge i m.changed (next_tick l i m) ∷ []) [] n)

      emission_true : AreTrueOf l.nodes (changes l) (emission l i m (level_read l i m w))
      emission_true = elim (cases_Bool (turns l i m (level_read l i m w))) [
        | inl y ↦ subst (AreTrueOf l.nodes (changes l)) (sym (emission_yes y)) (edge_true y, (silence_true, tt))
        | inr n ↦ subst (AreTrueOf l.nodes (changes l)) (sym (emission_no n)) (silence_true, tt)
      ]

      edge_emitted : turns l i m (level_read l i m w) ≡ true → Contains (emission l i m (level_read l i m w)) (Edge i m.changed (next_tick l i m))
      edge_emitted y = subst (λ rs. Contains rs (Edge i m.changed (next_tick l i m))) (sym (emission_yes y)) (first_there (Edge i m.changed (next_tick l i m)) ((Silence i (member_after_quantum l i m (level_read l i m w)).changed (reach l i (member_after_quantum l i m (level_read l i m w)).saw)) ∷ []))

      silence_emitted : Contains (emission l i m (level_read l i m w)) (Silence i (member_after_quantum l i m (level_read l i m w)).changed (reach l i (member_after_quantum l i m (level_read l i m w)).saw))
      silence_emitted = elim (cases_Bool (turns l i m (level_read l i m w))) [
        | inl y ↦ subst (λ rs. Contains rs (Silence i (member_after_quantum l i m (level_read l i m w)).changed (reach l i (member_after_quantum l i m (level_read l i m w)).saw))) (sym (emission_yes y)) (later_there (Silence i (member_after_quantum l i m (level_read l i m w)).changed (reach l i (member_after_quantum l i m (level_read l i m w)).saw)) (Edge i m.changed (next_tick l i m)) ((Silence i (member_after_quantum l i m (level_read l i m w)).changed (reach l i (member_after_quantum l i m (level_read l i m w)).saw)) ∷ []) (first_there (Silence i (member_after_quantum l i m (level_read l i m w)).changed (reach l i (member_after_quantum l i m (level_read l i m w)).saw)) []))
        | inr n ↦ subst (λ rs. Contains rs (Silence i (member_after_quantum l i m (level_read l i m w)).changed (reach l i (member_after_quantum l i m (level_read l i m w)).saw))) (sym (emission_no n)) (first_there (Silence i (member_after_quantum l i m (level_read l i m w)).changed (reach l i (member_after_quantum l i m (level_read l i m w)).saw)) [])
      ]

      -- slots above the emission, and above slots that hold the member's edges so far, hold all that it said
      module _ (old new : Contents) (more : IsBelow old new) (said : IsBelow (slots_of_records (emission l i m (level_read l i m w))) new) (true_new : HoldsTrue l.nodes (changes l) new)
          (held : (n : ℕ) → n < m.changed → is_tick (old.edge i n) ≡ true) where
        edge_there : turns l i m (level_read l i m w) ≡ true → is_tick (new.edge i m.changed) ≡ true
        edge_there y =
            ap is_tick (knows.edge_held l.nodes (changes l) new i m.changed (next_tick l i m) true_new
            (joins.transitive (slots_only (Edge i m.changed (next_tick l i m))) (slots_of_records (emission l i m (level_read l i m w))) new (joins.of_a_record _ _ (edge_emitted y)) said))

        edges_there : (n : ℕ) → n < (member_after_quantum l i m (level_read l i m w)).changed → is_tick (new.edge i n) ≡ true
        edges_there n c = elim (cases_Bool (turns l i m (level_read l i m w))) [
          | inl y ↦
              let e = changed_yes y in
              elim (cases_eq n m.changed) [
                | inl same ↦ subst (λ v. is_tick (new.edge i v) ≡ true) (sym same) (edge_there y)
                | inr other ↦ knows.tick_stays l.nodes (changes l) old new i n more true_new (held n (omega arith))
              ]
          | inr x ↦ (let e = changed_no x in knows.tick_stays l.nodes (changes l) old new i n more true_new (held n (omega arith)))
        ]

        silence_there : next_tick l i (member_after_quantum l i m (level_read l i m w)) ≤ new.silence i (member_after_quantum l i m (level_read l i m w)).changed
        silence_there =
            let e = knows.silence_held new i (member_after_quantum l i m (level_read l i m w)).changed (reach l i (member_after_quantum l i m (level_read l i m w)).saw)
            (joins.transitive (slots_only (Silence i (member_after_quantum l i m (level_read l i m w)).changed (reach l i (member_after_quantum l i m (level_read l i m w)).saw))) (slots_of_records (emission l i m (level_read l i m w))) new (joins.of_a_record _ _ silence_emitted) said) in
            let f = reach_late l s i (member_after_quantum l i m (level_read l i m w)).saw b in
            omega arith

      after : Contents
      after = slots_joined w (slots_of_records (emission l i m (level_read l i m w)))

      after_true : HoldsTrue l.nodes (changes l) after
      unfolding after
      after_true = knows.true_joined l.nodes (changes l) w _ truth (knows.true_records l.nodes (changes l) _ emission_true)

      more_after : IsBelow w after
      unfolding after
      more_after = joins.above_first w (slots_of_records (emission l i m (level_read l i m w)))

      said_after : IsBelow (slots_of_records (emission l i m (level_read l i m w))) after
      unfolding after
      said_after = joins.above_second w (slots_of_records (emission l i m (level_read l i m w)))

      held_now : (n : ℕ) → n < m.changed → is_tick (w.edge i n) ≡ true
      held_now n c = knows.changes_held l.nodes (changes l) w i (next_tick l i m) n (sims.changes_increase l i) truth h.known (let q = h.count in omega arith)

      -- the member is where the one-thread simulation has it after its next quantum
      member_next : IsMember l i (member_after_quantum l i m (level_read l i m w)) after
      member_next = record {
        state = state_next ∙ ap (seen l i) (sym longer);
        inside = λ k c. inside_next k (let z = longer in omega arith);
        read = λ k c. place_keeps l w after i (omega arith) truth after_true more_after (l.instant i k) (elim (cases_eq k (length m.saw)) [
          | inl e ↦ subst (λ v. l.instant i v < place_horizon l.nodes l.delay w i) (sym e) place_is_known
          | inr o ↦ h.read k (let z = longer in omega arith)
        ]);
        count = changed_next ∙ ap (λ u. count_below u (changes l i)) (sym due_next);
        known = knows.horizon_reached l.nodes (changes l) after i (member_after_quantum l i m (level_read l i m w)).changed _ (sims.changes_increase l i) after_true changed_few
            (edges_there w after more_after said_after after_true held_now) (silence_there w after more_after said_after after_true held_now);
      }

      -- the same, with the slots written out
      pub member_joined : IsMember l i (member_after_quantum l i m (level_read l i m w)) (slots_joined w (slots_of_records (emission l i m (level_read l i m w))))
      unfolding after
      member_joined = member_next

  running_holds : (l : Line) → IsSound l → (belongs : ℕ → Bool) (i : ℕ) (p : Party) → IsGroup l belongs p.members (slots p) → i < l.nodes → belongs i ≡ true
      → can_run l i (p.members i) (slots p) ≡ true
      → IsGroup l belongs (run_next l i p).members (slots (run_next l i p))
  unfolding after
  running_holds l s belongs i p v b o can =
      let w = slots p in
      let m = p.members i in
      let x = level_read l i m w in
      let rs = emission l i m x in
      let h = v.each i b o in
      let t = knows.true_records l.nodes (changes l) rs (emission_true l s w v.truth i m b can h) in
      let u = taking_holds l s belongs rs p v t in
      let n : IsMember l i (member_after_quantum l i m x) (slots_of_records (rs ++ p.taken)) =
      subst (IsMember l i (member_after_quantum l i m x)) (sym (joins.of_two_lists rs p.taken)) (member_next l s w v.truth i m b can h) in
      record {
        truth = u.truth;
        each = λ j c k. put_at p.members i (member_after_quantum l i m x) (λ q. IsMember l j q (slots_of_records (rs ++ p.taken))) j
            (λ e. subst (λ v2. IsMember l v2 (member_after_quantum l i m x) (slots_of_records (rs ++ p.taken))) (sym e) n)
            (λ e. u.each j c k);
      }

  steps_hold : (l : Line) → IsSound l → (belongs : ℕ → Bool) (p q : Party) (rs : List Record) → IsGroup l belongs p.members (slots p) → Steps l belongs p rs q
      → IsGroup l belongs q.members (slots q) × AreTrueOf l.nodes (changes l) rs
  steps_hold l s belongs p q rs v (none {p = x}) = (v, tt)
  steps_hold l s belongs p q rs v (more {p = x} {q = y} {rs = rest} i b can steps) =
      let c = and_parts (belongs i) (can_run l i (x.members i) (slots x)) can in
      let r = steps_hold l s belongs (run_next l i x) y rest (running_holds l s belongs i x v b c.0 c.1) steps in
      (r.0, true_append l.nodes (changes l) (emission_of l x i) rest (emission_true l s (slots x) v.truth i (x.members i) b c.1 (v.each i b c.0)) r.1)

  told_first : (l : Line) → IsSound l → (i : ℕ) → i < l.nodes → IsTold l i fresh (slots_of_records (initial_silences l (λ j. true) l.nodes))
  told_first l s i b = record {
    edges = λ n c. absurd (omega arith);
    silence = (let e = knows.silence_held (slots_of_records (initial_silences l (λ j. true) l.nodes)) i 0 (reach l i []) (joins.of_a_record (Silence i 0 (reach l i [])) (initial_silences l (λ j. true) l.nodes) (first_in l (λ j. true) l.nodes i b refl)) in let f = reach_late l s i [] b in omega arith);
  }

  -- what was emitted stays
  told_above : (l : Line) (i : ℕ) (m : Member) (a b : Contents) → IsBelow a b → HoldsTrue l.nodes (changes l) b → IsTold l i m a → IsTold l i m b
  told_above l i m a b up h t = record {
    edges = λ n c. knows.tick_stays l.nodes (changes l) a b i n up h (t.edges n c);
    silence = (let x = t.silence in let y = up.silences i m.changed in omega arith);
  }

  told_more : (l : Line) (i : ℕ) (m : Member) (es rs : List Record) → AreTrueOf l.nodes (changes l) (es ++ rs)
      → IsTold l i m (slots_of_records es) → IsTold l i m (slots_of_records (es ++ rs))
  told_more l i m es rs h t =
      told_above l i m (slots_of_records es) (slots_of_records (es ++ rs)) (joins.of_a_part es (es ++ rs) (Contains-append_left es rs)) (knows.true_records l.nodes (changes l) (es ++ rs) h) t

  told_stepped : (l : Line) → IsSound l → (w : Contents) → HoldsTrue l.nodes (changes l) w → (i : ℕ) (m : Member) → i < l.nodes → IsMember l i m w → can_run l i m w ≡ true
      → (es : List Record) → AreTrueOf l.nodes (changes l) (es ++ emission l i m (level_read l i m w)) → IsTold l i m (slots_of_records es)
      → IsTold l i (member_after_quantum l i m (level_read l i m w)) (slots_of_records (es ++ emission l i m (level_read l i m w)))
  told_stepped l s w truth i m b h can es ts t =
      let rs = emission l i m (level_read l i m w) in
      let more = joins.of_a_part es (es ++ rs) (Contains-append_left es rs) in
      let said = joins.of_a_part rs (es ++ rs) (Contains-append_right es rs) in
      let tn = knows.true_records l.nodes (changes l) (es ++ rs) ts in
      record {
        edges = edges_there l s w truth i m b can h (slots_of_records es) (slots_of_records (es ++ rs)) more said tn t.edges;
        silence = silence_there l s w truth i m b can h (slots_of_records es) (slots_of_records (es ++ rs)) more said tn t.edges;
      }

  told_known : (l : Line) → IsSound l → (i : ℕ) (m : Member) (w : Contents) → i < l.nodes → IsMember l i m w → (es taken : List Record)
      → HoldsTrue l.nodes (changes l) (slots_of_records taken) → ((r : Record) → Contains es r → Contains taken r)
      → IsTold l i m (slots_of_records es) → next_tick l i m ≤ horizon (slots_of_records taken) i
  told_known l s i m w b h es taken truth all t =
      let told = told_above l i m (slots_of_records es) (slots_of_records taken) (joins.of_a_part es taken all) truth t in
      let few : m.changed ≤ most_edges = (let e = h.count in let c = count_most l s i (next_tick l i m) b in omega arith) in
      knows.horizon_reached l.nodes (changes l) (slots_of_records taken) i m.changed (next_tick l i m) (sims.changes_increase l i) truth few told.edges told.silence

  pub group_laws : GroupLaws
  group_laws = record {
    wave_is_level = wave_is_level;
    firsts_true = λ l s test. firsts_true l s test l.nodes (omega arith);
    emission_true = λ l s w truth i m b h can. emission_true l s w truth i m b can h;
    read_is_found = read_is_found;
    begun_holds = begun_holds;
    taking_holds = taking_holds;
    running_holds = running_holds;
    steps_hold = steps_hold;
    member_history = member_history;
    member_ended = member_ended;
    told_first = told_first;
    told_more = told_more;
    told_stepped = told_stepped;
    told_known = told_known;
  }
