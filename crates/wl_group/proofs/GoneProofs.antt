-- A group of which a member ran quanta in a row, all below its place horizon of before: it is one, and the machine takes its parties there.
use Rattle.std.proofs.Common.{◌≡◌, ℕ, zero, suc, ◌+◌, ◌-◌, ◌<◌, ◌≤◌, true, inl, inr, List, [], ◌∷◌, ◌++◌, length, All, Option, Some, None, is_some, refl, sym, ◌∙◌, ap, subst, arith, if◌then◌else◌}
use Rattle.std.specs.Prelude.{slice_set, slice_index_or, Contains}
use Rattle.std.proofs.lemmas.Bool.{cases_lt, cases_eq, cases_Bool, cond-true, cond-false}
use Rattle.std.proofs.lemmas.List.{get_or-set_same, get_or-set_other}
use Rattle.std.proofs.lemmas.List.Elements.{Contains-append_left, Contains-append_right}
use Rattle.std.proofs.Math.ListN.{length-set}
use Rattle.wl_level.specs.declared.Level.{Level}
use Rattle.wl_level.specs.Levels.{level_of}
use Rattle.wl_record_core.specs.declared.record.Record.{Record}
use Rattle.wl_record_core.specs.declared.record.Record.TheVariants.{Edge, Silence}
use Rattle.wl_record_core.specs.Truth.{count_below, AreTrueOf}
use Rattle.wl_record_core.specs.TableLaws.{TableLaws}
use Rattle.wl_replica.specs.Slots.{Contents, slots_only, slots_of_records, HoldsTrue, IsBelow}
use Rattle.wl_replica.specs.SlotsOf.{SlotsOfStates}
use Rattle.wl_replica.specs.State.{state_of, slots_of, state_with_records, Fits}
use Rattle.wl_replica.specs.Known.{is_tick, horizon, place_horizon}
use Rattle.wl_replica.specs.KnownLaws.{SlotsLaws, KnownLaws}
use Rattle.wl_plan.specs.declared.plan.Plan.{Plan}
use Rattle.wl_plan.specs.Limits.{most_quanta}
use Rattle.wl_plan.specs.Line.{found, reach}
use Rattle.wl_plan.specs.PlanLine.{line_of, table_of}
use Rattle.wl_plan.specs.Simulation.{level, seen, differs, changes, AreInside}
use Rattle.wl_plan.specs.SimulationLaws.{SimulationLaws}
use Rattle.wl_plan.specs.Sound.{IsSound}
use Rattle.wl_plan.specs.Checked.{CheckedIsSound}
use Rattle.wl_group.specs.Member.{Member, next_tick, turns, member_after_quantum, edge_said}
use Rattle.wl_group.specs.Party.{Party, slots}
use Rattle.wl_group.specs.Holds.{IsMember}
use Rattle.wl_group.specs.GroupLaws.{GroupLaws}
use Rattle.wl_group.specs.Running.{quanta_to_come}
use Rattle.wl_group.specs.ValueLaws.{ValueLaws}
use Rattle.wl_group.specs.GroupValue.{GroupValue, IsGroupValue, Matches, quanta_at, belongs, member_after, member_at, members_now, with_records}
use Rattle.wl_group.specs.Led.{LedTo}
use Rattle.wl_group.specs.Going.{told_by, gone_on, AdvancesTo, HasGoneOn}
use Rattle.wl_group.specs.Through.{spoken, Stays}
use Rattle.wl_group.proofs.Facts.{true_append}
use Rattle.wl_group.proofs.GoingProofs.{OneByOne, one_by_one, node, inside_all, own_before}
use Rattle.wl_group.proofs.GroupProofs.{place_keeps, count_most}
use Rattle.wl_group.proofs.LedProofs.{both_in, known_with, ran_beside}
use Rattle.wl_group.proofs.RunProofs.{true_fits, some_there}
use Rattle.wl_group.proofs.ThroughProofs.{next_is}

left_less : (xs : List (Option ℕ)) (i k m : ℕ) → slice_index_or xs i None ≡ Some k → k < m → k < most_quanta → quanta_to_come (slice_set xs i (Some m)) < quanta_to_come xs
left_less [] i k m h b f = absurd cc
left_less (None ∷ xs) zero k m h b f = absurd cc
left_less (Some n ∷ xs) zero k m h b f = (let e : n ≡ k = cc in omega arith)
left_less (None ∷ xs) (suc i) k m h b f = left_less xs i k m h b f
left_less (Some n ∷ xs) (suc i) k m h b f = (let e = left_less xs i k m h b f in omega arith)

module _ (laws : ValueLaws) (groups : GroupLaws) (tables : TableLaws) (joins : SlotsLaws) (knows : KnownLaws) (sims : SimulationLaws) (states : SlotsOfStates) (sound : CheckedIsSound)
    (g : GroupValue) (v : IsGroupValue g) (i k : ℕ) (ran : quanta_at g i ≡ Some k) (m : ℕ)
    (early : (j : ℕ) → j ≤ m → (line_of g.plan).instant i (k + j) < g.plan.end)
    (known : (j : ℕ) → j ≤ m → (line_of g.plan).instant i (k + j) < place_horizon (length g.plan.nodes) (line_of g.plan).delay (slots_of g.replica) i)
    (stays : Stays g.plan i k m) where
  s : IsSound (line_of g.plan)
  s = sound g.plan v.checked

  b : i < length g.plan.nodes
  b = node laws groups sims sound g v i k ran

  one : OneByOne g i k (suc m)
  one = one_by_one laws groups tables joins knows sims states sound i (suc m) g k v ran (λ j c. early j (omega arith)) (λ j c. known j (omega arith))

  -- what it says at the last of them is true
  pub said_true : AreTrueOf (length g.plan.nodes) (table_of g.plan) (spoken (line_of g.plan) i (k + m))
  said_true = one.last_true m refl

  pub fits : All (Fits g.replica.nodes) (spoken (line_of g.plan) i (k + m))
  fits = subst (λ n. All (Fits n) (spoken (line_of g.plan) i (k + m))) (sym v.of_all) (true_fits (length g.plan.nodes) (table_of g.plan) (spoken (line_of g.plan) i (k + m)) said_true)

  -- the group that has taken it
  with_said : IsGroupValue (with_records (spoken (line_of g.plan) i (k + m)) g)
  with_said = laws.takes g v (spoken (line_of g.plan) i (k + m)) said_true

  inside : AreInside (line_of g.plan) i (k + suc m)
  inside = inside_all laws groups sims sound g v i k ran m early known

  own : IsMember (line_of g.plan) i (member_after (line_of g.plan) i k) (slots_of g.replica)
  own = own_before laws groups sims sound g v i k ran m early known

  last_inside : AreInside (line_of g.plan) i (suc (k + m))
  last_inside j c = inside j (omega arith)

  here : Level
  here = level_of (found (line_of g.plan) (level (line_of g.plan)) i ((line_of g.plan).instant i (k + m)))

  after_is : member_after_quantum (line_of g.plan) i (member_after (line_of g.plan) i (k + m)) here ≡ member_after (line_of g.plan) i (suc (k + m))
  unfolding here
  after_is = next_is sims (line_of g.plan) s i b (k + m) last_inside

  -- its slots are above those of before, and above what was said
  w : Contents
  w = slots_of g.replica

  new : Contents
  new = slots_of (state_with_records g.replica (spoken (line_of g.plan) i (k + m)))

  more : IsBelow w new
  unfolding w new
  more =
      let rs = spoken (line_of g.plan) i (k + m) in
      subst (IsBelow (slots_of g.replica)) (sym (states.both g.replica (state_of g.replica.nodes rs))) (joins.above_first (slots_of g.replica) (slots_of (state_of g.replica.nodes rs)))

  said_in : IsBelow (slots_of_records (spoken (line_of g.plan) i (k + m))) new
  unfolding new
  said_in =
      let rs = spoken (line_of g.plan) i (k + m) in
      subst (λ x. IsBelow x (slots_of (state_with_records g.replica rs))) (states.records g.replica.nodes rs)
      (subst (IsBelow (slots_of (state_of g.replica.nodes rs))) (sym (states.both g.replica (state_of g.replica.nodes rs))) (joins.above_second (slots_of g.replica) (slots_of (state_of g.replica.nodes rs))))

  told_one : (r : Record) → Contains (spoken (line_of g.plan) i (k + m)) r → IsBelow (slots_only r) new
  told_one r c = joins.transitive (slots_only r) (slots_of_records (spoken (line_of g.plan) i (k + m))) new (joins.of_a_record r (spoken (line_of g.plan) i (k + m)) c) said_in

  silence_said : Contains (spoken (line_of g.plan) i (k + m)) (Silence i (member_after (line_of g.plan) i (suc (k + m))).changed (reach (line_of g.plan) i (seen (line_of g.plan) i (suc (k + m)))))
  unfolding here
  silence_said =
      let l = line_of g.plan in
      let at = member_after l i (k + m) in
      let r : Record = Silence i (member_after_quantum l i at here).changed (reach l i (member_after_quantum l i at here).saw) in
      subst (λ (x : Member). Contains (spoken l i (k + m)) (Silence i x.changed (reach l i x.saw))) after_is
      (Contains-append_right (edge_said l i at here) (r ∷ []) r (0, omega arith, refl))

  edge_told : turns (line_of g.plan) i (member_after (line_of g.plan) i (k + m)) here ≡ true
      → Contains (spoken (line_of g.plan) i (k + m)) (Edge i (member_after (line_of g.plan) i (k + m)).changed (next_tick (line_of g.plan) i (member_after (line_of g.plan) i (k + m))))
  unfolding here
  edge_told y =
      let l = line_of g.plan in
      let at = member_after l i (k + m) in
      let r : Record = Edge i at.changed (next_tick l i at) in
      Contains-append_left (edge_said l i at here) (Silence i (member_after_quantum l i at here).changed (reach l i (member_after_quantum l i at here).saw) ∷ []) r
      (subst (λ (es : List Record). Contains es r) (sym (cond-true (turns l i at here) (r ∷ []) [] y)) (0, omega arith, refl))

  silence_there : (line_of g.plan).instant i (suc (k + m)) ≤ new.silence i (member_after (line_of g.plan) i (suc (k + m))).changed
  silence_there =
      let l = line_of g.plan in
      let saw = seen l i (suc (k + m)) in
      let e = knows.silence_held new i (member_after l i (suc (k + m))).changed (reach l i saw) (told_one _ silence_said) in
      let f = sims.clock_later l i (length saw) (length saw + l.quiet i saw) s.causal b (omega arith) in
      let q : l.instant i (length saw) ≡ l.instant i (suc (k + m)) = ap (l.instant i) (sims.length_seen l i (suc (k + m))) in
      omega arith

  -- the changes of before stand
  held : (n : ℕ) → n < (member_after (line_of g.plan) i k).changed → is_tick (new.edge i n) ≡ true
  unfolding w new
  held n c =
      let l = line_of g.plan in
      let promised : l.instant i k ≤ horizon w i = subst (λ q. l.instant i q ≤ horizon (slots_of g.replica) i) (sims.length_seen l i k) own.known in
      knows.tick_stays l.nodes (changes l) w new i n more with_said.holds.truth
      (knows.changes_held l.nodes (changes l) w i (l.instant i k) n (sims.changes_increase l i) v.holds.truth promised c)

  edges_there : (n : ℕ) → n < (member_after (line_of g.plan) i (suc (k + m))).changed → is_tick (new.edge i n) ≡ true
  unfolding new
  edges_there n c =
      let l = line_of g.plan in
      let at = member_after l i (k + m) in
      let after : (member_after_quantum l i at here).changed ≡ (member_after l i (suc (k + m))).changed = ap (λ (x : Member). x.changed) after_is in
      let stay = stays.changed in
      elim (cases_Bool (turns l i at here)) [
        | inl y ↦
            let e : (member_after_quantum l i at here).changed ≡ suc at.changed = cond-true (turns l i at here) _ _ y in
            elim (cases_lt n (member_after l i k).changed) [
              | inl old ↦ held n old
              | inr last ↦ (let q : at.changed ≡ n = omega arith in
                  subst (λ x. is_tick (new.edge i x) ≡ true) q
                  (ap is_tick (knows.edge_held l.nodes (changes l) new i at.changed (next_tick l i at) with_said.holds.truth (told_one _ (edge_told y)))))
            ]
        | inr x ↦
            let e : (member_after_quantum l i at here).changed ≡ at.changed = cond-false (turns l i at here) _ _ x in
            held n (omega arith)
      ]

  -- so the member is known up to its next quantum
  known_new : (line_of g.plan).instant i (suc (k + m)) ≤ horizon (slots_of (state_with_records g.replica (spoken (line_of g.plan) i (k + m)))) i
  unfolding new
  known_new =
      let l = line_of g.plan in
      knows.horizon_reached l.nodes (changes l) (slots_of (state_with_records g.replica (spoken l i (k + m)))) i (member_after l i (suc (k + m))).changed (l.instant i (suc (k + m))) (sims.changes_increase l i)
      with_said.holds.truth (count_most tables joins knows sims l s i (l.instant i (suc (k + m))) b) edges_there silence_there

  keeps : (t : ℕ) → t < place_horizon (length g.plan.nodes) (line_of g.plan).delay (slots_of g.replica) i
      → t < place_horizon (length g.plan.nodes) (line_of g.plan).delay (slots_of (state_with_records g.replica (spoken (line_of g.plan) i (k + m)))) i
  unfolding w new
  keeps t h =
      place_keeps tables joins knows sims (line_of g.plan) (slots_of g.replica) (slots_of (state_with_records g.replica (spoken (line_of g.plan) i (k + m)))) i (omega arith) v.holds.truth with_said.holds.truth more t h

  member_new : IsMember (line_of g.plan) i (member_after (line_of g.plan) i (k + suc m)) (slots_of (state_with_records g.replica (spoken (line_of g.plan) i (k + m))))
  member_new =
      let l = line_of g.plan in
      let long : length (seen l i (k + suc m)) ≡ k + suc m = sims.length_seen l i (k + suc m) in
      let short : length (seen l i k) ≡ k = sims.length_seen l i k in
      record {
        state = ap (seen l i) (sym long);
        inside = λ j c. inside j (omega arith);
        read = λ j c. keeps (l.instant i j) (elim (cases_lt j k) [
          | inl before ↦ own.read j (omega arith)
          | inr later ↦ subst (λ q. l.instant i q < place_horizon l.nodes l.delay (slots_of g.replica) i) (let e : k + (j - k) ≡ j = omega arith in e) (known (j - k) (omega arith))
        ]);
        count = ap (λ q. count_below (l.instant i q) (changes l i)) (sym long);
        known = subst (λ q. l.instant i q ≤ horizon (slots_of (state_with_records g.replica (spoken l i (k + m)))) i) (let e : suc (k + m) ≡ length (seen l i (k + suc m)) = omega arith in e) known_new;
      }

  -- the group after them
  pub gone : GroupValue
  gone = gone_on g i (k + suc m) (spoken (line_of g.plan) i (k + m))

  here_now : quanta_at (gone_on g i (k + suc m) (spoken (line_of g.plan) i (k + m))) i ≡ Some (k + suc m)
  here_now = get_or-set_same g.ran i (Some (k + suc m)) None (some_there g.ran i k ran)

  else_now : (j : ℕ) → (j ≡ i → ⊥) → quanta_at (gone_on g i (k + suc m) (spoken (line_of g.plan) i (k + m))) j ≡ quanta_at g j
  else_now j o = get_or-set_other g.ran i j (Some (k + suc m)) None o

  belongs_each : (j : ℕ) → belongs (gone_on g i (k + suc m) (spoken (line_of g.plan) i (k + m))) j ≡ belongs g j
  belongs_each j = elim (cases_eq j i) [
    | inl same ↦ subst (λ n. belongs (gone_on g i (k + suc m) (spoken (line_of g.plan) i (k + m))) n ≡ belongs g n) (sym same) (ap is_some here_now ∙ sym (ap is_some ran))
    | inr other ↦ ap is_some (else_now j other)
  ]

  pub belongs_still : belongs (gone_on g i (k + suc m) (spoken (line_of g.plan) i (k + m))) ≡ belongs g
  belongs_still = λ d j. belongs_each j d

  pub value_gone : IsGroupValue (gone_on g i (k + suc m) (spoken (line_of g.plan) i (k + m)))
  value_gone =
      let l = line_of g.plan in
      let new_slots = slots_of (state_with_records g.replica (spoken l i (k + m))) in
      record {
        checked = v.checked;
        one_each = length-set g.ran i (Some (k + suc m)) ∙ v.one_each;
        of_all = with_said.of_all;
        of_records = with_said.of_records;
        holds = record {
          truth = with_said.holds.truth;
          each = λ j c o. elim (cases_eq j i) [
            | inl same ↦ subst (λ x. IsMember l x (members_now (gone_on g i (k + suc m) (spoken l i (k + m))) x) new_slots) (sym same)
                (subst (λ x. IsMember l i x new_slots) (sym (ap (member_at l i) here_now)) member_new)
            | inr other ↦ subst (λ q. IsMember l j (member_at l j q) new_slots) (sym (else_now j other)) (with_said.holds.each j c (sym (ap is_some (else_now j other)) ∙ o))
          ];
        };
        emitted_true = true_append (length g.plan.nodes) (table_of g.plan) g.emitted (spoken l i (k + m)) v.emitted_true said_true;
      }

  -- what it says of them all
  said_is : spoken (line_of g.plan) i (k + m) ≡ told_by g i k (suc m)
  unfolding here
  said_is =
      let l = line_of g.plan in
      let at = member_after l i (k + m) in
      let q : suc (k + m) ≡ k + suc m = omega arith in
      let after : member_after_quantum l i at here ≡ member_after l i (k + suc m) = after_is ∙ ap (member_after l i) q in
      let new_m = member_after l i (k + suc m) in
      let turn : turns l i at here ≡ differs (l.drives i new_m.saw) (l.drives i (member_after l i k).saw) =
      ap (λ (x : Member). differs (l.drives i x.saw) (l.drives i at.saw)) after ∙ ap (differs (l.drives i new_m.saw)) stays.drive in
      let long : length (seen l i (k + m)) ≡ k + suc m - 1 = sims.length_seen l i (k + m) ∙ omega arith in
      ap (λ c. (if c then Edge i at.changed (next_tick l i at) ∷ [] else []) ++ Silence i (member_after_quantum l i at here).changed (reach l i (member_after_quantum l i at here).saw) ∷ []) turn
      ∙ (ap (λ x. (if differs (l.drives i new_m.saw) (l.drives i (member_after l i k).saw) then Edge i x (next_tick l i at) ∷ [] else [])
      ++ Silence i (member_after_quantum l i at here).changed (reach l i (member_after_quantum l i at here).saw) ∷ []) stays.changed
      ∙ (ap (λ x. (if differs (l.drives i new_m.saw) (l.drives i (member_after l i k).saw) then Edge i (member_after l i k).changed (l.instant i x) ∷ [] else [])
      ++ Silence i (member_after_quantum l i at here).changed (reach l i (member_after_quantum l i at here).saw) ∷ []) long
      ∙ ap (λ (x : Member). (if differs (l.drives i new_m.saw) (l.drives i (member_after l i k).saw) then Edge i (member_after l i k).changed (l.instant i (k + suc m - 1)) ∷ [] else [])
      ++ Silence i x.changed (reach l i x.saw) ∷ []) after))

  advances : (p : Party) → Matches p g → AdvancesTo g (gone_on g i (k + suc m) (spoken (line_of g.plan) i (k + m))) (spoken (line_of g.plan) i (k + m)) p
  advances p match =
      let run = laws.all_run_as g one.h one.rs v p match one.steps in
      let on = laws.all_run g one.h one.rs v one.steps in
      record {
        q = run.0;
        emitted = one.rs;
        steps = run.1;
        members = λ j c. run.2.members j (ap (λ xs. is_some (slice_index_or xs j None)) one.quanta ∙ c)
            ∙ (ap (λ x. member_at (line_of x) j (slice_index_or one.h.ran j None)) on.plan
            ∙ ap (λ xs. member_at (line_of g.plan) j (slice_index_or xs j None)) one.quanta);
        some = λ r c. one.last m refl r c;
      }

  -- and they lead each party that covers the group to one that covers it after them
  led : LedTo g (gone_on g i (k + suc m) (spoken (line_of g.plan) i (k + m)))
  led =
      let rs = spoken (line_of g.plan) i (k + m) in
      let on = laws.all_run g one.h one.rs v one.steps in
      record {
        plan = refl;
        lists = refl;
        members = belongs_still;
        led = λ p c.
            let r = ran_beside laws groups tables joins knows sims states sound g one.h one.rs v one.steps p c in
            let said : (e : Record) → Contains rs e → Contains one.rs e = λ e a. one.last m refl e a in (
              r.q,
              r.led,
              record {
                members = λ j o. r.covers.members j (ap (λ xs. is_some (slice_index_or xs j None)) one.quanta ∙ o)
                    ∙ (ap (λ x. member_at (line_of x) j (slice_index_or one.h.ran j None)) on.plan
                    ∙ ap (λ xs. member_at (line_of g.plan) j (slice_index_or xs j None)) one.quanta);
                known = rs ++ c.known;
                replica = known_with laws groups tables joins knows sims states sound p g c rs;
                taken = both_in rs c.known r.q.taken (λ e a. r.said e (said e a)) (λ e a. r.taken e (c.taken e a));
                emitted = both_in g.emitted rs r.q.emitted (λ e a. r.emitted e (c.emitted e a)) (λ e a. r.emits_too e (said e a));
                truth = subst (λ (x : Plan). HoldsTrue (length x.nodes) (table_of x) (slots r.q)) on.plan r.covers.truth;
              },
            );
      }

  pub gone_over : HasGoneOn i g (gone_on g i (k + suc m) (spoken (line_of g.plan) i (k + m))) (spoken (line_of g.plan) i (k + m))
  gone_over = record {
    k = k;
    n = suc m;
    some = omega arith;
    ran = ran;
    said_is = said_is;
    new_is = refl;
    advances = advances;
    led = led;
    said_true = said_true;
    fewer = left_less g.ran i k (k + suc m) ran (omega arith)
        (s.few_quanta i k b (subst (λ q. (line_of g.plan).instant i q < g.plan.end) (let e : k + 0 ≡ k = omega arith in e) (early 0 (omega arith))));
  }
