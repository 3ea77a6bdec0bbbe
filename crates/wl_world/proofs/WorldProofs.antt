-- Whatever happens, every group is one, and what it emits is true.
use Rattle.std.proofs.Common.{◌≡◌, ℕ, ◌<◌, true, ◌&&◌, inl, inr, Option, List, [], ◌∷◌, ◌++◌, refl, sym, ◌∙◌, ap, subst, arith, nat_lt, Some, None, slice_get, append-nil, append_assoc}
use Rattle.std.specs.Prelude.{Contains}
use Rattle.std.proofs.lemmas.Bool.{cases_Bool, cond-true, cond-false, eq-eqb, ltb-true, and_parts}
use Rattle.wl_record_core.specs.declared.record.Record.{Record}
use Rattle.wl_record_core.specs.Truth.{AreTrueOf}
use Rattle.wl_replica.specs.KnownLaws.{KnownLaws}
use Rattle.wl_replica.specs.Laws.{SameRecordsSameState, TakingIsJoining, IsJoining}
use Rattle.wl_replica.specs.SlotsOf.{SlotsOfStates}
use Rattle.wl_world.specs.declared.events.Event.{Event}
use Rattle.wl_world.specs.declared.events.Event.TheVariants.{Advance, Deliver, Join, Restart}
use Rattle.wl_plan.specs.Line.{Line}
use Rattle.wl_plan.specs.Simulation.{changes}
use Rattle.wl_plan.specs.Sound.{IsSound}
use Rattle.wl_group.specs.Member.{can_run}
use Rattle.wl_group.specs.Party.{Party, slots, put, initial_party, party_with}
use Rattle.wl_group.specs.Advanced.{can_advance, run_next, emission_of}
use Rattle.wl_group.specs.Holds.{IsGroup}
use Rattle.wl_group.specs.GroupLaws.{GroupLaws}
use Rattle.wl_group.specs.PartyLaws.{PartyLaws}
use Rattle.wl_world.specs.Scene.{Cast, is_of_group, Scene, start, possible, at_most_one, done, happens, run}
use Rattle.wl_world.specs.Headline.{IsFaithful, Grows, Headline}
use Rattle.std.proofs.lemmas.List.Elements.{Contains-append_left, Contains-append_right, Contains-append_cases}
use Rattle.wl_world.proofs.Puts.{put_at}
use Rattle.wl_world.proofs.Lists.{true_member}

-- What holds of a scene.
pub record IsWorld (l : Line) (c : Cast) (w : Scene) : Type 0 where
  pub truth : AreTrueOf l.nodes (changes l) w.emitted
  pub groups : (h : ℕ) → h < c.groups → IsGroup l (is_of_group c h) (w.parties h).members (slots (w.parties h))
  pub told : (h : ℕ) (r : Record) → Contains (w.parties h).emitted r → Contains w.emitted r

-- what an advance needs, part by part
pub record MayAdvance (l : Line) (c : Cast) (w : Scene) (h i : ℕ) : Type 0 where
  pub group : h < c.groups
  pub node : i < l.nodes
  pub member : is_of_group c h i ≡ true
  pub can : can_run l i ((w.parties h).members i) (slots (w.parties h)) ≡ true

pub may_advance : (l : Line) (c : Cast) (w : Scene) (h i : ℕ) → possible l c w (Advance h i) ≡ true → MayAdvance l c w h i
may_advance l c w h i y =
    let p1 = and_parts (nat_lt h c.groups) (nat_lt i l.nodes && can_advance l (is_of_group c h) (w.parties h) i) y in
    let p2 = and_parts (nat_lt i l.nodes) (can_advance l (is_of_group c h) (w.parties h) i) p1.1 in
    let p3 = and_parts (is_of_group c h i) (can_run l i ((w.parties h).members i) (slots (w.parties h))) p2.1 in
    record { group = ltb-true h c.groups p1.0; node = ltb-true i l.nodes p2.0; member = p3.0; can = p3.1 }

-- a scene of which one party is written
party_put : PartyLaws → (l : Line) (c : Cast) (w : Scene) → IsWorld l c w → (h : ℕ) (p : Party) → (h < c.groups → IsGroup l (is_of_group c h) p.members (slots p))
    → (k : ℕ) → k < c.groups → IsGroup l (is_of_group c k) (put w.parties h p k).members (slots (put w.parties h p k))
party_put family l c w v h p f k b =
    put_at family.parties w.parties h p (λ q. IsGroup l (is_of_group c k) q.members (slots q)) k
    (λ e. subst (λ n. IsGroup l (is_of_group c n) p.members (slots p)) (sym e) (f (subst (λ n. n < c.groups) e b)))
    (λ n. v.groups k b)

-- and what it told
told_put : PartyLaws → (l : Line) (c : Cast) (w : Scene) → IsWorld l c w → (h : ℕ) (p : Party) (more : List Record) → ((r : Record) → Contains p.emitted r → Contains (w.emitted ++ more) r)
    → (k : ℕ) (r : Record) → Contains (put w.parties h p k).emitted r → Contains (w.emitted ++ more) r
told_put family l c w v h p more f k =
    put_at family.parties w.parties h p (λ q. (r : Record) → Contains q.emitted r → Contains (w.emitted ++ more) r) k
    (λ e. f) (λ n r t. Contains-append_left w.emitted more r (v.told k r t))

told_kept : PartyLaws → (l : Line) (c : Cast) (w : Scene) → IsWorld l c w → (h : ℕ) (p : Party) → ((r : Record) → Contains p.emitted r → Contains w.emitted r)
    → (k : ℕ) (r : Record) → Contains (put w.parties h p k).emitted r → Contains w.emitted r
told_kept family l c w v h p f k = put_at family.parties w.parties h p (λ q. (r : Record) → Contains q.emitted r → Contains w.emitted r) k (λ e. f) (λ n. v.told k)

nothing_told : (es : List Record) (r : Record) → Contains [] r → Contains es r
nothing_told es r h = absurd (let b = h.1 in omega arith)

-- no list shrinks
happens_grows : (l : Line) (c : Cast) (w : Scene) (e : Event) → Grows w (done l c w e)
happens_grows l c w (Advance h i) = (emission_of l (w.parties h) i, refl)
happens_grows l c w (Deliver h k) = ([], sym (append-nil w.emitted))
happens_grows l c w (Join h k) = ([], sym (append-nil w.emitted))
happens_grows l c w (Restart h) = ([], sym (append-nil w.emitted))

step_grows : (l : Line) (c : Cast) (w : Scene) (e : Event) → Grows w (happens l c w e)
step_grows l c w e = elim (cases_Bool (possible l c w e)) [
  | inl y ↦ subst (Grows w) (sym (cond-true (possible l c w e) (done l c w e) w y)) (happens_grows l c w e)
  | inr n ↦ subst (Grows w) (sym (cond-false (possible l c w e) (done l c w e) w n)) ([], sym (append-nil w.emitted))
]

pub run_grows : (l : Line) (c : Cast) (es : List Event) (w : Scene) → Grows w (run l c es w)
run_grows l c [] w = ([], sym (append-nil w.emitted))
run_grows l c (e ∷ es) w =
    let a = step_grows l c w e in
    let b = run_grows l c es (happens l c w e) in
    (a.0 ++ b.0, b.1 ∙ (ap (λ v. v ++ b.0) a.1 ∙ append_assoc w.emitted a.0 b.0))

module _ (knows : KnownLaws) (groups : GroupLaws) (family : PartyLaws) where
  pub start_holds : (l : Line) → IsSound l → (c : Cast) → IsWorld l c (start l c)
  start_holds l s c = record {
    truth = groups.firsts_true l s (λ i. true);
    groups = λ h b. groups.begun_holds l s (is_of_group c h);
    told = λ h r. nothing_told (start l c).emitted r;
  }

  pub emission_true : (l : Line) → IsSound l → (c : Cast) (w : Scene) → IsWorld l c w → (h i : ℕ) → MayAdvance l c w h i → AreTrueOf l.nodes (changes l) (emission_of l (w.parties h) i)
  emission_true l s c w v h i a =
      let g = v.groups h a.group in
      groups.emission_true l s (slots (w.parties h)) g.truth i ((w.parties h).members i) a.node (g.each i a.node a.member) a.can

  -- each event keeps what holds of a scene
  pub event_holds : (l : Line) → IsSound l → (c : Cast) (w : Scene) (e : Event) → IsWorld l c w → possible l c w e ≡ true → IsWorld l c (done l c w e)
  event_holds l s c w (Advance h i) v y =
      let a = may_advance l c w h i y in
      record {
        truth = family.true_append l.nodes (changes l) w.emitted _ v.truth (emission_true l s c w v h i a);
        groups = party_put family l c w v h (run_next l i (w.parties h)) (λ b. groups.running_holds l s (is_of_group c h) i (w.parties h) (v.groups h b) a.node a.member a.can);
        told = told_put family l c w v h (run_next l i (w.parties h)) (emission_of l (w.parties h) i) (λ r t. elim (Contains-append_cases (w.parties h).emitted (emission_of l (w.parties h) i) r t) [
          | inl x ↦ Contains-append_left w.emitted (emission_of l (w.parties h) i) r (v.told h r x)
          | inr x ↦ Contains-append_right w.emitted (emission_of l (w.parties h) i) r x
        ]);
      }
  event_holds l s c w (Deliver h k) v y = record {
    truth = v.truth;
    groups = party_put family l c w v h (party_with (at_most_one (slice_get w.emitted k)) (w.parties h)) (λ b.
        groups.taking_holds l s (is_of_group c h) (at_most_one (slice_get w.emitted k)) (w.parties h) (v.groups h b)
        (knows.true_records l.nodes (changes l) (at_most_one (slice_get w.emitted k)) (comes (slice_get w.emitted k) refl)));
    told = told_kept family l c w v h (party_with (at_most_one (slice_get w.emitted k)) (w.parties h)) (v.told h);
  }
    where
      comes : (o : Option Record) → slice_get w.emitted k ≡ o → AreTrueOf l.nodes (changes l) (at_most_one o)
      comes None e = tt
      comes (Some q) e = (true_member l.nodes (changes l) w.emitted k q v.truth e, tt)
  event_holds l s c w (Join h k) v y =
      let p = and_parts (nat_lt h c.groups) (nat_lt k c.groups) y in
      record {
        truth = v.truth;
        groups = party_put family l c w v h (party_with (w.parties k).taken (w.parties h))
            (λ b. groups.taking_holds l s (is_of_group c h) (w.parties k).taken (w.parties h) (v.groups h b) (v.groups k (ltb-true k c.groups p.1)).truth);
        told = told_kept family l c w v h (party_with (w.parties k).taken (w.parties h)) (v.told h);
      }
  event_holds l s c w (Restart h) v y = record {
    truth = v.truth;
    groups = party_put family l c w v h (initial_party l (is_of_group c h)) (λ b. groups.begun_holds l s (is_of_group c h));
    told = told_kept family l c w v h (initial_party l (is_of_group c h)) (nothing_told w.emitted);
  }

  pub happens_holds : (l : Line) → IsSound l → (c : Cast) (w : Scene) (e : Event) → IsWorld l c w → IsWorld l c (happens l c w e)
  happens_holds l s c w e v = elim (cases_Bool (possible l c w e)) [
    | inl y ↦ subst (IsWorld l c) (sym (cond-true (possible l c w e) (done l c w e) w y)) (event_holds l s c w e v y)
    | inr n ↦ subst (IsWorld l c) (sym (cond-false (possible l c w e) (done l c w e) w n)) v
  ]

  -- whatever happens, in whatever order
  pub run_holds : (l : Line) → IsSound l → (c : Cast) (es : List Event) (w : Scene) → IsWorld l c w → IsWorld l c (run l c es w)
  run_holds l s c [] w v = v
  run_holds l s c (e ∷ es) w v = run_holds l s c es (happens l c w e) (happens_holds l s c w e v)

  pub world_holds : (l : Line) → IsSound l → (c : Cast) (es : List Event) → IsWorld l c (run l c es (start l c))
  world_holds l s c es = run_holds l s c es (start l c) (start_holds l s c)

  pub faithful : (l : Line) → IsSound l → (c : Cast) (w : Scene) → IsWorld l c w → IsFaithful l c w
  faithful l s c w v = record {
    records_true = v.truth;
    told_emitted = λ h b. v.told h;
    replicas_true = λ h b. (v.groups h b).truth;
    waves_agree = λ h i t b n k. groups.wave_is_level l s (slots (w.parties h)) (v.groups h b).truth i t n k;
    nodes_placed = λ h i b n e. (v.groups h b).each i n (eq-eqb _ _ e);
    nodes_agree = λ h i b n e. groups.member_history l s i ((w.parties h).members i) (slots (w.parties h)) n ((v.groups h b).each i n (eq-eqb _ _ e));
    nodes_ended = λ h i b n e. groups.member_ended l s i ((w.parties h).members i) (slots (w.parties h)) n ((v.groups h b).each i n (eq-eqb _ _ e));
    reads_agree = λ h i y. (let a = may_advance l c w h i y in
        groups.read_is_found l s (slots (w.parties h)) (v.groups h a.group).truth i ((w.parties h).members i) a.node a.can);
  }

  pub headline : SameRecordsSameState → TakingIsJoining → IsJoining → SlotsOfStates → Headline
  headline same takes joins_states has = record {
    faithful = λ l s c es. faithful l s c (run l c es (start l c)) (world_holds l s c es);
    grows = run_grows;
    equal = λ nodes p q. same nodes p.taken q.taken;
    joining = joins_states;
    counts_all = λ nodes p q. takes.both nodes p.taken q.taken;
    has_slots = λ nodes p. has.records nodes p.taken;
    replicas_agree = groups.wave_is_level;
  }
