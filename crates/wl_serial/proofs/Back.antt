-- The way back, and how far a guess goes.
use Rattle.std.specs.Prelude.{MatchOption}
use Rattle.std.proofs.Common.{◌≡◌, ℕ, zero, suc, ◌+◌, ◌<◌, ◌≤◌, ◌≢◌, min, All, inl, inr, List, [], ◌∷◌, ◌++◌, length, get_or, refl, sym, ◌∙◌, ap, subst, arith, take, length-append, Option, None, Some}
use Rattle.std.proofs.Math.ListN.{set}
use Rattle.std.proofs.Math.Seq.{get_or-append_seam, take-append_seam}
use Rattle.std.proofs.lemmas.Bool.{cases_eq}
use Rattle.std.proofs.lemmas.List.{get_or_append_left, get_or-set_other, get_or-set_same}
use Rattle.wl_level.specs.declared.Level.{Level}
use Rattle.wl_record_core.specs.Truth.{IsIncreasing, count_below, odd}
use Rattle.wl_node.specs.Marks.{HasGoneOn, HasPassed, IsMark, quanta_marked}
use Rattle.wl_node.specs.Reached.{IsNode, keeps_lists, node_setup, quanta_of}
use Rattle.wl_plan.specs.declared.plan.Plan.{Plan}
use Rattle.wl_plan.specs.PlanLine.{line_of, table_of}
use Rattle.wl_plan.specs.Simulation.{seen}
use Rattle.wl_plan.specs.SimulationLaws.{SimulationLaws}
use Rattle.wl_serial.specs.declared.running_node.Before.{Before}
use Rattle.wl_serial.specs.declared.running_node.Running.{Running}
use Rattle.wl_serial.specs.Guess.{AreAsFar, AreBack, AreBefore, AreLater, HasRunBeside, HavePassed, HaveListened, IsBack, IsBefore, RanAlone}
use Rattle.wl_serial.specs.LineAt.{tells}
use Rattle.wl_serial.specs.Running.{AreKnown, AreRunning, HasRun, IsLater, IsNext, ticks_left}
use Rattle.wl_serial.proofs.Following.{ran_as, tell_alike}
use Rattle.wl_serial.proofs.Guesses.{IsGuessed}

-- a node that went on from its mark has passed it
pub passed : (r s : Running) (before : Before) (levels : List Level) → IsBefore r before → IsLater r s → IsNode levels r.node → HasPassed before.mark s.node
passed r s before levels is later node =
    let on = later.node levels node in
    ∣ (levels, on.0, record { marked = subst (λ u. IsMark u levels before.mark) (sym later.setup) (is.mark levels node); stands = on.1 }) ∣₁

pub all_passed : (plan : Plan) (rs new : List Running) (marks : List Before) → AreRunning plan rs → AreBefore rs marks → AreLater rs new → HavePassed marks new
all_passed plan rs new marks running before later = record {
  all = before.all ∙ sym later.all;
  each = λ i d b inside.
      let here : i < length rs = (let e = later.all in omega (arith, inside, e)) in
      let run = running.each i d here in
      passed (get_or rs i d) (get_or new i d) (get_or marks i b) (seen (line_of plan) i run.0) (before.each i d b here) (later.each i d here) run.1.runs.node;
}

back_run : (plan : Plan) (i k : ℕ) (r s : Running) → IsBack r s → HasRun plan i r k → HasRun plan i s k
back_run plan i k r s back run = record {
  runs = record {
    at = record {
      setup = back.setup ∙ run.runs.at.setup;
      quanta = back.quanta ∙ run.runs.at.quanta;
      next = back.next ∙ run.runs.at.next;
      order = subst IsIncreasing (sym back.changes) run.runs.at.order;
      below = subst (λ n. All (λ t. t < n) s.changes) (sym back.next) (subst (All (λ t. t < r.next)) (sym back.changes) run.runs.at.below);
    };
    inside = run.runs.inside;
    node = back.node (seen (line_of plan) i k) run.runs.node;
    changes = back.changes ∙ run.runs.changes;
  };
  promised = (let e = back.next in let f = back.known in let g = run.promised in omega (arith, e, f, g));
  known = (let e = ap (λ t. count_below t (table_of plan i)) back.known in let g = run.known in omega (arith, e, g));
}

-- all run as they did
pub back_running : (plan : Plan) (rs new : List Running) → AreRunning plan rs → AreBack rs new → AreRunning plan new
back_running plan rs new running back = record {
  all = back.all ∙ running.all;
  each = λ i d b.
      let here : i < length rs = (let e = back.all in omega (arith, b, e)) in
      let run = running.each i d here in
      (run.0, back_run plan i run.0 (get_or rs i d) (get_or new i d) (back.each i d here) run.1);
}

pub back_known : (end : ℕ) (rs new : List Running) (known : List ℕ) → AreKnown end rs known → AreBack rs new → AreKnown end new known
back_known end rs new known were back = record {
  all = were.all;
  few = (let e = back.all in let f = were.few in omega (arith, e, f));
  each = λ i d r b. let here : i < length rs = (let e = back.all in omega (arith, b, e)) in were.each i d r here ∙ sym (back.each i r here).known;
  beyond = λ i d past b. were.beyond i d (let e = back.all in omega (arith, past, e)) b;
}

pub back_far : (rs new : List Running) → AreBack rs new → AreAsFar rs new
back_far rs new back = record { all = back.all; next = λ i d b. (back.each i d b).next; known = λ i d b. (back.each i d b).known }

-- where all are as far as they were, the same node goes next
pub next_as_far : (end : ℕ) (rs new : List Running) (j : ℕ) → AreAsFar rs new → IsNext end rs j → IsNext end new j
next_as_far end rs new j far is = record {
  is_node = (let e = far.all in let b = is.is_node in omega (arith, e, b));
  before = λ d. let e = far.next j d is.is_node in let f = is.before d in omega (arith, e, f);
  first = λ d i x b.
      let here : i < length rs = (let e = far.all in omega (arith, b, e)) in
      let e = far.next j d is.is_node in
      let f = far.known i x here in
      let g = is.first d i x here in
      omega (arith, e, f, g);
}

-- nodes that went on leave no more ticks
pub ticks_less : (end : ℕ) (old new : List Running) → length new ≡ length old → ((i : ℕ) (d : Running) → i < length old → (get_or old i d).next ≤ (get_or new i d).next)
    → ticks_left end new ≤ ticks_left end old
ticks_less end [] [] all later = omega arith
ticks_less end [] (y ∷ ys) all later = absurd (omega (arith, all))
ticks_less end (x ∷ xs) [] all later = absurd (omega (arith, all))
ticks_less end (x ∷ xs) (y ∷ ys) all later =
    let f = ticks_less end xs ys (omega (arith, all)) (λ i d b. later (suc i) d (omega (arith, b))) in
    let g = later 0 x (omega arith) in
    omega (arith, f, g)

pub ticks_fewer : (end j : ℕ) (d : Running) (old new : List Running) → length new ≡ length old → ((i : ℕ) (e : Running) → i < length old → (get_or old i e).next ≤ (get_or new i e).next)
    → j < length old → (get_or old j d).next < end → (get_or old j d).next < (get_or new j d).next → ticks_left end new < ticks_left end old
ticks_fewer end j d [] new all later b before more = absurd (omega (arith, b))
ticks_fewer end j d (x ∷ xs) [] all later b before more = absurd (omega (arith, all))
ticks_fewer end zero d (x ∷ xs) (y ∷ ys) all later b before more =
    let f = ticks_less end xs ys (omega (arith, all)) (λ i e c. later (suc i) e (omega (arith, c))) in
    omega (arith, f, before, more)
ticks_fewer end (suc j) d (x ∷ xs) (y ∷ ys) all later b before more =
    let f = ticks_fewer end j d xs ys (omega (arith, all)) (λ i e c. later (suc i) e (omega (arith, c))) (omega (arith, b)) before more in
    let g = later 0 x (omega arith) in
    omega (arith, f, g)

-- the sender and the listeners together: each ran ahead beside what all told at last
pub all_guessed : (plan : Plan) (j w : ℕ) (d : Running) (old led new : List Running) → SimulationLaws → j < length old → w ≡ min (get_or led j d).next plan.end → RanAlone plan j plan.end old led
    → HaveListened plan j w (length plan.nodes) led new → length old ≡ length plan.nodes → (i : ℕ) → i < length old → IsGuessed plan i w (tells new d) (get_or old i d) (get_or new i d)
all_guessed plan j w d old led new laws b until lead were all i inside = elim (cases_eq i j) [
  | inl own ↦ subst (λ n. IsGuessed plan n w (tells new d) (get_or old n d) (get_or new n d)) (sym own) sender
  | inr other ↦ listener other
]
  where
    alike : (m u : ℕ) → tells new d m u ≡ tells led d m u
    alike m u = tell_alike plan j w led (length plan.nodes) new were d m u

    sender : IsGuessed plan j w (tells new d) (get_or old j d) (get_or new j d)
    sender = subst (IsGuessed plan j w (tells new d) (get_or old j d)) (sym (were.others j d (inr refl))) (
        let ran = ran_as plan j plan.end (tells old d) (tells new d) (get_or old j d) (get_or led j d) laws
        (λ m u ne. alike m u ∙ ap (λ r. odd (count_below (u + 1) r.changes)) (lead.others m d ne)) (lead.ran d) in
        record {
          ran = record {
            somewhere = ran.somewhere;
            goes = ran.goes;
            below = λ q before. elim (ran.below q before) [
              | inl ahead ↦ inl (omega (arith, ahead, before, until))
              | inr done ↦ inr done
            ];
            known = ran.known;
            further = ran.further;
          };
          reached = omega (arith, until);
        }
        )

    listener : i ≢ j → IsGuessed plan i w (tells new d) (get_or old i d) (get_or new i d)
    listener other =
        let is = were.each i d (omega (arith, inside, all)) other in
        record {
          ran = subst (λ r. HasRunBeside plan i w (tells new d) r (get_or new i d)) (lead.others i d other)
              (ran_as plan i w (tells led d) (tells new d) (get_or led i d) (get_or new i d) laws (λ m u ne. alike m u) is.ran);
          reached = is.reached;
        }

-- one mark more
pub marks_more : (rs : List Running) (xs ys : List Before) (x : Before) (i : ℕ) → ys ≡ xs ++ x ∷ [] → length xs ≡ i
    → ((k : ℕ) (d : Running) (b : Before) → k < i → IsBefore (get_or rs k d) (get_or xs k b)) → ((d : Running) → IsBefore (get_or rs i d) x)
    → (length ys ≡ i + 1) × ((k : ℕ) (d : Running) (b : Before) → k < i + 1 → IsBefore (get_or rs k d) (get_or ys k b))
marks_more rs xs ys x i is long each one = (ap length is ∙ (length-append xs (x ∷ []) ∙ ap (λ n. n + 1) long), all)
  where
    all : (k : ℕ) (d : Running) (b : Before) → k < i + 1 → IsBefore (get_or rs k d) (get_or ys k b)
    all k d b c = subst (λ zs. IsBefore (get_or rs k d) (get_or zs k b)) (sym is) (elim (cases_eq k i) [
      | inl here ↦
          (let e : get_or (xs ++ x ∷ []) k b ≡ x = ap (λ n. get_or (xs ++ x ∷ []) n b) (here ∙ sym long) ∙ get_or-append_seam xs x [] b in
          subst (IsBefore (get_or rs k d)) (sym e) (subst (λ n. IsBefore (get_or rs n d) x) (sym here) (one d)))
      | inr other ↦
          (let b_in : k < length xs = omega (arith, c, other, long) in
          subst (IsBefore (get_or rs k d)) (sym (get_or_append_left xs (x ∷ []) b k b_in)) (each k d b (omega (arith, c, other))))
    ])

-- a node that is as far as it was, where its mark is
pub is_back : (old r s : Running) (before : Before) → IsBefore old before → IsLater old r
    → ((levels more : List Level) → HasGoneOn before.mark levels more r.node → IsNode levels s.node) → node_setup s.node ≡ node_setup r.node → keeps_lists s.node ≡ keeps_lists r.node → quanta_of s.node ≡ quanta_marked before.mark
    → s.next ≡ before.next → s.known ≡ before.known → s.changes ≡ take before.changes r.changes → IsBack old s
is_back old r s before is later node setup keeps quanta next known changes = record {
  setup = setup ∙ later.setup;
  keeps = keeps ∙ later.keeps;
  quanta = quanta ∙ is.quanta;
  node = λ levels h.
      let on = later.node levels h in
      node levels on.0 (record { marked = subst (λ u. IsMark u levels before.mark) (sym later.setup) (is.mark levels h); stands = on.1 });
  changes = changes ∙ (ap (λ n. take n r.changes) is.changes ∙ (ap (take (length old.changes)) later.changes.1 ∙ take-append_seam old.changes later.changes.0));
  next = next ∙ is.next;
  known = known ∙ is.known;
}

-- one node more is back
pub back_more : (firsts rs : List Running) (i : ℕ) (r : Running) → i < length rs
    → ((k : ℕ) (d : Running) → k < i → k < length firsts → IsBack (get_or firsts k d) (get_or rs k d)) → ((d : Running) → i < length firsts → IsBack (get_or firsts i d) r)
    → (k : ℕ) (d : Running) → k < i + 1 → k < length firsts → IsBack (get_or firsts k d) (get_or (set rs i r) k d)
back_more firsts rs i r b each one k d c inside = elim (cases_eq k i) [
  | inl here ↦ subst (λ n. IsBack (get_or firsts n d) (get_or (set rs i r) n d)) (sym here) (subst (IsBack (get_or firsts i d)) (sym (get_or-set_same rs i r d b)) (one d (subst (λ n. n < length firsts) here inside)))
  | inr other ↦ subst (IsBack (get_or firsts k d)) (sym (get_or-set_other rs i k r d other)) (each k d (omega (arith, c, other)) inside)
]

-- as far as they were they leave as many ticks
pub as_far_left : (end : ℕ) (rs new : List Running) → AreAsFar rs new → ticks_left end new ≤ ticks_left end rs
as_far_left end rs new far = ticks_less end rs new far.all (λ i d b. let e = far.next i d b in omega (arith, e))

-- whether a guess held or failed, no more ticks are left
pub went_less : (end : ℕ) (o : Option ℕ) (old new : List Running) → MatchOption o (ticks_left end new < ticks_left end old) (λ t. AreAsFar old new) → ticks_left end new ≤ ticks_left end old
went_less end None old new less = omega (arith, less)
went_less end (Some t) old new far = as_far_left end old new far
