-- What a plan shows on which one node alone has frames, and all of them get through.
use Rattle.std.proofs.Common.{◌≡◌, ◌∙◌, refl, sym, ap, subst, inl, inr, ℕ, suc, ◌+◌, ◌<◌, ◌==◌, cond, Bool, true, false, List, [], ◌∷◌, ◌++◌, length, map, arith}
use Rattle.std.specs.Prelude.{IsPermutation, count_by, filter}
use Rattle.std.proofs.lemmas.Bool.{cases_eq, eq-eqb, ne_eqb}
use Rattle.std.proofs.lemmas.List.{map-append}
use Rattle.std.proofs.lemmas.List.Sorted.{IsPermutation-refl}
use Rattle.std.proofs.lemmas.List.Sums.{count_by-le-length, sum_by-append}
use Rattle.wl_level.specs.declared.Level.{Level}
use Rattle.wl_frame.specs.Grammar.{Content}
use Rattle.wl_node.specs.declared.setup.Passed.{Passed}
use Rattle.wl_node.specs.declared.setup.NodeSetup.{NodeSetup}
use Rattle.wl_node.specs.History.{history_of, is_sent, staying_history}
use Rattle.wl_node.proofs.Callers.{stays_on}
use Rattle.wl_plan.specs.declared.plan.Plan.{Plan}
use Rattle.wl_plan.specs.PlanLine.{line_of, setup_at}
use Rattle.wl_plan.specs.Simulation.{AreInside, seen}
use Rattle.wl_phase.specs.Clocks.{Steady}
use Rattle.wl_buses.specs.BothProofs.Plans.{NoneLeaves}
use Rattle.wl_buses.specs.OneSender.Clean.{HasOneSender, bus_with}
use Rattle.wl_buses.specs.OneSender.Through.{GetThrough}
use Rattle.wl_buses.specs.BothProofs.Queues.{ComeFrom, queued_contents}
use Rattle.wl_proved.specs.CleanRuns.{as_passing, frames_from, passing_of}
use Rattle.wl_proved.specs.PlansOfFamily.{SendsAlone}
use Rattle.wl_proved.proofs.Ends.{IsCleanAt}

-- frames, all by one node
abbrev pub all_by : ℕ → List Content → List (ℕ × Content)
all_by sender = map (λ c. (sender, c))

-- those of that node are all of them, and of another one none
own_frames : (i sender : ℕ) (line : List Content) → (i == sender) ≡ true → frames_from i (all_by sender line) ≡ line
own_frames i sender [] same = refl
own_frames i sender (c ∷ more) same =
    ap (λ b. map (λ x. x.1) (cond b ((sender, c) ∷ filter (λ x. i == x.0) (all_by sender more)) (filter (λ x. i == x.0) (all_by sender more)))) same
    ∙ ap (λ l. c ∷ l) (own_frames i sender more same)

no_frames : (i sender : ℕ) (line : List Content) → (i == sender) ≡ false → frames_from i (all_by sender line) ≡ []
no_frames i sender [] other = refl
no_frames i sender (c ∷ more) other =
    ap (λ b. map (λ x. x.1) (cond b ((sender, c) ∷ filter (λ x. i == x.0) (all_by sender more)) (filter (λ x. i == x.0) (all_by sender more)))) other
    ∙ no_frames i sender more other

-- what has passed a node, if all of it was sent or none
abbrev IsOneWay : List Passed → Bool → Type 0
IsOneWay frames b = map as_passing frames ≡ map (λ c. (b, c)) (map (λ p. p.frame) frames)

one_counted : (p : Passed) (more : List Passed) (sent : Bool) → p.sent ≡ sent → count_by is_sent (p ∷ more) ≡ cond sent 1 0 + count_by is_sent more
one_counted p more sent is =
    sum_by-append (λ x. cond (is_sent x) 1 0) (p ∷ []) more
    ∙ ap (λ k. k + count_by is_sent more) (let none : 0 + cond p.sent 1 0 ≡ cond p.sent 1 0 = omega arith in none ∙ ap (λ v. cond v 1 0) is)

one_more : (p : Passed) (more : List Passed) (sent b : Bool) → p.sent ≡ sent → count_by is_sent (p ∷ more) ≡ cond b (suc (length more)) 0
    → (count_by is_sent more ≡ cond b (length more) 0 → IsOneWay more b) → IsOneWay (p ∷ more) b
one_more p more true true is count rest =
    (let here = one_counted p more true is in
    ap (λ v. (v, p.frame) ∷ map as_passing more) is ∙ ap (λ l. (true, p.frame) ∷ l) (rest (omega arith)))
one_more p more false true is count rest =
    (let here = one_counted p more false is in let few = count_by-le-length is_sent more in absurd (omega arith))
one_more p more true false is count rest = (let here = one_counted p more true is in absurd (omega arith))
one_more p more false false is count rest =
    (let here = one_counted p more false is in
    ap (λ v. (v, p.frame) ∷ map as_passing more) is ∙ ap (λ l. (false, p.frame) ∷ l) (rest (omega arith)))

one_way : (frames : List Passed) (b : Bool) → count_by is_sent frames ≡ cond b (length frames) 0 → IsOneWay frames b
one_way [] b count = refl
one_way (p ∷ more) b count = one_more p more p.sent b refl count (one_way more b)

passing_by : (i sender : ℕ) (line : List Content) → map (passing_of i) (all_by sender line) ≡ map (λ c. (i == sender, c)) line
passing_by i sender [] = refl
passing_by i sender (c ∷ more) = ap (λ l. (i == sender, c) ∷ l) (passing_by i sender more)

-- nothing comes from an empty queue
none_come : (setup : NodeSetup) → setup.queue ≡ [] → ComeFrom setup [] []
none_come setup e = record { once = subst (λ q. IsPermutation (queued_contents q) []) (sym e) (IsPermutation-refl []); order = λ fifo. sym (ap queued_contents e) }

module _ (plan : Plan) (clocks : ℕ → Steady) (stays : NoneLeaves plan) (sender : ℕ) (one : HasOneSender plan sender) (alone : SendsAlone plan sender) (stuffed : Content → List Level) (lengths : ℕ → ℕ)
    (through : GetThrough (bus_with plan clocks sender one stuffed) lengths) where
  abbrev pub bus_frames : List (ℕ × Content)
  bus_frames = all_by sender through.line

  pub in_order : (i : ℕ) → (later : List Content) × ComeFrom (setup_at plan i) (frames_from i bus_frames) later
  in_order i = elim (cases_eq i sender) [
    | inl same ↦ (
      through.left,
      subst (λ l. ComeFrom (setup_at plan i) l through.left) (sym (own_frames i sender through.line (eq-eqb i sender same)))
          (subst (λ j. ComeFrom (setup_at plan j) through.line through.left) (sym same) through.queue),
    )
    | inr other ↦
        ([], subst (λ l. ComeFrom (setup_at plan i) l []) (sym (no_frames i sender through.line (ne_eqb i sender other))) (none_come (setup_at plan i) (alone i other)))
  ]

  stayed_at : (i k : ℕ) → i < length plan.nodes → AreInside (line_of plan) i k → IsCleanAt plan bus_frames i (staying_history (setup_at plan i) (seen (line_of plan) i k))
  stayed_at i k node inside =
      let x = through.frames i k node inside in
      let role = through.roles i k node inside in
      let left = through.unsent i k node inside in
      record {
        errors = through.fine i k node inside;
        counters = through.counters i k node inside;
        passed = (
          map (λ c. (i == sender, c)) x.0,
          ap (λ l. l ++ map (λ c. (i == sender, c)) x.0) (one_way (staying_history (setup_at plan i) (seen (line_of plan) i k)).frames (i == sender) role)
              ∙ sym (map-append (λ c. (i == sender, c)) (map (λ p. p.frame) (staying_history (setup_at plan i) (seen (line_of plan) i k)).frames) x.0)
              ∙ ap (map (λ c. (i == sender, c))) x.1 ∙ sym (passing_by i sender through.line),
        );
        unsent = omega arith;
      }

  -- none leaves the bus
  pub clean_at : (i k : ℕ) → i < length plan.nodes → AreInside (line_of plan) i k → IsCleanAt plan bus_frames i (history_of (setup_at plan i) (seen (line_of plan) i k))
  clean_at i k node inside =
      subst (IsCleanAt plan bus_frames i) (sym (stays_on (setup_at plan i) (seen (line_of plan) i k) (stays i node))) (stayed_at i k node inside)
