-- The members of a worker, what a worker comes to, and what all of them come to.
use Rattle.std.proofs.Common.{◌≡◌, ◌≢◌, ℕ, ◌+◌, ◌<◌, ◌≤◌, ◌%◌, ◌==◌, ◌||◌, ◌&&◌, nat_lt, Bool, true, false, All, Result, Ok, Err, IfOk, IfErr, List, [], ◌∷◌, ◌++◌, length, refl, sym, ap, subst, ◌∙◌, arith, slice_index_or, below_more}
use Rattle.std.proofs.lemmas.Bool.Decides.{nat_tests}
use Rattle.std.proofs.lemmas.Bool.{eq-eqb, eqb-true}
use Rattle.std.proofs.lemmas.List.Elements.{All-append, All-cons, All-nil}
use Rattle.std.proofs.lemmas.List.Folds.{list_any-append}
use Rattle.std.specs.Prelude.{IsOk}
use Rattle.std.proofs.lemmas.List.{get_or_append_left, get_or_push, length-append}
use Rattle.wl_node.specs.declared.setup.NodeSetup.{NodeSetup}
use Rattle.wl_node.specs.History.{history_of}
use Rattle.wl_plan.specs.declared.plan.Plan.{Plan}
use Rattle.wl_plan.specs.PlanLine.{setup_at, line_of, table_of}
use Rattle.wl_plan.specs.Checked.{CheckedIsSound}
use Rattle.wl_group.specs.Member.{next_tick}
use Rattle.wl_group.specs.GroupLaws.{GroupLaws}
use Rattle.wl_group.specs.GroupValue.{GroupValue, IsGroupValue, members_now, belongs, names}
use Rattle.wl_serial.specs.declared.outcome.NodeOutcome.{NodeOutcome}
use Rattle.wl_serial.specs.Outcome.{outcome_of_history, node_outcome_of}
use Rattle.wl_worker.specs.Finished.{HasFinished}
use Rattle.wl_worker.specs.declared.link.Fault.{Fault}
use Rattle.wl_worker.specs.declared.link.Fault.TheVariants.{Workers}
use Rattle.wl_worker.specs.declared.threads.OfShare.{OfShare}
use Rattle.wl_worker.specs.NodesOfWorker.{IsShare, IsDone, IsEnd, IsPromise, KeepsPromise, EndsKept, HaveEnded}

-- ---- members

or_none : (b : Bool) → b ≡ (b || false)
or_none true = refl
or_none false = refl

and_all : (b : Bool) → b ≡ (b && true)
and_all true = refl
and_all false = refl

and_none : (b : Bool) → false ≡ (b && false)
and_none true = refl
and_none false = refl

pub names_pushed : (xs ys : List ℕ) (i : ℕ) (wanted : Bool) → ys ≡ xs ++ i ∷ [] → wanted ≡ true → (k : ℕ) → names ys k ≡ (names xs k || (wanted && (i == k)))
names_pushed xs ys i wanted e want k =
    ap (λ zs. names zs k) e ∙ (list_any-append (λ m. m == k) xs (i ∷ []) ∙ (ap (λ b. names xs k || b) (sym (or_none (i == k))) ∙ ap (λ w. names xs k || (w && (i == k))) (sym want)))

pub names_same : (xs ys : List ℕ) (i : ℕ) (wanted : Bool) → ys ≡ xs → wanted ≡ false → (k : ℕ) → names ys k ≡ (names xs k || (wanted && (i == k)))
names_same xs ys i wanted e want k =
    ap (λ zs. names zs k) e ∙ (or_none (names xs k) ∙ ap (λ w. names xs k || (w && (i == k))) (sym want))

pub none_below : (k : ℕ) (b : Bool) → false ≡ (nat_lt k 0 && b)
none_below k b = let e : nat_lt k 0 ≡ false = grind (arith, nat_tests) in ap (λ c. c && b) (sym e)

one_below : (f : ℕ → Bool) (i k : ℕ) (here : Bool) → (i == k) ≡ here → ((nat_lt k i && f k) || (f i && here)) ≡ (nat_lt k (i + 1) && f k)
one_below f i k true e =
    let same : i ≡ k = grind (arith, nat_tests) in
    let out : nat_lt k i ≡ false = grind (arith, nat_tests) in
    let within : nat_lt k (i + 1) ≡ true = grind (arith, nat_tests) in
    ap (λ b. (b && f k) || (f i && true)) out ∙ (sym (and_all (f i)) ∙ (ap f same ∙ ap (λ b. b && f k) (sym within)))
one_below f i k false e =
    let as_before : nat_lt k i ≡ nat_lt k (i + 1) = grind (arith, nat_tests) in
    ap (λ b. (nat_lt k i && f k) || b) (sym (and_none (f i))) ∙ (sym (or_none (nat_lt k i && f k)) ∙ ap (λ b. b && f k) as_before)

-- a list that names what is chosen below i, and then i where that is chosen, names what is chosen below i + 1
pub chosen_more : (f : ℕ → Bool) (xs ys : List ℕ) (i : ℕ) → ((k : ℕ) → names ys k ≡ (names xs k || (f i && (i == k)))) → ((k : ℕ) → names xs k ≡ (nat_lt k i && f k))
    → (k : ℕ) → names ys k ≡ (nat_lt k (i + 1) && f k)
chosen_more f xs ys i more was k = more k ∙ (ap (λ b. b || (f i && (i == k))) (was k) ∙ one_below f i k (i == k) refl)

pub chosen_all : (f : ℕ → Bool) (xs : List ℕ) (n i : ℕ) → n ≤ i → ((k : ℕ) → names xs k ≡ (nat_lt k i && f k)) → (k : ℕ) → k < n → names xs k ≡ f k
chosen_all f xs n i low was k b = let e : nat_lt k i ≡ true = grind (arith, nat_tests) in was k ∙ ap (λ c. c && f k) e

pub below_pushed : (xs ys : List ℕ) (i n : ℕ) → ys ≡ xs ++ i ∷ [] → i < n → All (λ m. m < n) xs → All (λ m. m < n) ys
below_pushed xs ys i n e b h =
    subst (All (λ m. m < n)) (sym e) (All-append (λ m. m < n) xs (i ∷ []) h (All-cons (λ m. m < n) i [] b (All-nil (λ m. m < n))))

pub share_is : (plan : Plan) (workers worker n : ℕ) (g : GroupValue) (ms xs : List ℕ) → n ≡ length plan.nodes → xs ≡ ms → g.plan ≡ plan → g.lists ≡ true → belongs g ≡ names xs
    → ((i : ℕ) → i < n → names ms i ≡ (i % workers == worker)) → IsShare plan workers worker g
share_is plan workers worker n g ms xs count same plan_is kind members all = record {
  plan_is = plan_is;
  kind = kind;
  members = λ i b.
      let e : belongs g i ≡ (i % workers == worker) = ap (λ f. f i) members ∙ (ap (λ ys. names ys i) same ∙ all i (omega arith)) in
      (λ has. eqb-true (i % workers) worker (sym e ∙ has), λ of. e ∙ eq-eqb (i % workers) worker of);
}

-- ---- what a worker comes to

done_is : (plan : Plan) (workers worker : ℕ) (old new : GroupValue) → IsShare plan workers worker old → HasFinished old new → IsDone plan workers worker new
done_is plan workers worker old new s f = record {
  share = record {
    plan_is = f.led.plan ∙ s.plan_is;
    kind = f.led.lists ∙ s.kind;
    members = λ i b. (λ has. (s.members i b).0 (sym (ap (λ h. h i) f.led.members) ∙ has), λ of. ap (λ h. h i) f.led.members ∙ (s.members i b).1 of);
  };
  ended = f.ended;
}

-- a worker that began with its share and finished it, or failed
pub end_is : (plan : Plan) (workers worker : ℕ) (begun : GroupValue) (end : Result GroupValue Fault) → IsShare plan workers worker begun
    → IfOk end (HasFinished begun) → IfErr end (λ fault. fault ≢ Workers) → IsEnd plan workers worker end
end_is plan workers worker begun (Ok done) s f e = done_is plan workers worker begun done s f
end_is plan workers worker begun (Err fault) s f e = e

-- what a thread that promised it came to
pub end_of_promise : (plan : Plan) (workers worker : ℕ) (p : OfShare) (end : Result GroupValue Fault) → IsPromise plan workers worker p → KeepsPromise p end → IsEnd plan workers worker end
end_of_promise plan workers worker p end is kept =
    subst (λ w. IsEnd plan workers w end) is.worker_is
    (subst (λ n. IsEnd plan n p.worker end) is.workers_are (subst (λ q. IsEnd q p.workers p.worker end) is.plan_is kept))

pub both_ok : {A E : Type 0} (r : Result A E) (P Q S : A → Type 0) → ((x : A) → P x → Q x → S x) → IfOk r P → IfOk r Q → IfOk r S
both_ok (Ok x) P Q S f p q = f x p q
both_ok (Err e) P Q S f p q = tt

-- ---- what all come to

-- a member at the end has seen all that its node sees in the one-thread simulation, and has made all its changes
pub outcome_here : GroupLaws → CheckedIsSound → (g : GroupValue) → IsGroupValue g → (i : ℕ) → i < length g.plan.nodes → belongs g i ≡ true → g.plan.end ≤ next_tick (line_of g.plan) i (members_now g i)
    → (setup : NodeSetup) → setup ≡ setup_at g.plan i → (changes : List ℕ) → changes ≡ table_of g.plan i
    → (told : NodeOutcome) → told ≡ outcome_of_history setup changes (history_of setup (members_now g i).saw) → told ≡ node_outcome_of g.plan i
outcome_here groups sounds g is i b m late setup e changes f told t =
    let all = groups.member_ended (line_of g.plan) (sounds g.plan is.checked) i (members_now g i) _ b (is.holds.each i b m) late in
    t
    ∙ (ap (λ x. outcome_of_history x changes (history_of x (members_now g i).saw)) e
    ∙ (ap (λ cs. outcome_of_history (setup_at g.plan i) cs (history_of (setup_at g.plan i) (members_now g i).saw)) f
    ∙ ap (λ saw. outcome_of_history (setup_at g.plan i) (table_of g.plan i) (history_of (setup_at g.plan i) saw)) all.0))

-- ---- one more of a list

-- what holds of each at its place holds of them and of one more after them
pub one_behind : {X : Type 0} (xs ys : List X) (y : X) (n : ℕ) (Q : ℕ → X → Type 0) → ys ≡ xs ++ y ∷ [] → length xs ≡ n
    → ((k : ℕ) (d : X) → k < n → Q k (slice_index_or xs k d)) → Q n y → (k : ℕ) (d : X) → k < n + 1 → Q k (slice_index_or ys k d)
one_behind {X} xs ys y n Q e len h q k d b =
    below_more (λ j. (u : X) → Q j (slice_index_or ys j u)) n
    (λ j low u. subst (λ (zs : List X). Q j (slice_index_or zs j u)) (sym e) (subst (Q j) (sym (get_or_append_left xs (y ∷ []) u j (omega arith))) (h j u low)))
    (λ u. subst (λ (zs : List X). Q n (slice_index_or zs n u)) (sym e) (subst (Q n) (sym (get_or_push xs y u n len)) q))
    k b d

-- ---- all ends

-- all workers came to their ends or failed
failed_not_ok : (fault : Fault) (end : Result GroupValue Fault) → end ≡ Err fault → IsOk end → ⊥
failed_not_ok fault (Ok group) e ok = cc
failed_not_ok fault (Err other) e ok = cc

pub ended_all : (plan : Plan) (workers : ℕ) (ends : List (Result GroupValue Fault)) → EndsKept plan workers ends → length ends ≡ workers → HaveEnded plan workers ends
ended_all plan workers ends kept all = record { kept = kept; all = λ ok. all }

-- those before one that could not be started, and then that one
pub ended_short : (plan : Plan) (workers : ℕ) (ends more : List (Result GroupValue Fault)) (fault : Fault) → more ≡ ends ++ Err fault ∷ [] → EndsKept plan workers ends → fault ≢ Workers
    → HaveEnded plan workers more
ended_short plan workers ends more fault e kept other =
    let longer : length more ≡ length ends + 1 = ap length e ∙ length-append ends (Err fault ∷ []) in record {
      kept = λ w d b. one_behind ends more (Err fault) (length ends) (λ j end. IsEnd plan workers j end) e refl (λ j u low. kept j u low) other w d (omega arith);
      all = λ ok.
          let last : IsOk (slice_index_or more (length ends) (Err fault)) = ok (length ends) (Err fault) (omega arith) in
          let failed : slice_index_or more (length ends) (Err fault) ≡ Err fault
          = ap (λ xs. slice_index_or xs (length ends) (Err fault)) e ∙ get_or_push ends (Err fault) (Err fault) (length ends) refl in
          absurd (failed_not_ok fault _ failed last);
    }

-- the end of each worker, where all came to theirs
pub end_done : (plan : Plan) (workers w : ℕ) (end : Result GroupValue Fault) (group : GroupValue) → IsEnd plan workers w end → end ≡ Ok group → IsDone plan workers w group
end_done plan workers w end group is e = subst (IsEnd plan workers w) e is
