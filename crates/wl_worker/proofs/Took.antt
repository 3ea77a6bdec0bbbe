-- What a group takes by a fetch, record by record, and whether that changed what it knows.
use Rattle.std.proofs.Common.{◌≡◌, ◌≢◌, ℕ, ◌<◌, ◌≤◌, max, Bool, true, false, if◌then◌else◌, ◌||◌, ◌&&◌, ◌==◌, [], ◌∷◌, refl, sym, subst, ap, ◌∙◌, arith}
use Rattle.std.proofs.lemmas.Bool.Decides.{nat_tests}
use Rattle.wl_lattice.specs.declared.FlatWord.{FlatWord}
use Rattle.wl_lattice.specs.declared.FlatWord.TheVariants as flat
use Rattle.wl_lattice.specs.Words.{joined_flat}
use Rattle.wl_record_core.specs.declared.record.Record.{Record}
use Rattle.wl_record_core.specs.declared.record.Record.TheVariants.{Edge, Silence}
use Rattle.wl_replica.specs.Slots.{edge_in, silence_in}
use Rattle.wl_replica.specs.State.{State, edge_at, silence_at}
use Rattle.wl_replica.specs.SlotsOf.{SlotsOfStates}
use Rattle.wl_plan.specs.PlanLine.{IsTrueOfPlan}
use Rattle.wl_group.specs.GroupValue.{GroupValue, with_records}
use Rattle.wl_worker.specs.Handed.{Took, TellsNews}
use Rattle.wl_mail.specs.Laws.{TakingLaws}

-- ---- nothing, one record, and more of them

pub took_nothing : TakingLaws → (old new : GroupValue) → new ≡ old → Took old new
took_nothing laws old new e = record { more = []; are_true = tt; taken = e ∙ laws.nothing old }

pub took_one : (old new : GroupValue) (r : Record) → IsTrueOfPlan old.plan r → new ≡ with_records (r ∷ []) old → Took old new
took_one old new r h e = record { more = r ∷ []; are_true = (h, tt); taken = e }

pub took_both : TakingLaws → (a b c : GroupValue) → Took a b → Took b c → Took a c
took_both laws = laws.further

-- ---- whether it changed

pub either_there : (b : Bool) (x : ℕ) → (if b then flat.Value x else flat.Clash) ≢ flat.Nothing
either_there true x = λ e. cc
either_there false x = λ e. cc

edge_here : (n s t : ℕ) → edge_in (Edge n s t) n s ≡ flat.Value t
edge_here n s t = let e : ((n == n) && (s == s)) ≡ true = grind (arith, nat_tests) in rw e refl

silence_here : (n c u : ℕ) → silence_in (Silence n c u) n c ≡ u
silence_here n c u = let e : ((n == n) && (c == c)) ≡ true = grind (arith, nat_tests) in rw e refl

-- an edge whose slot had nothing
pub edge_changes : SlotsOfStates → (old new : GroupValue) (n s t : ℕ) → edge_at old.replica (n, s) ≡ flat.Nothing → new ≡ with_records (Edge n s t ∷ []) old
    → new.replica ≢ old.replica
edge_changes laws old new n s t none e same =
    let now : edge_at new.replica (n, s) ≡ joined_flat (edge_at old.replica (n, s)) (edge_in (Edge n s t) n s)
    = ap (λ (g : GroupValue). edge_at g.replica (n, s)) e ∙ ap (λ w. w.edge n s) (laws.one_more old.replica (Edge n s t)) in
    let tick : edge_at new.replica (n, s) ≡ flat.Value t = now ∙ (ap (λ w. joined_flat w (edge_in (Edge n s t) n s)) none ∙ edge_here n s t) in
    let still : edge_at new.replica (n, s) ≡ flat.Nothing = ap (λ (x : State). edge_at x (n, s)) same ∙ none in
    let clash : flat.Nothing ≡ flat.Value t = sym still ∙ tick in
    cc

-- a silence that reaches further
pub silence_changes : SlotsOfStates → (old new : GroupValue) (n c u : ℕ) → (silence_at old.replica (n, c)).word < u → new ≡ with_records (Silence n c u ∷ []) old
    → new.replica ≢ old.replica
silence_changes laws old new n c u less e same =
    let now : (silence_at new.replica (n, c)).word ≡ max (silence_at old.replica (n, c)).word (silence_in (Silence n c u) n c)
    = ap (λ (g : GroupValue). (silence_at g.replica (n, c)).word) e ∙ ap (λ w. w.silence n c) (laws.one_more old.replica (Silence n c u)) in
    let here = silence_here n c u in
    let still : (silence_at new.replica (n, c)).word ≡ (silence_at old.replica (n, c)).word = ap (λ (x : State). (silence_at x (n, c)).word) same in
    absurd (omega arith)

-- ---- what it knows then

joined_value : (a : FlatWord) (t : ℕ) → joined_flat a (flat.Value t) ≢ flat.Nothing
joined_value flat.Nothing t = λ e. cc
joined_value (flat.Value x) t = either_there (x == t) x
joined_value flat.Clash t = λ e. cc

-- an edge is there
pub edge_there : SlotsOfStates → (old new : GroupValue) (n s t : ℕ) → new ≡ with_records (Edge n s t ∷ []) old → edge_at new.replica (n, s) ≢ flat.Nothing
edge_there laws old new n s t e =
    let now : edge_at new.replica (n, s) ≡ joined_flat (edge_at old.replica (n, s)) (edge_in (Edge n s t) n s)
    = ap (λ (g : GroupValue). edge_at g.replica (n, s)) e ∙ ap (λ w. w.edge n s) (laws.one_more old.replica (Edge n s t)) in
    subst (λ w. w ≢ flat.Nothing) (sym (now ∙ ap (λ w. joined_flat (edge_at old.replica (n, s)) w) (edge_here n s t))) (joined_value (edge_at old.replica (n, s)) t)

-- and a silence reaches at least so far
pub silence_there : SlotsOfStates → (old new : GroupValue) (n c u : ℕ) → new ≡ with_records (Silence n c u ∷ []) old → u ≤ (silence_at new.replica (n, c)).word
silence_there laws old new n c u e =
    let now : (silence_at new.replica (n, c)).word ≡ max (silence_at old.replica (n, c)).word (silence_in (Silence n c u) n c)
    = ap (λ (g : GroupValue). (silence_at g.replica (n, c)).word) e ∙ ap (λ w. w.silence n c) (laws.one_more old.replica (Silence n c u)) in
    let here = silence_here n c u in
    omega arith

pub changed_both : TakingLaws → (a b c : GroupValue) → Took a b → Took b c → (x y : Bool) → TellsNews a b x → TellsNews b c y → TellsNews a c (x || y)
changed_both laws = laws.news
