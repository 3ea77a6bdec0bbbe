-- The ticks below which the drives of the nodes are known, side by side.
use Rattle.std.proofs.Common.{◌≡◌, ℕ, ◌+◌, ◌<◌, ◌≤◌, ◌≢◌, inl, inr, List, [], ◌∷◌, length, replicate, get_or, sym, ◌∙◌, ap, subst, arith}
use Rattle.std.proofs.Math.ListN.{set, length-set}
use Rattle.std.proofs.lemmas.Bool.{cases_lt, cases_eq}
use Rattle.std.proofs.lemmas.List.{get_or-set_same, get_or-set_other, get_or_default, get_or-replicate, length-replicate}
use Rattle.wl_topology.specs.Delays.{delay_of}
use Rattle.wl_topology.specs.Limits.{most_places}
use Rattle.wl_plan.specs.declared.plan.Plan.{Plan}
use Rattle.wl_serial.specs.declared.running_node.Running.{Running}
use Rattle.wl_serial.specs.LineAt.{AreOthers}
use Rattle.wl_serial.specs.Running.{AreRunning, AreKnown, KnowsOthers, AllKnown, IsNext, OnlyOne}

-- the first i of them are there
abbrev pub KnownSoFar : ℕ → List Running → List ℕ → ℕ → Type 0
KnownSoFar end rs known i =
    (length known ≡ most_places)
    × ((k d : ℕ) (r : Running) → k < i → get_or known k d ≡ (get_or rs k r).known)
    × ((k d : ℕ) → i ≤ k → k < length known → end ≤ get_or known k d)

-- at first none is there
pub none_known : (end n v : ℕ) (rs : List Running) → n ≡ most_places → end ≤ v → KnownSoFar end rs (replicate n v) 0
none_known end n v rs all late = (
  length-replicate n v ∙ all,
  (λ k d r none. absurd (omega (arith, none))),
  (λ k d least inside. subst (λ x. end ≤ x) (sym (get_or-replicate n k v d (subst (λ m. k < m) (length-replicate n v) inside))) late),
)

pub known_more : (end : ℕ) (rs : List Running) (known : List ℕ) (i v : ℕ) → i < length known → KnownSoFar end rs known i → ((r : Running) → v ≡ (get_or rs i r).known)
    → KnownSoFar end rs (set known i v) (i + 1)
known_more end rs known i v b so_far is = (length-set known i v ∙ so_far.0, each, beyond)
  where
    each : (k d : ℕ) (r : Running) → k < i + 1 → get_or (set known i v) k d ≡ (get_or rs k r).known
    each k d r c = elim (cases_eq k i) [
      | inl same ↦ subst (λ n. get_or (set known i v) n d ≡ (get_or rs n r).known) (sym same) (get_or-set_same known i v d b ∙ is r)
      | inr other ↦ get_or-set_other known i k v d other ∙ so_far.1 k d r (omega (arith, c, other))
    ]

    beyond : (k d : ℕ) → i + 1 ≤ k → k < length (set known i v) → end ≤ get_or (set known i v) k d
    beyond k d c h =
        let other : k ≢ i = omega (arith, c) in
        subst (λ n. end ≤ n) (sym (get_or-set_other known i k v d other)) (so_far.2 k d (omega (arith, c)) (subst (λ n. k < n) (length-set known i v) h))

-- node j alone has run
pub known_on : (end : ℕ) (old new : List Running) (known : List ℕ) (j v : ℕ) → j < length known → j < length old → length new ≡ length old → AreKnown end old known → OnlyOne j old new
    → ((r : Running) → v ≡ (get_or new j r).known) → AreKnown end new (set known j v)
known_on end old new known j v b node all were only is = record { all = length-set known j v ∙ were.all; few = (let e = were.few in omega (arith, e, all)); each = each; beyond = beyond }
  where
    each : (k d : ℕ) (r : Running) → k < length new → get_or (set known j v) k d ≡ (get_or new k r).known
    each k d r c = elim (cases_eq k j) [
      | inl same ↦ subst (λ n. get_or (set known j v) n d ≡ (get_or new n r).known) (sym same) (get_or-set_same known j v d b ∙ is r)
      | inr other ↦ get_or-set_other known j k v d other ∙ (were.each k d r (omega (arith, c, all)) ∙ ap (λ x. x.known) (sym (only k r other)))
    ]

    beyond : (k d : ℕ) → length new ≤ k → k < length (set known j v) → end ≤ get_or (set known j v) k d
    beyond k d c h = elim (cases_eq k j) [
      | inl same ↦ absurd (omega (arith, same, c, node, all))
      | inr other ↦ subst (λ n. end ≤ n) (sym (get_or-set_other known j k v d other)) (were.beyond k d (omega (arith, c, all)) (subst (λ n. k < n) (length-set known j v) h))
    ]

-- node j runs once more
pub only_one_on : (j : ℕ) (old rs : List Running) (r : Running) → OnlyOne j old rs → OnlyOne j old (set rs j r)
only_one_on j old rs r only i d other = get_or-set_other rs j i r d other ∙ only i d other

pub only_one_more : (j : ℕ) (old rs new : List Running) → OnlyOne j old rs → OnlyOne j rs new → OnlyOne j old new
only_one_more j old rs new only more i d other = more i d other ∙ only i d other

-- of the first i numbers one is the least
abbrev pub IsLeast : List ℕ → ℕ → ℕ → ℕ → Type 0
IsLeast known i node least = (node < i) × ((d : ℕ) → get_or known node d ≡ least) × ((k d : ℕ) → k < i → least ≤ get_or known k d)

pub least_one_more : (known : List ℕ) (i node least v : ℕ) → i < length known → v ≡ get_or known i v → IsLeast known i node least → v < least → IsLeast known (i + 1) i v
least_one_more known i node least v b is so_far less = (omega arith, (λ d. here d), each)
  where
    here : (d : ℕ) → get_or known i d ≡ v
    here d = get_or_default known i d v b ∙ sym is

    each : (k d : ℕ) → k < i + 1 → v ≤ get_or known k d
    each k d c = elim (cases_eq k i) [
      | inl same ↦ subst (λ n. v ≤ get_or known n d) (sym same) (let e = here d in omega (arith, e))
      | inr other ↦ (let f = so_far.2 k d (omega (arith, c, other)) in omega (arith, f, less))
    ]

pub least_stays : (known : List ℕ) (i node least v : ℕ) → i < length known → v ≡ get_or known i v → IsLeast known i node least → least ≤ v → IsLeast known (i + 1) node least
least_stays known i node least v b is so_far more = ((let c = so_far.0 in omega (arith, c)), so_far.1, each)
  where
    each : (k d : ℕ) → k < i + 1 → least ≤ get_or known k d
    each k d c = elim (cases_eq k i) [
      | inl same ↦ subst (λ n. least ≤ get_or known n d) (sym same) (let e = get_or_default known i d v b ∙ sym is in omega (arith, e, more))
      | inr other ↦ so_far.2 k d (omega (arith, c, other))
    ]

-- it is a node, and the others are known as far
pub least_is_next : (plan : Plan) (rs : List Running) (known : List ℕ) (node least : ℕ) → AreRunning plan rs → AreKnown plan.end rs known
    → IsLeast known (length rs) node least → least < plan.end → IsNext plan.end rs node
least_is_next plan rs known node least running are is before =
    let there = is.0 in
    record {
      is_node = there;
      before = λ d. let p = (running.each node d there).1.promised in let e = is.1 0 in let f = are.each node 0 d there in omega (arith, p, e, f, before);
      first = λ d k e b. let p = (running.each node d there).1.promised in let same = is.1 0 in let f = is.2 k 0 b in let own = are.each node 0 d there in
          let other = are.each k 0 e b in omega (arith, p, same, f, own, other);
    }

pub all_known : (plan : Plan) (rs : List Running) (known : List ℕ) (node least : ℕ) → AreKnown plan.end rs known → IsLeast known (length rs) node least → plan.end ≤ least → AllKnown plan.end rs
all_known plan rs known node least are is late k d b = (let f = is.2 k 0 b in let e = are.each k 0 d b in omega (arith, f, e, late))

-- the delays of the first i nodes are there
abbrev pub OthersSoFar : Plan → ℕ → List ℕ → ℕ → Type 0
OthersSoFar plan j others i =
    (length others ≡ most_places)
    × ((k d : ℕ) → k < i → k ≢ j → get_or others k d ≡ delay_of plan.topology k j)
    × ((k d : ℕ) → k < length others → 1 ≤ get_or others k d)

pub no_others : (plan : Plan) (j n v : ℕ) → n ≡ most_places → 1 ≤ v → OthersSoFar plan j (replicate n v) 0
no_others plan j n v all some = (
  length-replicate n v ∙ all,
  (λ k d none other. absurd (omega (arith, none))),
  (λ k d inside. subst (λ x. 1 ≤ x) (sym (get_or-replicate n k v d (subst (λ m. k < m) (length-replicate n v) inside))) some),
)

pub others_more : (plan : Plan) (j : ℕ) (others : List ℕ) (i v : ℕ) → i < length others → OthersSoFar plan j others i → v ≡ delay_of plan.topology i j → 1 ≤ v
    → OthersSoFar plan j (set others i v) (i + 1)
others_more plan j others i v b so_far is some = (length-set others i v ∙ so_far.0, each, least)
  where
    each : (k d : ℕ) → k < i + 1 → k ≢ j → get_or (set others i v) k d ≡ delay_of plan.topology k j
    each k d c not_own = elim (cases_eq k i) [
      | inl same ↦ subst (λ n. get_or (set others i v) n d ≡ delay_of plan.topology n j) (sym same) (get_or-set_same others i v d b ∙ is)
      | inr other ↦ get_or-set_other others i k v d other ∙ so_far.1 k d (omega (arith, c, other)) not_own
    ]

    least : (k d : ℕ) → k < length (set others i v) → 1 ≤ get_or (set others i v) k d
    least k d c = elim (cases_eq k i) [
      | inl same ↦ subst (λ n. 1 ≤ get_or (set others i v) n d) (sym same) (subst (λ n. 1 ≤ n) (sym (get_or-set_same others i v d b)) some)
      | inr other ↦ subst (λ n. 1 ≤ n) (sym (get_or-set_other others i k v d other)) (so_far.2 k d (subst (λ n. k < n) (length-set others i v) c))
    ]

pub own_left_out : (plan : Plan) (j : ℕ) (others : List ℕ) (i : ℕ) → i ≡ j → OthersSoFar plan j others i → OthersSoFar plan j others (i + 1)
own_left_out plan j others i own so_far = (
  so_far.0,
  (λ k d c not_own. so_far.1 k d (elim (cases_lt k i) [
    | inl below ↦ below
    | inr here ↦ absurd (not_own (let e : k ≡ j = omega (arith, c, here, own) in e))
  ]) not_own),
  so_far.2,
)

-- where there is an element, one of them
pub one_of : (rs : List Running) (i : ℕ) → i < length rs → Running
one_of [] i b = absurd (omega (arith, b))
one_of (r ∷ rs) i b = r

-- Below the horizon what comes from the first i nodes is known, and a tick before the end up to which all are known is below it.
abbrev pub IsHorizon : ℕ → List Running → List ℕ → List ℕ → ℕ → ℕ → Type 0
IsHorizon end rs known others i horizon =
    ((k d e : ℕ) → k < i → horizon ≤ get_or known k d + get_or others k e)
    × (horizon ≤ end)
    × ((t : ℕ) → t < end → AllKnown t rs → t < horizon)

pub horizon_one_more : (plan : Plan) (j : ℕ) (rs : List Running) (known others : List ℕ) (i horizon next s v w : ℕ) → AreKnown plan.end rs known → AreOthers plan j others → i < length known
    → i < length others → v ≡ get_or known i v → w ≡ get_or others i w → s ≤ v + w → ((t : ℕ) → t < plan.end → t < v + w → t < s) → next ≤ horizon → next ≤ s
    → ((t : ℕ) → t < horizon → t < s → t < next) → IsHorizon plan.end rs known others i horizon → IsHorizon plan.end rs known others (i + 1) next
horizon_one_more plan j rs known others i horizon next s v w are some b c is_known is_delay sum early less few_s least so_far = (each, (let e = so_far.1 in omega (arith, e, less)), later)
  where
    known_here : (d : ℕ) → get_or known i d ≡ v
    known_here d = get_or_default known i d v b ∙ sym is_known

    delay_here : (d : ℕ) → get_or others i d ≡ w
    delay_here d = get_or_default others i d w c ∙ sym is_delay

    each : (k d e : ℕ) → k < i + 1 → next ≤ get_or known k d + get_or others k e
    each k d e h = elim (cases_eq k i) [
      | inl same ↦ subst (λ n. next ≤ get_or known n d + get_or others n e) (sym same) (let f = known_here d in let g = delay_here e in omega (arith, f, g, few_s, sum))
      | inr other ↦ (let f = so_far.0 k d e (omega (arith, h, other)) in omega (arith, f, less))
    ]

    far : (t : ℕ) → t < plan.end → AllKnown t rs → t < v + w
    far t before all = elim (cases_lt i (length rs)) [
      | inl node ↦
          (let r = one_of rs i node in let f = all i r node in let e = are.each i 0 r node in let g = known_here 0 in let h = some.some i 0 c in let k = delay_here 0 in
          omega (arith, e, f, g, h, k))
      | inr beyond ↦ (let f = are.beyond i 0 beyond b in let e = known_here 0 in omega (arith, f, e, before))
    ]

    later : (t : ℕ) → t < plan.end → AllKnown t rs → t < next
    later t before all = least t (so_far.2 t before all) (early t before (far t before all))

-- and so of all nodes
pub knows_others : (plan : Plan) (j : ℕ) (rs : List Running) (known others : List ℕ) (horizon : ℕ) → AreKnown plan.end rs known → AreOthers plan j others → length rs ≡ length plan.nodes
    → IsHorizon plan.end rs known others (length rs) horizon → KnowsOthers plan j horizon rs
knows_others plan j rs known others horizon are some all is i d b other =
    let h = is.0 i 0 0 b in
    let e = are.each i 0 d b in
    let f = some.each i 0 (omega (arith, b, all)) other in
    omega (arith, h, e, f)
