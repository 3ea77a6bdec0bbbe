-- What is kept of each node at a place, and how many of them drive dominant.
use Rattle.std.proofs.Common.{◌≡◌, ℕ, zero, suc, ◌+◌, ◌^◌, ◌<◌, ◌≤◌, ◌≢◌, Bool, true, false, ◌||◌, inl, inr, List, length, replicate, get_or, refl, sym, ◌∙◌, ap, subst, arith, nat_lt}
use Rattle.std.proofs.Math.ListN.{set, length-set}
use Rattle.std.proofs.lemmas.Bool.{cases_lt, cases_eq, lt-ltb, le-ltb}
use Rattle.std.proofs.lemmas.List.{get_or_default, get_or-replicate, get_or-set_same, get_or-set_other, length-replicate}
use Rattle.std.specs.Int.{from_bool}
use Rattle.wl_topology.specs.Delays.{delay_of}
use Rattle.wl_topology.specs.Driven.{any_below}
use Rattle.wl_topology.specs.Limits.{most_places}
use Rattle.wl_plan.specs.declared.plan.Plan.{Plan}
use Rattle.wl_serial.specs.declared.running_node.Running.{Running}
use Rattle.wl_serial.specs.declared.sources.Sources.{Sources}
use Rattle.wl_pulse.specs.Pulses.{drove}
use Rattle.wl_pulse.specs.declared.pulse.Pulse.{Pulse}
use Rattle.wl_serial.specs.LineAt.{passing, AreTallied, IsAhead, IsDriving, AreSooner, AreSources, IsPulseTold}
use Rattle.wl_topology.proofs.Callers.{any_from, any_same}

-- some number passes where there is one at least that does
or_one : (a : ℕ) (b : Bool) → (nat_lt 0 a || b) ≡ nat_lt 0 (a + from_bool b)
or_one a b = elim (cases_lt 0 a) [
  | inl some ↦ ap (λ v. v || b) (lt-ltb 0 a some) ∙ sym (lt-ltb 0 (a + from_bool b) (omega (arith, some)))
  | inr nothing ↦ ap (λ v. v || b) (le-ltb 0 a nothing) ∙ last b nothing
]
  where
    last : (c : Bool) → a ≤ 0 → c ≡ nat_lt 0 (a + from_bool c)
    last true nothing = sym (lt-ltb 0 (a + 1) (omega arith))
    last false nothing = sym (le-ltb 0 (a + 0) (omega (arith, nothing)))

any_is : (test : ℕ → Bool) (n : ℕ) → any_below n test ≡ nat_lt 0 (passing test n)
any_is test zero = refl
any_is test (suc n) = ap (λ v. v || test n) (any_is test n) ∙ or_one (passing test n) (test n)

passing_same : (p q : ℕ → Bool) (n : ℕ) → ((k : ℕ) → k < n → q k ≡ p k) → passing q n ≡ passing p n
passing_same p q zero same = refl
passing_same p q (suc n) same =
    let f = passing_same p q n (λ k b. same k (omega (arith, b))) in
    let e = ap from_bool (same n (omega arith)) in
    omega (arith, f, e)

-- one number more or less
passing_change : (p q : ℕ → Bool) (i n : ℕ) → i < n → ((k : ℕ) → k ≢ i → q k ≡ p k) → passing q n + from_bool (p i) ≡ passing p n + from_bool (q i)
passing_change p q i zero b same = absurd (omega (arith, b))
passing_change p q i (suc n) b same = elim (cases_eq i n) [
  | inl here ↦
      (let f = passing_same p q n (λ k c. same k (omega (arith, c, here))) in
      let e = ap (λ k. from_bool (p k)) here in let g = ap (λ k. from_bool (q k)) here in omega (arith, f, e, g))
  | inr other ↦
      (let f = passing_change p q i n (omega (arith, b, other)) same in
      let e = ap from_bool (same n (λ x. other (sym x))) in omega (arith, f, e))
]

pub few_of_one : (b : Bool) → from_bool b ≤ 1
few_of_one true = omega arith
few_of_one false = omega arith

pub passing_few : (p : ℕ → Bool) (n : ℕ) → passing p n ≤ n
passing_few p zero = omega arith
passing_few p (suc n) = (let f = passing_few p n in let e = few_of_one (p n) in omega (arith, f, e))

-- of node i something else is kept
pub one_anew : (n i v : ℕ) (b : Bool) (s : Sources) → i < n → n ≤ most_places → AreTallied n s
    → passing (λ k. get_or (set s.drives i b) k false) n + from_bool (get_or s.drives i false) ≡ s.driving + from_bool b
one_anew n i v b s inside few kept =
    let c = passing_change (λ k. get_or s.drives k false) (λ k. get_or (set s.drives i b) k false) i n inside (λ k other. get_or-set_other s.drives i k b false other) in
    let e = ap from_bool (get_or-set_same s.drives i b false (let d = kept.drives in omega (arith, d, inside, few))) in
    let f = kept.driving in
    omega (arith, c, e, f)

pub kept_anew : (n i v : ℕ) (b : Bool) (s t : Sources) → i < n → n ≤ most_places → AreTallied n s → t.nexts ≡ set s.nexts i v → t.drives ≡ set s.drives i b
    → t.driving + from_bool (get_or s.drives i false) ≡ s.driving + from_bool b → AreTallied n t
kept_anew n i v b s t inside few kept nexts drives driving = record {
  nexts = ap length nexts ∙ (length-set s.nexts i v ∙ kept.nexts);
  drives = ap length drives ∙ (length-set s.drives i b ∙ kept.drives);
  beyond = λ k c h.
      let other : k ≢ i = omega (arith, c, inside) in
      let e = ap (λ xs. get_or xs k 0) nexts ∙ get_or-set_other s.nexts i k v 0 other in
      let f = kept.beyond k c h in
      omega (arith, e, f);
  quiet = λ k c h.
      let other : k ≢ i = omega (arith, c, inside) in
      ap (λ bs. get_or bs k false) drives ∙ (get_or-set_other s.drives i k b false other ∙ kept.quiet k c h);
  driving =
      let o = one_anew n i v b s inside few kept in
      let e = ap (λ bs. passing (λ k. get_or bs k false) n) drives in
      omega (arith, o, e, driving);
}

-- a change that comes sooner
pub kept_sooner : (n i comes : ℕ) (old new : Sources) → i < n → AreSooner i comes old new → AreTallied n old → AreTallied n new
kept_sooner n i comes old new inside sooner kept = record {
  nexts = sooner.all ∙ kept.nexts;
  drives = ap length sooner.drives ∙ kept.drives;
  beyond = λ k c h.
      let other : k ≢ i = omega (arith, c, inside) in
      let e = sooner.others k other in
      let f = kept.beyond k c h in
      omega (arith, e, f);
  quiet = λ k c h. ap (λ bs. get_or bs k false) sooner.drives ∙ kept.quiet k c h;
  driving = sooner.driving ∙ (kept.driving ∙ ap (λ bs. passing (λ k. get_or bs k false) n) (sym sooner.drives));
}

-- what comes from node i is taken up
sources_taken : (plan : Plan) (rs : List Running) (j t i : ℕ) (old new : Sources) → AreSources plan rs j t old
    → ((k : ℕ) → k ≢ i → get_or new.nexts k 0 ≡ get_or old.nexts k 0) → ((k : ℕ) → k ≢ i → get_or new.drives k false ≡ get_or old.drives k false)
    → ((u : ℕ) (d : Running) → t ≤ u → u < get_or new.nexts i 0 → drove (get_or rs i d).changes (delay_of plan.topology i j) u ≡ get_or new.drives i false)
    → AreSources plan rs j t new
sources_taken plan rs j t i old new were nexts drives is k u d b after before = elim (cases_eq k i) [
  | inl own ↦
      subst (λ n. drove (get_or rs n d).changes (delay_of plan.topology n j) u ≡ get_or new.drives n false) (sym own)
      (is u d after (let e = ap (λ n. get_or new.nexts n 0) own in omega (arith, before, e)))
  | inr other ↦ were k u d b after (let e = nexts k other in omega (arith, before, e)) ∙ sym (drives k other)
]

-- and so where its list and its delay were read
pub sources_asked : (plan : Plan) (rs : List Running) (j t i delay : ℕ) (r : Running) (changes : List ℕ) (old new : Sources) → AreSources plan rs j t old
    → ((k : ℕ) → k ≢ i → get_or new.nexts k 0 ≡ get_or old.nexts k 0) → ((k : ℕ) → k ≢ i → get_or new.drives k false ≡ get_or old.drives k false)
    → i < length rs → changes ≡ (get_or rs i r).changes → delay ≡ delay_of plan.topology i j
    → ((u : ℕ) → t ≤ u → u < get_or new.nexts i 0 → drove changes delay u ≡ get_or new.drives i false) → AreSources plan rs j t new
sources_asked plan rs j t i delay r changes old new were nexts drives inside list way is =
    sources_taken plan rs j t i old new were nexts drives
    (λ u d after before.
    ap (λ x. drove x.changes (delay_of plan.topology i j) u) (get_or_default rs i d r inside)
    ∙ (ap (λ n. drove (get_or rs i r).changes n u) (sym way) ∙ (ap (λ xs. drove xs delay u) (sym list) ∙ is u after before)))

-- up to the first change that comes, the nodes make what is kept
pub told_by : (plan : Plan) (rs : List Running) (j n : ℕ) (s : Sources) (p : Pulse) → length plan.nodes ≤ n → AreTallied (length plan.nodes) s → AreSources plan rs j p.from s
    → ((k : ℕ) → k < n → p.until ≤ get_or s.nexts k 0) → p.dominant ≡ nat_lt 0 s.driving → IsPulseTold plan rs j p
told_by plan rs j n s p few kept sources until dominant d t after before =
    any_same (length plan.nodes) (λ i. drove (get_or rs i d).changes (delay_of plan.topology i j) t) (λ i. get_or s.drives i false)
    (λ i b. sources i t d b after (let u = until i (omega (arith, b, few)) in omega (arith, u, before)))
    ∙ (any_is (λ i. get_or s.drives i false) (length plan.nodes) ∙ (ap (nat_lt 0) (sym kept.driving) ∙ sym dominant))

-- while one of them drives dominant the line is dominant, whatever the others do
pub told_driving : (plan : Plan) (rs : List Running) (j : ℕ) (s : Sources) (p : Pulse) → AreSources plan rs j p.from s
    → ((u : ℕ) → u < p.until → IsDriving (length plan.nodes) u s) → p.dominant ≡ true → IsPulseTold plan rs j p
told_driving plan rs j s p sources driving dominant d t after before =
    let w : IsDriving (length plan.nodes) t s = driving t before in
    any_from (length plan.nodes) w.0 (λ i. drove (get_or rs i d).changes (delay_of plan.topology i j) t) w.1 (sources w.0 t d w.1 after w.3 ∙ w.2)
    ∙ sym dominant

-- at first none drives
pub silent : (m i : ℕ) → get_or (replicate m false) i false ≡ false
silent zero i = refl
silent (suc m) zero = refl
silent (suc m) (suc i) = silent m i

none_passing : (p : ℕ → Bool) (n : ℕ) → ((i : ℕ) → p i ≡ false) → passing p n ≡ 0
none_passing p zero none = refl
none_passing p (suc n) none = (let f = none_passing p n none in let e = ap from_bool (none n) in omega (arith, f, e))

pub none_drives : (n : ℕ) → 0 ≡ passing (λ i. get_or (replicate most_places false) i false) n
none_drives n = sym (none_passing (λ i. get_or (replicate most_places false) i false) n (silent most_places))

-- at first nothing comes from any number
pub nothing_comes : (n v : ℕ) → n ≡ most_places → 2 ^ 63 ≤ v
    → (length (replicate n v) ≡ most_places) × ((k : ℕ) → k < 0 → get_or (replicate n v) k 0 ≡ 0)
    × ((k : ℕ) → 0 ≤ k → k < most_places → 2 ^ 63 ≤ get_or (replicate n v) k 0)
nothing_comes n v all late = (
  length-replicate n v ∙ all,
  (λ k none. absurd (omega (arith, none))),
  (λ k least inside. subst (λ x. 2 ^ 63 ≤ x) (sym (get_or-replicate n k v 0 (omega (arith, inside, all)))) late),
)

-- only from a node a change comes
pub is_node : (n i t : ℕ) (s : Sources) → AreTallied n s → i < most_places → t < 2 ^ 63 → get_or s.nexts i 0 ≤ t → i < n
is_node n i t s kept inside early comes = elim (cases_lt i n) [
  | inl node ↦ node
  | inr past ↦ (let f = kept.beyond i past inside in absurd (omega (arith, f, early, comes)))
]

-- from no node anything comes before both ticks
pub until_ahead : (i until : ℕ) (old new : Sources) → IsAhead old → i ≡ old.one → new.others ≡ old.others → ((k : ℕ) → k ≢ i → get_or new.nexts k 0 ≡ get_or old.nexts k 0)
    → until ≤ get_or new.nexts i 0 → until ≤ new.others → (k : ℕ) → k < most_places → until ≤ get_or new.nexts k 0
until_ahead i until old new ahead one others same here few k b = elim (cases_eq k i) [
  | inl own ↦ (let e = ap (λ n. get_or new.nexts n 0) own in omega (arith, e, here))
  | inr other ↦ (let e = same k other in let f = ahead.others k (λ x. other (x ∙ sym one)) b in omega (arith, e, f, few, others))
]

-- from no node but one, and from that one
pub with_one : (one until : ℕ) (s : Sources) → ((k : ℕ) → k ≢ one → k < most_places → until ≤ get_or s.nexts k 0) → until ≤ get_or s.nexts one 0
    → (k : ℕ) → k < most_places → until ≤ get_or s.nexts k 0
with_one one until s others here k b = elim (cases_eq k one) [
  | inl own ↦ (let e = ap (λ n. get_or s.nexts n 0) own in omega (arith, e, here))
  | inr other ↦ others k other b
]

-- from no other node of the first n a change comes before that tick, and so from no other place
pub none_before : (n j until : ℕ) (s : Sources) → AreTallied n s → until ≤ 2 ^ 63 → ((k : ℕ) → k ≢ j → k < n → until ≤ get_or s.nexts k 0)
    → (k : ℕ) → k ≢ j → k < most_places → until ≤ get_or s.nexts k 0
none_before n j until s kept early each k other b = elim (cases_lt k n) [
  | inl node ↦ each k other node
  | inr past ↦ (let f = kept.beyond k past b in omega (arith, f, early))
]

-- A node of which a change had come by that tick is asked: still, from no other node but the one apart a change comes sooner than before.
pub ahead_taken : (i t : ℕ) (old new : Sources) → IsAhead old → old.others ≤ t → new.one ≡ old.one → new.others ≡ old.others
    → ((k : ℕ) → k ≢ i → get_or new.nexts k 0 ≡ get_or old.nexts k 0) → t < get_or new.nexts i 0 → IsAhead new
ahead_taken i t old new ahead few one others same later = record {
  inside = (let e = ahead.inside in omega (arith, e, one));
  others = λ k apart b. elim (cases_eq k i) [
    | inl own ↦ (let e = ap (λ n. get_or new.nexts n 0) own in omega (arith, e, later, few, others))
    | inr other ↦ (let f = ahead.others k (λ x. apart (x ∙ sym one)) b in let e = same k other in omega (arith, f, e, others))
  ];
}
