-- What is shown of the nodes of a bus with one sender, one by one: what is clean of a node, when a frame is due, and on which one the sender decides.
use Rattle.std.proofs.Common.{◌≡◌, ◌∙◌, ◌⊎◌, inl, inr, refl, sym, ap, subst, ℕ, zero, suc, ◌+◌, ◌*◌, ◌<◌, ◌≤◌, List, [], ◌++◌, Bool, Option, Some, None, arith}
use Rattle.std.specs.Prelude.{◌==◌}
use Rattle.std.proofs.lemmas.Bool.{cases_lt, cases_eq, cases_order}
use Rattle.std.proofs.lemmas.Option.{none-some}
use Rattle.wl_level.specs.declared.Level.{Level}
use Rattle.wl_segments.specs.Lengths.{sample_at, bit_quanta}
use Rattle.wl_confine.specs.Counts.{no_counts}
use Rattle.wl_frame.specs.Grammar.{Content}
use Rattle.wl_machine.specs.Stretch.{Stretch}
use Rattle.wl_node.specs.declared.setup.Passed.{Passed}
use Rattle.wl_node.specs.declared.setup.NodeSetup.{NodeSetup}
use Rattle.wl_node.specs.History.{staying_history, counters_of, error_count}
use Rattle.wl_phase.specs.Clocks.{steady_tick}
use Rattle.wl_plan.specs.Simulation.{seen}
use Rattle.wl_buses.specs.BothProofs.Levels.{levels_before}
use Rattle.wl_buses.specs.OneSender.OneSender.{SenderBus, IsBus, SendsFirst, lengths_of}
use Rattle.wl_buses.specs.OneSender.Through.{history_at, sender_queue, due_quantum}
use Rattle.wl_buses.specs.BothProofs.Queues.{head_at, ready_at}
use Rattle.wl_buses.proofs.BothProofs.Heads.{unsent_first}
use Rattle.wl_buses.proofs.OneSender.Nodes.{Does}
use Rattle.wl_buses.proofs.OneSender.Passing.{IsPassed, still_passed}
use Rattle.wl_buses.proofs.OneSender.Planned.{Laws}
use Rattle.wl_buses.proofs.OneSender.Resting as resting
use Rattle.wl_buses.proofs.OneSender.Resting.{Rests, SendsNext, rests_first}
use Rattle.wl_buses.proofs.OneSender.Silence.{Decides, left_of}
use Rattle.wl_buses.proofs.BothProofs.Small.{zero_first}

pub cases_head : (o : Option Content) → (o ≡ None) ⊎ ((h : Content) × (o ≡ Some h))
cases_head None = inl refl
cases_head (Some h) = inr (h, refl)

pub none_or_some : {A : Type 0} (o : Option Content) (h : Content) → o ≡ None → o ≡ Some h → A
none_or_some o h e f = absurd (none-some h (sym e ∙ f))

-- the first bit after which the sender is handed a frame
pub find : (setup : NodeSetup) (gone : List Passed) (base S B : ℕ) (most : ℕ)
    → ((m : ℕ) × (head : Content) × Decides setup gone base S B head m) ⊎ ((c : ℕ) → 10 ≤ c → c < most → head_at setup (left_of setup gone) (base + c * B + S) ≡ None)
find setup gone base S B zero = inr (λ c many less. absurd (omega arith))
find setup gone base S B (suc most) = elim (find setup gone base S B most) [
  | inl found ↦ inl found
  | inr none ↦ elim (cases_lt most 10) [
    | inl few ↦ inr (λ c many less. absurd (omega arith))
    | inr many ↦ elim (cases_head (head_at setup (left_of setup gone) (base + most * B + S))) [
      | inl not_yet ↦ inr (λ c above less. elim (cases_eq c most) [
        | inl here ↦ ap (λ c. head_at setup (left_of setup gone) (base + c * B + S)) here ∙ not_yet
        | inr apart ↦ none c above (omega arith)
      ])
      | inr some ↦ inl (most, some.0, record { idle = many; ready = some.1; unready = λ c above less. none c above less })
    ]
  ]
]

module _ (b : SenderBus) where
  abbrev own : NodeSetup
  own = b.setups b.sender

  abbrev S : ℕ
  S = sample_at (lengths_of b b.sender)

  abbrev B : ℕ
  B = bit_quanta (lengths_of b b.sender)

  -- the sender decides first on the first frame of the bus
  pub decides_first : SendsFirst b → (m : ℕ) (head : Content) → Decides own [] 0 S B head m → m ≡ b.decides
  decides_first sends m head d = elim (cases_order m b.decides) [
    | inl e ↦ e
    | inr o ↦ elim o [
      | inl less ↦ none_or_some (head_at own (sender_queue b) (m * B + S)) head (sends.unready m d.idle less)
          (ap (head_at own (sender_queue b)) (sym (zero_first (m * B) S)) ∙ ap (λ u. head_at own u (0 + m * B + S)) (sym (unsent_first own)) ∙ d.ready)
      | inr more ↦ none_or_some (head_at own (sender_queue b) (b.decides * B + S)) b.frame
          (ap (head_at own (sender_queue b)) (sym (zero_first (b.decides * B) S)) ∙ ap (λ u. head_at own u (0 + b.decides * B + S)) (sym (unsent_first own))
          ∙ d.unready b.decides sends.idle more) sends.ready
    ]
  ]

module _ (laws : Laws) (b : SenderBus) (is : IsBus b) where
  -- a node after its first k quanta
  pub record IsGood (line : List Content) (i k : ℕ) : Type 0 where
    pub fine : error_count (history_at b i k) ≡ 0
    pub counters : counters_of (history_at b i k) ≡ no_counts
    pub count : ℕ
    pub passed : IsPassed (b.setups b.sender) line (i == b.sender) count (history_at b i k).frames

  pub good_from : (line : List Content) (i k : ℕ) (inside : i < b.line.nodes) (levels : ℕ → Level) (passed : List Passed) (s : Stretch) (v : Level) → Does laws.clocks (b.setups i) (is.book i inside) levels passed k s v
      → seen b.line i k ≡ levels_before levels k → (n : ℕ) × IsPassed (b.setups b.sender) line (i == b.sender) n passed → IsGood line i k
  good_from line i k inside levels passed s v d e p = record {
    fine = ap (λ ls. error_count (staying_history (b.setups i) ls)) e ∙ d.errors;
    counters = ap (λ ls. counters_of (staying_history (b.setups i) ls)) e ∙ d.counts;
    count = p.0;
    passed = subst (IsPassed (b.setups b.sender) line (i == b.sender) p.0) (sym (ap (λ ls. (staying_history (b.setups i) ls).frames) e ∙ d.frames)) p.1;
  }

  -- so it is of a longer line
  pub still_good : (line more longer : List Content) (i k : ℕ) → line ++ more ≡ longer → IsGood line i k → IsGood longer i k
  still_good line more longer i k e is = record {
    fine = is.fine;
    counters = is.counters;
    count = is.count;
    passed = subst (λ x. IsPassed (b.setups b.sender) x (i == b.sender) is.count (history_at b i k).frames) e (still_passed (b.setups b.sender) line more (i == b.sender) is.count (history_at b i k).frames is.passed);
  }

  -- the frames of the sender are sent, and those of another node received
  pub of_node : (line : List Content) (v : ℕ) (sent : Bool) (n : ℕ) (found passed : List Passed) → (v == b.sender) ≡ sent → found ≡ passed → IsPassed (b.setups b.sender) line sent n passed
      → IsPassed (b.setups b.sender) line (v == b.sender) n found
  of_node line v sent n found passed h e p =
      subst (λ w. IsPassed (b.setups b.sender) line w n found) (sym h) (subst (IsPassed (b.setups b.sender) line sent n) (sym e) p)

  -- a clock goes on by a tick at least
  pub far : (i k : ℕ) → i < b.line.nodes → k ≤ b.line.instant i k
  far i zero inside = omega arith
  far i (suc k) inside = let e = far i k inside in let next = is.causal.clocks i k inside in omega arith

  pub frames_are : (i k : ℕ) (inside : i < b.line.nodes) (levels : ℕ → Level) (passed : List Passed) (s : Stretch) (v : Level) → Does laws.clocks (b.setups i) (is.book i inside) levels passed k s v
      → seen b.line i k ≡ levels_before levels k → (history_at b i k).frames ≡ passed
  frames_are i k inside levels passed s v d e = ap (λ ls. (staying_history (b.setups i) ls).frames) e ∙ d.frames

  pub strict : (i k m : ℕ) → i < b.line.nodes → k < m → steady_tick (b.clocks i) k < steady_tick (b.clocks i) m
  strict i k m inside less =
      let next = is.causal.clocks i k inside in
      let e = is.ticks i k inside in
      let g = is.ticks i (suc k) inside in
      let rise = resting.up laws.clocks b is i inside (suc k) m less in
      omega arith

module _ (b : SenderBus) (lengths : ℕ → ℕ) where
  -- when a frame is due, the ones before it were
  pub sent_later : (m k : ℕ) → m ≤ k → due_quantum b lengths m ≤ due_quantum b lengths k
  sent_later m zero h = let e : m ≡ 0 = omega arith in subst (λ x. due_quantum b lengths x ≤ due_quantum b lengths 0) (sym e) (omega arith)
  sent_later m (suc k) h = elim (cases_eq m (suc k)) [
    | inl here ↦ subst (λ x. due_quantum b lengths x ≤ due_quantum b lengths (suc k)) (sym here) (omega arith)
    | inr less ↦ (let e = sent_later m k (omega arith) in omega arith)
  ]

  pub ready_before : (j m : ℕ) → j < m → ready_at (sender_queue b) j ≤ due_quantum b lengths m
  ready_before j zero less = absurd (omega arith)
  ready_before j (suc m) less = elim (cases_eq j m) [
    | inl last ↦ (let e = ap (ready_at (sender_queue b)) last in omega arith)
    | inr other ↦ (let before = ready_before j m (omega (arith, other)) in omega arith)
  ]
