-- No frame waits longer than its bound, by the instances of its message in its window.
use Rattle.std.proofs.Common.{◌≡◌, ◌∙◌, ap, sym, ℕ, zero, suc, ◌+◌, ◌-◌, ◌*◌, ◌<◌, ◌≤◌, cond, Bool, true, false, eqb, arith, inl, inr}
use Rattle.std.proofs.Math.Nat.{mul-le-mul_left, mul-le-mul_right}
use Rattle.std.proofs.lemmas.Bool.{cases_Bool, cases_eq, eq-eqb, eqb-true, ne_eqb}
use Rattle.wl_counts.specs.Counts.{one_if, sum_below, message_count}
use Rattle.wl_counts.specs.Waits.{AreEnough, AreSporadic, Frames, HasWindow, HaveFew, HaveWindows, Table, WaitBefore, share}
use Rattle.wl_counts.specs.Instances.{AreEnoughByInstances, instance_share, instances}
use Rattle.wl_counts.proofs.Cases.{sum_more}
use Rattle.wl_counts.proofs.Waits.{begin_in, begin_in_time, follow_on, have_few, message_in, wait_all}

module _ (t : Table) (x : Frames) (period whole : ℕ → ℕ) (w : ℕ → ℕ → ℕ) (r : ℕ → ℕ) (count : ℕ) (enough : AreEnoughByInstances t period whole w r) (are : HaveWindows t x r count)
    (sporadic : AreSporadic period x.message x.ready count) (last : ℕ) (inside : last < count) (old : WaitBefore x r last) where
  abbrev win : HasWindow t x r last
  win = are.window last inside

  abbrev m : ℕ
  m = x.message last

  -- the frames of the window, and how many of m are among the first ones
  abbrev in_window : ℕ → ℕ
  in_window k = message_in t x whole r count are last inside old k

  abbrev begun : ℕ → ℕ
  begun k = begin_in t x whole r count are last inside old k

  abbrev n : ℕ
  n = last - win.first

  abbrev own : ℕ → ℕ
  own k = message_count in_window m k

  last_is : in_window n ≡ m
  last_is = (let before = win.before in ap x.message (let e : win.first + n ≡ last = omega arith in e))

  -- fewer than the greatest number are before the last one
  few_own : own n < instances t whole m
  few_own =
      let before = win.before in
      let row = follow_on t x whole r count are last inside old in
      let few = have_few t x whole r count are last inside old in
      let begin = begin_in_time in_window begun t.cost (share t m (whole m)) (suc n) win.from (t.blocking m) t.messages (whole m) row (enough.all m (are.known last inside)) (λ q low. few q (omega arith)) in
      let all : own (suc n) ≤ share t m (whole m) m = few (suc n) (omega arith) begin m (are.known last inside) in
      let one : own (suc n) ≡ own n + 1 = ap (λ b. own n + one_if b) (eq-eqb (in_window n) m last_is) in
      let most : share t m (whole m) m ≤ instances t whole m = by_joins (t.joins m m) in
      omega arith
    where
      by_joins : (b : Bool) → one_if b * t.most m (t.early m m + whole m) ≤ t.most m (t.early m m + whole m)
      by_joins true = omega arith
      by_joins false = omega arith

  abbrev width : ℕ
  width = w m (own n)

  -- of other messages at most their share of that window begins before the last frame
  few_before : (q : ℕ) → q < suc n → HaveFew in_window begun (instance_share t m (own n) width) q (win.from + width) t.messages
  few_before q within began e below = elim (cases_Bool (eqb e m)) [
    | inl same ↦
        (let is : e ≡ m = eqb-true e m same in
        let front : own q ≤ own n = sum_more (λ k. one_if (eqb (in_window k) m)) q n (omega arith) in
        let counts : message_count in_window e q ≡ own q = ap (λ d. message_count in_window d q) is in
        let bound : instance_share t m (own n) width e ≡ own n = ap (λ b. cond b (own n) (share t m width e)) same in
        omega arith)
    | inr other ↦
        (let few = have_few t x (λ d. width) r count are last inside old q (omega arith) began e below in
        let bound : instance_share t m (own n) width e ≡ share t m width e = ap (λ b. cond b (own n) (share t m width e)) other in
        omega arith)
  ]

  -- A frame that is ready a period after each own one before it is ready so many periods after the window's instant.
  ready_after : (k y : ℕ) → k ≤ n → ((p : ℕ) → p < k → in_window p ≡ m → x.ready (win.first + p) + period m ≤ y) → win.from < y + t.early m m → win.from + own k * period m < y + t.early m m
  ready_after zero y low far after = omega arith
  ready_after (suc k) y low far after = elim (cases_Bool (eqb (in_window k) m)) [
    | inl same ↦
        (let is : in_window k ≡ m = eqb-true (in_window k) m same in
        let before = win.before in
        let entered = win.entered (win.first + k) (omega arith) (omega arith) old in
        let early : t.early m (in_window k) ≡ t.early m m = ap (t.early m) is in
        let then =
        ready_after k (x.ready (win.first + k)) (omega arith)
        (λ p less own_p.
        let apart = sporadic.apart (win.first + p) (win.first + k) (omega arith) (omega arith) (own_p ∙ sym is) in
        let same_period : period (in_window p) ≡ period m = ap period own_p in
        omega arith) (omega arith) in
        let more : own (suc k) ≡ own k + 1 = ap (λ b. own k + one_if b) same in
        let product : own (suc k) * period m ≡ (own k + 1) * period m = ap (λ c. c * period m) more in
        let last_far = far k (omega arith) is in
        omega arith)
    | inr other ↦
        (let none : own (suc k) ≡ own k + 0 = ap (λ b. own k + one_if b) other in
        let product : own (suc k) * period m ≡ (own k + 0) * period m = ap (λ c. c * period m) none in
        let before = ready_after k y (omega arith) (λ p less own_p. far p (omega arith) own_p) after in
        omega arith)
  ]

  pub wait_step : x.sent last ≤ x.ready last + r m
  wait_step =
      let before = win.before in
      let known = are.known last inside in
      let row = follow_on t x whole r count are last inside old in
      let begins = begin_in_time in_window begun t.cost (instance_share t m (own n) width) (suc n) win.from (t.blocking m) t.messages width row (enough.window m (own n) known few_own) few_before n (omega arith) in
      let here : begun n ≡ x.begin last = ap x.begin (let e : win.first + n ≡ last = omega arith in e) in
      let ended = are.ended last inside in
      let late =
      ready_after n (x.ready last) (omega arith)
      (λ p less own_p.
      let apart = sporadic.apart (win.first + p) last (omega arith) inside own_p in
      let same_period : period (in_window p) ≡ period m = ap period own_p in
      omega arith) (win.entered last before (omega arith) old) in
      let wait = enough.wait m (own n) known few_own in
      omega arith

pub wait_short_by_instances : (t : Table) (x : Frames) (period whole : ℕ → ℕ) (w : ℕ → ℕ → ℕ) (r : ℕ → ℕ) (count : ℕ) → AreEnoughByInstances t period whole w r → HaveWindows t x r count
    → AreSporadic period x.message x.ready count → (k : ℕ) → k < count → x.sent k ≤ x.ready k + r (x.message k)
wait_short_by_instances t x period whole w r count enough are sporadic k below =
    wait_all x r count (λ n within old. wait_step t x period whole w r count enough are sporadic n within old) count (omega arith) k below

-- One window that has room for all instances is enough for each of them, less the cost of one.
module _ (t : Table) (period : ℕ → ℕ) (w r : ℕ → ℕ) (own : (m : ℕ) → m < t.messages → t.joins m m ≡ true) (grows : (e a b : ℕ) → a ≤ b → t.most e a ≤ t.most e b) (enough : AreEnough t w r) where
  abbrev less : ℕ → ℕ
  less m = w m - t.cost m

  share_less : (m e : ℕ) → share t m (less m) e ≤ share t m (w m) e
  share_less m e = mul-le-mul_left (one_if (t.joins m e)) (grows e (t.early m e + less m) (t.early m e + w m) (omega arith))

  -- without one own frame
  spared : (m j : ℕ) → m < t.messages → j < instances t w m → (k : ℕ) → (m < k → sum_below (λ e. instance_share t m j (less m) e * t.cost e) k + t.cost m ≤ sum_below (λ e. share t m (w m) e * t.cost e) k)
      × (sum_below (λ e. instance_share t m j (less m) e * t.cost e) k ≤ sum_below (λ e. share t m (w m) e * t.cost e) k)
  spared m j known few zero = (λ low. absurd (omega arith), omega arith)
  spared m j known few (suc k) =
      let old = spared m j known few k in
      elim (cases_eq k m) [
        | inl same ↦
            (let own_share : instance_share t m j (less m) k ≡ j = ap (λ b. cond b j (share t m (less m) k)) (eq-eqb k m same) in
            let joins : share t m (w m) k ≡ 1 * t.most k (t.early m k + w m) = ap (λ b. one_if b * t.most k (t.early m k + w m)) (ap (t.joins m) same ∙ own m known) in
            let most : t.most k (t.early m k + w m) ≡ instances t w m = ap (λ e. t.most e (t.early m e + w m)) same in
            let cost : t.cost k ≡ t.cost m = ap t.cost same in
            let room : suc j * t.cost k ≤ share t m (w m) k * t.cost k = mul-le-mul_right (t.cost k) (let h : suc j ≤ share t m (w m) k = omega arith in h) in
            let here : instance_share t m j (less m) k * t.cost k ≡ j * t.cost k = ap (λ s. s * t.cost k) own_share in
            let before = old.1 in
            (λ low. omega arith, omega arith))
        | inr other ↦
            (let share_is : instance_share t m j (less m) k ≡ share t m (less m) k = ap (λ b. cond b j (share t m (less m) k)) (ne_eqb k m other) in
            let here : instance_share t m j (less m) k * t.cost k ≤ share t m (w m) k * t.cost k = mul-le-mul_right (t.cost k) (let low = share_less m k in omega arith) in
            let before = old.1 in
            (λ low. (let more = old.0 (omega (arith, other, low)) in omega arith), omega arith))
      ]

  pub one_is_enough : AreEnoughByInstances t period w (λ m j. less m) r
  one_is_enough = record {
    all = enough.window;
    window = λ m j known few. (let h = enough.window m known in let s = (spared m j known few t.messages).0 known in omega arith);
    wait = λ m j known few.
        (let h = enough.wait m known in
        let all = enough.window m known in
        let s = (spared m j known few t.messages).0 known in
        omega arith);
  }
