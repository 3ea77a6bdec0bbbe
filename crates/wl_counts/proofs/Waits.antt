-- Frames that follow one another begin in time, and none waits longer than its bound.
use Rattle.std.proofs.Common.{◌≡◌, ◌∙◌, ap, sym, subst, ℕ, zero, suc, ◌+◌, ◌-◌, ◌*◌, ◌<◌, ◌≤◌, true, eqb, arith, inl, inr}
use Rattle.std.proofs.lemmas.Bool.{cases_Bool, both_ways, eqb-true, false_from_ne_true, cases_lt}
use Rattle.wl_counts.specs.Counts.{one_if, sum_below, picks_below, message_count, periods_in, LiesIn}
use Rattle.wl_counts.specs.Waits.{Frames, Table, AreAtMost, AreSporadic, FollowOn, HaveFew, AreEnough, WaitBefore, HasWindow, HaveWindows, demand, share}
use Rattle.wl_counts.proofs.Sums.{by_counts, sum_zero}
use Rattle.wl_counts.proofs.Windows.{few}

module _ (message begin cost bound : ℕ → ℕ) (n from blocking messages w : ℕ) (row : FollowOn message begin cost n from blocking messages) (enough : blocking + sum_below (λ e. bound e * cost e) messages ≤ w) where
  -- each begins by the costs of those before it
  begins_by : (k : ℕ) → k < n → begin k ≤ from + blocking + sum_below (λ j. cost (message j)) k
  begins_by zero below = let h : begin 0 ≤ from + blocking = row.first in omega arith
  begins_by (suc k) below =
      let old : begin k ≤ from + blocking + sum_below (λ j. cost (message j)) k = begins_by k (omega arith) in
      let next : begin (suc k) ≤ begin k + cost (message k) = row.next k below in
      omega arith

  -- the first m take no longer than the window, if no message has too many of them
  first_costs : (m : ℕ) → m ≤ n → ((e : ℕ) → e < messages → message_count message e m ≤ bound e) → blocking + sum_below (λ j. cost (message j)) m ≤ w
  first_costs m within less =
      let h : sum_below (λ j. cost (message j)) m ≤ sum_below (λ e. bound e * cost e) messages =
      by_counts message cost bound m messages (λ k below. row.known k (omega arith)) less in
      omega arith

  begin_all : ((m : ℕ) → m < n → HaveFew message begin bound m (from + w) messages) → (m : ℕ) → m ≤ n → (k : ℕ) → k < m → begin k ≤ from + w
  begin_all less zero within k below = absurd (omega arith)
  begin_all less (suc m) within k below =
      let old : (j : ℕ) → j < m → begin j ≤ from + w = begin_all less m (omega arith) in
      elim (cases_lt k m) [
        | inl before ↦ old k before
        | inr last ↦
            (let same : k ≡ m = omega arith in
            let by : begin m ≤ from + blocking + sum_below (λ j. cost (message j)) m = begins_by m (omega arith) in
            let costs : blocking + sum_below (λ j. cost (message j)) m ≤ w = first_costs m (omega arith) (less m (omega arith) old) in
            let here : begin m ≤ from + w = omega arith in
            subst (λ j. begin j ≤ from + w) (sym same) here)
      ]

  pub begin_in_time : ((m : ℕ) → m < n → HaveFew message begin bound m (from + w) messages) → (k : ℕ) → k < n → begin k ≤ from + w
  begin_in_time less k below = begin_all less n (omega arith) k below

  pub end_in_time : ((m : ℕ) → m ≤ n → HaveFew message begin bound m (from + w) messages) → (k : ℕ) → k < n → begin k + cost (message k) ≤ from + w
  end_in_time less k below =
      let early : (j : ℕ) → j < n → begin j ≤ from + w = begin_in_time (λ m within. less m (omega arith)) in
      let by : begin k ≤ from + blocking + sum_below (λ j. cost (message j)) k = begins_by k below in
      let costs : blocking + sum_below (λ j. cost (message j)) (suc k) ≤ w = first_costs (suc k) below (less (suc k) below (λ j before. early j (omega arith))) in
      omega arith

-- periods give an arrival curve
pub periods_curve : (period message ready : ℕ → ℕ) (count : ℕ) → AreSporadic period message ready count → AreAtMost (λ e length. periods_in length (period e)) message ready count
periods_curve period message ready count sporadic picked e first n from back on within lie =
    few picked (λ k. ready (first + k)) (period e) from back on n (sporadic.positive e)
    (λ j k less below pj pk.
    let ej : message (first + j) ≡ e = (lie j (omega arith) pj).0 in
    let ek : message (first + k) ≡ e = (lie k below pk).0 in
    let h : ready (first + j) + period (message (first + j)) ≤ ready (first + k) = sporadic.apart (first + j) (first + k) (omega arith) (omega arith) (ej ∙ sym ek) in
    let p : period (message (first + j)) ≡ period e = ap period ej in
    omega arith)
    (λ k below pk. (lie k below pk).1)

-- and a jitter widens one
pub jitter_curve : (most : ℕ → ℕ → ℕ) (jitter message arrived ready : ℕ → ℕ) (count : ℕ) → AreAtMost most message arrived count → ((k : ℕ) → k < count → (arrived k ≤ ready k) × (ready k ≤ arrived k + jitter (message k))) → AreAtMost (λ e length. most e (length + jitter e)) message ready count
jitter_curve most jitter message arrived ready count curve near picked e first n from back on within lie =
    let h : picks_below picked n ≤ most e ((back + jitter e) + on) =
    curve picked e first n from (back + jitter e) on within
    (λ k below pk.
    let l = lie k below pk in
    let same : message (first + k) ≡ e = l.0 in
    let there : LiesIn from back on (ready (first + k)) = l.1 in
    let after : from < ready (first + k) + back = there.after in
    let by : ready (first + k) ≤ from + on = there.by in
    let b = near (first + k) (omega arith) in
    let low : arrived (first + k) ≤ ready (first + k) = b.0 in
    let high : ready (first + k) ≤ arrived (first + k) + jitter (message (first + k)) = b.1 in
    let j : jitter (message (first + k)) ≡ jitter e = ap jitter same in
    (same, record { after = omega arith; by = omega arith })) in
    let length : (back + jitter e) + on ≡ (back + on) + jitter e = omega arith in
    subst (λ x. picks_below picked n ≤ most e x) length h

-- if each frame waits no longer than its bound after frames that don't, none waits longer
module _ (x : Frames) (r : ℕ → ℕ) (count : ℕ) (step : (n : ℕ) → n < count → WaitBefore x r n → x.sent n ≤ x.ready n + r (x.message n)) where
  pub wait_all : (n : ℕ) → n ≤ count → WaitBefore x r n
  wait_all zero within k below = absurd (omega arith)
  wait_all (suc n) within k below =
      let old : WaitBefore x r n = wait_all n (omega arith) in
      elim (cases_lt k n) [
        | inl less ↦ old k less
        | inr last ↦
            (let same : k ≡ n = omega arith in
            subst (λ j. x.sent j ≤ x.ready j + r (x.message j)) (sym same) (step n (omega arith) old))
      ]

module _ (t : Table) (x : Frames) (w r : ℕ → ℕ) (count : ℕ) (are : HaveWindows t x r count) where
  module _ (last : ℕ) (inside : last < count) (old : WaitBefore x r last) where
    -- the frames of the window by number, from its first one
    abbrev pub message_in : ℕ → ℕ
    message_in k = x.message ((are.window last inside).first + k)

    abbrev pub begin_in : ℕ → ℕ
    begin_in k = x.begin ((are.window last inside).first + k)

    abbrev pub frames_in : ℕ
    frames_in = suc (last - (are.window last inside).first)

    pub follow_on : FollowOn message_in begin_in t.cost frames_in (are.window last inside).from (t.blocking (x.message last)) t.messages
    follow_on =
        let win : HasWindow t x r last = are.window last inside in
        let before : win.first ≤ last = win.before in
        record {
          first =
              (let here : win.first + 0 ≡ win.first = omega arith in
              let same : x.begin (win.first + 0) ≡ x.begin win.first = ap x.begin here in
              let h : x.begin win.first ≤ win.from + t.blocking (x.message last) = win.begins in
              omega arith);
          next = λ k below.
              (let there : win.first + suc k ≡ suc (win.first + k) = omega arith in
              let same : x.begin (win.first + suc k) ≡ x.begin (suc (win.first + k)) = ap x.begin there in
              let h : x.begin (suc (win.first + k)) ≤ x.begin (win.first + k) + t.cost (x.message (win.first + k)) = win.next (win.first + k) (omega arith) (omega arith) in
              omega arith);
          known = λ k below. are.known (win.first + k) (omega arith);
        }

    pub have_few : (q : ℕ) → q ≤ frames_in → HaveFew message_in begin_in (share t (x.message last) (w (x.message last))) q ((are.window last inside).from + w (x.message last)) t.messages
    have_few q within began e below =
        let win : HasWindow t x r last = are.window last inside in
        let before : win.first ≤ last = win.before in
        let m : ℕ = x.message last in
        elim (cases_Bool (t.joins (x.message last) e)) [
          | inl member ↦
              (let few : message_count message_in e q ≤ t.most e (t.early (x.message last) e + w (x.message last)) =
              are.few (λ k. eqb (x.message (win.first + k)) e) e win.first q win.from (t.early (x.message last) e) (w (x.message last)) (omega arith)
              (λ k less picked.
              let same : x.message (win.first + k) ≡ e = eqb-true (x.message (win.first + k)) e picked in
              let after : win.from < x.ready (win.first + k) + t.early (x.message last) (x.message (win.first + k)) = win.entered (win.first + k) (omega arith) (omega arith) old in
              let early : t.early (x.message last) (x.message (win.first + k)) ≡ t.early (x.message last) e = ap (t.early (x.message last)) same in
              let begun : x.ready (win.first + k) ≤ x.begin (win.first + k) = are.begun (win.first + k) (omega arith) in
              let by : x.begin (win.first + k) ≤ win.from + w (x.message last) = began k less in
              (same, record { after = omega arith; by = omega arith })) in
              let one : share t (x.message last) (w (x.message last)) e ≡ 1 * t.most e (t.early (x.message last) e + w (x.message last)) =
              ap (λ b. one_if b * t.most e (t.early (x.message last) e + w (x.message last))) member in
              omega arith)
          | inr stranger ↦
              (let none : message_count message_in e q ≡ 0 =
              sum_zero (λ k. one_if (eqb (x.message (win.first + k)) e)) q
              (λ k less.
              ap one_if
              (false_from_ne_true (eqb (x.message (win.first + k)) e)
              (λ picked.
              both_ways (t.joins (x.message last) e) stranger
              (subst (λ d. t.joins (x.message last) d ≡ true) (eqb-true (x.message (win.first + k)) e picked) (win.joins (win.first + k) (omega arith) (omega arith)))))) in
              omega arith)
        ]

    wait_step : ((m : ℕ) → m < t.messages → t.blocking m + demand t m (w m) ≤ w m) → ((m : ℕ) → m < t.messages → t.early m m + w m + t.tail m ≤ r m + t.cost m) → x.sent last ≤ x.ready last + r (x.message last)
    wait_step fits enough =
        let win : HasWindow t x r last = are.window last inside in
        let before : win.first ≤ last = win.before in
        let known : x.message last < t.messages = are.known last inside in
        let end : x.begin (win.first + (last - win.first)) + t.cost (x.message (win.first + (last - win.first))) ≤ win.from + w (x.message last) =
        end_in_time message_in begin_in t.cost (share t (x.message last) (w (x.message last))) frames_in win.from (t.blocking (x.message last)) t.messages (w (x.message last)) follow_on
        (fits (x.message last) known) have_few (last - win.first) (omega arith) in
        let here : win.first + (last - win.first) ≡ last = omega arith in
        let ends : x.begin last + t.cost (x.message last) ≤ win.from + w (x.message last) = subst (λ k. x.begin k + t.cost (x.message k) ≤ win.from + w (x.message last)) here end in
        let entered : win.from < x.ready last + t.early (x.message last) (x.message last) = win.entered last before (omega arith) old in
        let ended : x.sent last ≤ x.begin last + t.tail (x.message last) = are.ended last inside in
        let wait : t.early (x.message last) (x.message last) + w (x.message last) + t.tail (x.message last) ≤ r (x.message last) + t.cost (x.message last) = enough (x.message last) known in
        omega arith

pub wait_short : (t : Table) (x : Frames) (w r : ℕ → ℕ) (count : ℕ) → AreEnough t w r → HaveWindows t x r count → (k : ℕ) → k < count → x.sent k ≤ x.ready k + r (x.message k)
wait_short t x w r count enough are k below = wait_all x r count (λ n within old. wait_step t x w r count are n within old enough.window enough.wait) count (omega arith) k below
