-- No frame waits longer than its bound, by windows of cases.
use Rattle.std.proofs.Common.{◌≡◌, ap, sym, subst, ℕ, zero, suc, ◌+◌, ◌-◌, ◌<◌, ◌≤◌, true, eqb, arith, inl, inr}
use Rattle.std.proofs.lemmas.Bool.{cases_Bool, eqb-true, cases_lt}
use Rattle.wl_counts.specs.Counts.{one_if, sum_below, message_count}
use Rattle.wl_counts.specs.Waits.{Frames, FollowOn, HaveFew, WaitBefore}
use Rattle.wl_counts.specs.Cases.{CaseTable, AreEnoughByCases, HasCase, HaveCases, counted, case_share}
use Rattle.wl_counts.proofs.Waits.{begin_in_time, wait_all}

-- a longer front has no fewer picks
pub sum_more : (f : ℕ → ℕ) (m n : ℕ) → m ≤ n → sum_below f m ≤ sum_below f n
sum_more f m zero h = let e : m ≡ 0 = omega arith in subst (λ k. sum_below f k ≤ 0) (sym e) (omega arith)
sum_more f m (suc n) h = elim (cases_lt n m) [
  | inl last ↦
      (let same : m ≡ suc n = omega arith in
      let e : sum_below f m ≡ sum_below f (suc n) = ap (sum_below f) same in
      omega arith)
  | inr less ↦ (let old : sum_below f m ≤ sum_below f n = sum_more f m n less in omega arith)
]

module _ (t : CaseTable) (x : Frames) (w : ℕ → ℕ → ℕ) (r : ℕ → ℕ) (count : ℕ) (enough : AreEnoughByCases t w r) (are : HaveCases t x r count) where
  module _ (last : ℕ) (inside : last < count) (old : WaitBefore x r last) (win : HasCase t x r last) where
    message_in : ℕ → ℕ
    message_in k = x.message (win.first + k)

    begin_in : ℕ → ℕ
    begin_in k = x.begin (win.first + k)

    frames_in : ℕ
    frames_in = suc (last - win.first)

    width : ℕ
    width = w (x.message last) win.case_is

    follow_on : FollowOn message_in begin_in t.cost frames_in win.from (t.blocking (x.message last) win.case_is) t.messages
    unfolding message_in begin_in frames_in
    follow_on =
        let before : win.first ≤ last = win.before in
        record {
          first =
              (let here : win.first + 0 ≡ win.first = omega arith in
              let same : x.begin (win.first + 0) ≡ x.begin win.first = ap x.begin here in
              let h : x.begin win.first ≤ win.from + t.blocking (x.message last) win.case_is = win.begins in
              omega arith);
          next = λ k below.
              (let there : win.first + suc k ≡ suc (win.first + k) = omega arith in
              let same : x.begin (win.first + suc k) ≡ x.begin (suc (win.first + k)) = ap x.begin there in
              let h : x.begin (suc (win.first + k)) ≤ x.begin (win.first + k) + t.cost (x.message (win.first + k)) = win.next (win.first + k) (omega arith) (omega arith) in
              omega arith);
          known = λ k below. are.known (win.first + k) (omega arith);
        }

    have_few : (q : ℕ) → q < frames_in → HaveFew message_in begin_in (case_share t (x.message last) win.case_is width) q (win.from + width) t.messages
    unfolding message_in begin_in frames_in
    have_few q within began e below =
        let before : win.first ≤ last = win.before in
        elim (cases_Bool (t.arrives (x.message last) win.case_is e)) [
          | inl arrives ↦
              (let few : message_count message_in e q ≤ t.most e (t.early (x.message last) win.case_is e + width) =
              are.few (λ k. eqb (x.message (win.first + k)) e) e win.first q win.from (t.early (x.message last) win.case_is e) width (omega arith)
              (λ k less picked.
              let same : x.message (win.first + k) ≡ e = eqb-true (x.message (win.first + k)) e picked in
              let member : t.arrives (x.message last) win.case_is (x.message (win.first + k)) ≡ true =
              subst (λ d. t.arrives (x.message last) win.case_is d ≡ true) (sym same) arrives in
              let after : win.from < x.ready (win.first + k) + t.early (x.message last) win.case_is (x.message (win.first + k)) =
              win.entered (win.first + k) (omega arith) (omega arith) old member in
              let early : t.early (x.message last) win.case_is (x.message (win.first + k)) ≡ t.early (x.message last) win.case_is e = ap (t.early (x.message last) win.case_is) same in
              let begun : x.ready (win.first + k) ≤ x.begin (win.first + k) = are.begun (win.first + k) (omega arith) in
              let by : x.begin (win.first + k) ≤ win.from + width = began k less in
              (same, record { after = omega arith; by = omega arith })) in
              let one : case_share t (x.message last) win.case_is width e ≡ t.most e (t.early (x.message last) win.case_is e + width) =
              ap (λ b. counted b (t.most e (t.early (x.message last) win.case_is e + width)) (t.own (x.message last) win.case_is e)) arrives in
              omega arith)
          | inr own ↦
              (let all : message_count message_in e (last - win.first) ≤ t.own (x.message last) win.case_is e = win.own e own in
              let front : message_count message_in e q ≤ message_count message_in e (last - win.first) =
              sum_more (λ k. one_if (eqb (x.message (win.first + k)) e)) q (last - win.first) (omega arith) in
              let one : case_share t (x.message last) win.case_is width e ≡ t.own (x.message last) win.case_is e =
              ap (λ b. counted b (t.most e (t.early (x.message last) win.case_is e + width)) (t.own (x.message last) win.case_is e)) own in
              omega arith)
        ]

    wait_step : x.sent last ≤ x.ready last + r (x.message last)
    unfolding message_in begin_in frames_in width
    wait_step =
        let before : win.first ≤ last = win.before in
        let known : x.message last < t.messages = are.known last inside in
        let begins : x.begin (win.first + (last - win.first)) ≤ win.from + w (x.message last) win.case_is =
        begin_in_time message_in begin_in t.cost (case_share t (x.message last) win.case_is width) frames_in win.from (t.blocking (x.message last) win.case_is) t.messages
        width follow_on (enough.window (x.message last) win.case_is known) have_few (last - win.first) (omega arith) in
        let here : win.first + (last - win.first) ≡ last = omega arith in
        let begun : x.begin last ≤ win.from + w (x.message last) win.case_is = subst (λ k. x.begin k ≤ win.from + w (x.message last) win.case_is) here begins in
        let ready : win.from + t.later (x.message last) win.case_is < x.ready last + t.since (x.message last) = win.ready in
        let ended : x.sent last ≤ x.begin last + t.tail (x.message last) = are.ended last inside in
        let wait : t.since (x.message last) + w (x.message last) win.case_is + t.tail (x.message last) ≤ r (x.message last) + t.later (x.message last) win.case_is =
        enough.wait (x.message last) win.case_is known in
        omega arith

  pub wait_short_by_cases : (k : ℕ) → k < count → x.sent k ≤ x.ready k + r (x.message k)
  wait_short_by_cases k below = wait_all x r count (λ n within old. wait_step n within old (are.window n within)) count (omega arith) k below
