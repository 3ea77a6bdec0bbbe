-- The finer form: windows by cases, one for each node that may block and each time after the window's instant at which the last frame becomes ready.
use Rattle.std.specs.Prelude.{◌≡◌, ℕ, suc, ◌+◌, ◌-◌, ◌*◌, ◌<◌, ◌≤◌, Bool, true, false}
use Rattle.wl_counts.specs.Counts.{sum_below, message_count}
use Rattle.wl_counts.specs.Waits.{Frames, AreAtMost, WaitBefore}

-- As a Table, with a window for each message m and each case c of it. Its last frame is not counted. Of message e, `arrives` says that its frames are
-- counted by their curve; else `own` is the greatest number of them before the last frame. The last frame becomes ready `later` after the window's
-- instant, `since` at most before that. Davis, Burns, Bril, Lukkien 2007, section 3.2 (the instances of a busy period).
pub record CaseTable : Type 0 where
  pub messages : ℕ
  pub cost : ℕ → ℕ
  pub tail : ℕ → ℕ
  pub most : ℕ → ℕ → ℕ
  pub blocking : (m c : ℕ) → ℕ
  pub arrives : (m c e : ℕ) → Bool
  pub early : (m c e : ℕ) → ℕ
  pub own : (m c e : ℕ) → ℕ
  pub later : (m c : ℕ) → ℕ
  pub since : ℕ → ℕ

-- the greatest number of frames of message e before the last one of a window with a length of w
abbrev pub counted : Bool → (arriving own : ℕ) → ℕ
counted true arriving own = arriving
counted false arriving own = own

abbrev pub case_share : CaseTable → (m c w e : ℕ) → ℕ
case_share t m c w e = counted (t.arrives m c e) (t.most e (t.early m c e + w)) (t.own m c e)

-- how long they take together
abbrev pub case_demand : CaseTable → (m c w : ℕ) → ℕ
case_demand t m c w = sum_below (λ e. case_share t m c w e * t.cost e) t.messages

-- lengths of windows and greatest waits that pass the inequalities, for each message and case
pub record AreEnoughByCases (t : CaseTable) (w : ℕ → ℕ → ℕ) (r : ℕ → ℕ) : Type 0 where
  pub window : (m c : ℕ) → m < t.messages → t.blocking m c + case_demand t m c (w m c) ≤ w m c
  pub wait : (m c : ℕ) → m < t.messages → t.since m + w m c + t.tail m ≤ r m + t.later m c

-- the window of a frame, and its case
pub record HasCase (t : CaseTable) (x : Frames) (r : ℕ → ℕ) (last : ℕ) : Type 0 where
  pub case_is : ℕ
  pub first : ℕ
  pub from : ℕ
  pub before : first ≤ last
  pub begins : x.begin first ≤ from + t.blocking (x.message last) case_is
  pub next : (k : ℕ) → first ≤ k → k < last → x.begin (suc k) ≤ x.begin k + t.cost (x.message k)
  pub own : (e : ℕ) → t.arrives (x.message last) case_is e ≡ false
      → message_count (λ k. x.message (first + k)) e (last - first) ≤ t.own (x.message last) case_is e
  pub entered : (k : ℕ) → first ≤ k → k < last → WaitBefore x r last → t.arrives (x.message last) case_is (x.message k) ≡ true
      → from < x.ready k + t.early (x.message last) case_is (x.message k)
  pub ready : from + t.later (x.message last) case_is < x.ready last + t.since (x.message last)

-- frames of a bus with that table
pub record HaveCases (t : CaseTable) (x : Frames) (r : ℕ → ℕ) (count : ℕ) : Type 0 where
  pub known : (k : ℕ) → k < count → x.message k < t.messages
  pub begun : (k : ℕ) → k < count → x.ready k ≤ x.begin k
  pub ended : (k : ℕ) → k < count → x.sent k ≤ x.begin k + t.tail (x.message k)
  pub few : AreAtMost t.most x.message x.ready count
  pub window : (k : ℕ) → k < count → HasCase t x r k
