-- How long frames wait that follow one another on a bus: numbers alone. Frames are numbered in the order in which they win the arbitration.
use Rattle.std.specs.Prelude.{◌≡◌, ℕ, suc, ◌+◌, ◌*◌, ◌<◌, ◌≤◌, Bool, true}
use Rattle.wl_counts.specs.Counts.{LiesIn, one_if, sum_below, picks_below, message_count}

-- the message of each frame, and the instants at which it is ready, begins and is sent; this project's profile
pub record Frames : Type 0 where
  pub message : ℕ → ℕ
  pub ready : ℕ → ℕ
  pub begin : ℕ → ℕ
  pub sent : ℕ → ℕ

-- Of frames in a row, `most e length` of message e at most become ready in a half-open window of that length: an arrival curve, as the analyses with
-- event streams have it (Richter 2005). A period, a jitter and the list of a node's frames give one each.
abbrev pub AreAtMost : (most : ℕ → ℕ → ℕ) (message ready : ℕ → ℕ) (count : ℕ) → Type 0
AreAtMost most message ready count =
    (picked : ℕ → Bool) (e first n from back on : ℕ) → first + n ≤ count
    → ((k : ℕ) → k < n → picked k ≡ true → (message (first + k) ≡ e) × LiesIn from back on (ready (first + k)))
    → picks_below picked n ≤ most e (back + on)

-- Two frames of one message become ready a period apart at least, in the order of the bus; Davis, Burns, Bril, Lukkien 2007, section 2.
pub record AreSporadic (period message ready : ℕ → ℕ) (count : ℕ) : Type 0 where
  pub positive : (e : ℕ) → 0 < period e
  pub apart : (j k : ℕ) → j < k → k < count → message j ≡ message k → ready j + period (message j) ≤ ready k

-- Frames without a gap: the first begins within `blocking` of an instant, and each further one within the cost of the frame before it.
pub record FollowOn (message begin cost : ℕ → ℕ) (n from blocking messages : ℕ) : Type 0 where
  pub first : begin 0 ≤ from + blocking
  pub next : (k : ℕ) → suc k < n → begin (suc k) ≤ begin k + cost (message k)
  pub known : (k : ℕ) → k < n → message k < messages

-- If the first m of them begin by an instant, no message has more of them than its bound.
abbrev pub HaveFew : (message begin bound : ℕ → ℕ) (m by messages : ℕ) → Type 0
HaveFew message begin bound m by messages =
    ((k : ℕ) → k < m → begin k ≤ by) → (e : ℕ) → e < messages → message_count message e m ≤ bound e

-- What is known of the messages of a bus, by number. `cost` is the time from the beginning of a frame to that of the next winner, and `tail` the time to
-- its end. The rest is about a window of message m: the frames that win without a gap up to one of m, none of a lesser priority than m's node has.
-- `blocking` is the time from the window's instant to the first of them, `joins` says which messages e they may be of, and `early` how long before the
-- window's instant a frame of e may have become ready. Tindell and Burns 1994; Davis, Burns, Bril, Lukkien 2007, section 3 (the busy period).
pub record Table : Type 0 where
  pub messages : ℕ
  pub cost : ℕ → ℕ
  pub tail : ℕ → ℕ
  pub most : ℕ → ℕ → ℕ
  pub blocking : ℕ → ℕ
  pub joins : ℕ → ℕ → Bool
  pub early : ℕ → ℕ → ℕ

-- the greatest number of frames of message e in a window of m with a length of w
abbrev pub share : Table → (m w e : ℕ) → ℕ
share t m w e = one_if (t.joins m e) * t.most e (t.early m e + w)

-- how long they take together
abbrev pub demand : Table → (m w : ℕ) → ℕ
demand t m w = sum_below (λ e. share t m w e * t.cost e) t.messages

-- Lengths of windows and greatest waits that pass the inequalities, for each message; Davis, Burns, Bril, Lukkien 2007, section 3.1, as a test.
pub record AreEnough (t : Table) (w r : ℕ → ℕ) : Type 0 where
  pub window : (m : ℕ) → m < t.messages → t.blocking m + demand t m (w m) ≤ w m
  pub wait : (m : ℕ) → m < t.messages → t.early m m + w m + t.tail m ≤ r m + t.cost m

-- no frame before this one waits longer than the greatest wait of its message
abbrev pub WaitBefore : (x : Frames) (r : ℕ → ℕ) (last : ℕ) → Type 0
WaitBefore x r last = (j : ℕ) → j < last → x.sent j ≤ x.ready j + r (x.message j)

-- The window of a frame: where it begins, and its instant. How early a frame of it became ready may rest on the waits of frames before the last one: so
-- a frame that waited after a lesser one of its own queue has a wait of its own as jitter.
pub record HasWindow (t : Table) (x : Frames) (r : ℕ → ℕ) (last : ℕ) : Type 0 where
  pub first : ℕ
  pub from : ℕ
  pub before : first ≤ last
  pub begins : x.begin first ≤ from + t.blocking (x.message last)
  pub next : (k : ℕ) → first ≤ k → k < last → x.begin (suc k) ≤ x.begin k + t.cost (x.message k)
  pub joins : (k : ℕ) → first ≤ k → k ≤ last → t.joins (x.message last) (x.message k) ≡ true
  pub entered : (k : ℕ) → first ≤ k → k ≤ last → WaitBefore x r last → from < x.ready k + t.early (x.message last) (x.message k)

-- frames of a bus with that table
pub record HaveWindows (t : Table) (x : Frames) (r : ℕ → ℕ) (count : ℕ) : Type 0 where
  pub known : (k : ℕ) → k < count → x.message k < t.messages
  pub begun : (k : ℕ) → k < count → x.ready k ≤ x.begin k
  pub ended : (k : ℕ) → k < count → x.sent k ≤ x.begin k + t.tail (x.message k)
  pub few : AreAtMost t.most x.message x.ready count
  pub window : (k : ℕ) → k < count → HasWindow t x r k
