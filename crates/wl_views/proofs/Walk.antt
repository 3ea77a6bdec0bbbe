-- A dump that looks only where something may change tells every tick.
use Rattle.std.proofs.Common.{◌≡◌, ◌∙◌, eq-eqb, cond, refl, sym, ap, ap₂, arith, add-one, ℕ, zero, suc, ◌+◌, ◌-◌, ◌<◌, ◌≤◌, Bool, true, false, List, [], ◌∷◌, ◌++◌, length, get_or, take, append-nil, append_assoc}
use Rattle.std.specs.Prelude.{min}
use Rattle.std.specs.List.{flat_map, range_with_len}
use Rattle.std.proofs.lemmas.List.Concat.{flat_map-append}
use Rattle.std.proofs.lemmas.Slice.Eq.{bytes_eq-Decides}
use Rattle.wl_views.specs.declared.tick.Tick.{Tick}
use Rattle.wl_views.specs.declared.signals.NodeSignals.{NodeSignals}
use Rattle.wl_report.specs.Lines.{mode_word}
use Rattle.wl_trace.specs.declared.snapshot.NodeState.{NodeState}
use Rattle.wl_views.specs.Vcd.{change_line, changes_from, doing_word, level_changes, line_changes, node_changes, number_change, number_line, state_changes, tick_lines, time_line, under, word_change, word_line}

pub no_change : (letter : List ℕ) (i : ℕ) (b : Bool) → change_line letter i b b ≡ []
no_change letter i true = refl
no_change letter i false = refl

same_number : (letter : List ℕ) (i n : ℕ) → number_change letter i n n ≡ []
same_number letter i n = ap (λ b. cond b [] (number_line letter i n)) (eq-eqb n n refl)

same_word : (letter : List ℕ) (i : ℕ) (word : List ℕ) → word_change letter i word word ≡ []
same_word letter i word = ap (λ b. cond b [] (word_line letter i word)) ((bytes_eq-Decides word word).1 refl)

same_line : (i : ℕ) (n : NodeSignals) → line_changes i n n ≡ []
same_line i n =
    ap₂ (λ a b. a ++ b) (ap₂ (λ a b. a ++ b) (ap₂ (λ a b. a ++ b) (no_change _ i n.tx) (no_change _ i n.rx)) (no_change _ i n.cable)) (no_change _ i n.disturbance)

same_levels : (i : ℕ) (n : NodeSignals) → level_changes i n n ≡ []
same_levels i n = ap₂ (λ a b. a ++ b) (same_line i n) (ap₂ (λ a b. a ++ b) (no_change _ i n.sample) (no_change _ i n.start))

same_state : (i : ℕ) (n : NodeState) → state_changes i n n ≡ []
same_state i n =
    ap₂ (λ a b. a ++ b)
    (ap₂ (λ a b. a ++ b) (ap₂ (λ a b. a ++ b) (same_number _ i n.tec) (same_number _ i n.rec)) (same_word _ i (mode_word n.mode)))
    (same_word _ i (doing_word n.doing))

pub same_node : (i : ℕ) (n : NodeSignals) → node_changes i n n ≡ []
same_node i n = ap₂ (λ a b. a ++ b) (same_levels i n) (same_state i n.state)

nothing_changed : (i : ℕ) (now : List NodeSignals) → changes_from i now now ≡ []
nothing_changed i [] = refl
nothing_changed i (n ∷ now) = ap₂ (λ a b. a ++ b) (same_node i n) (nothing_changed (suc i) now)

-- one node more
changes_more : (a k : ℕ) (was now : List NodeSignals) (d : NodeSignals) → k < length was → k < length now
    → changes_from a (take (suc k) was) (take (suc k) now) ≡ changes_from a (take k was) (take k now) ++ node_changes (a + k) (get_or was k d) (get_or now k d)
changes_more a k [] now d b c = absurd (omega arith)
changes_more a k (w ∷ was) [] d b c = absurd (omega arith)
changes_more a zero (w ∷ was) (n ∷ now) d b c =
    append-nil (node_changes a w n) ∙ ap (λ (m : ℕ). node_changes m w n) {x = a} {y = a + 0} (omega arith)
changes_more a (suc k) (w ∷ was) (n ∷ now) d b c =
    ap (λ zs. node_changes a w n ++ zs) (changes_more (suc a) k was now d (omega arith) (omega arith)
    ∙ ap (λ (m : ℕ). changes_from (suc a) (take k was) (take k now) ++ node_changes m (get_or was k d) (get_or now k d)) {x = suc a + k} {y = a + suc k} (omega arith))
    ∙ sym (append_assoc (node_changes a w n) (changes_from (suc a) (take k was) (take k now)) (node_changes (a + suc k) (get_or was k d) (get_or now k d)))

pub changed_more : (k : ℕ) (was now : List NodeSignals) (d : NodeSignals) → k < length was → k < length now
    → changes_from 0 (take (k + 1) was) (take (k + 1) now) ≡ changes_from 0 (take k was) (take k now) ++ node_changes k (get_or was k d) (get_or now k d)
changed_more k was now d b c =
    rw add-one (changes_more 0 k was now d b c
    ∙ ap (λ (m : ℕ). changes_from 0 (take k was) (take k now) ++ node_changes m (get_or was k d) (get_or now k d)) {x = 0 + k} {y = k} (omega arith))

-- a range in two parts
range_parts : (a m n : ℕ) → range_with_len a (m + n) ≡ range_with_len a m ++ range_with_len (a + m) n
range_parts a zero n = ap₂ (λ (x y : ℕ). range_with_len x y) {x = a} {y = a + 0} {u = 0 + n} {v = n} (omega arith) (omega arith)
range_parts a (suc m) n =
    ap (λ (k : ℕ). range_with_len a k) {x = suc m + n} {y = suc (m + n)} (omega arith)
    ∙ ap (λ ts. a ∷ ts) (range_parts (a + 1) m n
    ∙ ap (λ (k : ℕ). range_with_len (a + 1) m ++ range_with_len k n) {x = a + 1 + m} {y = a + suc m} (omega arith))

module _ (tick : Tick) (levels : ℕ → List NodeSignals) where
  abbrev lines : List ℕ → List ℕ
  lines ts = flat_map (tick_lines tick levels) ts

  -- the levels of the tick before: no line
  quiet : (t : ℕ) → levels t ≡ levels (t - 1) → tick_lines tick levels t ≡ []
  unfolding tick_lines
  quiet t same =
      ap (λ now. under (time_line tick t) (changes_from 0 (levels (t - 1)) now)) same
      ∙ ap (under (time_line tick t)) (nothing_changed 0 (levels (t - 1)))

  quiet_range : (now : List NodeSignals) (a n : ℕ) → 1 ≤ a → ((u : ℕ) → a ≤ u + 1 → u < a + n → levels u ≡ now) → lines (range_with_len a n) ≡ []
  quiet_range now a zero some same = refl
  quiet_range now a (suc n) some same =
      ap₂ (λ x y. x ++ y) (quiet a (same a (omega arith) (omega arith) ∙ sym (same (a - 1) (omega arith) (omega arith))))
      (quiet_range now (a + 1) n (omega arith) (λ u from below. same u (omega arith) (omega arith)))

  -- what is told of tick t, and nothing up to another tick, after what was told from tick a on
  pub told_until : (a t until : ℕ) (was now : List NodeSignals) → 1 ≤ a → a ≤ t → t < until → levels (t - 1) ≡ was → ((u : ℕ) → t ≤ u → u < until → levels u ≡ now)
      → lines (range_with_len a (until - a)) ≡ lines (range_with_len a (t - a)) ++ under (time_line tick t) (changes_from 0 was now)
  unfolding tick_lines
  told_until a t until was now some from later before same =
      ap (λ (n : ℕ). lines (range_with_len a n)) {x = until - a} {y = (t - a) + suc (until - t - 1)} (omega arith)
      ∙ ap lines (range_parts a (t - a) (suc (until - t - 1)) ∙ ap (λ (k : ℕ). range_with_len a (t - a) ++ range_with_len k (suc (until - t - 1))) {x = a + (t - a)} {y = t} (omega arith))
      ∙ flat_map-append (tick_lines tick levels) (range_with_len a (t - a)) (range_with_len t (suc (until - t - 1)))
      ∙ ap (λ ys. lines (range_with_len a (t - a)) ++ ys)
      (ap₂ (λ x y. x ++ y) (ap₂ (λ x y. under (time_line tick t) (changes_from 0 x y)) before (same t (omega arith) later))
      (quiet_range now (t + 1) (until - t - 1) (omega arith) (λ u from below. same u (omega arith) (omega arith)))
      ∙ append-nil (under (time_line tick t) (changes_from 0 was now)))

  -- the same, where the text of what came before stands, up to the end of a span
  pub tick_more : (a t until to : ℕ) → 1 ≤ a → a ≤ t → t < until → t < to → ((u : ℕ) → t ≤ u → u < until → levels u ≡ levels t)
      → lines (range_with_len a (min until to - a)) ≡ lines (range_with_len a (t - a)) ++ tick_lines tick levels t
  unfolding tick_lines
  tick_more a t until to some from later inside same =
      told_until a t (min until to) (levels (t - 1)) (levels t) some from (omega arith) refl (λ u high low. same u high (omega arith))

  -- what comes from tick t on
  pub rest_of : (a t end : ℕ) → a ≤ t → t ≤ end
      → lines (range_with_len a (end - a)) ≡ lines (range_with_len a (t - a)) ++ lines (range_with_len t (end - t))
  rest_of a t end from inside =
      ap (λ (n : ℕ). lines (range_with_len a n)) {x = end - a} {y = (t - a) + (end - t)} (omega arith)
      ∙ ap lines (range_parts a (t - a) (end - t) ∙ ap (λ (k : ℕ). range_with_len a (t - a) ++ range_with_len k (end - t)) {x = a + (t - a)} {y = t} (omega arith))
      ∙ flat_map-append (tick_lines tick levels) (range_with_len a (t - a)) (range_with_len t (end - t))

pub under_some : (time more : List ℕ) → 0 < length more → under time more ≡ time ++ more
under_some time [] some = absurd (omega arith)
under_some time (b ∷ more) some = refl

pub under_none : (time more : List ℕ) → length more ≡ 0 → under time more ≡ []
under_none time [] none = refl
under_none time (b ∷ more) none = absurd (omega arith)

-- The text that has gone out and that which waits, and what is still to come.
pub whole_of : (front sent text told rest all time : List ℕ) → sent ++ text ≡ front ++ told → all ≡ told ++ rest
    → sent ++ (text ++ (rest ++ time)) ≡ front ++ (all ++ time)
whole_of front sent text told rest all time is parts =
    sym (append_assoc sent text (rest ++ time)) ∙ ap (λ ys. ys ++ (rest ++ time)) is ∙ append_assoc front told (rest ++ time)
    ∙ ap (λ ys. front ++ ys) (sym (append_assoc told rest time) ∙ ap (λ ys. ys ++ time) (sym parts))

pub one_tick : (front sent text told gone kept new here next : List ℕ) → sent ++ text ≡ front ++ told → gone ++ kept ≡ sent ++ text
    → new ≡ kept ++ here → next ≡ told ++ here → gone ++ new ≡ front ++ next
one_tick front sent text told gone kept new here next is moved grows more =
    ap (λ ys. gone ++ ys) grows ∙ sym (append_assoc gone kept here) ∙ ap (λ ys. ys ++ here) (moved ∙ is) ∙ append_assoc front told here ∙ ap (λ ys. front ++ ys) (sym more)

pub all_told : (front sent text told new time all : List ℕ) → sent ++ text ≡ front ++ told → new ≡ text ++ time → all ≡ told → sent ++ new ≡ front ++ (all ++ time)
all_told front sent text told new time all is grows same =
    ap (λ ys. sent ++ ys) grows ∙ sym (append_assoc sent text time) ∙ ap (λ ys. ys ++ time) is ∙ append_assoc front told time ∙ ap (λ ys. front ++ (ys ++ time)) (sym same)
