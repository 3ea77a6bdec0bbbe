-- What a bit clock keeps, one quantum later.
use Rattle.std.proofs.Common.{◌≡◌, ℕ, suc, ◌+◌, ◌-◌, ◌<◌, ◌≤◌, ◌∙◌, inl, inr, List, [], ◌∷◌, ◌++◌, length, Bool, true, false, cond, not, ◌&&◌, Option, Some, None, is_some, refl, sym, ap, arith, length-append, add-zero, add-one, min}
use Rattle.std.specs.Prelude.{◌==◌, nat_lt, nat_le, ◌||◌}
use Rattle.std.proofs.Math.ListN.{get_or-append}
use Rattle.std.proofs.Math.Seq.{get_or-append_seam}
use Rattle.std.proofs.lemmas.List.{length-replicate, get_or-replicate}
use Rattle.std.proofs.lemmas.Bool.{ltb-true, eqb-false, lt-ltb, le-ltb, lt-leb, eq-eqb, ne_eqb, and_right, and_parts, cases_lt, cases_order}
use Rattle.wl_level.specs.declared.Level.{Level}
use Rattle.wl_level.specs.declared.Level.TheVariants.{Recessive}
use Rattle.wl_level.specs.Places.{or_at, first_place, is_found_at}
use Rattle.wl_level.proofs.Callers.{first_cong, first_not, none_first, or_at_here, or_at_cond}
use Rattle.wl_segments.specs.declared.SyncRules.{SyncRules}
use Rattle.wl_segments.specs.declared.SyncRules.TheVariants.{After, Book}
use Rattle.wl_segments.specs.Lengths.{Lengths, sample_at, bit_quanta, found_at}
use Rattle.wl_sync.specs.Edges.{Seen, is_hard_edge, syncs_again, looks, edge_counts, edge_restarts, phase_error, longer_by, shorter_by}
use Rattle.wl_sync.specs.Bits.{Bit, unseen, seen_at_place, previous_level, sample_before, is_edge, sync_place, sample_place, end_place, last_level, last_sample, opened, begun_bit, due_bit, edge_bit, edge_bit_by, longer, is_first_sync, is_sync_again, is_sync, is_restart, going_on, placed, bit_after, first_quanta, bit_of, beat_at, sync_at, beat_of, sync_of}
use Rattle.wl_sync.specs.Running.{Running, running, clock_after}
use Rattle.wl_sync.specs.Steps.{end_of, running_due, running_edge, running_edge_by, running_sync, running_restart, running_moved, running_first, running_over, running_placed, running_after, running_beat, running_answer}
use Rattle.wl_sync.specs.declared.Sync.TheVariants.{Hard, Error}
use Rattle.wl_sync.specs.declared.Beat.TheVariants.{Plain, Sample, Start}
use Rattle.wl_sync.proofs.Fresh.{either_sync, sync_once}
use Rattle.std.proofs.lemmas.List.Sums.{fold_push}

cond_else : {A : Type 0} (b : Bool) (x y z : A) → (b ≡ false → y ≡ z) → cond b x y ≡ cond b x z
cond_else true x y z h = refl
cond_else false x y z h = h refl

cond_then : {A : Type 0} (b : Bool) (x y z : A) → (b ≡ true → x ≡ y) → cond b x z ≡ cond b y z
cond_then true x y z h = h refl
cond_then false x y z h = refl

cond_min : (b : Bool) (m n : ℕ) → cond b (min (0 - m) n) 0 ≡ 0
cond_min true m n = omega arith
cond_min false m n = refl

cond_same : {A : Type 0} (b : Bool) (x y : A) → y ≡ x → cond b x y ≡ x
cond_same true x y e = refl
cond_same false x y e = e

cond_twice : {A : Type 0} (b : Bool) (x y : A) → x ≡ y → cond b x y ≡ y
cond_twice true x y e = e
cond_twice false x y e = refl

-- where an edge lies in the quantum before, no first quantum of a bit looks for one
looks_first : (s : SyncRules) (place : ℕ) → s ≡ Book → looks s place 0 ≡ false
looks_first After place e = cc
looks_first Book place e = refl

never_and : (a d e : Bool) → d ≡ false → ((a && d) && e) ≡ false
never_and a d e h = ap (λ c. c && e) (and_right a d h)

none_from : (o : Option ℕ) → not (is_some o) ≡ true → o ≡ None
none_from None h = refl
none_from (Some k) h = cc

longer_cond : (l : Lengths) (b : Bool) (n : ℕ) (o : Option ℕ) → longer_by l (cond b (Some n) o) ≡ cond b (longer_by l (Some n)) (longer_by l o)
longer_cond l true n o = refl
longer_cond l false n o = refl

shorter_cond : (l : Lengths) (b : Bool) (n : ℕ) (o : Option ℕ) → shorter_by l (cond b (Some n) o) ≡ cond b (shorter_by l (Some n)) (shorter_by l o)
shorter_cond l true n o = refl
shorter_cond l false n o = refl

some_cond : (b : Bool) (n : ℕ) (o : Option ℕ) → is_some (cond b (Some n) o) ≡ (b || is_some o)
some_cond true n o = refl
some_cond false n o = refl

same_running : (l : Lengths) {q q' a a' s s' : ℕ} {b b' : Bool} {v v' m m' : Level}
    → q ≡ q' → a ≡ a' → s ≡ s' → b ≡ b' → v ≡ v' → m ≡ m'
    → ◌≡◌ {A = Running} (record { lengths = l; quanta = q; longer = a; shorter = s; synced = b; level = v; sample = m })
    (record { lengths = l; quanta = q'; longer = a'; shorter = s'; synced = b'; level = v'; sample = m' })
same_running l e1 e2 e3 e4 e5 e6 = cc

sync_true : (l : Lengths) (bit : Bit) → bit.opening.synced ≡ true → sync_place l bit ≡ Some 0
sync_true l bit e = ap (λ b. cond b (Some 0) (first_place (is_edge l bit) (length bit.seen))) e

sync_false : (l : Lengths) (bit : Bit) → bit.opening.synced ≡ false → sync_place l bit ≡ first_place (is_edge l bit) (length bit.seen)
sync_false l bit e = ap (λ b. cond b (Some 0) (first_place (is_edge l bit) (length bit.seen))) e

module _ (l : Lengths) (bit : Bit) (x : Seen) where
  at_new : seen_at_place (longer bit x) (length bit.seen) ≡ x
  at_new = get_or-append_seam bit.seen x [] unseen

  at_old : (k : ℕ) → k < length bit.seen → seen_at_place (longer bit x) k ≡ seen_at_place bit k
  at_old k h = get_or-append bit.seen (x ∷ []) unseen k h

  quanta_more : length (longer bit x).seen ≡ suc (length bit.seen)
  quanta_more = length-append bit.seen (x ∷ []) ∙ add-one (length bit.seen)

  before_old : (k : ℕ) → k ≤ length bit.seen → previous_level (longer bit x) k ≡ previous_level bit k
  before_old k h =
      cond_else (k == 0) _ _ _ (λ e. let ne : k ≡ 0 → ⊥ = eqb-false k 0 e in ap (λ s. s.level) (at_old (k - 1) (omega arith)))

  sample_old : (k : ℕ) → k ≤ length bit.seen → sample_before l (longer bit x) k ≡ sample_before l bit k
  sample_old k h =
      cond_then (nat_lt (sample_at l) k) _ _ _ (λ e. ap (λ s. s.level) (at_old (sample_at l) (omega (arith, ltb-true (sample_at l) k e))))

  edge_old : (k : ℕ) → k < length bit.seen → is_edge l (longer bit x) k ≡ is_edge l bit k
  edge_old k h =
      ap (λ s. edge_counts l s (previous_level (longer bit x) k) (sample_before l (longer bit x) k) k) (at_old k h)
      ∙ ap (λ b. edge_counts l (seen_at_place bit k) b (sample_before l (longer bit x) k) k) (before_old k (omega arith))
      ∙ ap (λ b. edge_counts l (seen_at_place bit k) (previous_level bit k) b k) (sample_old k (omega arith))

  edge_new : is_edge l (longer bit x) (length bit.seen) ≡ edge_counts l x (last_level bit) (sample_before l bit (length bit.seen)) (length bit.seen)
  edge_new =
      ap (λ s. edge_counts l s (previous_level (longer bit x) (length bit.seen)) (sample_before l (longer bit x) (length bit.seen)) (length bit.seen)) at_new
      ∙ ap (λ b. edge_counts l x b (sample_before l (longer bit x) (length bit.seen)) (length bit.seen)) (before_old (length bit.seen) (omega arith))
      ∙ ap (λ b. edge_counts l x (last_level bit) b (length bit.seen)) (sample_old (length bit.seen) (omega arith))

  -- where no edge counted so far, the last sample is that before this place
  sample_none : sync_place l bit ≡ None → last_sample l bit ≡ sample_before l bit (length bit.seen)
  sample_none e = rw (e, add-zero)

  place_free : bit.opening.synced ≡ false → sync_place l (longer bit x) ≡ or_at (sync_place l bit) (is_edge l (longer bit x) (length bit.seen)) (length bit.seen)
  place_free e =
      sync_false l (longer bit x) e ∙ ap (first_place (is_edge l (longer bit x))) quanta_more
      ∙ ap (λ o. or_at o (is_edge l (longer bit x) (length bit.seen)) (length bit.seen))
      (first_cong (is_edge l (longer bit x)) (is_edge l bit) (length bit.seen) edge_old ∙ sym (sync_false l bit e))

  edge_is : (o : Option ℕ) → sync_place l bit ≡ o
      → (is_edge l (longer bit x) (length bit.seen) && not (is_some o))
      ≡ (edge_counts l x (last_level bit) (last_sample l bit) (length bit.seen) && not (is_some o))
  edge_is (Some k) e = and_right _ _ refl ∙ sym (and_right _ _ refl)
  edge_is None e = ap (λ b. b && true) (edge_new ∙ ap (λ s. edge_counts l x (last_level bit) s (length bit.seen)) (sym (sample_none e)))

  -- the edge that x finds counts, and is the first of the bit
  abbrev first_sync : Bool
  first_sync = edge_counts l x (last_level bit) (last_sample l bit) (length bit.seen) && not (is_some (sync_place l bit))

  first_once : bit.opening.synced ≡ true → first_sync ≡ false
  first_once e = and_right _ _ (ap (λ o. not (is_some o)) (sync_true l bit e))

  place_is : (b : Bool) → bit.opening.synced ≡ b
      → sync_place l (longer bit x) ≡ cond (first_sync) (Some (length bit.seen)) (sync_place l bit)
  place_is true e =
      sync_true l (longer bit x) e
      ∙ sym (ap (λ b. cond b (Some (length bit.seen)) (sync_place l bit)) (first_once e) ∙ sync_true l bit e)
  place_is false e =
      place_free e ∙ or_at_cond _ _ _
      ∙ ap (λ b. cond b (Some (length bit.seen)) (sync_place l bit)) (edge_is (sync_place l bit) refl)

  first_is_sync : (b : Bool) → bit.opening.synced ≡ b → is_first_sync l bit x ≡ first_sync
  first_is_sync true e = ap (λ b. not b && is_found_at (sync_place l (longer bit x)) (length bit.seen)) e ∙ sym (first_once e)
  first_is_sync false e =
      ap (λ b. not b && is_found_at (sync_place l (longer bit x)) (length bit.seen)) e
      ∙ ap (λ o. is_found_at o (length bit.seen)) (place_free e)
      ∙ or_at_here (sync_place l bit) _ (length bit.seen)
      (ap (λ o. is_found_at o (length bit.seen)) (sync_false l bit e) ∙ first_not (is_edge l bit) (length bit.seen) (length bit.seen) (omega arith))
      ∙ edge_is (sync_place l bit) refl

  is_sync_is : is_sync l bit x ≡ running_sync (running l bit) x
  is_sync_is =
      ap (λ b. b || is_sync_again l bit x) (first_is_sync bit.opening.synced refl)
      ∙ either_sync (edge_counts l x (last_level bit) (last_sample l bit) (length bit.seen)) (not (is_some (sync_place l bit))) (syncs_again l.sync x)

  restart_is : is_restart l bit x ≡ running_restart (running l bit) x
  restart_is = ap (λ b. b && edge_restarts l x (length bit.seen)) is_sync_is

  level_new : last_level (longer bit x) ≡ x.level
  level_new =
      ap (previous_level (longer bit x)) quanta_more
      ∙ ap (λ b. cond b bit.opening.level (seen_at_place (longer bit x) (suc (length bit.seen) - 1)).level) (ne_eqb (suc (length bit.seen)) 0 (λ e. omega arith))
      ∙ ap (λ k. (seen_at_place (longer bit x) k).level) (let back : suc (length bit.seen) - 1 ≡ length bit.seen = omega arith in back)
      ∙ ap (λ s. s.level) at_new

  -- the last sample after x, where the place of the sample stays
  sample_new : (p : ℕ)
      → cond (nat_lt p (suc (length bit.seen))) (seen_at_place (longer bit x) p).level bit.opening.sample
      ≡ cond (length bit.seen == p) x.level (cond (nat_lt p (length bit.seen)) (seen_at_place bit p).level bit.opening.sample)
  sample_new p = elim (cases_order (length bit.seen) p) [
    | inl e ↦ (let at_p : seen_at_place (longer bit x) p ≡ x = ap (seen_at_place (longer bit x)) (sym e) ∙ at_new in
        rw (lt-ltb p (suc (length bit.seen)) (omega arith), eq-eqb (length bit.seen) p e) (ap (λ s. s.level) at_p))
    | inr h ↦ elim h [
      | inl above ↦ rw (le-ltb p (suc (length bit.seen)) (omega arith), ne_eqb (length bit.seen) p (λ e. omega arith), le-ltb p (length bit.seen) (omega arith)) refl
      | inr below ↦ rw (lt-ltb p (suc (length bit.seen)) (omega arith), ne_eqb (length bit.seen) p (λ e. omega arith), lt-ltb p (length bit.seen) below) (ap (λ s. s.level) (at_old p below))
    ]
  ]

  -- an edge counts where none did before
  sync_fresh : first_sync ≡ true → sync_place l bit ≡ None
  sync_fresh h = none_from (sync_place l bit) (and_parts _ _ h).1

  -- an edge moves the place of the sample where neither the old nor the new one is over
  sample_step : (b : Bool) → first_sync ≡ b
      → cond (nat_lt (sample_at l + longer_by l (cond b (Some (length bit.seen)) (sync_place l bit))) (length bit.seen))
      (seen_at_place bit (sample_at l + longer_by l (cond b (Some (length bit.seen)) (sync_place l bit)))).level bit.opening.sample
      ≡ last_sample l bit
  sample_step false h = refl
  sample_step true h = elim (cases_lt (sample_at l) (length bit.seen)) [
    | inl after ↦
        ap (λ q. cond (nat_lt q (length bit.seen)) (seen_at_place bit q).level bit.opening.sample)
        (ap (λ b. sample_at l + cond b (min (length bit.seen - found_at l) l.sjw) 0) (lt-leb (length bit.seen) (sample_at l) after)
        ∙ ap (λ o. sample_at l + longer_by l o) (sym (sync_fresh h)))
    | inr before ↦ rw (le-ltb (sample_at l + longer_by l (Some (length bit.seen))) (length bit.seen) (omega arith), sync_fresh h, le-ltb (sample_at l + 0) (length bit.seen) (omega arith)) refl
  ]

  -- what the bit keeps after x, where x does not restart it
  stepped : running_restart (running l bit) x ≡ false → running l (longer bit x) ≡ running_moved (running l bit) (running_sync (running l bit) x) false x.level
  stepped f =
      same_running l (quanta_more ∙ sym (add-one (length bit.seen)))
      (ap (longer_by l) (place_is bit.opening.synced refl) ∙ longer_cond l (first_sync) (length bit.seen) (sync_place l bit))
      (ap (shorter_by l) (place_is bit.opening.synced refl) ∙ shorter_cond l (first_sync) (length bit.seen) (sync_place l bit))
      (ap is_some (place_is bit.opening.synced refl) ∙ some_cond (first_sync) (length bit.seen) (sync_place l bit))
      level_new
      (ap (λ n. cond (nat_lt (sample_place l (longer bit x)) n) (seen_at_place (longer bit x) (sample_place l (longer bit x))).level bit.opening.sample) quanta_more
      ∙ ap (λ o. cond (nat_lt (sample_at l + longer_by l o) (suc (length bit.seen))) (seen_at_place (longer bit x) (sample_at l + longer_by l o)).level bit.opening.sample) (place_is bit.opening.synced refl)
      ∙ sample_new (sample_at l + longer_by l (cond (first_sync) (Some (length bit.seen)) (sync_place l bit)))
      ∙ ap (λ v. cond (length bit.seen == sample_at l + longer_by l (cond (first_sync) (Some (length bit.seen)) (sync_place l bit))) x.level v) (sample_step (first_sync) refl)
      ∙ ap (λ n. cond (length bit.seen == sample_at l + n) x.level (last_sample l bit)) (longer_cond l (first_sync) (length bit.seen) (sync_place l bit)))
      ∙ ap (λ b. running_moved (running l bit) b false x.level) (sym (sync_once (running l bit) x f))

-- the quanta of a bit that an edge begins
begun_length : (l : Lengths) (bit : Bit) (x : Seen) → length (longer (begun_bit l bit) x).seen ≡ suc (found_at l)
begun_length l bit x = quanta_more l (begun_bit l bit) x ∙ ap suc (length-replicate (found_at l) unseen)

module _ (l : Lengths) (bit : Bit) (x : Seen) where
  restarted : running l (longer (begun_bit l bit) x) ≡ running_moved (running l bit) (running_sync (running l bit) x) true x.level
  restarted =
      same_running l (begun_length l bit x) (cond_min (nat_le 0 (sample_at l)) (found_at l) l.sjw)
      (ap (λ b. cond b l.sjw 0) (le-ltb (sample_at l) 0 (omega arith)))
      refl (level_new l (begun_bit l bit) x)
      (ap (λ b. cond b (seen_at_place (longer (begun_bit l bit) x) (sample_at l + longer_by l (Some 0))).level (last_sample l bit))
      (le-ltb (sample_at l + longer_by l (Some 0)) (length (longer (begun_bit l bit) x).seen) (let g = begun_length l bit x in omega arith)))

  -- the first quantum of a bit that no edge begins, where an edge lies in the quantum before
  first_none : l.sync ≡ Book → sync_place l (longer (opened l bit false) x) ≡ None
  first_none e =
      none_first (is_edge l (longer (opened l bit false) x)) 1 (λ k b. let first : k ≡ 0 = omega arith in
      ap (is_edge l (longer (opened l bit false) x)) first ∙ never_and _ _ _ (looks_first l.sync (sample_at l) e))

  first_kept : l.sync ≡ Book → running l (longer (opened l bit false) x) ≡ running_first (running l bit) x.level
  first_kept e =
      same_running l refl (ap (longer_by l) (first_none e)) (ap (shorter_by l) (first_none e)) (ap is_some (first_none e)) (level_new l (opened l bit false) x)
      (ap (λ b. cond b (seen_at_place (longer (opened l bit false) x) (sample_place l (longer (opened l bit false) x))).level (last_sample l bit))
      (le-ltb (sample_place l (longer (opened l bit false) x)) 1 (omega arith)))

  -- a bit that goes on, or is over with x
  bordered : l.sync ≡ Book → running_restart (running l bit) x ≡ false → (b : Bool) → (length bit.seen == end_place l (longer bit x)) ≡ b
      → running l (longer (cond b (opened l bit false) bit) x)
      ≡ cond b (running_first (running l bit) x.level) (running_moved (running l bit) (running_sync (running l bit) x) false x.level)
  bordered e f true c = first_kept e
  bordered e f false c = stepped l bit x f

  end_is : running_restart (running l bit) x ≡ false → end_place l (longer bit x) ≡ end_of (running_moved (running l bit) (running_sync (running l bit) x) false x.level)
  end_is f = ap end_of (stepped l bit x f)

  placed_by : (s : SyncRules) → l.sync ≡ s → (b : Bool) → running_restart (running l bit) x ≡ b
      → running l (longer (cond b (begun_bit l bit) (going_on s l bit x)) x)
      ≡ running_over s (running l bit) (running_moved (running l bit) (running_sync (running l bit) x) b x.level) b x.level
  placed_by After e true f = restarted
  placed_by After e false f = stepped l bit x f
  placed_by Book e true f = restarted
  placed_by Book e false f =
      bordered e f (length bit.seen == end_place l (longer bit x)) refl
      ∙ ap (λ n. cond (length bit.seen == n) (running_first (running l bit) x.level) (running_moved (running l bit) (running_sync (running l bit) x) false x.level)) (end_is f)

  placed_is : running l (placed l bit x) ≡ running_placed (running l bit) x
  placed_is =
      ap (λ b. running l (longer (cond b (begun_bit l bit) (going_on l.sync l bit x)) x)) (restart_is l bit x)
      ∙ placed_by l.sync refl (running_restart (running l bit) x) refl

  beat_is : beat_at l bit x ≡ running_beat (running l bit) x
  beat_is =
      ap (λ b. cond (b || length (placed l bit x).seen == 1) Start (cond (length bit.seen == sample_place l (placed l bit x)) (Sample x.level) Plain)) (restart_is l bit x)
      ∙ ap (λ r. cond (running_restart (running l bit) x || r.quanta == 1) Start (cond (length bit.seen == sample_at l + r.longer) (Sample x.level) Plain)) placed_is

  answer_is : sync_at l bit x ≡ running_answer (running l bit) x
  answer_is = ap (λ b. cond b (Some (cond (is_hard_edge l.sync x) Hard (Error (phase_error l (length bit.seen))))) None) (is_sync_is l bit x)

-- the bit that is due
due_cond : (l : Lengths) (bit : Bit) (b : Bool)
    → running l (cond b (opened l bit false) bit)
    ≡ cond b (record { lengths = l; quanta = 0; longer = 0; shorter = 0; synced = false; level = last_level bit; sample = last_sample l bit }) (running l bit)
due_cond l bit true =
    same_running l refl refl refl refl refl
    (ap (λ b. cond b (seen_at_place (opened l bit false) (sample_at l + 0)).level (last_sample l bit)) (le-ltb (sample_at l + 0) 0 (omega arith)))
due_cond l bit false = refl

due_is : (l : Lengths) (bit : Bit) → running l (due_bit l bit) ≡ running_due (running l bit)
due_is l bit = due_cond l bit (length bit.seen == end_place l bit)

-- the bit in which an edge lies
edge_bit_is : (l : Lengths) (bit : Bit) (s : SyncRules) → running l (edge_bit_by s l bit) ≡ running_edge_by s (running l bit)
edge_bit_is l bit After = due_is l bit
edge_bit_is l bit Book = refl

-- what is kept of a bit, one quantum later
pub bit_next : (l : Lengths) (bit : Bit) (x : Seen) → running l (bit_after l bit x) ≡ running_after (running l bit) x
bit_next l bit x = placed_is l (edge_bit l bit) x ∙ ap (λ r. running_placed r x) (edge_bit_is l bit l.sync)

-- the clock, one quantum later
pub clock_next : (l : Lengths) (past : List Seen) (x : Seen) → clock_after l (past ++ x ∷ []) ≡ running_after (clock_after l past) x
clock_next l past x =
    ap (running l) (fold_push (bit_after l) _ past x)
    ∙ placed_is l (edge_bit l (bit_of l past)) x
    ∙ ap (λ r. running_placed r x) (edge_bit_is l (bit_of l past) l.sync)

pub beat_next : (l : Lengths) (past : List Seen) (x : Seen) → beat_of l past x ≡ running_beat (running_edge (clock_after l past)) x
beat_next l past x = beat_is l (edge_bit l (bit_of l past)) x ∙ ap (λ r. running_beat r x) (edge_bit_is l (bit_of l past) l.sync)

pub sync_next : (l : Lengths) (past : List Seen) (x : Seen) → sync_of l past x ≡ running_answer (running_edge (clock_after l past)) x
sync_next l past x = answer_is l (edge_bit l (bit_of l past)) x ∙ ap (λ r. running_answer r x) (edge_bit_is l (bit_of l past) l.sync)

-- before the first quantum of all
abbrev pub running_at_first : SyncRules → Lengths → Running
running_at_first After l = record { lengths = l; quanta = 0; longer = 0; shorter = 0; synced = false; level = Recessive; sample = Recessive }
running_at_first Book l = record { lengths = l; quanta = bit_quanta l; longer = 0; shorter = 0; synced = false; level = Recessive; sample = Recessive }

module _ (l : Lengths) where
  abbrev silent : SyncRules → Bit
  silent s = record { opening = record { synced = false; sample = Recessive; level = Recessive }; seen = first_quanta s (bit_quanta l) }

  silent_length : length (silent Book).seen ≡ bit_quanta l
  silent_length = length-replicate (bit_quanta l) unseen

  silent_at : (k : ℕ) → k < bit_quanta l → seen_at_place (silent Book) k ≡ unseen
  silent_at k b = get_or-replicate (bit_quanta l) k unseen unseen b

  silent_none : sync_place l (silent Book) ≡ None
  silent_none =
      none_first (is_edge l (silent Book)) (length (silent Book).seen) (λ k b.
      ap (λ s. edge_counts l s (previous_level (silent Book) k) (sample_before l (silent Book) k) k) (silent_at k (let g = silent_length in omega arith)))

  first_by : (s : SyncRules) → running l (silent s) ≡ running_at_first s l
  first_by After =
      same_running l refl refl refl refl refl
      (ap (λ b. cond b (seen_at_place (silent After) (sample_at l + 0)).level Recessive) (le-ltb (sample_at l + 0) 0 (omega arith)))
  first_by Book =
      same_running l silent_length (ap (longer_by l) silent_none) (ap (shorter_by l) silent_none) (ap is_some silent_none)
      (cond_same (length (silent Book).seen == 0) Recessive _ (ap (λ s. s.level) (silent_at (length (silent Book).seen - 1) (let g = silent_length in omega arith))))
      (ap (λ o. cond (nat_lt (sample_at l + longer_by l o) (length (silent Book).seen)) (seen_at_place (silent Book) (sample_at l + longer_by l o)).level Recessive) silent_none
      ∙ by_test (nat_lt (sample_at l + 0) (length (silent Book).seen)) refl)
    where
      by_test : (b : Bool) → nat_lt (sample_at l + 0) (length (silent Book).seen) ≡ b → cond b (seen_at_place (silent Book) (sample_at l + 0)).level Recessive ≡ Recessive
      by_test true e = ap (λ s. s.level) (silent_at (sample_at l + 0) (let f = ltb-true (sample_at l + 0) (length (silent Book).seen) e in let g = silent_length in omega arith))
      by_test false e = refl

pub first_is : (l : Lengths) → clock_after l [] ≡ running_at_first l.sync l
first_is l = first_by l l.sync
