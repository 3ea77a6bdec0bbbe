-- Entries that go in order are a queue of messages.
use Rattle.std.proofs.Common.{◌≡◌, ◌∙◌, ap, refl, sym, subst, inl, inr, ℕ, zero, suc, ◌+◌, ◌<◌, ◌≤◌, Bool, true, false, cond, ◌&&◌, List, [], ◌∷◌, length, Option, Some, None, arith}
use Rattle.std.specs.Prelude.{◌==◌, nat_le}
use Rattle.std.specs.Bool.{Decides}
use Rattle.std.proofs.lemmas.Bool.{and_parts, cases_lt, eq-eqb, eqb-true, le-leb, leb-true}
use Rattle.wl_node.specs.declared.setup.Queued.{Queued}
use Rattle.wl_bound.specs.Fields.{field_of}
use Rattle.wl_respond.specs.declared.message.MessageWait.{MessageWait}
use Rattle.wl_respond.specs.Plans.{ArePeriodApart, GoInOrder, GoesBefore, HasMessage, HasMessages, comes_from, entry_at, message_of, spaced_by, starts_after}
use Rattle.wl_respond.specs.Tests.{message_at}

module _ (messages : List MessageWait) (i from : ℕ) where
  -- no later one is ready sooner
  no_sooner : (ready : ℕ) (later : List Queued) → GoInOrder messages i from later → starts_after ready later ≡ true → (n : ℕ) → n < length later → ready ≤ (entry_at later n).ready
  no_sooner ready [] go starts n less = absurd (omega arith)
  no_sooner ready (next ∷ later) go starts zero less = leb-true _ _ starts
  no_sooner ready (next ∷ later) go starts (suc n) less =
      let rest = no_sooner next.ready later go.1 go.0.order n (omega arith) in
      let first = leb-true ready next.ready starts in
      omega arith

  -- nor one of that field than so
  abbrev AllFrom : (field earliest : ℕ) → List Queued → Type 0
  AllFrom field earliest later = (n : ℕ) → n < length later → field ≡ field_of (entry_at later n).frame → earliest ≤ (entry_at later n).ready

  pick : (field earliest : ℕ) (next : Queued) (later : List Queued) → GoInOrder messages i from (next ∷ later) → (comes_from field earliest later ≡ true → AllFrom field earliest later)
      → (v : Bool) → (field_of next.frame == field) ≡ v → cond v (nat_le earliest next.ready) (comes_from field earliest later) ≡ true → AllFrom field earliest (next ∷ later)
  pick field earliest next later go rest true is here zero less same = leb-true _ _ here
  pick field earliest next later go rest true is here (suc n) less same =
      let more = no_sooner next.ready later go.1 go.0.order n (omega arith) in
      let first = leb-true earliest next.ready here in
      omega arith
  pick field earliest next later go rest false is here zero less same = (let yes = eq-eqb (field_of next.frame) field (sym same) in cc)
  pick field earliest next later go rest false is here (suc n) less same = rest here n (omega arith) same

  from_then : (field earliest : ℕ) (later : List Queued) → GoInOrder messages i from later → comes_from field earliest later ≡ true → AllFrom field earliest later
  from_then field earliest [] go comes = λ n less same. absurd (omega arith)
  from_then field earliest (next ∷ later) go comes = pick field earliest next later go (λ c. from_then field earliest later go.1 c) (field_of next.frame == field) refl comes

  spaced_at : (entry : Queued) (later : List Queued) (o : Option ℕ) (e : ℕ) → o ≡ Some e → spaced_by messages entry later o ≡ true
      → comes_from (field_of entry.frame) (entry.ready + (message_at messages e).every) later ≡ true
  spaced_at entry later None e is spaced = cc
  spaced_at entry later (Some k) e is spaced = (let same : k ≡ e = cc in subst (λ j. comes_from (field_of entry.frame) (entry.ready + (message_at messages j).every) later ≡ true) same spaced)

  module _ (entry : Queued) (later : List Queued) (first : GoesBefore messages i from entry later) (go : GoInOrder messages i from later) (rest : HasMessages messages i from later) where
    known : (n : ℕ) → n < suc (length later) → HasMessage messages i (entry_at (entry ∷ later) n)
    known zero less = first.known
    known (suc n) less = rest.known n (omega arith)

    late : (n : ℕ) → n < suc (length later) → from ≤ (entry_at (entry ∷ later) n).ready
    late zero less = first.late
    late (suc n) less = rest.late n (omega arith)

    ordered : (m n : ℕ) → m < n → n < suc (length later) → (entry_at (entry ∷ later) m).ready ≤ (entry_at (entry ∷ later) n).ready
    ordered m zero before less = absurd (omega arith)
    ordered zero (suc n) before less = no_sooner entry.ready later go first.order n (omega arith)
    ordered (suc m) (suc n) before less = rest.ordered m n (omega arith) (omega arith)

    apart : (m n : ℕ) → m < n → n < suc (length later) → ArePeriodApart messages i (entry_at (entry ∷ later) m) (entry_at (entry ∷ later) n)
    apart m zero before less = absurd (omega arith)
    apart zero (suc n) before less = λ e is same.
        from_then (field_of entry.frame) (entry.ready + (message_at messages e).every) later go (spaced_at entry later (message_of messages i entry.frame) e is first.spaced) n (omega arith) same
    apart (suc m) (suc n) before less = rest.apart m n (omega arith) (omega arith)

    one_before : HasMessages messages i from (entry ∷ later)
    one_before = record { known = known; late = late; ordered = ordered; apart = apart }

  pub in_order : (queue : List Queued) → GoInOrder messages i from queue → HasMessages messages i from queue
  in_order [] go = record {
    known = λ n less. absurd (omega arith);
    late = λ n less. absurd (omega arith);
    ordered = λ m n before less. absurd (omega arith);
    apart = λ m n before less. absurd (omega arith);
  }
  in_order (entry ∷ later) go = one_before entry later go.0 go.1 (in_order later go.1)

  -- So it is the other way round.
  later_ones : (entry : Queued) (later : List Queued) → HasMessages messages i from (entry ∷ later) → HasMessages messages i from later
  later_ones entry later has = record {
    known = λ n less. has.known (suc n) (omega arith);
    late = λ n less. has.late (suc n) (omega arith);
    ordered = λ m n before less. has.ordered (suc m) (suc n) (omega arith) (omega arith);
    apart = λ m n before less. has.apart (suc m) (suc n) (omega arith) (omega arith);
  }

  starts : (ready : ℕ) (later : List Queued) → ((n : ℕ) → n < length later → ready ≤ (entry_at later n).ready) → starts_after ready later ≡ true
  starts ready [] none = refl
  starts ready (next ∷ later) each = le-leb ready next.ready (each zero (omega arith))

  comes : (field earliest : ℕ) (later : List Queued) → AllFrom field earliest later → comes_from field earliest later ≡ true
  comes field earliest [] each = refl
  comes field earliest (next ∷ later) each =
      by (field_of next.frame == field) (comes field earliest later (λ n less same. each (suc n) (omega arith) same)) refl
    where
      by : (v : Bool) → comes_from field earliest later ≡ true → (field_of next.frame == field) ≡ v → cond v (nat_le earliest next.ready) (comes_from field earliest later) ≡ true
      by true rest is = le-leb earliest next.ready (each zero (omega arith) (sym (eqb-true (field_of next.frame) field is)))
      by false rest is = rest

  pub goes_in_order : (queue : List Queued) → HasMessages messages i from queue → GoInOrder messages i from queue
  goes_in_order [] has = tt
  goes_in_order (entry ∷ later) has =
      let first = has.known zero (omega arith) in
      let spaced : comes_from (field_of entry.frame) (entry.ready + (message_at messages first.message).every) later ≡ true =
      comes (field_of entry.frame) (entry.ready + (message_at messages first.message).every) later
      (λ n less same. has.apart zero (suc n) (omega arith) (omega arith) first.message first.is same) in (
        record {
          late = has.late zero (omega arith);
          known = first;
          order = starts entry.ready later (λ n less. has.ordered zero (suc n) (omega arith) (omega arith));
          spaced = ap (spaced_by messages entry later) first.is ∙ spaced;
        },
        goes_in_order later (later_ones entry later has),
      )

-- one node more
pub one_more : (k h v : Bool) (n : ℕ) (P Q : ℕ → Type 0) → v ≡ k && h → ((j : ℕ) → Q j → P j) → ((j : ℕ) → P j → Q j) → Decides k ((j : ℕ) → j < n → P j) → Decides h (Q n)
    → Decides v ((j : ℕ) → j < n + 1 → P j)
one_more k h v n P Q is gives back before here = (
  λ e j less.
      (let parts = and_parts k h (sym is ∙ e) in
      elim (cases_lt j n) [
        | inl below ↦ before.0 parts.0 j below
        | inr past ↦ subst P (let last : n ≡ j = omega arith in last) (gives n (here.0 parts.1))
      ]),
  λ each. is ∙ both_true k h (before.1 (λ j less. each j (omega arith))) (here.1 (back n (each n (omega arith)))),
)
  where
    both_true : (k h : Bool) → k ≡ true → h ≡ true → k && h ≡ true
    both_true true h a b = b
    both_true false h a b = cc
