-- No inequality fails exactly if all three hold for each pair.
use Rattle.std.proofs.Common.{◌≡◌, ℕ, ◌<◌, ◌≤◌, ◌&&◌, nat_lt, Bool, true, false, length, Option, Some, None, refl, ap, ap₂, arith}
use Rattle.std.specs.Option.{is_some}
use Rattle.std.proofs.lemmas.Bool.{ltb-false, le-ltb}
use Rattle.wl_level.specs.Places.{first_place}
use Rattle.wl_level.proofs.Callers.{first_is, first_none, none_first}
use Rattle.wl_bound.specs.declared.condition.Failure.{Failure}
use Rattle.wl_bound.specs.declared.condition.Inequality.{Inequality}
use Rattle.wl_bound.specs.declared.condition.Inequality.TheVariants.{DriftFitsJump, BitIsThereAtSample, NoBitTooEarly}
use Rattle.wl_bound.specs.declared.condition.Senders.{Senders}
use Rattle.wl_bound.specs.declared.condition.Senders.TheVariants.{Any, One}
use Rattle.wl_bound.specs.declared.family.Setting.{Setting}
use Rattle.wl_bound.specs.declared.family.Source.TheVariants.{Alone}
use Rattle.wl_bound.specs.Families.{Buses, bus_of, lengths_in, member_at, only_listens, shortest_in}
use Rattle.wl_bound.specs.Terms.{jump}
use Rattle.wl_bound.specs.Conditions.{IsSound, failure_at, failure_in, failure_of, fails, fails_at, first_failure_of, is_asked, left_by, left_of, or_else, right_of}
use Rattle.wl_bound.proofs.Greatest.{bounded, bounds_each}

pub is_none_of : (o : Option ℕ) → is_some o ≡ false → o ≡ None
is_none_of None h = refl
is_none_of (Some k) h = cc

or_none : (a b : Option Failure) → or_else a b ≡ None → (a ≡ None) × (b ≡ None)
or_none None b h = (refl, h)
or_none (Some x) b h = absurd (cc)

pair_out : (b : Bool) (l r : ℕ) → (b && nat_lt r l) ≡ false → b ≡ true → l ≤ r
pair_out true l r h e = ltb-false r l h
pair_out false l r h e = absurd (cc)

pair_in : (b : Bool) (l r : ℕ) → (b ≡ true → l ≤ r) → (b && nat_lt r l) ≡ false
pair_in true l r h = le-ltb r l (h refl)
pair_in false l r h = refl

-- an inequality holds for each pair of which it is asked
Fits : Buses → Setting → Senders → Inequality → Type 0
Fits f s who e =
    (i j : ℕ) → i < length f.members → j < length f.members → is_asked (only_listens f.cable) e i j ≡ true → left_by f s who e i j ≤ right_of (bus_of f s) e i j

row_is : (f : Buses) (s : Setting) (who : Senders) (e : Inequality) (i : ℕ) (q : Option ℕ)
    → is_some q ≡ true → failure_at f s who e i q ≡ None → ⊥
row_is f s who e i None some h = cc
row_is f s who e i (Some j) some h = cc

top : (f : Buses) (s : Setting) (who : Senders) (e : Inequality) (o : Option ℕ)
    → first_place (fails_at f s who e) (length f.members) ≡ o → failure_in f s who e o ≡ None → o ≡ None
top f s who e None same h = refl
top f s who e (Some i) same h =
    absurd (row_is f s who e i (first_place (fails f s who e i) (length f.members))
    ((first_is (fails_at f s who e) (length f.members) i same).passes) h)

fits_from : (f : Buses) (s : Setting) (who : Senders) (e : Inequality) → failure_of f s who e ≡ None → Fits f s who e
unfolding Fits
fits_from f s who e h i j bi bj asked =
    let n : ℕ = length f.members in
    let none = top f s who e (first_place (fails_at f s who e) n) refl h in
    let row = is_none_of (first_place (fails f s who e i) n) (first_none (fails_at f s who e) n none i bi) in
    pair_out (is_asked (only_listens f.cable) e i j) (left_by f s who e i j) (right_of (bus_of f s) e i j)
    (first_none (fails f s who e i) n row j bj) asked

none_from : (f : Buses) (s : Setting) (who : Senders) (e : Inequality) → Fits f s who e → failure_of f s who e ≡ None
unfolding Fits
none_from f s who e h =
    let n : ℕ = length f.members in
    ap (failure_in f s who e)
    (none_first (fails_at f s who e) n
    (λ i bi. ap is_some
    (none_first (fails f s who e i) n
    (λ j bj. pair_in (is_asked (only_listens f.cable) e i j) (left_by f s who e i j) (right_of (bus_of f s) e i j) (λ asked. h i j bi bj asked)))))

all_from : (f : Buses) (s : Setting) (who : Senders) → first_failure_of f s who ≡ None → (e : Inequality) → Fits f s who e
unfolding first_failure_of
all_from f s who h e =
    let one = or_none (failure_of f s who DriftFitsJump) _ h in
    let two = or_none (failure_of f s who BitIsThereAtSample) (failure_of f s who NoBitTooEarly) one.1 in
    elim e as (λ v. Fits f s who v) [
      | DriftFitsJump ↦ fits_from f s who DriftFitsJump one.0
      | BitIsThereAtSample ↦ fits_from f s who BitIsThereAtSample two.0
      | NoBitTooEarly ↦ fits_from f s who NoBitTooEarly two.1
    ]

from_all : (f : Buses) (s : Setting) (who : Senders) → ((e : Inequality) → Fits f s who e) → first_failure_of f s who ≡ None
unfolding first_failure_of
from_all f s who h =
    ap₂ or_else (none_from f s who DriftFitsJump (h DriftFitsJump))
    (ap₂ or_else (none_from f s who BitIsThereAtSample (h BitIsThereAtSample)) (none_from f s who NoBitTooEarly (h NoBitTooEarly)))

sound_from : (f : Buses) (s : Setting) → ((e : Inequality) → Fits f s Any e) → IsSound (bus_of f s)
unfolding Fits
sound_from f s h = record {
  drift_fits_jump = λ i j bi bj asked. h DriftFitsJump i j bi bj asked;
  bit_is_there_at_sample = λ i j bi bj asked. h BitIsThereAtSample i j bi bj asked;
  no_bit_too_early = λ i j bi bj asked. h NoBitTooEarly i j bi bj asked;
}

from_sound : (f : Buses) (s : Setting) → IsSound (bus_of f s) → (e : Inequality) → Fits f s Any e
unfolding Fits
from_sound f s h e =
    elim e as (λ v. (i j : ℕ) → i < length f.members → j < length f.members → is_asked (only_listens f.cable) v i j ≡ true
    → left_by f s Any v i j ≤ right_of (bus_of f s) v i j) [
      | DriftFitsJump ↦ (λ i j bi bj a. h.drift_fits_jump i j bi bj a)
      | BitIsThereAtSample ↦ (λ i j bi bj a. h.bit_is_there_at_sample i j bi bj a)
      | NoBitTooEarly ↦ (λ i j bi bj a. h.no_bit_too_early i j bi bj a)
    ]

-- the time that there is doesn't rest on who sends
right_same : (f : Buses) (s : Setting) (a : ℕ) (e : Inequality) (i j : ℕ)
    → right_of (bus_of f (record s { source = Alone a })) e i j ≡ right_of (bus_of f s) e i j
unfolding right_of jump shortest_in lengths_in
right_same f s a DriftFitsJump i j = refl
right_same f s a BitIsThereAtSample i j = refl
right_same f s a NoBitTooEarly i j = refl

alone_from : (f : Buses) (s : Setting) (e : Inequality) → Fits f s One e
    → (a : ℕ) → a < length f.members → (member_at f a).sends ≡ true → Fits f (record s { source = Alone a }) Any e
unfolding Fits
alone_from f s e h a b sends i j bi bj asks =
    let each = bounds_each (length f.members) (λ a. (member_at f a).sends) (λ a. left_of (bus_of f (record s { source = Alone a })) e i j)
    (right_of (bus_of f s) e i j) (h i j bi bj asks) a b sends in
    omega (arith, each, right_same f s a e i j)

from_alone : (f : Buses) (s : Setting) (e : Inequality)
    → ((a : ℕ) → a < length f.members → (member_at f a).sends ≡ true → Fits f (record s { source = Alone a }) Any e) → Fits f s One e
unfolding Fits
from_alone f s e h i j bi bj asks =
    bounded (length f.members) (λ a. (member_at f a).sends) (λ a. left_of (bus_of f (record s { source = Alone a })) e i j)
    (right_of (bus_of f s) e i j)
    (λ a b sends. (let each = h a b sends i j bi bj asks in omega (arith, each, right_same f s a e i j)))

pub any_to : (f : Buses) (s : Setting) → first_failure_of f s Any ≡ None → IsSound (bus_of f s)
any_to f s h = sound_from f s (all_from f s Any h)

pub any_of : (f : Buses) (s : Setting) → IsSound (bus_of f s) → first_failure_of f s Any ≡ None
any_of f s h = from_all f s Any (from_sound f s h)

pub one_to : (f : Buses) (s : Setting) → first_failure_of f s One ≡ None
    → (a : ℕ) → a < length f.members → (member_at f a).sends ≡ true → IsSound (bus_of f (record s { source = Alone a }))
one_to f s h a b sends = sound_from f (record s { source = Alone a }) (λ e. alone_from f s e (all_from f s One h e) a b sends)

pub one_of : (f : Buses) (s : Setting)
    → ((a : ℕ) → a < length f.members → (member_at f a).sends ≡ true → IsSound (bus_of f (record s { source = Alone a })))
    → first_failure_of f s One ≡ None
one_of f s h = from_all f s One (λ e. from_alone f s e (λ a b sends. from_sound f (record s { source = Alone a }) (h a b sends) e))
