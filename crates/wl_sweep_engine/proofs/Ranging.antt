-- Ranges read one after another.
use Rattle.std.proofs.Common.{◌≡◌, ◌∙◌, ◌<◌, ◌≤◌, ap, sym, refl, ℕ, ◌+◌, List, [], ◌∷◌, ◌++◌, length, drop, get_or, Result, Ok, Err, append_assoc}
use Rattle.std.proofs.lemmas.List.{append-nil, drop_all, drop_more}
use Rattle.wl_setup.specs.declared.plan_text.PlanText.{PlanText}
use Rattle.wl_sweep.specs.declared.range.SweptRange.{SweptRange}
use Rattle.wl_sweep.specs.declared.vary.RangeFault.{RangeFault}
use Rattle.wl_sweep.specs.Vary.{range_of}
use Rattle.wl_sweep_engine.specs.declared.fault.SweepFault.{SweepFault}
use Rattle.wl_sweep_engine.specs.Asked.{after, same_fault, ranges_of}
use Rattle.wl_sweep_engine.specs.Faults.{of_range}

-- the ranges so far, and those of the words that are left
abbrev pub left_of : PlanText → ℕ → List SweptRange → List (List ℕ) → Result (List SweptRange) SweepFault
left_of plan i made ws = after same_fault (ranges_of plan i ws) (λ more. Ok (made ++ more))

abbrev ok : List SweptRange → Result (List SweptRange) SweepFault
ok ranges = Ok ranges

from_none : (r : Result (List SweptRange) SweepFault) → after same_fault r (λ more. Ok ([] ++ more)) ≡ r
from_none (Ok gs) = refl
from_none (Err e) = refl

pub at_start : (plan : PlanText) (ws : List (List ℕ)) → left_of plan 0 [] ws ≡ ranges_of plan 0 ws
at_start plan ws = from_none (ranges_of plan 0 ws)

with_one : (made : List SweptRange) (g : SweptRange) (r : Result (List SweptRange) SweepFault)
    → after same_fault (after same_fault r (λ gs. Ok (g ∷ gs))) (λ more. Ok (made ++ more)) ≡ after same_fault r (λ more. Ok ((made ++ g ∷ []) ++ more))
with_one made g (Ok gs) = ap ok (sym (append_assoc made (g ∷ []) gs))
with_one made g (Err e) = refl

module _ (plan : PlanText) (i : ℕ) (made : List SweptRange) (w : List ℕ) (ws : List (List ℕ)) where
  abbrev by_range : Result SweptRange RangeFault → Result (List SweptRange) SweepFault
  by_range r = after same_fault (after (of_range i) r (λ range. after same_fault (ranges_of plan (i + 1) ws) (λ ranges. Ok (range ∷ ranges)))) (λ more. Ok (made ++ more))

  pub one_more : (g : SweptRange) → range_of plan w ≡ Ok g → left_of plan i made (w ∷ ws) ≡ left_of plan (i + 1) (made ++ g ∷ []) ws
  one_more g is = ap by_range is ∙ with_one made g (ranges_of plan (i + 1) ws)

  pub refused_here : (e : RangeFault) → range_of plan w ≡ Err e → left_of plan i made (w ∷ ws) ≡ Err (of_range i e)
  refused_here e is = ap by_range is

-- a refusal of the words that are left is one of all
pub at_end : (plan : PlanText) (i : ℕ) (made : List SweptRange) → left_of plan i made [] ≡ Ok made
at_end plan i made = ap ok (append-nil made)

-- a word of some, by its place
module _ (plan : PlanText) (i : ℕ) (made : List SweptRange) (ws : List (List ℕ)) (w : List ℕ) (within : i < length ws) (is : w ≡ get_or ws i w) where
  here : drop i ws ≡ w ∷ drop (i + 1) ws
  here = drop_more ws i w within ∙ ap (λ (v : List ℕ). v ∷ drop (i + 1) ws) (sym is)

  pub step : (g : SweptRange) → range_of plan w ≡ Ok g → left_of plan (i + 1) (made ++ g ∷ []) (drop (i + 1) ws) ≡ left_of plan i made (drop i ws)
  step g read = sym (ap (left_of plan i made) here ∙ one_more plan i made w (drop (i + 1) ws) g read)

  pub refusal : (e : RangeFault) → range_of plan w ≡ Err e → left_of plan i made (drop i ws) ≡ Err (of_range i e)
  refusal e read = ap (left_of plan i made) here ∙ refused_here plan i made w (drop (i + 1) ws) e read

pub all_read : (plan : PlanText) (i : ℕ) (made : List SweptRange) (ws : List (List ℕ)) → length ws ≤ i → left_of plan i made (drop i ws) ≡ Ok made
all_read plan i made ws all = ap (left_of plan i made) (drop_all i ws all) ∙ at_end plan i made
