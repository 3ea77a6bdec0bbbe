-- Which fault comes first among those of several workers.
use Rattle.std.proofs.Common.{◌≡◌, ◌+◌, ◌≤◌, Bool, true, false, nat_lt, All, Result, Ok, Err, IfErr, Option, Some, None, List, [], ◌∷◌, ◌++◌, length, refl, ◌∙◌, arith}
use Rattle.std.specs.Prelude.{Any, IsOk, if◌then◌else◌}
use Rattle.std.proofs.lemmas.Bool.Decides.{nat_tests}
use Rattle.std.proofs.lemmas.List.Elements.{All-append, All-cons, All-nil, All-weaker}
use Rattle.std.proofs.lemmas.List.{get_or_append_left, get_or_push, length-append}
use Rattle.wl_group.specs.GroupValue.{GroupValue}
use Rattle.wl_worker.specs.declared.link.Fault.{Fault}
use Rattle.wl_worker.specs.Faults.{rank, lower_fault, IsLowestFault, IsNextFault}

-- the fault comes no later than this end's, if that is one
abbrev NotLater : Fault → Result GroupValue Fault → Type 0
NotLater fault end = IfErr end (λ other. rank fault ≤ rank other)

any_still : {X : Type 0} (P : X → Type 0) (xs ys : List X) → Any P xs → Any P (xs ++ ys)
any_still P xs ys a = (a.0, a.1, (let l = a.2 in let n = length-append xs ys in omega arith), get_or_append_left xs ys a.1 a.0 a.2 ∙ a.3, a.4)

any_last : {X : Type 0} (P : X → Type 0) (xs : List X) (y : X) → P y → Any P (xs ++ y ∷ [])
any_last {X} P xs y p = (length xs, y, (let n : length (xs ++ y ∷ []) ≡ length xs + 1 = length-append xs (y ∷ []) in omega arith), get_or_push xs y y (length xs) refl, p)

all_more : {X : Type 0} (P : X → Type 0) (xs : List X) (y : X) → All P xs → P y → All P (xs ++ y ∷ [])
all_more P xs y h p = All-append P xs (y ∷ []) h (All-cons P y [] p (All-nil P))

ok_later : (fault : Fault) (end : Result GroupValue Fault) → IsOk end → NotLater fault end
ok_later fault (Ok group) h = tt
ok_later fault (Err other) h = cc

later_still : (fault other : Fault) → rank fault ≤ rank other → (end : Result GroupValue Fault) → NotLater other end → NotLater fault end
later_still fault other h (Ok group) g = tt
later_still fault other h (Err third) g = omega arith

lower_at : (b : Bool) (fault other : Fault) (ends : List (Result GroupValue Fault)) → nat_lt (rank other) (rank fault) ≡ b → IsLowestFault ends (Some other)
    → IsLowestFault (ends ++ Err fault ∷ []) (Some (if b then other else fault))
lower_at true fault other ends e h =
    let low : rank other ≤ rank fault = grind (arith, nat_tests) in
    (any_still (λ end. end ≡ Err other) ends (Err fault ∷ []) h.0, all_more (NotLater other) ends (Err fault) h.1 low)
lower_at false fault other ends e h =
    let low : rank fault ≤ rank other = grind (arith, nat_tests) in (
      any_last (λ end. end ≡ Err fault) ends (Err fault) refl,
      all_more (NotLater fault) ends (Err fault) (All-weaker (NotLater other) (NotLater fault) (later_still fault other low) ends h.1) (let same : rank fault ≤ rank fault = omega arith in same),
    )

pub next_ok : (first : Option Fault) (group : GroupValue) → IsNextFault first (Ok group) first
next_ok None group ends h = all_more IsOk ends (Ok group) h refl
next_ok (Some fault) group ends h = (any_still (λ end. end ≡ Err fault) ends (Ok group ∷ []) h.0, all_more (NotLater fault) ends (Ok group) h.1 tt)

pub next_first : (fault : Fault) → IsNextFault None (Err fault) (Some fault)
next_first fault ends h = (
  any_last (λ end. end ≡ Err fault) ends (Err fault) refl,
  all_more (NotLater fault) ends (Err fault) (All-weaker IsOk (NotLater fault) (ok_later fault) ends h) (let same : rank fault ≤ rank fault = omega arith in same),
)

pub next_lower : (fault other : Fault) → IsNextFault (Some other) (Err fault) (Some (lower_fault fault other))
next_lower fault other ends h = lower_at (nat_lt (rank other) (rank fault)) fault other ends refl h
