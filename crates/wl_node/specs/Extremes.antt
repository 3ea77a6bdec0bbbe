-- The least and the greatest of some phase errors, and what a report says of resynchronising edges (this project's profile).
use Rattle.std.specs.Prelude.{◌≡◌, ℕ, ℤ, ◌≤ℤ◌, Bool, int_lt, not, List, [], length, map, Option}
use Rattle.std.specs.List.{find, list_all, All, Contains}
use Rattle.std.specs.Option.{MatchOption}
use Rattle.wl_node.specs.declared.phase_totals.PhaseTotals.{PhaseTotals}

-- the errors of resynchronising edges, each with its quantum
abbrev pub phase_errors : List (ℕ × ℤ) → List ℤ
phase_errors phases = map (λ p. p.1) phases

-- the first one that none of them beats
abbrev pub first_unbeaten : (ℤ → ℤ → Bool) → List ℤ → Option ℤ
first_unbeaten beats errors = find (λ e. list_all (λ x. not (beats x e)) errors) errors

-- one of them that is above none
abbrev pub least_phase_error : List ℤ → Option ℤ
least_phase_error errors = first_unbeaten (λ x e. int_lt x e) errors

-- one of them that is below none
abbrev pub greatest_phase_error : List ℤ → Option ℤ
greatest_phase_error errors = first_unbeaten (λ x e. int_lt e x) errors

-- how many edges there are, the least of their errors and the greatest
abbrev pub phase_totals : List (ℕ × ℤ) → PhaseTotals
phase_totals phases = record {
  count = length phases;
  least = least_phase_error (phase_errors phases);
  greatest = greatest_phase_error (phase_errors phases);
}

-- among the errors, and not above any
pub record IsLeastError (errors : List ℤ) (e : ℤ) : Type 0 where
  pub among : Contains errors e
  pub least : All (λ x. e ≤ℤ x) errors

-- among the errors, and not below any
pub record IsGreatestError (errors : List ℤ) (e : ℤ) : Type 0 where
  pub among : Contains errors e
  pub greatest : All (λ x. x ≤ℤ e) errors

-- the two are what their names say, and are there wherever there is an error
abbrev pub ExtremesAreExtreme : Type 0
ExtremesAreExtreme =
    (errors : List ℤ) → MatchOption (least_phase_error errors) (errors ≡ []) (IsLeastError errors)
    × MatchOption (greatest_phase_error errors) (errors ≡ []) (IsGreatestError errors)
