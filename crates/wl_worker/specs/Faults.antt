-- Which of several faults is answered. This project's profile.
use Rattle.std.specs.Prelude.{◌≡◌, ℕ, ◌+◌, ◌≤◌, nat_lt, List, [], ◌∷◌, ◌++◌, Any, All, Option, Some, None, Result, Err, IsOk, IfErr, if◌then◌else◌}
use Rattle.wl_group.specs.GroupValue.{GroupValue}
use Rattle.wl_worker.specs.declared.link.Fault.{Fault}
use Rattle.wl_worker.specs.declared.link.Fault.TheVariants.{Workers, Memory, Foreign, Worker}

-- the place of a fault in their order; workers by their numbers
abbrev pub rank : Fault → ℕ
rank Workers = 0
rank Memory = 1
rank Foreign = 2
rank (Worker w) = 3 + w

-- the first of two faults
abbrev pub lower_fault : Fault → Fault → Fault
lower_fault fault other = if nat_lt (rank other) (rank fault) then other else fault

-- of what several workers came to, the fault that no other one comes before; none where all came to their ends
abbrev pub IsLowestFault : List (Result GroupValue Fault) → Option Fault → Type 0
IsLowestFault ends None = All IsOk ends
IsLowestFault ends (Some fault) = Any (λ end. end ≡ Err fault) ends × All (λ end. IfErr end (λ other. rank fault ≤ rank other)) ends

-- whatever others came to before: with what one more came to, the first fault is this one
abbrev pub IsNextFault : Option Fault → Result GroupValue Fault → Option Fault → Type 0
IsNextFault first end next = (ends : List (Result GroupValue Fault)) → IsLowestFault ends first → IsLowestFault (ends ++ end ∷ []) next
