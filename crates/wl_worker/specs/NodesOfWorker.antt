-- Which nodes a worker has, and what its thread promises. This project's profile.
use Rattle.std.specs.Prelude.{◌≡◌, ◌≢◌, ◌↔◌, ◌⊎◌, ℕ, ◌<◌, ◌%◌, List, All, length, true, Some, IsOk, Result, MatchResult, slice_index_or}
use Rattle.wl_plan.specs.declared.plan.Plan.{Plan}
use Rattle.wl_group.specs.GroupValue.{GroupValue, belongs}
use Rattle.wl_worker.specs.declared.link.Fault.{Fault}
use Rattle.wl_worker.specs.declared.link.Fault.TheVariants.{Workers, Memory}
use Rattle.wl_worker.specs.declared.threads.OfShare.{OfShare}
use Rattle.wl_worker.specs.Faults.{IsLowestFault}
use Rattle.wl_worker.specs.Finished.{MembersEnded}

-- numbers of nodes of a plan that has so many
abbrev pub AreBelow : ℕ → List ℕ → Type 0
AreBelow nodes numbers = All (λ i. i < nodes) numbers

-- the group of a worker has exactly the nodes of the plan whose number leaves the worker's, divided by the number of workers; they list their samples
pub record IsShare (plan : Plan) (workers worker : ℕ) (g : GroupValue) : Type 0 where
  pub plan_is : g.plan ≡ plan
  pub kind : g.lists ≡ true
  pub members : (i : ℕ) → i < length plan.nodes → (belongs g i ≡ true) ↔ (i % workers ≡ worker)

-- and has come to the end
pub record IsDone (plan : Plan) (workers worker : ℕ) (g : GroupValue) : Type 0 where
  pub share : IsShare plan workers worker g
  pub ended : MembersEnded g

-- what a worker comes to: its group at the end, or a fault that a worker has
abbrev pub IsEnd : Plan → ℕ → ℕ → Result GroupValue Fault → Type 0
IsEnd plan workers worker end = MatchResult end (IsDone plan workers worker) (λ fault. fault ≢ Workers)

-- what a worker's thread promises
abbrev pub KeepsPromise : OfShare → Result GroupValue Fault → Type 0
KeepsPromise p = IsEnd p.plan.value p.workers p.worker

-- the promise of this worker
pub record IsPromise (plan : Plan) (workers worker : ℕ) (p : OfShare) : Type 0 where
  pub plan_is : p.plan.value ≡ plan
  pub workers_are : p.workers ≡ workers
  pub worker_is : p.worker ≡ worker

-- what the threads of all workers came to, in order
abbrev pub EndsKept : Plan → ℕ → List (Result GroupValue Fault) → Type 0
EndsKept plan workers ends = (w : ℕ) (d : Result GroupValue Fault) → w < length ends → IsEnd plan workers w (slice_index_or ends w d)

-- what workers came to, in order: all of them, or those up to one that failed
pub record HaveEnded (plan : Plan) (workers : ℕ) (ends : List (Result GroupValue Fault)) : Type 0 where
  pub kept : EndsKept plan workers ends
  pub all : All IsOk ends → length ends ≡ workers

-- a fault of what they came to: the first one, by order and then by worker; or all are at their ends, and there was no memory for the outcome
abbrev pub IsFaultOfEnds : List (Result GroupValue Fault) → Fault → Type 0
IsFaultOfEnds ends fault = IsLowestFault ends (Some fault) ⊎ (All IsOk ends × (fault ≡ Memory))

-- a fault of a run: no number of workers, no memory before any began, or one of what they came to
abbrev pub IsFaultOfRun : Plan → ℕ → Fault → Type 0
IsFaultOfRun plan workers fault =
    (fault ≡ Workers) ⊎ ((fault ≡ Memory) ⊎ ((ends : List (Result GroupValue Fault)) × HaveEnded plan workers ends × IsFaultOfEnds ends fault))
