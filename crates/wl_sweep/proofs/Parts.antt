-- The parts into which runs are cut, and their tallies one after another.
use Rattle.std.proofs.Common.{◌≡◌, ◌∙◌, ◌+◌, ◌-◌, ◌^◌, ◌≤◌, ◌<◌, ℕ, List, get_or, sym, Result, Ok}
use Rattle.std.specs.declared.alloc.AllocError.{AllocError}
use Rattle.std.specs.Int.{div_ceil}
use Rattle.std.proofs.lemmas.Result.{IfOk-at_ok}
use Rattle.wl_setup.specs.declared.plan_text.PlanText.{PlanText}
use Rattle.wl_sweep.specs.declared.options.Options.{Options}
use Rattle.wl_sweep.specs.declared.tally.Tally.{Tally}
use Rattle.wl_sweep.specs.Tallies.{ArePartTallies, finding_at, findings_from, part_start, tally_of}
use Rattle.wl_sweep.proofs.Callers.{tally_by_part, tally_of_parts}
use Rattle.wl_sweep.proofs.Found.{Joins}

module _ (options : Options) (plan : PlanText) (from to size : ℕ) where
  -- the tally of one part
  part_tally : (count w : ℕ) (answers : List (Result Tally AllocError)) (d : Result Tally AllocError) (u : Tally)
      → ArePartTallies options plan from to size count answers → w < count → d ≡ get_or answers w d → d ≡ Ok u
      → u ≡ tally_of (findings_from options plan (part_start from to size w) (part_start from to size (w + 1) - part_start from to size w))
  part_tally count w answers d u parts within is ok =
      IfOk-at_ok (λ (tally : Tally). tally ≡ tally_of (findings_from options plan (part_start from to size w) (part_start from to size (w + 1) - part_start from to size w)))
      (sym is ∙ ok) (parts.each w d within)

  -- the tally of the parts so far and one more
  pub parts_more : (count w : ℕ) (answers : List (Result Tally AllocError)) (d : Result Tally AllocError) (t u r : Tally)
      → from ≤ to → to < 2 ^ 32 → ArePartTallies options plan from to size count answers → w < count → d ≡ get_or answers w d → d ≡ Ok u → Joins t u r
      → t ≡ tally_of (findings_from options plan from (part_start from to size w - from))
      → r ≡ tally_of (findings_from options plan from (part_start from to size (w + 1) - from))
  parts_more count w answers d t u r low small parts within is ok joins before =
      tally_by_part (finding_at options plan) tally_of from to size w t u r low small joins before (part_tally count w answers d u parts within is ok)

  -- after the last part it is that of all
  pub parts_all : (workers : ℕ) (t : Tally) → from ≤ to → 0 < workers → size ≡ div_ceil (to - from) workers
      → t ≡ tally_of (findings_from options plan from (part_start from to size workers - from)) → t ≡ tally_of (findings_from options plan from (to - from))
  parts_all workers t low some is before = tally_of_parts (finding_at options plan) tally_of from to size workers t low some is before
