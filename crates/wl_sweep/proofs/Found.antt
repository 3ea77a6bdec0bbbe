-- The findings of runs, one after another, and their tallies.
use Rattle.std.proofs.Common.{◌≡◌, ◌+◌, ◌-◌, ◌^◌, ◌<◌, ◌≤◌, ℕ, List, [], ◌∷◌, ◌++◌, length}
use Rattle.wl_setup.specs.declared.plan_text.PlanText.{PlanText}
use Rattle.wl_sweep.specs.declared.options.Options.{Options}
use Rattle.wl_sweep.specs.declared.tally.Tally.{Tally}
use Rattle.wl_sweep.specs.Tallies.{finding_at, findings_from, tally_of}
use Rattle.wl_sweep.proofs.Callers.{JoinsBy, made_length, tally_by_more, tally_by_one}

-- a tally is that of two others, one after the other
abbrev pub Joins : Tally → Tally → Tally → Type 0
Joins t u r = JoinsBy tally_of t u r

module _ (options : Options) (plan : PlanText) where
  pub findings_length : (from n : ℕ) → length (findings_from options plan from n) ≡ n
  findings_length from n = made_length (finding_at options plan) from n

  -- the tally of one run more
  pub tally_more : (from run : ℕ) (t u r : Tally) → from ≤ run → run < 2 ^ 32 → Joins t u r
      → t ≡ tally_of (findings_from options plan from (run - from)) → u ≡ tally_of (finding_at options plan run ∷ [])
      → r ≡ tally_of (findings_from options plan from (run + 1 - from))
  tally_more from run t u r low small joins before here = tally_by_one (finding_at options plan) tally_of from run t u r low small joins before here

  -- the tally of the runs of one part more
  pub tally_up : (from mid to : ℕ) (t u r : Tally) → from ≤ mid → mid ≤ to → to < 2 ^ 32 → Joins t u r
      → t ≡ tally_of (findings_from options plan from (mid - from)) → u ≡ tally_of (findings_from options plan mid (to - mid))
      → r ≡ tally_of (findings_from options plan from (to - from))
  tally_up from mid to t u r low high small joins before here =
      tally_by_more (finding_at options plan) tally_of from mid to t u r low high small joins before here
