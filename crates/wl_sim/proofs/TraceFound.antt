-- The trace of a run, or of the node of a name.
use Rattle.std.proofs.Common.{◌≡◌, ℕ, ◌<◌, ◌≤◌, length, map, String, Global, string_bytes, slice_index_or, [], ◌∷◌, List, arith}
use Rattle.std.specs.Prelude.{Bool, Result}
use Rattle.wl_device.specs.Devices.{Answer}
use Rattle.wl_engines.specs.Named.{IsNodeTrace}
use Rattle.wl_engines.specs.Plans.{RunsPlan, RunsPlanWith, IsTracePicked}
use Rattle.wl_engines.specs.declared.fault.RunFault.{RunFault}
use Rattle.wl_views.specs.declared.pick.Pick.{Pick}
use Rattle.wl_sim.specs.declared.answer.Done.{Done}
use Rattle.wl_sim.specs.declared.answer.Fault.{Fault}
use Rattle.wl_sim.specs.Tasks.{DoesTrace, Plainly, of_named_trace}

module _ {S T : Type 0} (gives : S → Answer → S → Type 0) (takes : T → Answer → T → Type 0) where
  -- no name was given, and the whole trace was picked from
  pub traces_picked : (s s' : S) (t t' : T) (pick : Pick) (named : List (String Global)) → length named < 1 → (r : Result Done Fault)
      → Plainly (RunsPlan gives takes (IsTracePicked pick) s s' t t') r → DoesTrace gives takes s s' t t' pick (map string_bytes named) r
  traces_picked s s' t t' pick [] few r h = h
  traces_picked s s' t t' pick (n ∷ ns) few r h = absurd (omega arith)

  -- a name was given, and its node was asked for
  pub traces_named : (s s' : S) (t t' : T) (pick : Pick) (named : List (String Global)) (d : String Global) → 1 ≤ length named
      → (answer : Result Bool RunFault) → RunsPlanWith gives takes (IsNodeTrace pick (string_bytes (slice_index_or named 0 d))) s s' t t' answer
      → (r : Result Done Fault) → r ≡ of_named_trace answer → DoesTrace gives takes s s' t t' pick (map string_bytes named) r
  traces_named s s' t t' pick [] d some answer h r same = absurd (omega arith)
  traces_named s s' t t' pick (n ∷ ns) d some answer h r same = (answer, h, same)
