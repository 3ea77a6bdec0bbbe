-- What a sweep says, and on the frames of its plan (this project's profile).
use Rattle.std.specs.Prelude.{◌≡◌, ◌↔◌, ℕ, Bool, true, false, List, [], ◌++◌, codes}
use Rattle.wl_plan.specs.declared.plan.Plan.{Plan}
use Rattle.wl_sweep.specs.declared.sweep.Sweep.{Sweep}
use Rattle.wl_sweep.specs.Sweeps.{sweep_text}
use Rattle.wl_sweep_engine.specs.Payload.{NoneTests}

abbrev pub added_words : Bool → List ℕ
added_words true = codes "each sender has one frame more, with edges ten bits apart\n"
added_words false = []

abbrev pub untested_words : Bool → List ℕ
untested_words true = codes "no frame has edges ten bits apart, so none tests the clocks; --worst adds some that do\n"
untested_words false = []

-- the whole text: that of the sweep, then the frames that were added, then that no frame tests the clocks, exactly if none does
pub record IsSaid (worst : Bool) (plan : Plan) (s : Sweep) (text : List ℕ) : Type 0 where
  pub untested : Bool
  pub none : (untested ≡ true) ↔ NoneTests plan.nodes
  pub whole : text ≡ (sweep_text s ++ added_words worst) ++ untested_words untested
