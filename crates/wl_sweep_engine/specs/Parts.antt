-- What a part of a sweep says of its sweep (this project's profile).
use Rattle.std.specs.Prelude.{◌≡◌, ◌↔◌, ℕ, Bool, true, List, ◌++◌}
use Rattle.wl_map.specs.Maps.{axes_text}
use Rattle.wl_parts.specs.Text.{part_text}
use Rattle.wl_parts.specs.Whole.{part_of}
use Rattle.wl_plan.specs.declared.plan.Plan.{Plan}
use Rattle.wl_sweep.specs.declared.part.Share.{Share}
use Rattle.wl_sweep.specs.declared.sweep.Sweep.{Sweep}
use Rattle.wl_sweep.specs.Parts.{kinds_of, whole_of}
use Rattle.wl_sweep_engine.specs.Payload.{NoneTests}
use Rattle.wl_sweep_engine.specs.Said.{added_words, untested_words}
use Rattle.wl_print.specs.Written.{plan_words}

-- what names a sweep: its options, its ranges with their values, and its plan
abbrev pub sweep_name : Sweep → Bool → List ℕ
sweep_name s worst = axes_text s worst ++ plan_words s.text

-- what a sweep says last: the frames that were added, and that no frame tests the clocks, exactly if none does
pub record AreLastLines (worst : Bool) (plan : Plan) (tail : List ℕ) : Type 0 where
  pub untested : Bool
  pub none : (untested ≡ true) ↔ NoneTests plan.nodes
  pub whole : tail ≡ added_words worst ++ untested_words untested

-- the text of a part of a sweep, by what names the sweep and what it says last
pub record IsPartText (worst : Bool) (plan : Plan) (s : Sweep) (share : Share) (text : List ℕ) : Type 0 where
  pub tail : List ℕ
  pub last : AreLastLines worst plan tail
  pub whole : text ≡ part_text (part_of (kinds_of s) (whole_of s (sweep_name s worst) tail) share.count share.number)
