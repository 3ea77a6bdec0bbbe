use Rattle.std.proofs.Common.{ℕ, ◌<◌, length}
use Rattle.wl_onward.proofs.Calm as calm
use Rattle.wl_onward.proofs.laws.a_run_shows_its_silence.Goals as goal

pub returns : goal.returns
returns c = λ plan clocks from steady checked fit is.
    (let causal = (c.checked_is_sound.ensures plan checked).causal in
    let whole : (i : ℕ) → i < length plan.nodes → 0 < (clocks i).den = λ i inside. calm.divides plan clocks checked steady.rates i inside in (
      calm.none_disturbs c.simulation_laws.ensures plan clocks from causal steady.rates whole steady.stays fit is,
      calm.first c.simulation_laws.ensures plan clocks from causal steady.rates whole steady.stays fit is,
      calm.silent c.simulation_laws.ensures plan clocks from causal steady.rates whole steady.stays fit is,
    ))
