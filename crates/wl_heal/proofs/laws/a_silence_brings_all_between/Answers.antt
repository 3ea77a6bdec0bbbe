use Rattle.wl_heal.proofs.Silent.{silence_ends, silence_ends_on_wire, short_silence_ends_on_wire}
use Rattle.wl_heal.proofs.laws.a_silence_brings_all_between.Goals as goal

pub returns : goal.returns
returns c = record { machine = silence_ends; wire = silence_ends_on_wire; flag = short_silence_ends_on_wire }
