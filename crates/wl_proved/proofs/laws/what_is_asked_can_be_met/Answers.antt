use Rattle.wl_proved.proofs.Instance.{ends_late, is_of_family}
use Rattle.wl_proved.proofs.Rows.{cyclic, family, has_room, sound_for_any}
use Rattle.wl_proved.proofs.laws.what_is_asked_can_be_met.Goals as goal

pub returns : goal.returns
returns c = (family, cyclic, is_of_family c.topology_law.ensures c.faultless_is_checked.ensures, sound_for_any, has_room, ends_late c.no_frame_has_more_bits.ensures)
