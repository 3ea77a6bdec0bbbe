use Rattle.wl_buses.proofs.ThirdBit.Following.{answered_by, follows_by}
use Rattle.wl_buses.proofs.third_bit.laws.another_frame_follows_from_the_third_bit.Goals as goal

pub returns-clause-first : goal.returns-clause-first
returns-clause-first c = λ s o chase are room enough is. answered_by c.the_stuffed_part_ends.ensures c.one_station_wins.ensures s o chase are room enough is

pub returns-clause-next : goal.returns-clause-next
returns-clause-next c = λ s a chase which decides given are room enough is more may.
    follows_by c.the_stuffed_part_ends.ensures c.one_station_wins.ensures c.a_frame_follows_from_the_third_bit.ensures s a chase which decides given are room enough is more may
