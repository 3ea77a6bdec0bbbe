use Rattle.wl_frame.proofs.Reading.{left_least, left_more, left_whole}
use Rattle.wl_frame.proofs.laws.each_bit_takes_one_of_those_left.Goals as goal

pub returns-clause-next : goal.returns-clause-next
returns-clause-next c = left_more

pub returns-clause-whole : goal.returns-clause-whole
returns-clause-whole c = left_whole

pub returns-clause-least : goal.returns-clause-least
returns-clause-least c = left_least
