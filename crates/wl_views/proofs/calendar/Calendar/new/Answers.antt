use Rattle.wl_views.proofs.Calendars.{all_equal}
use Rattle.wl_views.proofs.calendar.Calendar.new.Goals as goal

pub invariant_of-result : goal.invariant_of-result
invariant_of-result c = record { some = c.requires.some; few = c.requires.few; ordered = all_equal c.args.nodes 18446744073709551615 c.requires.few }
