use Rattle.std.proofs.Common.{true}
use Rattle.wl_proved.proofs.OfText.{keeps_table}
use Rattle.wl_proved.proofs.Owned.{any_waits, line_waits, own_waits, text_waits}
use Rattle.wl_proved.proofs.waits.respond_means_bounded.Goals as goal

pub returns-clause-any : goal.returns-clause-any
returns-clause-any c = λ tick any plain bus f w are none plan of keeps levels.
    any_waits c.place_laws.ensures c.respond_law.ensures tick any plain bus f w are none plan of keeps levels

pub returns-clause-any_data : goal.returns-clause-any_data
returns-clause-any_data c = λ tick plain bus f w are none plan of keeps levels.
    any_waits c.place_laws.ensures c.respond_law.ensures tick true plain bus f w are none plan of
    (keeps_table c.any_data_is_within_the_bits.ensures f plain are.0 plan keeps) levels

pub returns-clause-own : goal.returns-clause-own
returns-clause-own c = λ tick any plain bus f w are none family runs count.
    own_waits c.place_laws.ensures c.respond_law.ensures tick any plain bus c.clocks_keep_pace.ensures runs count f w are none family

pub returns-clause-lines : goal.returns-clause-lines
returns-clause-lines c = λ tick any plain bus lines met are said runs count.
    line_waits c.place_laws.ensures c.respond_law.ensures tick any plain bus c.clocks_keep_pace.ensures runs count lines met are said

pub returns-clause-text : goal.returns-clause-text
returns-clause-text c = λ tick any plain bus text met is said runs count.
    text_waits c.place_laws.ensures c.respond_law.ensures tick any plain bus c.clocks_keep_pace.ensures runs count text met is said
