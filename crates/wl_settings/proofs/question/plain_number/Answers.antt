use Rattle.std.proofs.Common.{ℕ}
use Rattle.wl_settings.proofs.PlainNumbers.{none_is_read, number_is_read}
use Rattle.wl_settings.proofs.question.plain_number.Goals as goal

pub returns-in-Ok : goal.returns-in-Ok
returns-in-Ok c = number_is_read ℕ c.args.text.now c.in-Ok.number c.in-Ok.ensures.value.0

pub returns-in-Err : goal.returns-in-Err
returns-in-Err c = none_is_read _ c.args.text.now c.in-Err.field-0 c.in-Err.ensures.value.0
