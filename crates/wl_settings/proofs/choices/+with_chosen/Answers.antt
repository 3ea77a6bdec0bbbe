use Rattle.wl_settings.proofs.Choosing.{each_writable}
use Rattle.wl_settings.proofs.choices.+with_chosen.Goals as goal

pub returns-in_ok-push-in-len1-up-clause-keys : goal.returns-in_ok-push-in-len1-up-clause-keys
returns-in_ok-push-in-len1-up-clause-keys t c =
    each_writable c.args.chosen c.push.new.self c.in_ok-first_chosen-in-len1-up.field-0 c.with_chosen.result c.in_ok-push-in-len1-up.ensures.ok
    c.in_ok-first_chosen-in-len1-up.ensures.keys c.with_chosen.ensures.keys
