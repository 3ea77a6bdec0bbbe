use Rattle.std.proofs.Common.{ap, ap₂, string_bytes}
use Rattle.wl_margin.specs.Margins.{lone_words, mute_words, shared_words, unheard_words}
use Rattle.wl_margin.proofs.Said.{said}
use Rattle.wl_margin.proofs.margin.push_reason.Goals as goal

pub returns-in-SameIdentifier : goal.returns-in-SameIdentifier
returns-in-SameIdentifier c =
    rw c.in-SameIdentifier.is (said c.push_shared.result (string_bytes c.args.text.now) (string_bytes c.push_shared.new.text)
    (ap₂ shared_words c.name_of-in-SameIdentifier.ensures c.name_of-in-SameIdentifier-2.ensures) c.push_shared.ensures)

pub returns-in-NobodyIdle : goal.returns-in-NobodyIdle
returns-in-NobodyIdle c =
    rw c.in-NobodyIdle.is (said c.push_unheard.result (string_bytes c.args.text.now) (string_bytes c.push_unheard.new.text)
    (ap unheard_words c.name_of-in-NobodyIdle.ensures) c.push_unheard.ensures)

pub returns-in-ListenerSends : goal.returns-in-ListenerSends
returns-in-ListenerSends c =
    rw c.in-ListenerSends.is (said c.push_mute.result (string_bytes c.args.text.now) (string_bytes c.push_mute.new.text)
    (ap mute_words c.name_of.ensures) c.push_mute.ensures)

pub returns-in-NobodyAcknowledges : goal.returns-in-NobodyAcknowledges
returns-in-NobodyAcknowledges c =
    rw c.in-NobodyAcknowledges.is (said c.push_lone.result (string_bytes c.args.text.now) (string_bytes c.push_lone.new.text)
    (ap lone_words c.name_of-in-NobodyAcknowledges.ensures) c.push_lone.ensures)
