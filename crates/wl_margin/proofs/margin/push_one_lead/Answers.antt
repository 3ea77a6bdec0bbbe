use Rattle.std.proofs.Common.{string_bytes}
use Rattle.wl_margin.proofs.Callers.{grown_twice}
use Rattle.wl_margin.proofs.Said.{pushed, said}
use Rattle.wl_margin.proofs.margin.push_one_lead.Goals as goal

pub returns : goal.returns
returns c =
    grown_twice c.push_str-2.result (string_bytes c.args.text.now) (string_bytes c.push_str.new.self) (string_bytes c.push_senders.new.text)
    (string_bytes c.push_str-2.new.self) _ _ _ c.in_ok-push_str.ensures.bytes c.in_ok-push_senders.ensures
    (said c.push_str-2.result (string_bytes c.push_senders.new.text) (string_bytes c.push_str-2.new.self) c.one_word.ensures
    (pushed c.push_str-2.result (string_bytes c.push_senders.new.text) (string_bytes c.push_str-2.new.self) _ c.push_str-2.ensures.bytes))
