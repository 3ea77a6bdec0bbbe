use Rattle.std.proofs.Common.{string_bytes}
use Rattle.wl_sweep.proofs.Growing.{whole_text}
use Rattle.wl_sweep.proofs.sweep.Sweep.run.Goals as goal

pub returns-clause-text : goal.returns-clause-text
returns-clause-text g c =
    whole_text c.args.self.now c.in_ok-sum.sum.tally c.in_ok-sum.sum.members
    (string_bytes c.new-text.result) (string_bytes c.run_rows.new.text) (string_bytes c.push_tally_line.new.text)
    (string_bytes c.push_members.new.text) (string_bytes c.push_first.new.text) (string_bytes c.push_first-2.new.text)
    c.in_ok-sum.ensures.tally c.in_ok-sum.ensures.members c.new-text.ensures.bytes c.in_ok-sum.ensures.text
    c.in_ok-push_tally_line.ensures c.in_ok-push_members.ensures c.in_ok-push_first.ensures c.in_ok-push_first-2.ensures
