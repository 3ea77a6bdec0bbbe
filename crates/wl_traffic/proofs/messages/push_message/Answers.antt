use Rattle.std.proofs.Common.{◌≡◌, ◌∙◌, ◌++◌, ap, sym, subst, string_bytes, ℕ, Option}
use Rattle.std.specs.List.{All}
use Rattle.std.proofs.lemmas.Result.{on_ok_weaker}
use Rattle.wl_clock.specs.Timing.{Timing}
use Rattle.wl_margin.proofs.Callers.{grown_twice}
use Rattle.wl_node.specs.declared.setup.NodeSetup.{NodeSetup}
use Rattle.wl_plan.specs.PlanLine.{setup_at}
use Rattle.wl_traffic.specs.Known.{IsSoon}
use Rattle.wl_traffic.specs.Messages.{message_counts, wait_words}
use Rattle.wl_traffic.proofs.messages.push_message.Goals as goal

pub push_waits-requires-clause-soon : goal.push_waits-requires-clause-soon
push_waits-requires-clause-soon c = subst (λ (s : NodeSetup). All (IsSoon s.clock) c.args.mine.now) (sym c.setup_of.ensures) c.requires.soon

pub returns : goal.returns
returns c =
    let clock : c.setup_of.result.now.clock ≡ (setup_at c.args.plan.now c.args.i).clock = ap (λ (s : NodeSetup). s.clock) c.setup_of.ensures in
    grown_twice c.push_waits.result (string_bytes c.args.text.now) (string_bytes c.push_message_words.new.text) (string_bytes c.push_counts.new.text)
    (string_bytes c.push_waits.new.text) _ _ _ c.in_ok-push_message_words.ensures
    (c.in_ok-push_counts.ensures ∙ ap (λ (l : Option ℕ). string_bytes c.push_message_words.new.text ++ message_counts l c.args.mine.now) c.requires.last)
    (on_ok_weaker c.push_waits.result (λ grows. grows ∙ ap (λ (k : Timing). string_bytes c.push_counts.new.text ++ wait_words c.args.tick k c.args.mine.now) clock)
    c.push_waits.ensures)
