use Rattle.std.proofs.Common.{ap, sym, ◌∙◌}
use Rattle.wl_replica.specs.State.{State, edge_at, silence_at}
use Rattle.wl_replica.specs.Words.{word_at}
use Rattle.wl_replica.specs.declared.replica.Word.TheVariants as word
use Rattle.wl_replica.proofs.replica.Replica.slot.Goals as goal

pub returns-in-EdgeAt : goal.returns-in-EdgeAt
returns-in-EdgeAt c =
    ap (λ w. word.Edge w) (c.edge.ensures ∙ ap (λ (s : State). edge_at s (c.in-EdgeAt.node, c.in-EdgeAt.seq)) c.self.view_is) ∙ ap (word_at c.args.self.now) (sym c.in-EdgeAt.is)

pub returns-in-SilenceAt : goal.returns-in-SilenceAt
returns-in-SilenceAt c =
    ap (λ w. word.Silence w) (c.silence.ensures ∙ ap (λ (s : State). silence_at s (c.in-SilenceAt.node, c.in-SilenceAt.count)) c.self.view_is) ∙ ap (word_at c.args.self.now) (sym c.in-SilenceAt.is)
