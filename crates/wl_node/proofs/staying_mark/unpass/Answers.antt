use Rattle.std.proofs.Common.{◌∙◌, sym, ap, subst}
use Rattle.std.specs.Prelude.{count_by}
use Rattle.wl_node.specs.Queues.{is_sent}
use Rattle.wl_node.specs.Unsent.{IsUnsent}
use Rattle.wl_node.proofs.Unsents.{moved}
use Rattle.wl_node.proofs.staying_mark.unpass.Goals as goal

pub returns-clause-unsent : goal.returns-clause-unsent
returns-clause-unsent c was sent =
    (let left = c.as_slice.ensures.value ∙ c.truncate.ensures.items in
    subst (IsUnsent c.args.setup.now c.back.new.self) left
    (c.back.ensures.passed c.args.frames.now.items (moved was) (λ fifo. sent fifo ∙ ap (count_by is_sent) (sym left))))
