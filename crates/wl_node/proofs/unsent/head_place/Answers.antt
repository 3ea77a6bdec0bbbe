use Rattle.std.specs.Option.{MatchOption}
use Rattle.std.proofs.Common.{◌≡◌, ◌∙◌, [], sym, subst}
use Rattle.wl_node.specs.Unsent.{IsHeadAt, IsLeastAt}
use Rattle.wl_node.proofs.Unsents.{no_head, first_head, place_found}
use Rattle.wl_node.proofs.unsent.head_place.Goals as goal

pub returns-then-not-is_first_ready : goal.returns-then-not-is_first_ready
returns-then-not-is_first_ready c = no_head c.args.order c.args.unsent.now c.args.quantum (sym c.is_first_ready.ensures ∙ c.if-not-is_first_ready.true)

pub returns-in-Fifo : goal.returns-in-Fifo
returns-in-Fifo c =
    subst (λ o. IsHeadAt o c.args.unsent.now c.args.quantum 0) (sym c.in-Fifo.is)
    (first_head c.args.unsent.now c.args.quantum (sym c.is_first_ready.ensures ∙ c.if-not-is_first_ready.false))

pub returns-in-Priority : goal.returns-in-Priority
returns-in-Priority c =
    place_found c.args.order c.args.unsent.now c.args.quantum c.least_place.result c.in-Priority.is (sym c.is_first_ready.ensures ∙ c.if-not-is_first_ready.false)
    (subst (λ w. MatchOption c.least_place.result (w ≡ []) (IsLeastAt w)) c.waiting.ensures c.least_place.ensures)
