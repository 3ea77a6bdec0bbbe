use Rattle.std.proofs.Common.{◌≡◌, ◌∙◌, ◌+◌, sym, subst, true, get_or}
use Rattle.std.proofs.lemmas.List.{get_or_read}
use Rattle.wl_node.specs.declared.setup.Queued.{Queued}
use Rattle.wl_respond.specs.Plans.{IsWithinBits, entry_at, no_entry}
use Rattle.wl_respond.specs.Tables.{HasBits, IsMostBits, is_of}
use Rattle.wl_respond.proofs.Longest.{one_more, same_more}
use Rattle.wl_respond.proofs.table.more_bits.Goals as goal

pub returns-then-is_of : goal.returns-then-is_of
returns-then-is_of c = λ frame before.
    (let queue = c.args.queue.now in
    let here : c.index-queue-n.result ≡ entry_at queue c.args.n = get_or_read queue _ _ c.requires c.index-queue-n.is no_entry in
    let there : get_or queue c.args.n c.index-queue-n.result ≡ entry_at queue c.args.n = sym c.index-queue-n.is ∙ here in
    let is : is_of queue c.args.field c.args.n ≡ true = sym c.is_of.ensures ∙ c.if-is_of.true in
    subst (IsMostBits queue c.args.field frame (c.args.n + 1)) (sym c.max.ensures)
    (one_more queue c.args.field frame c.args.n c.args.most before c.bits_in.result is
    (subst (λ (q : Queued). HasBits q.frame c.bits_in.result) there c.bits_in.ensures.has) (subst (λ (q : Queued). IsWithinBits q.frame c.bits_in.result) there c.bits_in.ensures.within)))

pub returns-else-is_of : goal.returns-else-is_of
returns-else-is_of c = λ frame before.
    same_more c.args.queue.now c.args.field frame c.args.n c.args.most before (sym c.is_of.ensures ∙ c.if-is_of.false)
