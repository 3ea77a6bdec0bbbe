use Rattle.std.proofs.Common.{ap, ◌∙◌, append_assoc, [], ◌∷◌, ◌++◌}
use Rattle.wl_record.proofs.LineLemmas.{takes_more}
use Rattle.wl_record.proofs.parse.take_lines.Goals as goal

pub loop-told-preserved : goal.loop-told-preserved
loop-told-preserved c = (
  c.loop-told.invariant.0 ++ c.in-Ok.told ∷ [],
  takes_more c.args.limits c.args.bytes.now c.loop-told.invariant.0 c.in-Ok.told c.loop-told.rest.now c.in-Ok.others.now c.loop-told.invariant.1 c.in-Ok.ensures.told,
  c.in_ok-push-in-Ok.ensures.items ∙ (ap (λ z. z ++ c.in-Ok.told ∷ []) c.loop-told.invariant.2 ∙ append_assoc c.args.records.now.items c.loop-told.invariant.0 (c.in-Ok.told ∷ [])),
)
