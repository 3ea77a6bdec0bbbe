use Rattle.std.proofs.Common.{◌∙◌, arith}
use Rattle.wl_explain.proofs.Places.{column_next}
use Rattle.wl_explain.proofs.refusal.column_number.Goals as goal

pub loop-byte-preserved : goal.loop-byte-preserved
loop-byte-preserved c = (
  c.next_column-column.ensures.value
      ∙ column_next c.args.before.now c.loop-byte.byte-index 0 c.loop-byte.column c.loop-byte-test.true c.loop-byte.invariant.0,
  (let most = c.next_column-column.ensures.most in let before = c.loop-byte.invariant.1 in omega arith),
)
