use Rattle.wl_longest.proofs.Heads.{base_head, extended_head}
use Rattle.wl_longest.proofs.head_ending.Goals as goal
use Rattle.wl_longest.proofs.head_ending.Goals.{then-extended, else-extended}

pub returns-clause-value : goal.returns-clause-value
returns-clause-value c = elim c.if-extended.branch [
  | then-extended w ↦
      rw (c.after_number-2.ensures.value, c.after-4.ensures.value, c.after-3.ensures.value, c.after-2.ensures.value, c.level_of.ensures, w.named-is, w.after_number-named.ensures.value, w.after-then-extended.ensures.value, w.after.ensures.value, w.after_number.ensures.value, c.after-start.ensures.value, c.none.ensures)
      (extended_head c.args.extended c.args.id c.args.remote c.args.dlc w.if-extended.true)
  | else-extended w ↦
      rw (c.after_number-2.ensures.value, c.after-4.ensures.value, c.after-3.ensures.value, c.after-2.ensures.value, c.level_of.ensures, w.named-is, w.after_number-named-else-extended.ensures.value, c.after-start.ensures.value, c.none.ensures)
      (base_head c.args.extended c.args.id c.args.remote c.args.dlc w.if-extended.false)
]
