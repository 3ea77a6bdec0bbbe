use Rattle.std.proofs.Common.{arith, sym, subst, ◌+◌, take, drop}
use Rattle.std.proofs.lemmas.Grind.{common_steps}
use Rattle.wl_record.specs.Limits.{most_line-is}
use Rattle.wl_record.specs.Parsing.{IsStop}
use Rattle.wl_record.proofs.LineLemmas.{long_line, open_line, told_line, has_line}
use Rattle.wl_device.proofs.Runs.{slice_from}
use Rattle.wl_record.proofs.parse.slow_line.Goals as goal
use Rattle.wl_record.proofs.parse.slow_line.Goals.{then-bytes-gt-MOST_LINE, else-bytes-gt-MOST_LINE}

pub returns-in_default-clause-stop : goal.returns-in_default-clause-stop
returns-in_default-clause-stop c =
    elim c.if-bytes-gt-MOST_LINE.branch [
      | then-bytes-gt-MOST_LINE w ↦ subst (IsStop c.args.limits c.args.bytes.now) (sym w.result-is) (long_line c.args.limits c.args.bytes.now c.in_default.ensures.none (omega (arith, most_line-is)))
      | else-bytes-gt-MOST_LINE w ↦ subst (IsStop c.args.limits c.args.bytes.now) (sym w.result-is) (open_line c.args.limits c.args.bytes.now c.in_default.ensures.none (omega (arith, most_line-is)))
    ]

pub returns-in-Ok-clause-told : goal.returns-in-Ok-clause-told
returns-in-Ok-clause-told c =
    told_line c.args.limits c.args.bytes.now c.in-Some.at c.in-Ok.told _ _ c.in-Some.ensures.found.1 c.in-Some.ensures.found.3 (grind (arith, common_steps)) (slice_from (c.in-Some.at + 1) c.args.bytes.now) c.in-Ok.ensures.told.0 c.in-Ok.ensures.told.1

pub returns-in-Err-clause-stop : goal.returns-in-Err-clause-stop
returns-in-Err-clause-stop c = (
  take c.in-Some.at c.args.bytes.now,
  drop (c.in-Some.at + 1) c.args.bytes.now,
  has_line c.args.bytes.now c.in-Some.at c.in-Some.ensures.found.1 c.in-Some.ensures.found.0 c.in-Some.ensures.found.3 c.in-Some.ensures.found.2,
  c.in-Err.ensures.fault,
)
