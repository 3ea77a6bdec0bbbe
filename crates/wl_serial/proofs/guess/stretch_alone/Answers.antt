-- The place of the node that ran on is heard anew.
use Rattle.std.proofs.Common.{arith}
use Rattle.wl_serial.proofs.Hearing.{heard_anew}
use Rattle.wl_serial.proofs.Runners.{line_on, stretched_less}
use Rattle.wl_serial.proofs.guess.stretch_alone.Goals as goal

pub run_alone-requires-clause-lines : goal.run_alone-requires-clause-lines
run_alone-requires-clause-lines c =
    line_on c.args.plan.now c.args.i c.args.lines.now c.level_at-found.new.self (omega (arith, c.requires.node, c.requires.lines.all)) c.requires.lines c.level_at-found.ensures.line

pub run_alone-requires-clause-heard : goal.run_alone-requires-clause-heard
run_alone-requires-clause-heard c =
    heard_anew c.args.plan.now c.args.running.now c.args.i c.args.lines.now c.level_at-found.new.self (omega (arith, c.requires.node, c.requires.lines.all)) c.level_at-found.ensures.heard c.requires.heard

pub run_found-requires-clause-lines : goal.run_found-requires-clause-lines
run_found-requires-clause-lines c =
    line_on c.args.plan.now c.args.i c.args.lines.now c.level_at-found.new.self (omega (arith, c.requires.node, c.requires.lines.all)) c.requires.lines c.level_at-found.ensures.line

pub run_found-requires-clause-heard : goal.run_found-requires-clause-heard
run_found-requires-clause-heard c =
    heard_anew c.args.plan.now c.args.running.now c.args.i c.args.lines.now c.level_at-found.new.self (omega (arith, c.requires.node, c.requires.lines.all)) c.level_at-found.ensures.heard c.requires.heard

pub returns-then-running-i-clause-ran : goal.returns-then-running-i-clause-ran
returns-then-running-i-clause-ran c =
    stretched_less c.args.plan.now c.args.i c.min-alone.result c.args.until c.args.running.now c.run_alone.new.running (let min = c.min-alone.ensures in omega (arith, min)) c.in_ok-changed.ensures.ran

pub returns-clause-ran : goal.returns-clause-ran
returns-clause-ran c =
    stretched_less c.args.plan.now c.args.i c.level_at-found.result.until c.args.until c.args.running.now c.run_found.new.running c.level_at-found.ensures.few c.in_ok-changed-2.ensures.ran
