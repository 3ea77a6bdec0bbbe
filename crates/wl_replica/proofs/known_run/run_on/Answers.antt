use Rattle.std.proofs.Common.{◌≡◌, true, sym, subst, refl, arith}
use Rattle.wl_record_core.specs.Limits.{most_edges-is}
use Rattle.wl_replica.specs.Dense.{edges_of_row, row_number}
use Rattle.wl_replica.specs.Known.{is_run}
use Rattle.wl_replica.proofs.RunLemmas.{one_longer, past_all}
use Rattle.wl_replica.proofs.known_run.run_on.Goals as goal

pub loop-run-preserved : goal.loop-run-preserved
loop-run-preserved c =
    let e = edges_of_row c.args.edges.now in
    let s = row_number c.args.silences.now in
    record {
      run = subst (λ n. is_run e s n ≡ true) (sym c.in-Some.ensures.more) (one_longer e s c.loop-run.run.length c.loop-run.invariant.run c.in-Some.ensures.goes);
      end = c.in-Some.ensures.end;
      few = c.in-Some.ensures.few;
    }

pub returns-clause-stops : goal.returns-clause-stops
returns-clause-stops c =
    past_all (edges_of_row c.args.edges.now) (row_number c.args.silences.now) c.args.edges.now c.loop-run.run.length c.requires.within refl (omega (arith, most_edges-is, c.loop-run-test.false))
