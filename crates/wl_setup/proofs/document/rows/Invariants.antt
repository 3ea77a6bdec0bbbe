use Rattle.wl_setup.proofs.TableLemmas.{AreMade}
use Rattle.wl_setup.proofs.document.rows.Given as goal

abbrev pub invariant-loop-value : goal.invariant-loop-value
invariant-loop-value g l = AreMade (g.T.TableText.fault l.version l.node) (g.T.TableText.make l.version) l.rows l.value-index l.values
