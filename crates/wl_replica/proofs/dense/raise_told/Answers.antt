use Rattle.std.proofs.Common.{◌+◌, length, subst, sym, refl, arith}
use Rattle.std.proofs.lemmas.Result.{on_ok_weaker}
use Rattle.wl_lattice.specs.declared.FlatWord.{FlatWord}
use Rattle.wl_lattice.specs.Words.{joined_flat}
use Rattle.wl_lattice.specs.SlotContents.{IsRaised}
use Rattle.wl_record_core.specs.declared.record.Record.{Record}
use Rattle.wl_record_core.specs.Limits.{tick_end-is}
use Rattle.wl_replica.specs.State.{Fits}
use Rattle.wl_replica.specs.Keys.{Key}
use Rattle.wl_replica.specs.Dense.{edge_words, IsToldTo}
use Rattle.wl_lattice.specs.Numbers.{number_word}
use Rattle.wl_replica.proofs.DenseShown.{tick_number}
use Rattle.wl_replica.proofs.dense.raise_told.Goals as goal

pub value_number-requires : goal.value_number-requires
value_number-requires c = let fits = subst (Fits (length c.args.edges.now.rows.items)) c.in-Edge.is c.requires.edges in omega (arith, fits.1.2, tick_end-is)

pub returns-in-Edge-clause-ok : goal.returns-in-Edge-clause-ok
returns-in-Edge-clause-ok c =
    let fits = subst (Fits (length c.args.edges.now.rows.items)) c.in-Edge.is c.requires.edges in
    let key : Key = (c.in-Edge.node, c.in-Edge.seq) in
    let old = edge_words c.args.edges.now.rows.items in
    let new = edge_words c.raise_number.new.self.rows.items in
    on_ok_weaker c.raise_number.result (λ (raised : IsRaised joined_flat old key (number_word (c.in-Edge.tick + 1)) new).
    subst (λ (r : Record). IsToldTo r c.args.edges.now.rows.items c.args.silences.now.rows.items c.raise_number.new.self.rows.items c.args.silences.now.rows.items) (sym c.in-Edge.is)
    (subst (λ (w : FlatWord). IsRaised joined_flat old key w new) (tick_number c.in-Edge.tick fits.1.2) raised, refl)) (rw c.value_number.ensures at c.raise_number.ensures.ok)
