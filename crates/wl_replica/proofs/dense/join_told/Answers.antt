use Rattle.std.proofs.Common.{length, subst, sym, arith}
use Rattle.wl_lattice.specs.declared.FlatWord.{FlatWord}
use Rattle.wl_lattice.specs.Words.{joined_flat}
use Rattle.wl_lattice.specs.SlotContents.{IsRaised}
use Rattle.wl_record_core.specs.declared.record.Record.{Record}
use Rattle.wl_record_core.specs.Limits.{tick_end-is}
use Rattle.std.proofs.Common.{refl}
use Rattle.wl_replica.specs.State.{Fits}
use Rattle.wl_replica.specs.Keys.{Key}
use Rattle.wl_replica.specs.Dense.{edge_words, IsToldTo}
use Rattle.wl_replica.proofs.DenseShown.{tick_number}
use Rattle.wl_replica.proofs.dense.join_told.Goals as goal

pub value_number-requires : goal.value_number-requires
value_number-requires c = let fits = subst (Fits (length c.args.edges.now.rows.items)) c.in-Edge.is c.requires.edges in omega (arith, fits.1.2, tick_end-is)

pub returns-in-Edge-clause-told : goal.returns-in-Edge-clause-told
returns-in-Edge-clause-told c =
    let fits = subst (Fits (length c.args.edges.now.rows.items)) c.in-Edge.is c.requires.edges in
    let key : Key = (c.in-Edge.node, c.in-Edge.seq) in
    let old = edge_words c.args.edges.now.rows.items in
    let new = edge_words c.join_number.new.self.rows.items in
    subst (λ (r : Record). IsToldTo r c.args.edges.now.rows.items c.args.silences.now.rows.items c.join_number.new.self.rows.items c.args.silences.now.rows.items) (sym c.in-Edge.is)
    (subst (λ (w : FlatWord). IsRaised joined_flat old key w new) (tick_number c.in-Edge.tick fits.1.2) (rw c.value_number.ensures at c.join_number.ensures.joined), refl)
