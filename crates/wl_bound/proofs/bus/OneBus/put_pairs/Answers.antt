use Rattle.std.proofs.Common.{◌≡◌, ◌∙◌, ◌+◌, ◌*◌, inl, inr, slice_index_or, subst, arith}
use Rattle.std.proofs.lemmas.Bool.{cases_lt}
use Rattle.std.proofs.lemmas.List.{length-set}
use Rattle.wl_topology.specs.Limits.{most_places}
use Rattle.wl_bound.specs.Kept.{IsOfPair}
use Rattle.wl_bound.proofs.WayRows.{put_next, put_apart}
use Rattle.wl_bound.specs.OneBuses.{the_bus}
use Rattle.wl_bound.proofs.bus.OneBus.put_pairs.Goals as goal

pub loop-j-preserved : goal.loop-j-preserved
loop-j-preserved c =
    let old = c.loop-j.invariant.0 in
    let is = IsOfPair (the_bus c.args.self.now) in (
      record {
        nodes = old.nodes;
        all = length-set c.loop-j.pairs c.place.result c.pair_terms.result ∙ old.all;
        each = put_apart is c.loop-j.pairs c.args.i c.loop-j.j _ c.place.result c.pair_terms.result old.nodes c.place.ensures old.each;
      },
      put_next (is c.args.i) c.loop-j.pairs c.args.i c.loop-j.j _ c.place.result c.pair_terms.result old.all old.nodes c.requires.node (omega arith)
          c.place.ensures c.pair_terms.ensures c.loop-j.invariant.1,
    )

pub returns : goal.returns
returns c =
    let old = c.loop-j.invariant.0 in
    record {
      nodes = old.nodes;
      all = old.all;
      each = λ a k d above below. elim (cases_lt a c.args.i) [
        | inl before ↦ old.each a k d before below
        | inr now ↦
            (let e : c.args.i ≡ a = omega arith in
            subst (λ m. IsOfPair (the_bus c.args.self.now) m k (slice_index_or c.loop-j.pairs (most_places * m + k) d)) e
            (c.loop-j.invariant.1 k d (omega arith)))
      ];
    }
