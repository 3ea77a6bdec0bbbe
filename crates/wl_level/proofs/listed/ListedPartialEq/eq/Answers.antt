use Rattle.std.proofs.Common.{◌≡◌, ◌∙◌}
use Rattle.std.specs.Cmp.Lexicographic.{pointwise}
use Rattle.std.proofs.lemmas.Slice.Eq.{slice_eq-Decides}
use Rattle.wl_level.proofs.listed.ListedPartialEq.eq.Goals as goal

pub returns-clause-same : goal.returns-clause-same
returns-clause-same g c =
    let value : c.eq.result ≡ pointwise g.T.PartialEq.eq c.args.self.now c.args.other.now =
    c.eq.ensures ∙ (λ i. pointwise g.T.PartialEq.eq (c.as_slice.ensures i) (c.as_slice-2.ensures i)) in
    λ decides. slice_eq-Decides decides c.args.self.now c.args.other.now c.eq.result value
