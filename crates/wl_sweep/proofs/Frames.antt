-- Lists of frames that are alike have one length.
use Rattle.std.proofs.Common.{◌≡◌, ◌≢◌, ap, false, List, [], ◌∷◌, length, refl, suc}
use Rattle.std.proofs.lemmas.Bool.{and_right}
use Rattle.wl_frame.specs.Same.{same_content}
use Rattle.wl_node.specs.declared.setup.Passed.{Passed}
use Rattle.wl_sweep.specs.Findings.{like}

pub unlike_length : (ps qs : List Passed) → length ps ≢ length qs → like ps qs ≡ false
unlike_length [] [] other = absurd (other refl)
unlike_length [] (q ∷ qs) other = refl
unlike_length (p ∷ ps) [] other = refl
unlike_length (p ∷ ps) (q ∷ qs) other =
    and_right (same_content p.frame q.frame) (like ps qs) (unlike_length ps qs (λ same. other (ap suc same)))
