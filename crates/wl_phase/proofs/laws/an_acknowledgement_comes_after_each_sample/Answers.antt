use Rattle.wl_phase.proofs.Others.{after_each}
use Rattle.wl_phase.proofs.laws.an_acknowledgement_comes_after_each_sample.Goals as goal

pub returns : goal.returns
returns c = λ s i j seen other_seen found other_found between d k n sender first second apart sampled other.
    after_each s i j seen other_seen found other_found between d k n sender.divides first.divides second.divides sampled other apart
