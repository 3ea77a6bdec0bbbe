use Rattle.wl_sync.proofs.Cuts.{clock_next, beat_next, sync_next}
use Rattle.wl_sync.proofs.Remembered.{sample_kept}
use Rattle.wl_sync.proofs.laws.clock_goes_on.Goals as goal

pub returns-clause-clock : goal.returns-clause-clock
returns-clause-clock c = clock_next

pub returns-clause-beat : goal.returns-clause-beat
returns-clause-beat c = beat_next

pub returns-clause-sync : goal.returns-clause-sync
returns-clause-sync c = sync_next

pub returns-clause-sample : goal.returns-clause-sample
returns-clause-sample c = sample_kept
