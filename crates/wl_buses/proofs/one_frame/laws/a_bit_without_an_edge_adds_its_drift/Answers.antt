use Rattle.wl_buses.proofs.OneFrame.Measures.{drifted}
use Rattle.wl_buses.proofs.one_frame.laws.a_bit_without_an_edge_adds_its_drift.Goals as goal

pub returns : goal.returns
returns c = λ s sends since place close i k inside there other some. drifted s since i k (place i) (place k) (close i k inside there other some)
