-- What a pass has given after it gave several records, one after another.
use Rattle.std.proofs.Common.{◌≡◌, ℕ, zero, suc, ◌+◌, ◌<◌, List, [], ◌∷◌, length, take, get_or, add-one, refl, arith}
use Rattle.wl_record_core.specs.declared.record.Record.{Record}
use Rattle.wl_hub.specs.Passes.{with_edge, with_silence}
use Rattle.wl_worker.specs.PlanName.{with_edges, with_silences}

edges_on : (gs rs : List Record) (i : ℕ) (d : Record) → i < length rs → with_edges gs (take (suc i) rs) ≡ with_edge (with_edges gs (take i rs)) (get_or rs i d)
edges_on gs [] i d b = absurd (omega arith)
edges_on gs (r ∷ rs) zero d b = refl
edges_on gs (r ∷ rs) (suc i) d b = edges_on (with_edge gs r) rs i d (omega arith)

pub edges_more : (gs rs : List Record) (i : ℕ) (d : Record) → i < length rs → with_edges gs (take (i + 1) rs) ≡ with_edge (with_edges gs (take i rs)) (get_or rs i d)
edges_more gs rs i d b = rw add-one (edges_on gs rs i d b)

silences_on : (gs rs : List Record) (i : ℕ) (d : Record) → i < length rs → with_silences gs (take (suc i) rs) ≡ with_silence (with_silences gs (take i rs)) (get_or rs i d)
silences_on gs [] i d b = absurd (omega arith)
silences_on gs (r ∷ rs) zero d b = refl
silences_on gs (r ∷ rs) (suc i) d b = silences_on (with_silence gs r) rs i d (omega arith)

pub silences_more : (gs rs : List Record) (i : ℕ) (d : Record) → i < length rs → with_silences gs (take (i + 1) rs) ≡ with_silence (with_silences gs (take i rs)) (get_or rs i d)
silences_more gs rs i d b = rw add-one (silences_on gs rs i d b)
