-- Worked counters: errors while sending end in bus off, errors while receiving in error passive.
use Rattle.std.proofs.Common.{◌≡◌, ℕ, List, [], ◌∷◌, ◌++◌, refl, replicate}
use Rattle.wl_confine.specs.declared.ErrorKind.TheVariants.{Bit, Stuff}
use Rattle.wl_confine.specs.declared.Mode.TheVariants.{Active, Passive, Off}
use Rattle.wl_confine.specs.declared.Happened.{Happened}
use Rattle.wl_confine.specs.declared.Happened.TheVariants.{RxError, RxAfterFlag, TxError, Acked, Recovered}
use Rattle.wl_confine.specs.Counts.{Counts, counts_of, mode_of}

abbrev counts : ℕ → ℕ → Counts
counts tec rec = record { tec = tec; rec = rec }

abbrev sends : ℕ → List Happened
sends n = replicate n (TxError Bit)

abbrev receives : ℕ → List Happened
receives n = replicate n (RxError Stuff)

sent_15 : counts_of (sends 15) ≡ counts 120 0
sent_15 = refl

still_active : mode_of (counts_of (sends 15)) ≡ Active
still_active = refl

passive : mode_of (counts_of (sends 16)) ≡ Passive
passive = refl

still_passive : mode_of (counts_of (sends 31)) ≡ Passive
still_passive = refl

sent_32 : counts_of (sends 32) ≡ counts 256 0
sent_32 = refl

off : mode_of (counts_of (sends 32)) ≡ Off
off = refl

recovered : counts_of (sends 32 ++ Recovered ∷ []) ≡ counts 0 0
recovered = refl

received_127 : counts_of (receives 127) ≡ counts 0 127
received_127 = refl

active_at_127 : mode_of (counts_of (receives 127)) ≡ Active
active_at_127 = refl

after_flag : counts_of (receives 127 ++ RxAfterFlag ∷ []) ≡ counts 0 135
after_flag = refl

passive_at_135 : mode_of (counts_of (receives 127 ++ RxAfterFlag ∷ [])) ≡ Passive
passive_at_135 = refl

acknowledged : counts_of (receives 127 ++ RxAfterFlag ∷ Acked ∷ []) ≡ counts 0 127
acknowledged = refl

acknowledged_twice : counts_of (receives 127 ++ RxAfterFlag ∷ Acked ∷ Acked ∷ []) ≡ counts 0 126
acknowledged_twice = refl
