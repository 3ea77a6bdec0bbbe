-- Worked histories: what isn't fine, and what of it is an error.
use Rattle.std.proofs.Common.{◌≡◌, [], ◌∷◌, List, refl}
use Rattle.wl_level.specs.declared.Level.TheVariants.{Recessive}
use Rattle.wl_confine.specs.declared.ErrorKind.TheVariants.{Stuff}
use Rattle.wl_confine.specs.declared.Happened.{Happened}
use Rattle.wl_confine.specs.declared.Happened.TheVariants.{Acked, Nothing, RxError, RxFlagBit, Sent}
use Rattle.wl_node.specs.History.{History, counters_of, error_count}
use Rattle.wl_buses.specs.FirstFrame.Faults.{fault_count}

abbrev after : List Happened → History
after happened = record { seen = []; inputs = []; happened = happened; samples = []; frames = []; syncs = []; drive = Recessive }

-- a frame acknowledged and one sent
fine : fault_count (after (Nothing ∷ Acked ∷ Nothing ∷ Sent ∷ [])) ≡ 0
fine = refl

-- a stuff error
error : fault_count (after (Nothing ∷ RxError Stuff ∷ [])) ≡ 1
error = refl

-- a bit of an overload flag that is found recessive counts 8, and is no error
overload : fault_count (after (Nothing ∷ RxFlagBit ∷ [])) ≡ 1
overload = refl

overload_errors : error_count (after (Nothing ∷ RxFlagBit ∷ [])) ≡ 0
overload_errors = refl

overload_counts : counters_of (after (Nothing ∷ RxFlagBit ∷ [])) ≡ record { tec = 0; rec = 8 }
overload_counts = refl
