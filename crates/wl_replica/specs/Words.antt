-- What a state has in one slot. This project's profile.
use Rattle.wl_record_core.specs.declared.record.Slot.{Slot}
use Rattle.wl_record_core.specs.declared.record.Slot.TheVariants.{EdgeAt, SilenceAt}
use Rattle.wl_replica.specs.declared.replica.Word.{Word}
use Rattle.wl_replica.specs.declared.replica.Word.TheVariants.{Edge, Silence}
use Rattle.wl_replica.specs.State.{State, edge_at, silence_at}

-- the word of a slot
abbrev pub word_at : State → Slot → Word
word_at s (EdgeAt node seq) = Edge (edge_at s (node, seq))
word_at s (SilenceAt node count) = Silence (silence_at s (node, count))
