-- A node of bits of 1 + 3 + 3 + 3 quanta with a frame to send, on a silent line: by computation.
use Rattle.std.proofs.Common.{◌≡◌, ℕ, List, [], ◌∷◌, ◌++◌, false, length, refl}
use Rattle.std.specs.Prelude.{replicate, Some, None}
use Rattle.wl_level.specs.declared.Level.{Level}
use Rattle.wl_level.specs.declared.Level.TheVariants.{Dominant, Recessive}
use Rattle.wl_frame.specs.Grammar.{bits_of, number_bits}
use Rattle.wl_segments.specs.declared.SyncRules.TheVariants.{After, Book}
use Rattle.wl_node.specs.declared.setup.NodeSetup.{NodeSetup}
use Rattle.wl_node.specs.declared.setup.QueueOrder.TheVariants.{Fifo}
use Rattle.wl_node.specs.History.{History, history_of, staying_history, hards_of, unsent_count}

abbrev setup : NodeSetup
setup = record {
  clock = record { offset = 0; rates = record { from = 0; num = 100; den = 1 } ∷ [] };
  segments = record { prop = 3; ps1 = 3; ps2 = 3; sjw = 2; sync = After };
  queue = record { frame = record { extended = false; id = 0; remote = false; dlc = 0; bytes = [] }; ready = 0 } ∷ [];
  order = Fifo;
  until = None;
}

abbrev after : ℕ → History
after n = history_of setup (replicate n Recessive)

-- it samples at quanta 7, 17 and so on
samples : (after 111).samples ≡ (7, Recessive) ∷ (17, Recessive) ∷ (27, Recessive) ∷ (37, Recessive) ∷ (47, Recessive) ∷ (57, Recessive) ∷ (67, Recessive) ∷ (77, Recessive) ∷ (87, Recessive) ∷ (97, Recessive) ∷ (107, Recessive) ∷ []
unfolding history_of staying_history bits_of number_bits
samples = refl

-- eleven recessive samples later its frame is due: it starts with the next bit, at quantum 110
silent : (after 110).drive ≡ Recessive
unfolding history_of staying_history bits_of number_bits
silent = refl

begins : (after 111).drive ≡ Dominant
unfolding history_of staying_history bits_of number_bits
begins = refl

unsent : unsent_count setup (after 111) ≡ 1
unfolding history_of staying_history bits_of number_bits
unsent = refl

-- the same node where an edge lies in SYNC_SEG: early by 2, the edge that quantum 109 finds makes it place 1 of a bit, where the frame starts
abbrev by_the_book : NodeSetup
by_the_book = record setup { segments = record { prop = 3; ps1 = 3; ps2 = 3; sjw = 2; sync = Book } }

before_place_1 : (history_of by_the_book (replicate 109 Recessive)).drive ≡ Recessive
unfolding history_of staying_history bits_of number_bits
before_place_1 = refl

begins_at_place_1 : (history_of by_the_book (replicate 109 Recessive ++ Dominant ∷ [])).drive ≡ Dominant
unfolding history_of staying_history bits_of number_bits
begins_at_place_1 = refl

-- with nothing to send it is idle then: the edge that the sample's quantum 117 finds synchronises hard, and that quantum is no sample
abbrev listening : List Level → History
listening levels = history_of (record by_the_book { queue = [] }) levels

hard_in_the_sample : hards_of (listening (replicate 117 Recessive ++ replicate 6 Dominant)) ≡ 1
unfolding history_of staying_history bits_of number_bits
hard_in_the_sample = refl

no_sample : length (listening (replicate 117 Recessive ++ replicate 6 Dominant)).samples ≡ 11
unfolding history_of staying_history bits_of number_bits
no_sample = refl

sample_of_the_start : length (listening (replicate 117 Recessive ++ replicate 7 Dominant)).samples ≡ 12
unfolding history_of staying_history bits_of number_bits
sample_of_the_start = refl

-- the node leaves at quantum 113, while its start of frame is on the line: it drives recessive from then on, and samples no more
abbrev leaving : ℕ → History
leaving n = history_of (record setup { until = Some 113 }) (replicate 111 Recessive ++ replicate n Dominant)

before_it_leaves : (leaving 2).drive ≡ Dominant
unfolding history_of staying_history bits_of number_bits
before_it_leaves = refl

as_it_leaves : (leaving 3).drive ≡ Recessive
unfolding history_of staying_history bits_of number_bits
as_it_leaves = refl

no_sample_after : length (leaving 12).samples ≡ 11
unfolding history_of staying_history bits_of number_bits
no_sample_after = refl

quanta_go_on : length (leaving 12).seen ≡ 123
unfolding history_of staying_history bits_of number_bits
quanta_go_on = refl
