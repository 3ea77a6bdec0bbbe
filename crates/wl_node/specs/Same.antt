-- When two setups are equal: where clock, segments, queue, its order and the quantum of leaving are, number by number (this project's profile).
use Rattle.std.specs.Prelude.{◌≡◌, ◌==◌, ◌&&◌, ℕ, nat_eq, Bool, true, false, Option, Some, None, refl}
use Rattle.std.specs.Bool.{Decides}
use Rattle.std.specs.Option.{option_eq}
use Rattle.std.specs.Cmp.{IsEquivalence, IsPartialEquivalence, decided, partial_equiv_from_equiv, unsigned_Decides}
use Rattle.std.specs.Cmp.Lexicographic.{pointwise, pointwise_decides}
use Rattle.std.proofs.lemmas.Bool.Decides.{Decides-and, Decides-like}
use Rattle.wl_clock.specs.Same.{same_timing, timing_decides}
use Rattle.wl_segments.specs.declared.SyncRules.{SyncRules}
use Rattle.wl_segments.specs.declared.SyncRules.TheVariants.{After, Book}
use Rattle.wl_segments.specs.Lengths.{Lengths}
use Rattle.wl_frame.specs.Same.{same_content, content_decides}
use Rattle.wl_node.specs.declared.setup.QueueOrder.{QueueOrder}
use Rattle.wl_node.specs.declared.setup.QueueOrder.TheVariants.{Fifo, Priority}
use Rattle.wl_node.specs.declared.setup.Queued.{Queued}
use Rattle.wl_node.specs.declared.setup.NodeSetup.{NodeSetup}

abbrev pub same_sync : SyncRules → SyncRules → Bool
same_sync After After = true
same_sync After Book = false
same_sync Book After = false
same_sync Book Book = true

abbrev pub same_lengths : Lengths → Lengths → Bool
same_lengths a b = a.prop == b.prop && (a.ps1 == b.ps1 && (a.ps2 == b.ps2 && (a.sjw == b.sjw && same_sync a.sync b.sync)))

abbrev pub same_queued : Queued → Queued → Bool
same_queued a b = same_content a.frame b.frame && a.ready == b.ready

abbrev pub same_order : QueueOrder → QueueOrder → Bool
same_order Fifo Fifo = true
same_order Fifo Priority = false
same_order Priority Fifo = false
same_order Priority Priority = true

-- the test whether two setups are equal
abbrev pub same_setup : NodeSetup → NodeSetup → Bool
same_setup a b =
    same_timing a.clock b.clock
    && (same_lengths a.segments b.segments
    && (pointwise same_queued a.queue b.queue && (same_order a.order b.order && option_eq nat_eq a.until b.until)))

sync_decides : (a b : SyncRules) → Decides (same_sync a b) (a ≡ b)
sync_decides After After = (λ e. refl, λ e. refl)
sync_decides After Book = (λ e. cc, λ e. cc)
sync_decides Book After = (λ e. cc, λ e. cc)
sync_decides Book Book = (λ e. refl, λ e. refl)

lengths_decides : (a b : Lengths) → Decides (same_lengths a b) (a ≡ b)
lengths_decides a b =
    Decides-like (same_lengths a b)
    (λ e i. record { prop = e.0 i; ps1 = e.1.0 i; ps2 = e.1.1.0 i; sjw = e.1.1.1.0 i; sync = e.1.1.1.1 i })
    (λ e. (λ i. (e i).prop, (λ i. (e i).ps1, (λ i. (e i).ps2, (λ i. (e i).sjw, λ i. (e i).sync)))))
    (Decides-and (a.prop == b.prop) (a.ps1 == b.ps1 && (a.ps2 == b.ps2 && (a.sjw == b.sjw && same_sync a.sync b.sync))) (unsigned_Decides a.prop b.prop)
    (Decides-and (a.ps1 == b.ps1) (a.ps2 == b.ps2 && (a.sjw == b.sjw && same_sync a.sync b.sync)) (unsigned_Decides a.ps1 b.ps1)
    (Decides-and (a.ps2 == b.ps2) (a.sjw == b.sjw && same_sync a.sync b.sync) (unsigned_Decides a.ps2 b.ps2)
    (Decides-and (a.sjw == b.sjw) (same_sync a.sync b.sync) (unsigned_Decides a.sjw b.sjw) (sync_decides a.sync b.sync)))))

pub queued_decides : (a b : Queued) → Decides (same_queued a b) (a ≡ b)
queued_decides a b =
    Decides-like (same_queued a b)
    (λ e i. record { frame = e.0 i; ready = e.1 i })
    (λ e. (λ i. (e i).frame, λ i. (e i).ready))
    (Decides-and (same_content a.frame b.frame) (a.ready == b.ready) (content_decides a.frame b.frame) (unsigned_Decides a.ready b.ready))

order_decides : (a b : QueueOrder) → Decides (same_order a b) (a ≡ b)
order_decides Fifo Fifo = (λ e. refl, λ e. refl)
order_decides Fifo Priority = (λ e. cc, λ e. cc)
order_decides Priority Fifo = (λ e. cc, λ e. cc)
order_decides Priority Priority = (λ e. refl, λ e. refl)

quantum_decides : (a b : Option ℕ) → Decides (option_eq nat_eq a b) (a ≡ b)
quantum_decides None None = (λ e. refl, λ e. refl)
quantum_decides None (Some b) = (λ e. cc, λ e. cc)
quantum_decides (Some a) None = (λ e. cc, λ e. cc)
quantum_decides (Some a) (Some b) = Decides-like (a == b) (λ e i. Some (e i)) (λ e. cc) (unsigned_Decides a b)

pub setup_decides : (a b : NodeSetup) → Decides (same_setup a b) (a ≡ b)
setup_decides a b =
    Decides-like (same_setup a b)
    (λ e i. record { clock = e.0 i; segments = e.1.0 i; queue = e.1.1.0 i; order = e.1.1.1.0 i; until = e.1.1.1.1 i })
    (λ e. (λ i. (e i).clock, (λ i. (e i).segments, (λ i. (e i).queue, (λ i. (e i).order, λ i. (e i).until)))))
    (Decides-and (same_timing a.clock b.clock) (same_lengths a.segments b.segments && (pointwise same_queued a.queue b.queue && (same_order a.order b.order && option_eq nat_eq a.until b.until))) (timing_decides a.clock b.clock)
    (Decides-and (same_lengths a.segments b.segments) (pointwise same_queued a.queue b.queue && (same_order a.order b.order && option_eq nat_eq a.until b.until)) (lengths_decides a.segments b.segments)
    (Decides-and (pointwise same_queued a.queue b.queue) (same_order a.order b.order && option_eq nat_eq a.until b.until) (pointwise_decides queued_decides a.queue b.queue)
    (Decides-and (same_order a.order b.order) (option_eq nat_eq a.until b.until) (order_decides a.order b.order) (quantum_decides a.until b.until)))))

pub same_setup_equiv : IsEquivalence same_setup
same_setup_equiv = decided same_setup setup_decides

pub same_setup_laws : IsPartialEquivalence same_setup
same_setup_laws = partial_equiv_from_equiv same_setup_equiv
