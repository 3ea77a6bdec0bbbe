-- The lists of a history only grow.
use Rattle.std.proofs.Common.{◌≡◌, ◌∙◌, ℕ, List, [], ◌∷◌, ◌++◌, length, refl, sym, ap, subst, append-nil, append_assoc, take}
use Rattle.std.specs.List.{flat_map}
use Rattle.std.proofs.Math.Seq.{take-append_seam, take-length}
use Rattle.std.proofs.lemmas.Grind.{flat_map-append}
use Rattle.wl_level.specs.declared.Level.{Level}
use Rattle.wl_sync.specs.declared.Beat.{Beat}
use Rattle.wl_sync.specs.declared.Beat.TheVariants.{Plain, Sample, Start}
use Rattle.wl_sync.specs.declared.Sync.{Sync}
use Rattle.wl_sync.specs.Bits.{beat_of, sync_of}
use Rattle.wl_machine.specs.Judged.{judged, stretch_of}
use Rattle.wl_node.specs.declared.setup.NodeSetup.{NodeSetup}
use Rattle.wl_node.specs.History.{History, staying_history, history_after, by_beat, seen_next, sampled_next, passed_frames, phase_of, syncs_at}
use Rattle.wl_node.proofs.Turns.{history_next}

abbrev pub Longer : {X : Type 0} → List X → List X → Type 0
Longer {X} xs ys = (zs : List X) × (ys ≡ xs ++ zs)

same_long : {X : Type 0} (xs : List X) → Longer xs xs
same_long xs = ([], sym (append-nil xs))

longer_on : {X : Type 0} (xs ys zs : List X) → Longer xs ys → Longer ys zs → Longer xs zs
longer_on xs ys zs a b = (a.0 ++ b.0, b.1 ∙ (ap (λ l. l ++ b.0) a.1 ∙ append_assoc xs a.0 b.0))

-- what the shorter one has comes first in the longer one
pub front_of : {X : Type 0} (xs ys : List X) → Longer xs ys → take (length xs) ys ≡ xs
front_of xs ys a = ap (take (length xs)) a.1 ∙ take-append_seam xs a.0

-- a longer list of the same length is the same list
pub same_of : {X : Type 0} (xs ys : List X) → Longer xs ys → length xs ≡ length ys → xs ≡ ys
same_of xs ys a even = sym (front_of xs ys a) ∙ (ap (λ n. take n ys) even ∙ take-length ys)

pub longer_phases : (xs ys : List (ℕ × Sync)) → Longer xs ys → Longer (flat_map phase_of xs) (flat_map phase_of ys)
longer_phases xs ys a = (flat_map phase_of a.0, ap (flat_map phase_of) a.1 ∙ flat_map-append phase_of xs a.0)

pub record HasGrown (h g : History) : Type 0 where
  pub samples : Longer h.samples g.samples
  pub frames : Longer h.frames g.frames
  pub syncs : Longer h.syncs g.syncs

grown_on : (f g h : History) → HasGrown f g → HasGrown g h → HasGrown f h
grown_on f g h a b = record {
  samples = longer_on f.samples g.samples h.samples a.samples b.samples;
  frames = longer_on f.frames g.frames h.frames a.frames b.frames;
  syncs = longer_on f.syncs g.syncs h.syncs a.syncs b.syncs;
}

samples_on : (setup : NodeSetup) (h : History) (level : Level) (beat : Beat) → Longer h.samples (by_beat setup h level beat).samples
samples_on setup h level Plain = same_long h.samples
samples_on setup h level Start = same_long h.samples
samples_on setup h level (Sample other) = ((length h.seen, level) ∷ [], refl)

frames_on : (setup : NodeSetup) (h : History) (level : Level) (beat : Beat) → Longer h.frames (by_beat setup h level beat).frames
frames_on setup h level Plain = same_long h.frames
frames_on setup h level Start = same_long h.frames
frames_on setup h level (Sample other) = (passed_frames (length h.seen) (judged (stretch_of h.inputs) (sampled_next setup h level)).ended, refl)

grown_by_one : (setup : NodeSetup) (h : History) (level : Level) → HasGrown h (history_after setup h level)
grown_by_one setup h level = record {
  samples = samples_on setup h level (beat_of setup.segments h.seen (seen_next h level));
  frames = frames_on setup h level (beat_of setup.segments h.seen (seen_next h level));
  syncs = (syncs_at (length h.seen) (sync_of setup.segments h.seen (seen_next h level)), refl);
}

pub grown : (setup : NodeSetup) (levels more : List Level) → HasGrown (staying_history setup levels) (staying_history setup (levels ++ more))
grown setup levels [] =
    subst (λ ls. HasGrown (staying_history setup levels) (staying_history setup ls)) (sym (append-nil levels)) (record {
      samples = same_long (staying_history setup levels).samples;
      frames = same_long (staying_history setup levels).frames;
      syncs = same_long (staying_history setup levels).syncs;
    })
grown setup levels (level ∷ more) =
    grown_on (staying_history setup levels) (staying_history setup (levels ++ level ∷ [])) (staying_history setup (levels ++ level ∷ more))
    (subst (λ g. HasGrown (staying_history setup levels) g) (sym (history_next setup levels level)) (grown_by_one setup (staying_history setup levels) level))
    (subst (λ ls. HasGrown (staying_history setup (levels ++ level ∷ [])) (staying_history setup ls)) (append_assoc levels (level ∷ []) more) (grown setup (levels ++ level ∷ []) more))
