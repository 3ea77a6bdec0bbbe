-- What a group has stays where it takes more, and what a pass has seen of a node where it looks at others.
use Rattle.std.proofs.Common.{◌≡◌, ◌≢◌, ℕ, ◌+◌, ◌<◌, ◌≤◌, max, Bool, true, false, ◌==◌, nat_lt, List, length, map, slice_index_or, refl, sym, subst, ap, ◌∙◌, arith, below_more, get_or-set_other, get_or-set_same}
use Rattle.std.specs.Prelude.{slice_index, slice_set}
use Rattle.std.proofs.lemmas.Bool.Decides.{nat_tests}
use Rattle.std.proofs.lemmas.List.{get_or-map, get_or_past, length-map}
use Rattle.wl_lattice.specs.declared.FlatWord.{FlatWord}
use Rattle.wl_lattice.specs.declared.FlatWord.TheVariants as flat
use Rattle.wl_lattice.specs.Words.{joined_flat}
use Rattle.wl_record_core.specs.declared.record.Slot.{Slot}
use Rattle.wl_record_core.specs.declared.record.Slot.TheVariants.{EdgeAt, SilenceAt}
use Rattle.wl_replica.specs.Keys.{Key}
use Rattle.wl_replica.specs.State.{edge_at, silence_at, state_of}
use Rattle.wl_replica.specs.Laws.{JoinsSlotBySlot}
use Rattle.wl_plan.specs.declared.limits.TheConstants.{MOST_QUANTA}
use Rattle.wl_plan.specs.declared.plan.Plan.{Plan}
use Rattle.wl_plan.specs.PlanLine.{setup_at}
use Rattle.wl_plan.specs.Checked.{IsChecked, CheckedIsSound}
use Rattle.wl_group.specs.GroupValue.{GroupValue, belongs}
use Rattle.wl_hub.specs.declared.hub.Hub.{Hub}
use Rattle.wl_hub.specs.declared.hub.Pass.{Pass}
use Rattle.wl_hub.specs.Words.{HasWord}
use Rattle.wl_hub.specs.Passes.{shape_of, seen}
use Rattle.wl_segments.specs.Lengths.{least_way}
use Rattle.wl_worker.specs.declared.plan_name.PlanName.{PlanName}
use Rattle.wl_worker.specs.Handed.{Took}
use Rattle.wl_worker.specs.PlanName.{IsShapeOf, IsOfPlan}
use Rattle.wl_worker.specs.Seen.{IsUnseen, SawOnlyOf, HasChanges, HasSeenOf}
use Rattle.wl_worker.proofs.Steps.{took_members}
use Rattle.wl_worker.proofs.Took.{either_there}
use Rattle.wl_worker.proofs.Fits.{few_quanta, quotient_small}

-- ---- a group that takes more

joined_there : (a b : FlatWord) → a ≢ flat.Nothing → joined_flat a b ≢ flat.Nothing
joined_there flat.Nothing b h = absurd (h refl)
joined_there (flat.Value x) flat.Nothing h = λ e. cc
joined_there (flat.Value x) (flat.Value y) h = either_there (x == y) x
joined_there (flat.Value x) flat.Clash h = λ e. cc
joined_there flat.Clash b h = λ e. cc

module _ (laws : JoinsSlotBySlot) (old new : GroupValue) (t : Took old new) where
  pub edge_stays : (q : Key) → edge_at old.replica q ≢ flat.Nothing → edge_at new.replica q ≢ flat.Nothing
  edge_stays q h =
      let more = state_of old.replica.nodes t.more in
      let now : edge_at new.replica q ≡ joined_flat (edge_at old.replica q) (edge_at more q)
      = ap (λ (g : GroupValue). edge_at g.replica q) t.taken ∙ laws.edges old.replica more q in
      subst (λ w. w ≢ flat.Nothing) (sym now) (joined_there (edge_at old.replica q) (edge_at more q) h)

  pub silence_stays : (q : Key) → (silence_at old.replica q).word ≤ (silence_at new.replica q).word
  silence_stays q =
      let more = state_of old.replica.nodes t.more in
      let now : (silence_at new.replica q).word ≡ max (silence_at old.replica q).word (silence_at more q).word
      = ap (λ (g : GroupValue). (silence_at g.replica q).word) t.taken ∙ laws.silences old.replica more q in
      omega arith

  pub changes_stay : (i n : ℕ) → HasChanges old i n → HasChanges new i n
  changes_stay i n h = λ s low. edge_stays (i, s) (h s low)

-- one change more
pub one_change_more : (g : GroupValue) (i n : ℕ) → HasChanges g i n → edge_at g.replica (i, n) ≢ flat.Nothing → HasChanges g i (n + 1)
one_change_more g i n below here = below_more (λ s. edge_at g.replica (i, s) ≢ flat.Nothing) n below here

-- ---- a pass that looks

module _ (i s : ℕ) (before after : Pass PlanName) where
  pub saw_edge : ((slot : Slot) → slot ≢ EdgeAt i s → seen after slot ≡ seen before slot) → SawOnlyOf i before after
  saw_edge h = λ j q other. (h (EdgeAt j q) (λ e. other (let f : EdgeAt j q ≡ EdgeAt i s = e in cc)), h (SilenceAt j q) (λ e. cc))

  pub saw_silence : ((slot : Slot) → slot ≢ SilenceAt i s → seen after slot ≡ seen before slot) → SawOnlyOf i before after
  saw_silence h = λ j q other. (h (EdgeAt j q) (λ e. cc), h (SilenceAt j q) (λ e. other (let f : SilenceAt j q ≡ SilenceAt i s = e in cc)))

pub saw_nothing : (i : ℕ) (p : Pass PlanName) → SawOnlyOf i p p
saw_nothing i p = λ j s other. (refl, refl)

pub saw_both : (i : ℕ) (a b c : Pass PlanName) → SawOnlyOf i a b → SawOnlyOf i b c → SawOnlyOf i a c
saw_both i a b c f g = λ j s other. ((g j s other).0 ∙ (f j s other).0, (g j s other).1 ∙ (f j s other).1)

-- ---- both

pub has_still : JoinsSlotBySlot → (hub : Hub PlanName) (before after : Pass PlanName) (old new : GroupValue) → Took old new → (i j n : ℕ) → j ≢ i
    → SawOnlyOf i before after → HasSeenOf hub before old j n → HasSeenOf hub after new j n
has_still laws hub before after old new t i j n other saw h = record {
  changes = changes_stay laws old new t j n h.changes;
  no_more = λ word. (saw j n other).0 ∙ h.no_more word;
  silence = λ word.
      let was = h.silence word in
      let same = (saw j n other).1 in
      let more = silence_stays laws old new t (j, n) in
      omega arith;
}

-- after a look at the silence behind the first changes, and after it was taken
pub has_seen : JoinsSlotBySlot → (hub : Hub PlanName) (before after : Pass PlanName) (old new : GroupValue) → Took old new → (i n until : ℕ) → HasChanges old i n
    → IsUnseen hub before (EdgeAt i n) → ((slot : Slot) → slot ≢ SilenceAt i n → seen after slot ≡ seen before slot)
    → (HasWord (shape_of hub) (SilenceAt i n) → seen after (SilenceAt i n) ≡ until) → until ≤ (silence_at new.replica (i, n)).word → HasSeenOf hub after new i n
has_seen laws hub before after old new t i n until changes none others saw known = record {
  changes = changes_stay laws old new t i n changes;
  no_more = λ word. others (EdgeAt i n) (λ e. cc) ∙ none word;
  silence = λ word. let e = saw word in omega arith;
}

-- ---- all nodes

-- what a fetch says of one node
abbrev pub IsHanded : Hub PlanName → Pass PlanName → List ℕ → List ℕ → GroupValue → GroupValue → ℕ → Type 0
IsHanded hub pass handed now_handed before after i =
    belongs before i ≡ false → HasChanges before i (slice_index handed i) → HasSeenOf hub pass after i (slice_index now_handed i)

module _ (laws : JoinsSlotBySlot) (hub : Hub PlanName) (before after : Pass PlanName) (old mid new : GroupValue) (was handed : List ℕ) (i m : ℕ) where
  pub one_node_more : i < length handed → Took old mid → Took mid new → SawOnlyOf i before after → slice_index handed i ≡ slice_index was i
      → (belongs mid i ≡ false → HasChanges mid i (slice_index handed i) → HasSeenOf hub after new i m)
      → ((j : ℕ) → j < i → IsHanded hub before was handed old mid j) → (j : ℕ) → j < i + 1 → IsHanded hub after was (slice_set handed i m) old new j
  one_node_more room t u saw same here below =
      below_more (λ j. IsHanded hub after was (slice_set handed i m) old new j) i
      (λ j low out had.
      let ne : j ≢ i = omega arith in
      subst (HasSeenOf hub after new j) (sym (get_or-set_other handed i j m 0 ne))
      (has_still laws hub before after mid new u i j (slice_index handed j) ne saw (below j low out had)))
      (λ out had.
      subst (HasSeenOf hub after new i) (sym (get_or-set_same handed i m 0 room))
      (here (ap (λ f. f i) (took_members old mid t) ∙ out) (subst (HasChanges mid i) (sym same) (changes_stay laws old mid t i (slice_index was i) had))))

  pub others_left : ((j : ℕ) → i ≤ j → slice_index handed j ≡ slice_index was j) → (j : ℕ) → i + 1 ≤ j → slice_index (slice_set handed i m) j ≡ slice_index was j
  others_left left j high = let ne : j ≢ i = omega arith in get_or-set_other handed i j m 0 ne ∙ left j (omega arith)

-- of a number that is no node the hub has no word
pub no_node_handed : JoinsSlotBySlot → (hub : Hub PlanName) (before after : Pass PlanName) (plan : Plan) → IsOfPlan hub before plan → (old new : GroupValue) → Took old new
    → (was handed : List ℕ) (i : ℕ) → length plan.nodes ≤ i → slice_index handed i ≡ slice_index was i → IsHanded hub after was handed old new i
no_node_handed laws hub before after plan of old new t was handed i high same out had = record {
  changes = changes_stay laws old new t i (slice_index handed i) (subst (HasChanges old i) (sym same) had);
  no_more = λ word.
      let none = get_or_past (map (λ (w : ℕ × ℕ). w.0) (shape_of hub)) i 0 (let e = of.words.all in let l = length-map (shape_of hub) (λ (w : ℕ × ℕ). w.0) in omega arith) in
      absurd (omega arith);
  silence = λ word.
      let none = get_or_past (map (λ (w : ℕ × ℕ). w.1) (shape_of hub)) i 0 (let e = of.words.all in let l = length-map (shape_of hub) (λ (w : ℕ × ℕ). w.1) in omega arith) in
      absurd (omega arith);
}

-- ---- the words of a plan's hub

width_small : CheckedIsSound → (plan : Plan) (shape : List (ℕ × ℕ)) → IsChecked plan → IsShapeOf plan shape → (i : ℕ) → i < length plan.nodes
    → (slice_index_or shape i (0, 0)).0 ≤ MOST_QUANTA + 1
width_small sounds plan shape is words i low =
    let w = words.each i low in
    let few = few_quanta plan (sounds plan is) i w.quanta (setup_at plan i) refl low w.least in
    let small = quotient_small w.quanta (least_way (setup_at plan i).segments) in
    let e = w.edges in
    omega arith

-- so the hub has no word for change 2^32 - 1
pub no_last_word : CheckedIsSound → (hub : Hub PlanName) (before pass : Pass PlanName) (plan : Plan) → IsOfPlan hub before plan → (i n : ℕ) → 4294967295 ≤ n
    → IsUnseen hub pass (EdgeAt i n)
no_last_word sounds hub before pass plan of i n far word = within (nat_lt i (length plan.nodes)) refl where
  within : (b : Bool) → nat_lt i (length plan.nodes) ≡ b → seen pass (EdgeAt i n) ≡ 0
  within true b =
      let low : i < length plan.nodes = grind (arith, nat_tests) in
      let few = width_small sounds plan (shape_of hub) of.checked of.words i low in
      let at = get_or-map (λ (w : ℕ × ℕ). w.0) (shape_of hub) i (0, 0) 0 (let e = of.words.all in omega arith) in
      absurd (omega arith)
  within false b =
      let high : length plan.nodes ≤ i = grind (arith, nat_tests) in
      let none = get_or_past (map (λ (w : ℕ × ℕ). w.0) (shape_of hub)) i 0 (let e = of.words.all in let l = length-map (shape_of hub) (λ (w : ℕ × ℕ). w.0) in omega arith) in
      absurd (omega arith)
