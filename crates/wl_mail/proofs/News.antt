-- Whether a record says something that a state doesn't know: where its word, joined to the slot's, makes another word.
use Rattle.std.proofs.Common.{◌≡◌, ◌≢◌, ℕ, ◌==◌, ◌&&◌, max, if◌then◌else◌, Bool, true, false, MatchBool, List, [], ◌∷◌, ◌++◌, refl, sym, subst, ap, ◌∙◌, arith}
use Rattle.std.proofs.lemmas.Bool.Decides.{nat_tests}
use Rattle.wl_lattice.specs.declared.FlatWord.{FlatWord}
use Rattle.wl_lattice.specs.declared.FlatWord.TheVariants as flat
use Rattle.wl_lattice.specs.declared.MaxWord.{MaxWord}
use Rattle.wl_lattice.specs.Words.{joined_flat, joined_max, max_word}
use Rattle.wl_record_core.specs.declared.record.Record.{Record}
use Rattle.wl_record_core.specs.declared.record.Record.TheVariants.{Edge, Clash, Silence}
use Rattle.wl_record_core.specs.declared.record.Slot.{Slot}
use Rattle.wl_record_core.specs.Slots.{slot_of}
use Rattle.wl_replica.specs.declared.replica.Word.{Word}
use Rattle.wl_replica.specs.declared.replica.Word.TheVariants as words
use Rattle.wl_replica.specs.Words.{word_at}
use Rattle.wl_replica.specs.Slots.{edge_in, silence_in}
use Rattle.wl_replica.specs.State.{State, state_of, state_with_record, edge_at, silence_at, IsOfRecords}
use Rattle.wl_replica.specs.SlotsOf.{SlotsOfStates}
use Rattle.wl_replica.specs.Laws.{TakingIsJoining, JoinsSlotBySlot}
use Rattle.wl_mail.specs.Handed.{IsNews}

-- ---- the words of a slot with one record more

with_nothing : (word : FlatWord) → joined_flat word flat.Nothing ≡ word
with_nothing flat.Nothing = refl
with_nothing (flat.Value n) = refl
with_nothing flat.Clash = refl

edge_more : SlotsOfStates → (s : State) (r : Record) (i n : ℕ) → edge_at (state_with_record s r) (i, n) ≡ joined_flat (edge_at s (i, n)) (edge_in r i n)
edge_more laws s r i n = ap (λ w. w.edge i n) (laws.one_more s r)

silence_more : SlotsOfStates → (s : State) (r : Record) (i n : ℕ) → (silence_at (state_with_record s r) (i, n)).word ≡ max (silence_at s (i, n)).word (silence_in r i n)
silence_more laws s r i n = ap (λ w. w.silence i n) (laws.one_more s r)

-- ---- a slot that gets another word makes another state

pub edge_new : SlotsOfStates → (s : State) (r : Record) (i n : ℕ) → joined_flat (edge_at s (i, n)) (edge_in r i n) ≢ edge_at s (i, n) → state_with_record s r ≢ s
edge_new laws s r i n other same = other (sym (edge_more laws s r i n) ∙ ap (λ (x : State). edge_at x (i, n)) same)

pub silence_new : SlotsOfStates → (s : State) (r : Record) (i n : ℕ) → max (silence_at s (i, n)).word (silence_in r i n) ≢ (silence_at s (i, n)).word → state_with_record s r ≢ s
silence_new laws s r i n other same = other (sym (silence_more laws s r i n) ∙ ap (λ (x : State). (silence_at x (i, n)).word) same)

-- ---- where no slot gets another word, the state stays

abbrev AddsNothing : State → Record → Type 0
AddsNothing s r =
    ((i n : ℕ) → joined_flat (edge_at s (i, n)) (edge_in r i n) ≡ edge_at s (i, n))
    × ((i n : ℕ) → max (silence_at s (i, n)).word (silence_in r i n) ≡ (silence_at s (i, n)).word)

stays_of : TakingIsJoining → JoinsSlotBySlot → SlotsOfStates → (nodes : ℕ) (rs : List Record) (r : Record) → AddsNothing (state_of nodes rs) r
    → state_with_record (state_of nodes rs) r ≡ state_of nodes rs
stays_of taking joins laws nodes rs r h =
    let more = taking.more nodes rs (r ∷ []) in
    more ∙ joins.same_slots nodes (rs ++ r ∷ []) rs
    (λ q. ap (λ (x : State). edge_at x q) (sym more) ∙ (edge_more laws (state_of nodes rs) r q.0 q.1 ∙ h.0 q.0 q.1))
    (λ q. ap (λ (x : State). (silence_at x q).word) (sym more) ∙ (silence_more laws (state_of nodes rs) r q.0 q.1 ∙ h.1 q.0 q.1))

stays : TakingIsJoining → JoinsSlotBySlot → SlotsOfStates → (s : State) → IsOfRecords s → (r : Record) → AddsNothing s r → state_with_record s r ≡ s
stays taking joins laws s is r h =
    subst (λ (x : State). AddsNothing x r → state_with_record x r ≡ x) (sym is.2) (stays_of taking joins laws s.nodes is.0 r) h

max_nothing : (n : ℕ) → max n 0 ≡ n
max_nothing n = omega arith

-- ---- one slot alone gets something

here : (i n : ℕ) → ((i == i) && (n == n)) ≡ true
here i n = grind (arith, nat_tests)

both_are : (i n j m : ℕ) → ((j == i) && (m == n)) ≡ true → (j ≡ i) × (m ≡ n)
both_are i n j m e = grind (arith, nat_tests)

at_slot : (f : ℕ → ℕ → FlatWord) (i n : ℕ) (w : FlatWord) → joined_flat (f i n) w ≡ f i n → (j m : ℕ) (b : Bool) → ((j == i) && (m == n)) ≡ b
    → joined_flat (f j m) (if b then w else flat.Nothing) ≡ f j m
at_slot f i n w h j m true e = let is = both_are i n j m e in subst (λ k. joined_flat (f k m) w ≡ f k m) (sym is.0) (subst (λ k. joined_flat (f i k) w ≡ f i k) (sym is.1) h)
at_slot f i n w h j m false e = with_nothing (f j m)

at_silence : (f : ℕ → ℕ → ℕ) (i n u : ℕ) → max (f i n) u ≡ f i n → (j m : ℕ) (b : Bool) → ((j == i) && (m == n)) ≡ b → max (f j m) (if b then u else 0) ≡ f j m
at_silence f i n u h j m true e = let is = both_are i n j m e in subst (λ k. max (f k m) u ≡ f k m) (sym is.0) (subst (λ k. max (f i k) u ≡ f i k) (sym is.1) h)
at_silence f i n u h j m false e = max_nothing (f j m)

-- ---- by the kind of a record: whether it is news, by the word of its slot

edge_news : TakingIsJoining → JoinsSlotBySlot → SlotsOfStates → (s : State) → IsOfRecords s → (i n t : ℕ) (b : Bool)
    → MatchBool b (joined_flat (edge_at s (i, n)) (flat.Value t) ≢ edge_at s (i, n)) (joined_flat (edge_at s (i, n)) (flat.Value t) ≡ edge_at s (i, n)) → IsNews s (Edge i n t) b
edge_news taking joins laws s is i n t true h =
    edge_new laws s (Edge i n t) i n (subst (λ b. joined_flat (edge_at s (i, n)) (if b then flat.Value t else flat.Nothing) ≢ edge_at s (i, n)) (sym (here i n)) h)
edge_news taking joins laws s is i n t false h =
    stays taking joins laws s is (Edge i n t) ((λ j m. at_slot (λ k l. edge_at s (k, l)) i n (flat.Value t) h j m ((j == i) && (m == n)) refl), λ j m. max_nothing (silence_at s (j, m)).word)

clash_news : TakingIsJoining → JoinsSlotBySlot → SlotsOfStates → (s : State) → IsOfRecords s → (i n : ℕ) (b : Bool)
    → MatchBool b (joined_flat (edge_at s (i, n)) flat.Clash ≢ edge_at s (i, n)) (joined_flat (edge_at s (i, n)) flat.Clash ≡ edge_at s (i, n)) → IsNews s (Clash i n) b
clash_news taking joins laws s is i n true h =
    edge_new laws s (Clash i n) i n (subst (λ b. joined_flat (edge_at s (i, n)) (if b then flat.Clash else flat.Nothing) ≢ edge_at s (i, n)) (sym (here i n)) h)
clash_news taking joins laws s is i n false h =
    stays taking joins laws s is (Clash i n) ((λ j m. at_slot (λ k l. edge_at s (k, l)) i n flat.Clash h j m ((j == i) && (m == n)) refl), λ j m. max_nothing (silence_at s (j, m)).word)

silence_news : TakingIsJoining → JoinsSlotBySlot → SlotsOfStates → (s : State) → IsOfRecords s → (i n u : ℕ) (b : Bool)
    → MatchBool b (joined_max (silence_at s (i, n)) (max_word u) ≢ silence_at s (i, n)) (joined_max (silence_at s (i, n)) (max_word u) ≡ silence_at s (i, n)) → IsNews s (Silence i n u) b
silence_news taking joins laws s is i n u true h =
    silence_new laws s (Silence i n u) i n
    (subst (λ b. max (silence_at s (i, n)).word (if b then u else 0) ≢ (silence_at s (i, n)).word) (sym (here i n)) (λ e. h (ap max_word e)))
silence_news taking joins laws s is i n u false h =
    stays taking joins laws s is (Silence i n u)
    ((λ j m. with_nothing (edge_at s (j, m))), λ j m. at_silence (λ k l. (silence_at s (k, l)).word) i n u (ap (λ (w : MaxWord). w.word) h) j m ((j == i) && (m == n)) refl)

-- ---- the same of a record and its slot, as they were found

pub edge_found : TakingIsJoining → JoinsSlotBySlot → SlotsOfStates → (s : State) → IsOfRecords s → (told : Record) (slot : Slot) (found : Word) (word : FlatWord) (i n t : ℕ) (b : Bool)
    → told ≡ Edge i n t → slot ≡ slot_of told → found ≡ word_at s slot → found ≡ words.Edge word
    → MatchBool b (joined_flat word (flat.Value t) ≢ word) (joined_flat word (flat.Value t) ≡ word) → IsNews s told b
edge_found taking joins laws s is told slot found word i n t b this at what has h =
    let same : word ≡ edge_at s (i, n) = let w : words.Edge word ≡ words.Edge (edge_at s (i, n)) = sym has ∙ (what ∙ ap (word_at s) (at ∙ ap slot_of this)) in cc in
    subst (λ (r : Record). IsNews s r b) (sym this)
    (edge_news taking joins laws s is i n t b (subst (λ (w : FlatWord). MatchBool b (joined_flat w (flat.Value t) ≢ w) (joined_flat w (flat.Value t) ≡ w)) same h))

pub clash_found : TakingIsJoining → JoinsSlotBySlot → SlotsOfStates → (s : State) → IsOfRecords s → (told : Record) (slot : Slot) (found : Word) (word : FlatWord) (i n : ℕ) (b : Bool)
    → told ≡ Clash i n → slot ≡ slot_of told → found ≡ word_at s slot → found ≡ words.Edge word
    → MatchBool b (joined_flat word flat.Clash ≢ word) (joined_flat word flat.Clash ≡ word) → IsNews s told b
clash_found taking joins laws s is told slot found word i n b this at what has h =
    let same : word ≡ edge_at s (i, n) = let w : words.Edge word ≡ words.Edge (edge_at s (i, n)) = sym has ∙ (what ∙ ap (word_at s) (at ∙ ap slot_of this)) in cc in
    subst (λ (r : Record). IsNews s r b) (sym this)
    (clash_news taking joins laws s is i n b (subst (λ (w : FlatWord). MatchBool b (joined_flat w flat.Clash ≢ w) (joined_flat w flat.Clash ≡ w)) same h))

pub silence_found : TakingIsJoining → JoinsSlotBySlot → SlotsOfStates → (s : State) → IsOfRecords s → (told : Record) (slot : Slot) (found : Word) (word : MaxWord) (i n u : ℕ) (b : Bool)
    → told ≡ Silence i n u → slot ≡ slot_of told → found ≡ word_at s slot → found ≡ words.Silence word
    → MatchBool b (joined_max word (max_word u) ≢ word) (joined_max word (max_word u) ≡ word) → IsNews s told b
silence_found taking joins laws s is told slot found word i n u b this at what has h =
    let same : word ≡ silence_at s (i, n) = let w : words.Silence word ≡ words.Silence (silence_at s (i, n)) = sym has ∙ (what ∙ ap (word_at s) (at ∙ ap slot_of this)) in cc in
    subst (λ (r : Record). IsNews s r b) (sym this)
    (silence_news taking joins laws s is i n u b (subst (λ (w : MaxWord). MatchBool b (joined_max w (max_word u) ≢ w) (joined_max w (max_word u) ≡ w)) same h))
