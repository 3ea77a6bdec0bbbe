-- What rows show, word by word.
use Rattle.std.proofs.Common.{◌≡◌, ℕ, zero, suc, ◌<◌, ◌≤◌, ◌+◌, ◌==◌, ◌||◌, max, Bool, true, false, cond, inl, inr, List, [], ◌∷◌, refl, sym, ◌∙◌, ap, subst, arith, replicate, length}
use Rattle.std.specs.Prelude.{if◌then◌else◌, slice_index_or, unwrap_or, Option, None, filter}
use Rattle.std.specs.List.{filter_map}
use Rattle.std.specs.FinMap.{get, entries, entries-from_sorted}
use Rattle.std.specs.List.{AllByRecursion}
use Rattle.wl_record_core.specs.declared.record.Slot.{Slot}
use Rattle.wl_record_core.specs.declared.record.Slot.TheVariants.{EdgeAt, SilenceAt}
use Rattle.wl_record_core.specs.Limits.{tick_end, tick_end-is}
use Rattle.wl_record_core.specs.declared.record.Record.{Record}
use Rattle.wl_replica.specs.Canonical.{of_node}
use Rattle.wl_replica.proofs.CanonicalLemmas.{told_filtered}
use Rattle.std.specs.Ordering.{eq_by_cmp}
use Rattle.std.specs.Cmp.{eq_by_cmp_equiv}
use Rattle.std.proofs.lemmas.Bool.{cases_lt, eqb-true, ne_eqb}
use Rattle.wl_lattice.specs.declared.FlatWord.{FlatWord}
use Rattle.wl_lattice.specs.declared.FlatWord.TheVariants as flat
use Rattle.wl_lattice.specs.declared.MaxWord.{MaxWord}
use Rattle.wl_lattice.specs.Words.{max_word, joined_flat, joined_max}
use Rattle.wl_lattice.specs.Maps.{joined_maps, map_of, MapLaws}
use Rattle.wl_lattice.specs.SlotContents.{IsRaised}
use Rattle.wl_record_core.specs.declared.record.Record.TheVariants.{Edge, Clash, Silence}
use Rattle.wl_lattice.specs.declared.numbers.TheConstants.{CLASH}
use Rattle.wl_replica.specs.Keys.{Key, key_cmp}
use Rattle.wl_replica.specs.State.{state_of, states_joined, state_with_record, Fits, FitsEdge, FitsSilence}
use Rattle.wl_replica.specs.Dense.{words_shown, holds_edge, holds_silence}
use Rattle.wl_replica.specs.Dense.{row_number, slot_number, row_of, row_entries, rows_entries, edge_words, silence_words, shown_by_rows, AreRows, IsGrown, IsToldTo, HasRoomAt}
use Rattle.wl_lattice.specs.Numbers.{number_word, joined_to_some, joined_numbers}
use Rattle.wl_replica.proofs.KeyLaws.{key_cmp_total}
use Rattle.wl_replica.proofs.KeptLemmas.{same_key}
use Rattle.wl_replica.proofs.Shown.{Tells, listed_raised, listed_same, listed_joined, word_listed, sorted_filter, joined_nothing}
use Rattle.wl_replica.proofs.States.{same_parts, edge_maps, silence_maps}
use Rattle.wl_replica.proofs.Tells.{shown_nothing, one_silence, tells_edge, tells_silence, right_edge, flat_same, next_false}
use Rattle.wl_replica.proofs.DenseLemmas.{rows_sorted, rows_have, of_node_rows}

module _ {W : Type 0} {join : W → W → W} {holds : W → Bool} (word : ℕ → W) (laws : MapLaws {K = Key} key_cmp join) (tells : Tells (word 0) join holds) (old new : List (List ℕ)) where
  -- with one word joined in
  pub rows_raised : (k : Key) (w : W) → IsRaised join (λ q. word (slot_number old q)) k w (λ q. word (slot_number new q))
      → words_shown holds (rows_entries word 0 new) ≡ joined_maps join (words_shown holds (rows_entries word 0 old)) (map_of key_cmp join (cond (holds w) ((k, w) ∷ []) []))
  rows_raised k w h = listed_raised laws tells (rows_entries word 0 old) (rows_entries word 0 new) k w (rows_sorted word 0 old) (rows_sorted word 0 new) (λ q.
      rows_have word new q ∙ (at q (eq_by_cmp key_cmp q k) refl ∙ ap (λ v. cond (eq_by_cmp key_cmp q k) (join v w) v) (sym (rows_have word old q)))) where
        at : (q : Key) (b : Bool) → eq_by_cmp key_cmp q k ≡ b → word (slot_number new q) ≡ cond b (join (word (slot_number old q)) w) (word (slot_number old q))
        at q true e = let is : q ≡ k = same_key q k e in
            subst (λ (p : Key). word (slot_number new p) ≡ join (word (slot_number old p)) w) (sym is) h.here
        at q false e = h.others q (λ is. let t : true ≡ false = sym ((eq_by_cmp_equiv key_cmp_total).refl k) ∙ (ap (λ p. eq_by_cmp key_cmp p k) (sym is) ∙ e) in cc)

  -- with all words of others joined in
  pub rows_joined : (others : List (List ℕ)) → ((q : Key) → word (slot_number new q) ≡ join (word (slot_number old q)) (word (slot_number others q)))
      → words_shown holds (rows_entries word 0 new) ≡ joined_maps join (words_shown holds (rows_entries word 0 old)) (words_shown holds (rows_entries word 0 others))
  rows_joined others h = listed_joined laws tells (rows_entries word 0 old) (rows_entries word 0 new) (rows_entries word 0 others) (rows_sorted word 0 old) (rows_sorted word 0 new) (rows_sorted word 0 others) (λ q.
      rows_have word new q ∙ (h q ∙ (λ i. join (sym (rows_have word old q) i) (sym (rows_have word others q) i))))

  -- with no word changed
  pub rows_same : ((q : Key) → word (slot_number new q) ≡ word (slot_number old q)) → words_shown holds (rows_entries word 0 new) ≡ words_shown holds (rows_entries word 0 old)
  rows_same h = listed_same laws tells (rows_entries word 0 old) (rows_entries word 0 new) (rows_sorted word 0 old) (rows_sorted word 0 new) (λ q.
      rows_have word new q ∙ (h q ∙ sym (rows_have word old q)))

-- what holds of each word, and of the one that was raised, holds of each word then
pub raised_each : {W : Type 0} (join : W → W → W) (P : Key × W → Type 0) (old new : Key → W) (k : Key) (w : W) → IsRaised join old k w new
    → ((q : Key) → P (q, old q)) → P (k, join (old k) w) → (q : Key) → P (q, new q)
raised_each {W} join P old new k w h each here q = at (eq_by_cmp key_cmp q k) refl where
  at : (b : Bool) → eq_by_cmp key_cmp q k ≡ b → P (q, new q)
  at true e = subst (λ (p : Key). P (p, new p)) (sym (same_key q k e)) (subst (λ (v : W). P (k, v)) (sym h.here) here)
  at false e = subst (λ (v : W). P (q, v)) (sym (h.others q (λ is. let t : true ≡ false = sym ((eq_by_cmp_equiv key_cmp_total).refl k) ∙ (ap (λ p. eq_by_cmp key_cmp p k) (sym is) ∙ e) in cc))) (each q)

-- rows that are empty show nothing
none_listed : {W : Type 0} (word : ℕ → W) (i n : ℕ) → rows_entries word i (replicate n []) ≡ []
none_listed word i zero = refl
none_listed word i (suc n) = none_listed word (suc i) n

pub empty_shown : (nodes : ℕ) (edges silences : List (List ℕ)) → edges ≡ replicate nodes [] → silences ≡ replicate nodes [] → shown_by_rows nodes edges silences ≡ state_of nodes []
empty_shown nodes edges silences e s = same_parts nodes nodes _ _ _ _ refl
    (ap (λ rows. words_shown holds_edge (rows_entries number_word 0 rows)) e ∙ shown_nothing holds_edge _ (none_listed number_word 0 nodes))
    (ap (λ rows. words_shown holds_silence (rows_entries max_word 0 rows)) s ∙ shown_nothing holds_silence _ (none_listed max_word 0 nodes))

-- ---- what rows keep
joined_fits : (nodes : ℕ) (k : Key) (v w : FlatWord) → FitsEdge nodes (k, v) → FitsEdge nodes (k, w) → FitsEdge nodes (k, joined_flat v w)
joined_fits nodes k flat.Nothing w h l = l
joined_fits nodes k (flat.Value x) flat.Nothing h l = h
joined_fits nodes k (flat.Value x) (flat.Value y) h l = elim (x == y) as (λ b. FitsEdge nodes (k, if b then flat.Value x else flat.Clash)) [ true ↦ h | false ↦ (h.0, (h.1.0, h.1.1)) ]
joined_fits nodes k (flat.Value x) flat.Clash h l = l
joined_fits nodes k flat.Clash w h l = h

longer_fits : (nodes : ℕ) (k : Key) (a u : ℕ) → FitsSilence nodes (k, max_word a) → Fits nodes (Silence k.0 k.1 u) → FitsSilence nodes (k, max_word (max a u))
longer_fits nodes k a u h fits some = elim (cases_lt 0 a) [
  | inl held ↦ (fits.0, (fits.1.0, fits.1.1, let early = (h held).1.2 in omega (arith, early, fits.1.2)))
  | inr none ↦ (fits.0, (fits.1.0, fits.1.1, omega (arith, none, fits.1.2)))
]

silences_both_fit : (nodes : ℕ) (k : Key) (a b : ℕ) → FitsSilence nodes (k, max_word a) → FitsSilence nodes (k, max_word b) → FitsSilence nodes (k, max_word (max a b))
silences_both_fit nodes k a b h l some = elim (cases_lt a b) [
  | inl less ↦ subst (λ n. Fits nodes (Silence k.0 k.1 n)) (let greater : b ≡ max a b = omega arith in greater) (l (omega arith))
  | inr more ↦ subst (λ n. Fits nodes (Silence k.0 k.1 n)) (let greater : a ≡ max a b = omega arith in greater) (h (omega arith))
]

-- rows with other words that fit
pub refit : (nodes : ℕ) (edges silences new_edges new_silences : List (List ℕ)) → AreRows nodes edges silences → length new_edges ≡ length edges → length new_silences ≡ length silences
    → ((k : Key) → FitsEdge nodes (k, edge_words new_edges k)) → ((k : Key) → FitsSilence nodes (k, silence_words new_silences k)) → AreRows nodes new_edges new_silences
refit nodes edges silences new_edges new_silences kept e s fe fs = record { few = kept.few; edge_rows = e ∙ kept.edge_rows; silence_rows = s ∙ kept.silence_rows; edges_fit = fe; silences_fit = fs }

-- the same words show the same
pub same_kept : (nodes : ℕ) (edges silences new_edges new_silences : List (List ℕ)) → AreRows nodes edges silences → length new_edges ≡ length edges → length new_silences ≡ length silences
    → ((k : Key) → edge_words new_edges k ≡ edge_words edges k) → ((k : Key) → silence_words new_silences k ≡ silence_words silences k) → AreRows nodes new_edges new_silences
same_kept nodes edges silences new_edges new_silences kept e s p q =
    refit nodes edges silences new_edges new_silences kept e s
    (λ k. subst (λ (w : FlatWord). FitsEdge nodes (k, w)) (sym (p k)) (kept.edges_fit k))
    (λ k. subst (λ (w : MaxWord). FitsSilence nodes (k, w)) (sym (q k)) (kept.silences_fit k))

pub same_shown : (nodes : ℕ) (edges silences new_edges new_silences : List (List ℕ)) → ((k : Key) → edge_words new_edges k ≡ edge_words edges k)
    → ((k : Key) → silence_words new_silences k ≡ silence_words silences k) → shown_by_rows nodes new_edges new_silences ≡ shown_by_rows nodes edges silences
same_shown nodes edges silences new_edges new_silences p q =
    same_parts nodes nodes _ _ _ _ refl (rows_same number_word edge_maps tells_edge edges new_edges p) (rows_same max_word silence_maps tells_silence silences new_silences q)

pub grown_kept : (nodes : ℕ) (edges silences new_edges new_silences : List (List ℕ)) → AreRows nodes edges silences → IsGrown edges new_edges → IsGrown silences new_silences → AreRows nodes new_edges new_silences
grown_kept nodes edges silences new_edges new_silences kept e s =
    same_kept nodes edges silences new_edges new_silences kept e.count s.count (λ k. ap number_word (e.same k)) (λ k. ap max_word (s.same k))

pub grown_shown : (nodes : ℕ) (edges silences new_edges new_silences : List (List ℕ)) → IsGrown edges new_edges → IsGrown silences new_silences → shown_by_rows nodes new_edges new_silences ≡ shown_by_rows nodes edges silences
grown_shown nodes edges silences new_edges new_silences e s = same_shown nodes edges silences new_edges new_silences (λ k. ap number_word (e.same k)) (λ k. ap max_word (s.same k))

-- with what a record says
pub told_kept : (nodes : ℕ) (edges silences new_edges new_silences : List (List ℕ)) (r : Record) → AreRows nodes edges silences → length new_edges ≡ length edges → length new_silences ≡ length silences
    → IsToldTo r edges silences new_edges new_silences → Fits nodes r → AreRows nodes new_edges new_silences
told_kept nodes edges silences new_edges new_silences (Edge i n t) kept e s told fits =
    let k : Key = (i, n) in
    refit nodes edges silences new_edges new_silences kept e s
    (raised_each joined_flat (FitsEdge nodes) (edge_words edges) (edge_words new_edges) k (flat.Value t) told.0 kept.edges_fit (joined_fits nodes k (edge_words edges k) (flat.Value t) (kept.edges_fit k) fits))
    (subst (λ (rows : List (List ℕ)). (q : Key) → FitsSilence nodes (q, silence_words rows q)) (sym told.1) kept.silences_fit)
told_kept nodes edges silences new_edges new_silences (Clash i n) kept e s told fits =
    let k : Key = (i, n) in
    refit nodes edges silences new_edges new_silences kept e s
    (raised_each joined_flat (FitsEdge nodes) (edge_words edges) (edge_words new_edges) k flat.Clash told.0 kept.edges_fit (joined_fits nodes k (edge_words edges k) flat.Clash (kept.edges_fit k) fits))
    (subst (λ (rows : List (List ℕ)). (q : Key) → FitsSilence nodes (q, silence_words rows q)) (sym told.1) kept.silences_fit)
told_kept nodes edges silences new_edges new_silences (Silence i n u) kept e s told fits =
    let k : Key = (i, n) in
    refit nodes edges silences new_edges new_silences kept e s
    (subst (λ (rows : List (List ℕ)). (q : Key) → FitsEdge nodes (q, edge_words rows q)) (sym told.1) kept.edges_fit)
    (raised_each joined_max (FitsSilence nodes) (silence_words silences) (silence_words new_silences) k (max_word u) told.0 kept.silences_fit (longer_fits nodes k (slot_number silences k) u (kept.silences_fit k) fits))

pub told_shown : (nodes : ℕ) (edges silences new_edges new_silences : List (List ℕ)) (r : Record) → IsToldTo r edges silences new_edges new_silences
    → shown_by_rows nodes new_edges new_silences ≡ state_with_record (shown_by_rows nodes edges silences) r
told_shown nodes edges silences new_edges new_silences (Edge i n t) told =
    same_parts nodes nodes _ _ _ _ refl (rows_raised number_word edge_maps tells_edge edges new_edges (i, n) (flat.Value t) told.0)
    (ap (λ rows. words_shown holds_silence (rows_entries max_word 0 rows)) told.1 ∙ sym (joined_nothing silence_maps tells_silence _))
told_shown nodes edges silences new_edges new_silences (Clash i n) told =
    same_parts nodes nodes _ _ _ _ refl (rows_raised number_word edge_maps tells_edge edges new_edges (i, n) flat.Clash told.0)
    (ap (λ rows. words_shown holds_silence (rows_entries max_word 0 rows)) told.1 ∙ sym (joined_nothing silence_maps tells_silence _))
told_shown nodes edges silences new_edges new_silences (Silence i n u) told =
    let said = ap (λ es. joined_maps joined_max (words_shown holds_silence (rows_entries max_word 0 silences)) (map_of key_cmp joined_max es)) (one_silence (u == 0) ((i, n), max_word u)) in
    same_parts nodes nodes _ _ _ _ refl (ap (λ rows. words_shown holds_edge (rows_entries number_word 0 rows)) told.1 ∙ sym (joined_nothing edge_maps tells_edge _))
    (rows_raised max_word silence_maps tells_silence silences new_silences (i, n) (max_word u) told.0 ∙ said)

-- room stays if rows don't get shorter
pub slot_room : (edges new_edges silences new_silences : List (List ℕ)) → length new_edges ≡ length edges → length new_silences ≡ length silences
    → ((i : ℕ) → length (row_of edges i) ≤ length (row_of new_edges i)) → ((i : ℕ) → length (row_of silences i) ≤ length (row_of new_silences i))
    → (slot : Slot) → HasRoomAt edges silences slot → HasRoomAt new_edges new_silences slot
slot_room edges new_edges silences new_silences p q e s (EdgeAt i n) h = λ lt le. (let room = h (omega (arith, p, lt)) le in omega (arith, room, e i))
slot_room edges new_edges silences new_silences p q e s (SilenceAt i n) h = λ lt le. (let room = h (omega (arith, q, lt)) le in omega (arith, room, s i))

pub room_stays : (edges new_edges silences new_silences : List (List ℕ)) → length new_edges ≡ length edges → length new_silences ≡ length silences
    → ((i : ℕ) → length (row_of edges i) ≤ length (row_of new_edges i)) → ((i : ℕ) → length (row_of silences i) ≤ length (row_of new_silences i))
    → (slots : List Slot) → AllByRecursion (HasRoomAt edges silences) slots → AllByRecursion (HasRoomAt new_edges new_silences) slots
room_stays edges new_edges silences new_silences p q e s [] h = tt
room_stays edges new_edges silences new_silences p q e s (slot ∷ slots) h =
    (slot_room edges new_edges silences new_silences p q e s slot h.0, room_stays edges new_edges silences new_silences p q e s slots h.1)

-- the number of a tick
pub tick_number : (t : ℕ) → t < tick_end → number_word (t + 1) ≡ flat.Value t
tick_number t lt =
    let next : t + 1 ≡ suc t = omega arith in
    let apart : ¬ (suc t ≡ CLASH) = λ same. omega (arith, tick_end-is, lt, same) in
    ap number_word next ∙ ap (λ b. if b then flat.Clash else flat.Value t) (ne_eqb (suc t) CLASH apart)

some_number : (t : ℕ) → (suc t == 0) ≡ false
some_number t = ne_eqb (suc t) 0 (λ same. omega (arith, same))

-- two numbers joined are two words joined
joined_number : (a b : ℕ) (c : Bool) → (suc a == suc b) ≡ c → number_word (cond c (suc b) CLASH) ≡ joined_flat (number_word (suc a)) (number_word (suc b))
joined_number a b true is = let same : suc a ≡ suc b = eqb-true (suc a) (suc b) is in
    sym (ap (λ n. joined_flat (number_word n) (number_word (suc b))) same ∙ flat_same (number_word (suc b)))
joined_number a b false is = two (suc a == CLASH) (suc b == CLASH) refl refl where
  two : (p q : Bool) → (suc a == CLASH) ≡ p → (suc b == CLASH) ≡ q → flat.Clash ≡ joined_flat (if p then flat.Clash else flat.Value a) (if q then flat.Clash else flat.Value b)
  two true q e f = refl
  two false true e f = refl
  two false false e f = ap (λ c. if c then flat.Value a else flat.Clash) (sym (next_false a b is))

pub number_joined : (a b : ℕ) → 0 < b → number_word (joined_to_some a b) ≡ joined_flat (number_word a) (number_word b)
number_joined a zero lt = absurd (omega arith)
number_joined zero (suc b) lt = refl
number_joined (suc a) (suc b) lt = ap (λ c. number_word (if c || suc a == suc b then suc b else CLASH)) (some_number a) ∙ joined_number a b (suc a == suc b) refl

pub both_numbers : (a b : ℕ) → number_word (joined_numbers a b) ≡ joined_flat (number_word a) (number_word b)
both_numbers a zero = sym (right_edge (number_word a))
both_numbers a (suc b) = ap (λ c. number_word (if c then a else joined_to_some a (suc b))) (some_number b) ∙ number_joined a (suc b) (omega arith)

-- with all words of others
module _ (nodes : ℕ) (edges silences other_edges other_silences new_edges new_silences : List (List ℕ)) (e : (q : Key) → slot_number new_edges q ≡ joined_numbers (slot_number edges q) (slot_number other_edges q))
    (s : (q : Key) → slot_number new_silences q ≡ max (slot_number silences q) (slot_number other_silences q)) where
  pub joined_kept : AreRows nodes edges silences → AreRows nodes other_edges other_silences → length new_edges ≡ length edges → length new_silences ≡ length silences → AreRows nodes new_edges new_silences
  joined_kept mine theirs p q =
      refit nodes edges silences new_edges new_silences mine p q
      (λ k. subst (λ (w : FlatWord). FitsEdge nodes (k, w)) (sym (ap number_word (e k) ∙ both_numbers (slot_number edges k) (slot_number other_edges k)))
      (joined_fits nodes k (edge_words edges k) (edge_words other_edges k) (mine.edges_fit k) (theirs.edges_fit k)))
      (λ k. subst (λ n. FitsSilence nodes (k, max_word n)) (sym (s k)) (silences_both_fit nodes k (slot_number silences k) (slot_number other_silences k) (mine.silences_fit k) (theirs.silences_fit k)))

  pub joined_shown : (others : ℕ) → shown_by_rows nodes new_edges new_silences ≡ states_joined (shown_by_rows nodes edges silences) (shown_by_rows others other_edges other_silences)
  joined_shown others =
      same_parts nodes nodes _ _ _ _ refl
      (rows_joined number_word edge_maps tells_edge edges new_edges other_edges (λ q. ap number_word (e q) ∙ both_numbers (slot_number edges q) (slot_number other_edges q)))
      (rows_joined max_word silence_maps tells_silence silences new_silences other_silences (λ q. ap max_word (s q)))

-- ---- the rows of one node
module _ {W : Type 0} {join : W → W → W} {holds : W → Bool} (word : ℕ → W) (laws : MapLaws {K = Key} key_cmp join) (tells : Tells (word 0) join holds) (rows : List (List ℕ)) (node : ℕ) (row : List ℕ)
    (is : row ≡ slice_index_or rows node []) where
  pub row_words : (n : ℕ) → word (row_number row n) ≡ unwrap_or (get (words_shown holds (rows_entries word 0 rows)) (node, n)) (word 0)
  row_words n = ap (λ r. word (row_number r n)) is ∙ (sym (rows_have word rows (node, n)) ∙ sym (word_listed laws tells (rows_entries word 0 rows) (rows_sorted word 0 rows) (node, n)))

  pub row_records : (told : Key × W → Option Record) → ((e : Key × W) → holds e.1 ≡ false → told e ≡ None)
      → filter_map told (row_entries word node 0 row []) ≡ filter_map told (of_node node (entries (words_shown holds (rows_entries word 0 rows))))
  row_records told nothing =
      ap (λ r. filter_map told (row_entries word node 0 r [])) is
      ∙ (ap (filter_map told) (sym (of_node_rows word node rows))
      ∙ (sym (told_filtered holds told nothing node (rows_entries word 0 rows))
      ∙ ap (λ es. filter_map told (of_node node es)) (sym (entries-from_sorted key_cmp (filter (λ f. holds f.1) (rows_entries word 0 rows)) (sorted_filter holds (rows_entries word 0 rows) (rows_sorted word 0 rows))))))
