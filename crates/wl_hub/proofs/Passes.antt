-- What passes know after a step, slot by slot.
use Rattle.std.proofs.Common.{◌≡◌, ◌≢◌, true, ◌<◌, ◌+◌, ℕ, List, [], ◌∷◌, ◌++◌, length, sum, sym, ap, ◌∙◌, subst, arith, append_assoc}
use Rattle.std.specs.Prelude.{All, filter, Some, slice_index}
use Rattle.std.proofs.lemmas.List.{get_or_append_left, get_or-append-add}
use Rattle.std.proofs.lemmas.List.Elements.{All-filter}
use Rattle.wl_record_core.specs.declared.record.Record.{Record}
use Rattle.wl_record_core.specs.declared.record.Slot.{Slot}
use Rattle.wl_record_core.specs.declared.record.Slot.TheVariants.{EdgeAt, SilenceAt}
use Rattle.wl_hub.specs.declared.view.View.{View}
use Rattle.wl_hub.specs.declared.hub.Pass.{Pass}
use Rattle.wl_hub.specs.Rule.{both, joined}
use Rattle.wl_hub.specs.Rule.{Closes as ClosesTable}
use Rattle.wl_record_core.specs.Slots.{slot_of}
use Rattle.wl_hub.specs.Places.{is_edge_at, is_silence_at, place, max_number}
use Rattle.wl_lattice.specs.Numbers.{word_number}
use Rattle.wl_hub.specs.Words.{word_of, IsAtMostAt, joined_words, edge_widths, silence_widths, answer_place}
use Rattle.wl_hub.specs.Passes.{pass_name, given_for, seen, TookIn, ClosesWord, Closes}
use Rattle.wl_hub.proofs.Words.{word_else, edges_here, silences_here, word_within, word_grows, word_both, word-append, word_filter, passes_slot, speaks_of, edge_table, silence_table}
use Rattle.wl_hub.proofs.Edges.{edge_kind}
use Rattle.wl_hub.proofs.Silences.{silence_kind}
use Rattle.wl_hub.proofs.Apart.{beyond_some}
use Rattle.wl_hub.proofs.Shapes.{place_below}

module _ {T : Type 0} where
  -- all that a view has after a step
  known : (extra news : List Record) (v w : View T) → w ≡ record v { given = v.given ++ extra; told = v.told ++ news } → w.given ++ w.told ≡ (v.given ++ extra) ++ (v.told ++ news)
  known extra news v w is = ap (λ (u : View T). u.given ++ u.told) is

  pub saw_gift : (slot : Slot) (r : Record) (news : List Record) (v w : View T) → w ≡ record v { given = v.given ++ r ∷ []; told = v.told ++ news }
      → IsAtMostAt slot (word_of slot (r ∷ [])) (word_of slot (w.given ++ w.told)) × IsAtMostAt slot (word_of slot (v.given ++ v.told)) (word_of slot (w.given ++ w.told))
  saw_gift slot r news v w is = let all = known (r ∷ []) news v w is in (
    subst (λ (l : List Record). IsAtMostAt slot (word_of slot (r ∷ [])) (word_of slot l)) (sym (all ∙ append_assoc v.given (r ∷ []) (v.told ++ news))) (word_within slot v.given (r ∷ []) (v.told ++ news)),
    subst (λ (l : List Record). IsAtMostAt slot (word_of slot (v.given ++ v.told)) (word_of slot l)) (sym all) (word_grows slot v.given (r ∷ []) v.told news),
  )

  pub saw_look : (slot : Slot) (news : List Record) (v w : View T) (word : ℕ) → w ≡ record v { given = v.given ++ []; told = v.told ++ news } → word ≡ word_of slot (w.given ++ w.told)
      → IsAtMostAt slot (word_of slot (v.given ++ v.told)) word × IsAtMostAt slot (word_of slot v.given) word
  saw_look slot news v w word is answer =
      let all = known [] news v w is in
      let word_is : word ≡ word_of slot ((v.given ++ []) ++ (v.told ++ news)) = answer ∙ ap (word_of slot) all in (
        subst (λ (n : ℕ). IsAtMostAt slot (word_of slot (v.given ++ v.told)) n) (sym word_is) (word_grows slot v.given [] v.told news),
        subst (λ (n : ℕ). IsAtMostAt slot (word_of slot v.given) n) (sym (word_is ∙ ap (word_of slot) (append_assoc v.given [] (v.told ++ news)))) (word_within slot [] v.given (v.told ++ news)),
      )

  -- a look at a word of the table of edges answers what was seen of its slot
  pub edge_answer : (shape : List (ℕ × ℕ)) (v w : View T) (n s i word : ℕ) → v.shape ≡ shape → place (edge_widths shape) n s ≡ Some i → word ≡ word_number (joined (edge_kind v.shape) i (w.given ++ w.told)) → word ≡ word_of (EdgeAt n s) (w.given ++ w.told)
  edge_answer shape v w n s i word same at is =
      let here : place (edge_widths v.shape) n s ≡ Some i = ap (λ (l : List (ℕ × ℕ)). place (edge_widths l) n s) same ∙ at in
      is ∙ ap word_number (edge_table v.shape n s i here (w.given ++ w.told))

  -- a look at a word of the table of silences answers what was seen of its slot
  pub silence_answer : (shape : List (ℕ × ℕ)) (v w : View T) (n s i word : ℕ) → v.shape ≡ shape → place (silence_widths shape) n s ≡ Some i → word ≡ max_number (joined (silence_kind v.shape) i (w.given ++ w.told)) → word ≡ word_of (SilenceAt n s) (w.given ++ w.told)
  silence_answer shape v w n s i word same at is =
      let here : place (silence_widths v.shape) n s ≡ Some i = ap (λ (l : List (ℕ × ℕ)). place (silence_widths l) n s) same ∙ at in
      is ∙ ap max_number (silence_table v.shape n s i here (w.given ++ w.told))

  both_seen : (slot : Slot) (v w u : View T) → u ≡ both v w → word_of slot (u.given ++ u.told) ≡ joined_words slot (word_of slot (v.given ++ v.told)) (word_of slot (w.given ++ w.told))
  both_seen slot v w u is = ap (λ (x : View T). word_of slot (x.given ++ x.told)) is ∙ word_both slot v.given v.told w.given w.told

  seen_both : (q p u : Pass T) → u.edges.seat.me.0 ≡ both p.edges.seat.me.0 q.edges.seat.me.0 → u.silences.seat.me.0 ≡ both p.silences.seat.me.0 q.silences.seat.me.0
      → (slot : Slot) → seen u slot ≡ joined_words slot (seen p slot) (seen q slot)
  seen_both q p u e s (EdgeAt n k) = both_seen (EdgeAt n k) p.edges.seat.me.0 q.edges.seat.me.0 u.edges.seat.me.0 e
  seen_both q p u e s (SilenceAt n k) = both_seen (SilenceAt n k) p.silences.seat.me.0 q.silences.seat.me.0 u.silences.seat.me.0 s

  pub takes_in : (q p u : Pass T) → u.edges.seat.me.0 ≡ both p.edges.seat.me.0 q.edges.seat.me.0 → u.silences.seat.me.0 ≡ both p.silences.seat.me.0 q.silences.seat.me.0 → TookIn q p u
  takes_in q p u e s = record {
    name = ap (λ (v : View T). v.name) e;
    edges = ap (λ (v : View T). v.given) e;
    silences = ap (λ (v : View T). v.given) s;
    joined = seen_both q p u e s;
  }

  -- ---- the words of other slots
  pub edge_else : (p q : Pass T) (shape : List (ℕ × ℕ)) (n s i : ℕ) (extra news : List Record) → p.edges.seat.me.0.shape ≡ shape → place (edge_widths shape) n s ≡ Some i
      → q.edges.seat.me.0 ≡ record p.edges.seat.me.0 { given = p.edges.seat.me.0.given ++ extra; told = p.edges.seat.me.0.told ++ news } → q.silences.seat.me.0 ≡ p.silences.seat.me.0
      → All (λ r. slot_of r ≡ EdgeAt n s) extra → All (λ r. is_edge_at p.edges.seat.me.0.shape i r ≡ true) news → (other : Slot) → other ≢ EdgeAt n s → seen q other ≡ seen p other
  edge_else p q shape n s i extra news same at step rest extra_at news_at (EdgeAt m k) apart =
      let v = p.edges.seat.me.0 in
      let here : place (edge_widths v.shape) n s ≡ Some i = ap (λ (l : List (ℕ × ℕ)). place (edge_widths l) n s) same ∙ at in
      ap (word_of (EdgeAt m k)) (known extra news v q.edges.seat.me.0 step)
      ∙ word_else (EdgeAt n s) (EdgeAt m k) apart v.given extra v.told news extra_at (edges_here v.shape n s i here news news_at)
  edge_else p q shape n s i extra news same at step rest extra_at news_at (SilenceAt m k) apart = ap (λ (v : View T). word_of (SilenceAt m k) (v.given ++ v.told)) rest

  pub silence_else : (p q : Pass T) (shape : List (ℕ × ℕ)) (n c i : ℕ) (extra news : List Record) → p.silences.seat.me.0.shape ≡ shape → place (silence_widths shape) n c ≡ Some i
      → q.silences.seat.me.0 ≡ record p.silences.seat.me.0 { given = p.silences.seat.me.0.given ++ extra; told = p.silences.seat.me.0.told ++ news } → q.edges.seat.me.0 ≡ p.edges.seat.me.0
      → All (λ r. slot_of r ≡ SilenceAt n c) extra → All (λ r. is_silence_at p.silences.seat.me.0.shape i r ≡ true) news → (other : Slot) → other ≢ SilenceAt n c → seen q other ≡ seen p other
  silence_else p q shape n c i extra news same at step rest extra_at news_at (EdgeAt m k) apart = ap (λ (v : View T). word_of (EdgeAt m k) (v.given ++ v.told)) rest
  silence_else p q shape n c i extra news same at step rest extra_at news_at (SilenceAt m k) apart =
      let v = p.silences.seat.me.0 in
      let here : place (silence_widths v.shape) n c ≡ Some i = ap (λ (l : List (ℕ × ℕ)). place (silence_widths l) n c) same ∙ at in
      ap (word_of (SilenceAt m k)) (known extra news v q.silences.seat.me.0 step)
      ∙ word_else (SilenceAt n c) (SilenceAt m k) apart v.given extra v.told news extra_at (silences_here v.shape n c i here news news_at)

  -- ---- the end
  closes_word : (P : Record → Type 0) (slot : Slot) (p : Pass T) (others : List Record) (word : ℕ) → All P others → All P (given_for slot p) → word ≡ word_of slot (given_for slot p ++ others) → ClosesWord P slot p word
  closes_word P slot p others word others_true given_true is = record {
    others = filter (speaks_of slot) others;
    of_slot = passes_slot slot others;
    others_true = All-filter (speaks_of slot) P others others_true;
    given_true = given_true;
    joins = is ∙ word-append slot (given_for slot p) others ∙ ap (joined_words slot (word_of slot (given_for slot p))) (sym (word_filter slot others)) ∙ sym (word-append slot (given_for slot p) (filter (speaks_of slot) others));
  }

  module _ (tr : T → Record → Type 0) (shape : List (ℕ × ℕ)) (p : Pass T) (few many : ℕ) (ws vs all : List ℕ) (same : p.edges.seat.me.0.shape ≡ shape) (count : length ws ≡ few) (rest : length vs ≡ many)
      (few_is : few ≡ sum (edge_widths shape)) (many_is : many ≡ sum (silence_widths shape)) (is : all ≡ ([] ++ ws) ++ vs)
      (edges : ClosesTable edge_kind tr (λ _. few) ws p.edges.seat.me.0) (silences : ClosesTable silence_kind tr (λ _. many) vs p.silences.seat.me.0) where
    closes_slot : (name : T) → pass_name p ≡ Some name → (slot : Slot) (i : ℕ) → answer_place shape slot ≡ Some i → ClosesWord (tr name) slot p (slice_index all i)
    closes_slot name called (EdgeAt n s) i at =
        let low : i < few = subst (λ (m : ℕ). i < m) (sym few_is) (place_below (edge_widths shape) n s i at) in
        let c = edges name called i low in
        let here : place (edge_widths p.edges.seat.me.0.shape) n s ≡ Some i = ap (λ (l : List (ℕ × ℕ)). place (edge_widths l) n s) same ∙ at in
        let word : slice_index all i ≡ slice_index ws i = ap (λ (l : List ℕ). slice_index l i) is ∙ get_or_append_left ws vs 0 i (omega (arith, low, count)) in
        closes_word (tr name) (EdgeAt n s) p c.0 (slice_index all i) c.1 c.2 (word ∙ c.3 ∙ ap word_number (edge_table p.edges.seat.me.0.shape n s i here (given_for (EdgeAt n s) p ++ c.0)))
    closes_slot name called (SilenceAt n k) i at =
        let j = beyond_some (sum (edge_widths shape)) i (place (silence_widths shape) n k) at in
        let low : j.0 < many = subst (λ (m : ℕ). j.0 < m) (sym many_is) (place_below (silence_widths shape) n k j.0 j.1) in
        let c = silences name (sym p.same_name ∙ called) j.0 low in
        let here : place (silence_widths p.silences.seat.me.0.shape) n k ≡ Some j.0 = ap (λ (l : List (ℕ × ℕ)). place (silence_widths l) n k) (sym p.same_shape ∙ same) ∙ j.1 in
        let there : i ≡ length ws + j.0 = omega (arith, j.2, count, few_is) in
        let word : slice_index all i ≡ slice_index vs j.0 = ap (λ (l : List ℕ). slice_index l i) is ∙ ap (λ (m : ℕ). slice_index (ws ++ vs) m) there ∙ get_or-append-add ws vs j.0 0 in
        closes_word (tr name) (SilenceAt n k) p c.0 (slice_index all i) c.1 c.2 (word ∙ c.3 ∙ ap max_number (silence_table p.silences.seat.me.0.shape n k j.0 here (given_for (SilenceAt n k) p ++ c.0)))

    pub closes_all : Closes tr shape p all
    closes_all = closes_slot
