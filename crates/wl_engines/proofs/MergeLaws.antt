-- Merging in parts is merging as one, from what is known of record texts and of canonical lists.
use Rattle.std.proofs.Common.{◌≡◌, ◌∙◌, ap, ap₂, sym, subst, refl, arith, ℕ, ◌≤◌, ◌<◌, List, [], ◌∷◌, ◌++◌, length, length-append}
use Rattle.std.specs.Prelude.{◌↔◌}
use Rattle.std.specs.List.{AllByRecursion}
use Rattle.std.proofs.lemmas.List.{append_assoc}
use Rattle.std.proofs.lemmas.List.Concat.{flat_map-append}
use Rattle.std.proofs.lemmas.List.Elements.{All-append, All-from_recursion, recursion_from_All}
use Rattle.wl_limits.specs.declared.Limits.{Limits}
use Rattle.wl_record_core.specs.declared.record.Record.{Record}
use Rattle.wl_limits.specs.declared.Limits.{Limits}
use Rattle.wl_record.specs.Grammar.{Spells, Lines, IsText}
use Rattle.wl_record.specs.Limits.{most_record_bytes}
use Rattle.wl_record_core.specs.Limits.{record_nodes}
use Rattle.wl_record_core.specs.Slots.{node_of}
use Rattle.wl_record_core.specs.Text.{words_of, text_line, text_of}
use Rattle.wl_record_core.specs.Within.{IsWithinBy}
use Rattle.wl_replica.specs.Laws.{SameRecordsSameState, MergingIsAppending, CanonicalStaysAText}
use Rattle.wl_replica.specs.Canonical.{canonical}
use Rattle.wl_engines.specs.Merge.{merged_text, merged_records, MergesAsOne}
use Rattle.wl_engines.proofs.Gathering.{node_within}

nodes_of : (limits : Limits) (rs : List Record) → AllByRecursion (IsWithinBy limits) rs → AllByRecursion (λ r. node_of r < (record_nodes limits)) rs
nodes_of limits [] h = tt
nodes_of limits (r ∷ rs) h = (node_within limits r h.0, nodes_of limits rs h.1)

within_both : (limits : Limits) (rs qs : List Record) → AllByRecursion (IsWithinBy limits) rs → AllByRecursion (IsWithinBy limits) qs → AllByRecursion (IsWithinBy limits) (rs ++ qs)
within_both limits rs qs h k =
    recursion_from_All (IsWithinBy limits) (rs ++ qs) (All-append (IsWithinBy limits) rs qs (All-from_recursion (IsWithinBy limits) rs h) (All-from_recursion (IsWithinBy limits) qs k))

module _ (limits : Limits)
    (spelled : (line : List ℕ) (r : Record) → IsWithinBy limits r → Spells line r ↔ (line ≡ words_of r))
    (text_is : (text : List ℕ) (rs : List Record) → IsText limits text rs → text ≡ text_of rs)
    (same : SameRecordsSameState) (appending : MergingIsAppending) (stays : CanonicalStaysAText) where
  lines_of : (rs : List Record) → AllByRecursion (IsWithinBy limits) rs → Lines (text_of rs) rs
  lines_of [] h = refl
  lines_of (r ∷ rs) h = (words_of r, text_of rs, (spelled (words_of r) r h.0).1 refl, append_assoc (words_of r) (10 ∷ []) (text_of rs), lines_of rs h.1)

  is_text : (rs : List Record) → AllByRecursion (IsWithinBy limits) rs → length (text_of rs) ≤ most_record_bytes → IsText limits (text_of rs) rs
  is_text rs h short = record { lines = lines_of rs h; within = h; short = short }

  merged_within : (rs : List Record) → AllByRecursion (IsWithinBy limits) rs → AllByRecursion (IsWithinBy limits) (merged_records limits rs)
  merged_within rs h =
      recursion_from_All (IsWithinBy limits) (merged_records limits rs) (stays.within limits (record_nodes limits) rs (All-from_recursion (IsWithinBy limits) rs h))

  merged_is_text : (x : List ℕ) (xs : List Record) → IsText limits x xs → IsText limits (merged_text limits xs) (merged_records limits xs)
  merged_is_text x xs h =
      is_text (merged_records limits xs) (merged_within xs h.within)
      (let e : length x ≡ length (text_of xs) = ap length (text_is x xs h) in omega (arith, e, h.short, stays.short (record_nodes limits) xs))

  both_together : (x y : List ℕ) (xs ys : List Record) → IsText limits x xs → IsText limits y ys → length (x ++ y) ≤ most_record_bytes → IsText limits (x ++ y) (xs ++ ys)
  both_together x y xs ys h k short =
      let both : text_of (xs ++ ys) ≡ x ++ y = flat_map-append text_line xs ys ∙ ap₂ (λ s t. s ++ t) (sym (text_is x xs h)) (sym (text_is y ys k)) in
      subst (λ t. IsText limits t (xs ++ ys)) both (is_text (xs ++ ys) (within_both limits xs ys h.within k.within) (omega (arith, ap length both, short)))

  merged_appended : (x y : List ℕ) (xs ys : List Record) → IsText limits x xs → IsText limits y ys → length (x ++ y) ≤ most_record_bytes
      → IsText limits (merged_text limits xs ++ y) (merged_records limits xs ++ ys)
  merged_appended x y xs ys h k short =
      let both : text_of (merged_records limits xs ++ ys) ≡ merged_text limits xs ++ y =
      flat_map-append text_line (merged_records limits xs) ys ∙ ap (λ t. merged_text limits xs ++ t) (sym (text_is y ys k)) in
      let P : List ℕ → Type 0 = λ t. IsText limits t (merged_records limits xs ++ ys) in
      let e : length x ≡ length (text_of xs) = ap length (text_is x xs h) in
      subst P both (is_text (merged_records limits xs ++ ys) (within_both limits (merged_records limits xs) ys (merged_within xs h.within) k.within)
      (omega (arith, e, ap length both, length-append (merged_text limits xs) y, length-append x y, stays.short (record_nodes limits) xs, short)))

  pub merging : MergesAsOne limits
  merging = record {
    is_text = merged_is_text;
    together = both_together;
    appended = merged_appended;
    in_parts = λ x y xs ys h k. ap text_of (appending (record_nodes limits) xs ys (All-from_recursion (λ r. node_of r < (record_nodes limits)) xs (nodes_of limits xs h.within)));
    same_records = λ xs ys s. ap (λ state. text_of (canonical state)) (same (record_nodes limits) xs ys s);
  }
