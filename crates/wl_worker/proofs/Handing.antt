-- The letters that a post hands to a group, one after another.
use Rattle.std.proofs.Common.{◌≡◌, ◌⊎◌, ◌<◌, ◌≤◌, ◌+◌, max, ℕ, List, [], ◌∷◌, ◌++◌, length, take, slice_get, Some, inl, inr, sym, ap, ◌∙◌, arith, append_assoc, append-nil, length-append, take-suc, add-one}
use Rattle.std.proofs.lemmas.List.{take-append-le, take_all}
use Rattle.std.proofs.lemmas.Option.{slice_get_within, get_or_from_slice_get}
use Rattle.std.specs.Arc.{arc_value}
use Rattle.wl_group.specs.GroupValue.{GroupValue, with_records}
use Rattle.wl_mail.specs.declared.letter.Letter.{Letter}
use Rattle.wl_mail.specs.Posts.{PostValue, KeepsLetters, HandedOut}
use Rattle.wl_mail.specs.Laws.{TakingLaws}
use Rattle.wl_worker.specs.Letters.{records_of_letters, HandsAll}

records_more : (ls : List Letter) (l : Letter) → records_of_letters (ls ++ l ∷ []) ≡ records_of_letters ls ++ (arc_value l.records).items
records_more [] l = append-nil (arc_value l.records).items
records_more (x ∷ ls) l = ap (λ rs. (arc_value x.records).items ++ rs) (records_more ls l) ∙ sym (append_assoc (arc_value x.records).items (records_of_letters ls) (arc_value l.records).items)

-- after the first n letters were handed out
pub record HandedTo (n : ℕ) (old now : PostValue) (before after : GroupValue) : Type 0 where
  pub kept : (more : List Letter) × (now.kept ≡ old.kept ++ more)
  pub few : length now.kept ≤ max (length old.kept) n
  pub letters : List Letter
  pub behind : take old.handed old.kept ++ letters ≡ take n now.kept
  pub taken : after ≡ with_records (records_of_letters letters) before

pub handed_none : TakingLaws → (p : PostValue) (g : GroupValue) → HandedTo p.handed p p g g
handed_none laws p g = record {
  kept = ([], sym (append-nil p.kept));
  few = omega arith;
  letters = [];
  behind = append-nil (take p.handed p.kept);
  taken = laws.nothing g;
}

abbrev MoreKept : PostValue → PostValue → Type 0
MoreKept mid new = (new.kept ≡ mid.kept) ⊎ ((length mid.kept ≤ mid.handed) × ((letter : Letter) × (new.kept ≡ mid.kept ++ letter ∷ [])))

still_kept : (old mid new : PostValue) → ((more : List Letter) × (mid.kept ≡ old.kept ++ more)) → MoreKept mid new → (more : List Letter) × (new.kept ≡ old.kept ++ more)
still_kept old mid new k (inl same) = (k.0, same ∙ k.1)
still_kept old mid new k (inr more) =
    (k.0 ++ more.1.0 ∷ [], more.1.1 ∙ (ap (λ xs. xs ++ more.1.0 ∷ []) k.1 ∙ append_assoc old.kept k.0 (more.1.0 ∷ [])))

still_few : (m n : ℕ) (mid new : PostValue) → mid.handed ≡ n → length mid.kept ≤ max m n → MoreKept mid new → length new.kept ≤ max m (n + 1)
still_few m n mid new at few (inl same) = let e : length new.kept ≡ length mid.kept = ap length same in omega arith
still_few m n mid new at few (inr more) =
    let e : length new.kept ≡ length mid.kept + 1 = ap length more.1.1 ∙ length-append mid.kept (more.1.0 ∷ []) in
    let full = more.0 in omega arith

-- the letters before the next one stay
first_stay : (n : ℕ) (mid new : PostValue) → mid.handed ≡ n → n < length new.kept → MoreKept mid new → take n new.kept ≡ take n mid.kept
first_stay n mid new at low (inl same) = ap (take n) same
first_stay n mid new at low (inr more) =
    let e : length new.kept ≡ length mid.kept + 1 = ap length more.1.1 ∙ length-append mid.kept (more.1.0 ∷ []) in
    ap (take n) more.1.1 ∙ take-append-le n mid.kept (more.1.0 ∷ []) (omega arith)

pub handed_one : TakingLaws → (n : ℕ) (old mid new : PostValue) (before now after : GroupValue) → mid.handed ≡ n → HandedTo n old mid before now → KeepsLetters mid new
    → HandedOut mid new now after → HandedTo (n + 1) old new before after
handed_one laws n old mid new before now after at was keeps out =
    let here : slice_get new.kept n ≡ Some out.letter = ap (slice_get new.kept) (sym at) ∙ out.next in
    let low : n < length new.kept = slice_get_within new.kept n out.letter here in
    let next : take (n + 1) new.kept ≡ take n mid.kept ++ out.letter ∷ [] =
    rw add-one (take-suc new.kept n out.letter low) ∙ (ap (λ l. take n new.kept ++ l ∷ []) (get_or_from_slice_get new.kept n out.letter out.letter here)
    ∙ ap (λ xs. xs ++ out.letter ∷ []) (first_stay n mid new at low keeps.kept)) in record {
      kept = still_kept old mid new was.kept keeps.kept;
      few = still_few (length old.kept) n mid new at was.few keeps.kept;
      letters = was.letters ++ out.letter ∷ [];
      behind = sym (append_assoc (take old.handed old.kept) was.letters (out.letter ∷ [])) ∙ (ap (λ xs. xs ++ out.letter ∷ []) was.behind ∙ sym next);
      taken = out.taken ∙ (ap (with_records (arc_value out.letter.records).items) was.taken ∙ laws.in_parts before (records_of_letters was.letters) (arc_value out.letter.records).items)
          ∙ ap (λ rs. with_records rs before) (sym (records_more was.letters out.letter));
    }

-- where none is left, all were handed out
pub handed_all : (n : ℕ) (old new : PostValue) (before after : GroupValue) → new.handed ≡ n → length old.kept ≤ n → HandedTo n old new before after → HandsAll old new before after
handed_all n old new before after at late was =
    let few : length new.kept ≤ n = let f = was.few in omega arith in record {
      kept = was.kept;
      letters = was.letters;
      behind = was.behind ∙ take_all n new.kept few;
      all = omega arith;
      taken = was.taken;
    }
