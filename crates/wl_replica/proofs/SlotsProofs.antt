-- Joining slots is a semilattice, and slots rest on the records alone.
use Rattle.std.proofs.Common.{◌≡◌, ℕ, max, List, [], ◌∷◌, ◌++◌, sym, ◌∙◌, ap, subst, arith}
use Rattle.std.specs.Prelude.{Contains}
use Rattle.wl_lattice.specs.declared.FlatWord.TheVariants as flat
use Rattle.wl_lattice.specs.Words.{joined_flat}
use Rattle.wl_lattice.specs.WordLaws.{flat_laws}
use Rattle.wl_lattice.specs.Maps.{SameMembers}
use Rattle.wl_record_core.specs.declared.record.Record.{Record}
use Rattle.wl_replica.specs.Slots.{Contents, no_slots, slots_joined, slots_only, slots_of_records, IsBelow}
use Rattle.wl_replica.specs.KnownLaws.{SlotsLaws}
use Rattle.wl_replica.proofs.Members.{IsIn, here, there, in_of, contains_of}

-- slots are equal where each word is
pub slots_same : (a b : Contents) → ((i s : ℕ) → a.edge i s ≡ b.edge i s) → ((i n : ℕ) → a.silence i n ≡ b.silence i n) → a ≡ b
slots_same a b e s = λ k. record { edge = λ i n. e i n k; silence = λ i n. s i n k }

pub commutes : (a b : Contents) → slots_joined a b ≡ slots_joined b a
commutes a b = slots_same _ _ (λ i s. flat_laws.commutes (a.edge i s) (b.edge i s)) (λ i n. omega arith)

pub associates : (a b c : Contents) → slots_joined (slots_joined a b) c ≡ slots_joined a (slots_joined b c)
associates a b c = slots_same _ _ (λ i s. flat_laws.associates (a.edge i s) (b.edge i s) (c.edge i s)) (λ i n. omega arith)

pub idempotent : (a : Contents) → slots_joined a a ≡ a
idempotent a = slots_same _ _ (λ i s. flat_laws.idempotent (a.edge i s)) (λ i n. omega arith)

pub neutral : (a : Contents) → slots_joined a no_slots ≡ a
neutral a = slots_same _ _ (λ i s. flat_laws.commutes (a.edge i s) flat.Nothing) (λ i n. omega arith)

pub above_first : (a b : Contents) → IsBelow a (slots_joined a b)
above_first a b = record {
  edges = λ i s. sym (flat_laws.associates (a.edge i s) (a.edge i s) (b.edge i s)) ∙ ap (λ v. joined_flat v (b.edge i s)) (flat_laws.idempotent (a.edge i s));
  silences = λ i n. omega arith;
}

pub above_second : (a b : Contents) → IsBelow b (slots_joined a b)
above_second a b = subst (IsBelow b) (commutes b a) (above_first b a)

pub transitive : (a b c : Contents) → IsBelow a b → IsBelow b c → IsBelow a c
transitive a b c p q = record {
  edges = λ i s.
      ap (joined_flat (a.edge i s)) (sym (q.edges i s))
      ∙ (sym (flat_laws.associates (a.edge i s) (b.edge i s) (c.edge i s))
      ∙ (ap (λ v. joined_flat v (c.edge i s)) (p.edges i s) ∙ q.edges i s));
  silences = λ i n. (let x = p.silences i n in let y = q.silences i n in omega arith);
}

below_equal : (a b : Contents) → slots_joined a b ≡ b → IsBelow a b
below_equal a b h = record {
  edges = λ i s. ap (λ w. w.edge i s) h;
  silences = λ i n. (let e : max (a.silence i n) (b.silence i n) ≡ b.silence i n = ap (λ w. w.silence i n) h in omega arith);
}

pub of_two_lists : (qs rs : List Record) → slots_of_records (qs ++ rs) ≡ slots_joined (slots_of_records rs) (slots_of_records qs)
of_two_lists [] rs = sym (neutral (slots_of_records rs))
of_two_lists (q ∷ qs) rs = ap (λ v. slots_joined v (slots_only q)) (of_two_lists qs rs) ∙ associates (slots_of_records rs) (slots_of_records qs) (slots_only q)

-- a list's records add nothing to it
absorbs : (r : Record) (rs : List Record) → IsIn r rs → slots_joined (slots_only r) (slots_of_records rs) ≡ slots_of_records rs
absorbs r rs (here {rs = qs}) =
    commutes (slots_only r) (slots_joined (slots_of_records qs) (slots_only r))
    ∙ (associates (slots_of_records qs) (slots_only r) (slots_only r) ∙ ap (slots_joined (slots_of_records qs)) (idempotent (slots_only r)))
absorbs r rs (there {q = q} {rs = qs} h) =
    sym (associates (slots_only r) (slots_of_records qs) (slots_only q)) ∙ ap (λ v. slots_joined v (slots_only q)) (absorbs r qs h)

absorbs_all : (qs rs : List Record) → ((r : Record) → IsIn r qs → IsIn r rs) → slots_joined (slots_of_records qs) (slots_of_records rs) ≡ slots_of_records rs
absorbs_all [] rs h = commutes no_slots (slots_of_records rs) ∙ neutral (slots_of_records rs)
absorbs_all (q ∷ qs) rs h =
    associates (slots_of_records qs) (slots_only q) (slots_of_records rs)
    ∙ (ap (slots_joined (slots_of_records qs)) (absorbs q rs (h q here)) ∙ absorbs_all qs rs (λ r i. h r (there i)))

part : (qs rs : List Record) → ((r : Record) → Contains qs r → Contains rs r) → slots_joined (slots_of_records qs) (slots_of_records rs) ≡ slots_of_records rs
part qs rs h = absorbs_all qs rs (λ r i. in_of rs r (h r (contains_of r qs i)))

pub of_a_record : (r : Record) (rs : List Record) → Contains rs r → IsBelow (slots_only r) (slots_of_records rs)
of_a_record r rs h = below_equal (slots_only r) (slots_of_records rs) (absorbs r rs (in_of rs r h))

pub of_a_part : (qs rs : List Record) → ((r : Record) → Contains qs r → Contains rs r) → IsBelow (slots_of_records qs) (slots_of_records rs)
of_a_part qs rs h = below_equal (slots_of_records qs) (slots_of_records rs) (part qs rs h)

pub of_the_same : (qs rs : List Record) → SameMembers qs rs → slots_of_records qs ≡ slots_of_records rs
of_the_same qs rs h =
    sym (part rs qs (λ r. (h r).1)) ∙ (commutes (slots_of_records rs) (slots_of_records qs) ∙ part qs rs (λ r. (h r).0))

pub slots_laws : SlotsLaws
slots_laws = record {
  commutes = commutes;
  associates = associates;
  idempotent = idempotent;
  neutral = neutral;
  above_first = above_first;
  above_second = above_second;
  transitive = transitive;
  of_two_lists = of_two_lists;
  of_a_record = of_a_record;
  of_a_part = of_a_part;
  of_the_same = of_the_same;
}
