-- The most bits of frames, one frame more at a time.
use Rattle.std.proofs.Common.{◌≡◌, ◌∙◌, sym, subst, inl, inr, ◌⊎◌, ℕ, ◌+◌, ◌<◌, ◌≤◌, true, false, List, max, arith}
use Rattle.std.proofs.lemmas.Bool.{cases_lt}
use Rattle.wl_frame.specs.Grammar.{Content}
use Rattle.wl_node.specs.declared.setup.Queued.{Queued}
use Rattle.wl_respond.specs.Plans.{IsWithinBits, entry_at}
use Rattle.wl_respond.specs.Tables.{HasBits, IsMostBits, is_of}

pub none_more : (queue : List Queued) (field : ℕ) (frame : Content) (most : ℕ) → HasBits frame most → IsWithinBits frame most → IsMostBits queue field frame 0 most
none_more queue field frame most has within = record { own = within; each = λ k less is. absurd (omega arith); reached = inl has }

wider : (frame : Content) (a b : ℕ) → a ≤ b → IsWithinBits frame a → IsWithinBits frame b
wider frame a b low within = λ y stuffs. (let most = within y stuffs in omega arith)

-- who reached the most before or after
abbrev Reached : List Queued → ℕ → Content → ℕ → ℕ → Type 0
Reached queue field frame n most = HasBits frame most ⊎ ((k : ℕ) × (k < n) × (is_of queue field k ≡ true) × HasBits (entry_at queue k).frame most)

later : (queue : List Queued) (field : ℕ) (frame : Content) (n most : ℕ) → Reached queue field frame n most → Reached queue field frame (n + 1) most
later queue field frame n most (inl own) = inl own
later queue field frame n most (inr by) = inr (by.0, omega (arith, by.1), by.2, by.3)

module _ (queue : List Queued) (field : ℕ) (frame : Content) (n most : ℕ) (before : IsMostBits queue field frame n most) where
  pub same_more : is_of queue field n ≡ false → IsMostBits queue field frame (n + 1) most
  same_more none = record {
    own = before.own;
    each = λ k less is. elim (cases_lt k n) [
      | inl below ↦ before.each k below is
      | inr past ↦ (let last : k ≡ n = omega arith in let both : true ≡ false = sym is ∙ subst (λ j. is_of queue field j ≡ false) (sym last) none in cc)
    ];
    reached = later queue field frame n most before.reached;
  }

  pub one_more : (here : ℕ) → is_of queue field n ≡ true → HasBits (entry_at queue n).frame here → IsWithinBits (entry_at queue n).frame here
      → IsMostBits queue field frame (n + 1) (max here most)
  one_more here is has within = record {
    own = wider frame most (max here most) (omega arith) before.own;
    each = λ k less of. elim (cases_lt k n) [
      | inl below ↦ wider (entry_at queue k).frame most (max here most) (omega arith) (before.each k below of)
      | inr past ↦ subst (λ j. IsWithinBits (entry_at queue j).frame (max here most)) (let last : n ≡ k = omega arith in last)
          (wider (entry_at queue n).frame here (max here most) (omega arith) within)
    ];
    reached = elim (cases_lt here most) [
      | inl less ↦ subst (Reached queue field frame (n + 1)) (let e : most ≡ max here most = omega arith in e) (later queue field frame n most before.reached)
      | inr more ↦ subst (Reached queue field frame (n + 1)) (let e : here ≡ max here most = omega arith in e) (inr (n, omega arith, is, has))
    ];
  }
