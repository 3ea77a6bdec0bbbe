-- How a call ends, after what was made is put into the buffer.
use Rattle.std.proofs.Common.{◌≡◌, ◌∙◌, ℕ, List, sym, subst, length, inl, inr, Result, Ok, Err, IfOk, IfErr, Vec}
use Rattle.std.proofs.lemmas.Bool.{cases_lt}
use Rattle.wl_c.specs.Calls.{EndsOrder, FailsToShow, Holds, IsShownAs, IsUntouched, IsWhole, Puts}
use Rattle.wl_c.specs.Orders.{subject_name}
use Rattle.wl_c.specs.Texts.{Says}
use Rattle.wl_c.specs.declared.asked.Order.{Order}
use Rattle.wl_c.specs.declared.status.Status.{Status}
use Rattle.wl_c.specs.declared.status.Status.TheVariants.{Done, Refused, Asked, Memory, Room, Shape}

module _ (out out' : List ℕ) (needed : ℕ) (text : List ℕ) (order : Order) where
  -- why nothing was shown
  not_shown : (whole : Status) (said : List ℕ) (e status : Status) → Says text order.format order.task whole said → FailsToShow order said e
      → status ≡ e → IsUntouched out out' needed → EndsOrder out out' needed text order status
  not_shown whole said Memory status says fails is none = subst (λ x. EndsOrder out out' needed text order x) (sym is) none
  not_shown whole said Shape status says fails is none =
      subst (λ x. EndsOrder out out' needed text order x) (sym is) ((whole, said, says, fails), none)
  not_shown whole said Done status says fails is none = absurd fails
  not_shown whole said Refused status says fails is none = absurd fails
  not_shown whole said Asked status says fails is none = absurd fails
  not_shown whole said Room status says fails is none = absurd fails

  -- the bytes were put there, or don't fit
  put_there : (whole : Status) (bytes : List ℕ) (status : Status)
      → ((b : List ℕ) → IsWhole order text whole b → Holds out out' needed b → EndsOrder out out' needed text order whole)
      → IsWhole order text whole bytes → Puts out out' needed whole bytes status → EndsOrder out out' needed text order status
  put_there whole bytes status ends is puts = elim (cases_lt (length out) (length bytes)) [
    | inr fits ↦ let p : (status ≡ whole) × Holds out out' needed bytes = puts.0 fits in
        subst (λ x. EndsOrder out out' needed text order x) (sym p.0) (ends bytes is p.1)
    | inl small ↦ subst (λ x. EndsOrder out out' needed text order x) (sym (puts.1 small).0) (whole, bytes, is, (puts.1 small).1)
  ]

  shown_ends : {Z : Type 0} (whole : Status) (said : List ℕ) (shown : Result (Vec ℕ Z) Status) (status : Status)
      → ((b : List ℕ) → IsWhole order text whole b → Holds out out' needed b → EndsOrder out out' needed text order whole)
      → Says text order.format order.task whole said
      → IfOk shown (λ bytes. IsShownAs whole order.format (subject_name order.task) said bytes.items)
      → IfErr shown (λ e. FailsToShow order said e)
      → IfOk shown (λ bytes. Puts out out' needed whole bytes.items status)
      → (before : ℕ) → before ≡ 0 → IfErr shown (λ e. (status ≡ e) × (out' ≡ out) × (needed ≡ before))
      → EndsOrder out out' needed text order status
  shown_ends whole said (Ok bytes) status ends says is fails puts before zero none = put_there whole bytes.items status ends (said, says, is) puts
  shown_ends whole said (Err e) status ends says is fails puts before zero none =
      not_shown whole said e status says fails none.0 (none.2 ∙ zero, none.1)

  pub done_ends : {Z : Type 0} (said : List ℕ) (shown : Result (Vec ℕ Z) Status) (status : Status)
      → Says text order.format order.task Done said
      → IfOk shown (λ bytes. IsShownAs Done order.format (subject_name order.task) said bytes.items)
      → IfErr shown (λ e. FailsToShow order said e)
      → IfOk shown (λ bytes. Puts out out' needed Done bytes.items status)
      → (before : ℕ) → before ≡ 0 → IfErr shown (λ e. (status ≡ e) × (out' ≡ out) × (needed ≡ before))
      → EndsOrder out out' needed text order status
  done_ends said shown status = shown_ends Done said shown status (λ b is holds. (b, is, holds))

  pub refused_ends : {Z : Type 0} (said : List ℕ) (shown : Result (Vec ℕ Z) Status) (status : Status)
      → Says text order.format order.task Refused said
      → IfOk shown (λ bytes. IsShownAs Refused order.format (subject_name order.task) said bytes.items)
      → IfErr shown (λ e. FailsToShow order said e)
      → IfOk shown (λ bytes. Puts out out' needed Refused bytes.items status)
      → (before : ℕ) → before ≡ 0 → IfErr shown (λ e. (status ≡ e) × (out' ≡ out) × (needed ≡ before))
      → EndsOrder out out' needed text order status
  refused_ends said shown status = shown_ends Refused said shown status (λ b is holds. (b, is, holds))
