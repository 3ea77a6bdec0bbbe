-- What was said of a plan's text went out, and the answer was given with it.
use Rattle.std.proofs.Common.{◌≡◌, ℕ, List, Result, Ok, Err, sym, subst}
use Rattle.wl_device.specs.Bounded.{ReadsUpTo}
use Rattle.wl_device.specs.Devices.{Answer, Writes}
use Rattle.wl_device.specs.declared.bounded.Ended.TheVariants as reading
use Rattle.wl_setup.specs.Limits.{most_bytes}
use Rattle.wl_engines.specs.declared.fault.RunFault.{RunFault}
use Rattle.wl_engines.specs.declared.fault.RunFault.TheVariants.{Text, Setup, Work, Write, Memory}
use Rattle.wl_engines.specs.Answered.{Answers, AnswersText, WritesSaid}
use Rattle.wl_engines.specs.Output.{WritesAnswer}

module _ {A T : Type 0} (IsSaid : (text said : List ℕ) → A → Type 0) (takes : T → Answer → T → Type 0) (t t' : T) where
  -- the bytes that went out are what is said of the text
  pub answers_text : (text said bytes : List ℕ) (a : A) → bytes ≡ said → IsSaid text said a → (r : Result A RunFault)
      → WritesAnswer takes bytes a t t' r → AnswersText IsSaid takes text t t' r
  answers_text text said bytes a same is (Ok b) wrote =
      subst (λ (x : A). WritesSaid IsSaid takes text x (Ok tt) t t') (sym wrote.0)
      (said, is, subst (λ (x : List ℕ). Writes takes t x (Ok tt) t') same wrote.1)
  answers_text text said bytes a same is (Err Write) wrote =
      (wrote.0, a, (said, is, subst (λ (x : List ℕ). Writes takes t x (Err wrote.0) t') same wrote.1))
  answers_text text said bytes a same is (Err Memory) wrote = absurd wrote
  answers_text text said bytes a same is (Err (Text fault)) wrote = absurd wrote
  answers_text text said bytes a same is (Err (Setup fault)) wrote = absurd wrote
  answers_text text said bytes a same is (Err (Work fault)) wrote = absurd wrote

module _ {A S T : Type 0} (IsSaid : (text said : List ℕ) → A → Type 0) (gives : S → Answer → S → Type 0) (takes : T → Answer → T → Type 0) (s s' : S) (t t' : T) where
  -- what was done with a whole text was done with what was read
  pub answers_whole : (text : List ℕ) → ReadsUpTo gives s most_bytes text reading.End s' → (r : Result A RunFault)
      → AnswersText IsSaid takes text t t' r → Answers IsSaid gives takes s s' t t' r
  answers_whole text reads (Ok a) h = (text, reading.End, reads, h)
  answers_whole text reads (Err Memory) h = h
  answers_whole text reads (Err (Text fault)) h = (text, reading.End, reads, h)
  answers_whole text reads (Err (Setup fault)) h = (text, reading.End, reads, h)
  answers_whole text reads (Err (Work fault)) h = (text, reading.End, reads, h)
  answers_whole text reads (Err Write) h = (text, reading.End, reads, h)
