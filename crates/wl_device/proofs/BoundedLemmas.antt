-- Reading the whole of a small text, one call at a time.
use Rattle.std.proofs.Common.{◌≡◌, ℕ, ◌<◌, ◌≤◌, List, [], ◌∷◌, ◌++◌, length, refl, ap, ◌∙◌, arith, inl, inr, length-append}
use Rattle.std.proofs.lemmas.List.{append-nil}
use Rattle.wl_device.specs.declared.bounded.Ended.TheVariants as end
use Rattle.wl_device.specs.Limits.{most_calls}
use Rattle.wl_device.specs.Devices.{Answer, moved, ended, failed, moved_bytes}
use Rattle.wl_device.specs.Bounded.{ReadsUpTo}
use Rattle.wl_device.proofs.Runs.{SoFar, run_more, moved_bytes-append, more_moved}

module _ {S : Type 0} (gives : S → Answer → S → Type 0) (most : ℕ) where
  pub at_end : {s : S} {bytes : List ℕ} {n : ℕ} {t : S} {answers : List Answer} → SoFar gives s bytes n t answers → n < most_calls → length bytes ≤ most → (u : S) → gives t ended u → ReadsUpTo gives s most bytes end.End u
  at_end {s} {bytes} {n} {t} {answers} h few small u g =
      let all : moved_bytes (answers ++ ended ∷ []) ≡ bytes = moved_bytes-append answers (ended ∷ []) ∙ (append-nil (moved_bytes answers) ∙ h.bytes_are) in (
        answers ++ ended ∷ [],
        record {
          run = run_more gives s answers t ended u h.run g;
          bytes_are = all;
          ends = (answers, refl, h.goes);
          few = omega (arith, length-append answers (ended ∷ []), h.calls);
        },
        omega (arith, ap length all),
      )

  pub at_failure : {s : S} {bytes : List ℕ} {n : ℕ} {t : S} {answers : List Answer} → SoFar gives s bytes n t answers → n < most_calls → length bytes ≤ most → (u : S) → gives t failed u → ReadsUpTo gives s most bytes end.Broken u
  at_failure {s} {bytes} {n} {t} {answers} h few small u g =
      let all : moved_bytes (answers ++ failed ∷ []) ≡ bytes = moved_bytes-append answers (failed ∷ []) ∙ (append-nil (moved_bytes answers) ∙ h.bytes_are) in (
        answers ++ failed ∷ [],
        record {
          run = run_more gives s answers t failed u h.run g;
          bytes_are = all;
          ends = inl (answers, refl, h.goes);
          few = omega (arith, length-append answers (failed ∷ []), h.calls);
        },
        omega (arith, ap length all),
      )

  pub at_last_call : {s : S} {bytes : List ℕ} {n : ℕ} {t : S} {answers : List Answer} → SoFar gives s bytes n t answers → n ≡ most_calls → length bytes ≤ most → ReadsUpTo gives s most bytes end.Broken t
  at_last_call {s} {bytes} {n} {t} {answers} h last small = (
    answers,
    record {
      run = h.run;
      bytes_are = h.bytes_are;
      ends = inr (omega (arith, h.calls), h.goes);
      few = omega (arith, h.calls);
    },
    omega (arith, ap length h.bytes_are),
  )

  pub at_full : {s : S} {bytes : List ℕ} {n : ℕ} {t : S} {answers : List Answer} → SoFar gives s bytes n t answers → n < most_calls → length bytes ≤ most → (more : List ℕ) (u : S) → gives t (moved more) u → most < length (bytes ++ more) → ReadsUpTo gives s most (bytes ++ more) end.Full u
  at_full {s} {bytes} {n} {t} {answers} h few small more u g past =
      let next = more_moved gives h more u g in (
        answers ++ moved more ∷ [],
        record {
          run = next.run;
          bytes_are = next.bytes_are;
          ends = next.goes;
          few = omega (arith, next.calls);
        },
        (answers, moved more, refl, omega (arith, ap length h.bytes_are), omega (arith, ap length next.bytes_are)),
      )
