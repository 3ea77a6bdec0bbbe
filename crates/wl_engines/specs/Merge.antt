-- Merging: the canonical text of the state of the records that are read (this project's profile).
use Rattle.std.specs.Prelude.{◌≡◌, ◌≤◌, ◌++◌, ℕ, List, length, Result}
use Rattle.wl_lattice.specs.Maps.{SameMembers}
use Rattle.wl_limits.specs.declared.Limits.{Limits}
use Rattle.wl_record_core.specs.declared.record.Record.{Record}
use Rattle.wl_device.specs.declared.device.WriteFault.{WriteFault}
use Rattle.wl_device.specs.Devices.{Answer, Writes}
use Rattle.wl_record.specs.Grammar.{IsText}
use Rattle.wl_record.specs.Limits.{most_record_bytes}
use Rattle.wl_record_core.specs.Text.{text_of}
use Rattle.wl_record.specs.Reading.{RecordsOf}
use Rattle.wl_replica.specs.Canonical.{canonical}
use Rattle.wl_engines.specs.declared.fault.RunFault.{RunFault}
use Rattle.wl_engines.specs.Ran.{Ran}
use Rattle.wl_engines.specs.Gather.{state_of_all, RefusesText}

-- the canonical records of some records, and their text
abbrev pub merged_records : Limits → List Record → List Record
merged_records limits rs = canonical (state_of_all limits rs)

abbrev pub merged_text : Limits → List Record → List ℕ
merged_text limits rs = text_of (merged_records limits rs)

module _ {S T : Type 0} (limits : Limits) (gives : S → Answer → S → Type 0) (takes : T → Answer → T → Type 0) (s s' : S) (t t' : T) where
  -- the merged text of the records of all that was read went out, as far as it went
  abbrev pub WritesMerged : Result (Unit {0}) WriteFault → Type 0
  WritesMerged r = (rs : List Record) × RecordsOf limits gives s rs s' × Writes takes t (merged_text limits rs) r t'

  -- what a run of merge did
  abbrev pub Merges : Result (Unit {0}) RunFault → Type 0
  Merges = Ran (RefusesText limits gives s s') WritesMerged t t'

-- The laws of merging texts by some limits: x and y are texts of xs and ys, and x with y after it is still within the limit. So what merges the
-- text x ++ y, of the records xs ++ ys, merges the text merged_text limits xs ++ y to the same.
pub record MergesAsOne (limits : Limits) : Type 0 where
  -- the merged text is a record text, of the merged records
  pub is_text : (x : List ℕ) (xs : List Record) → IsText limits x xs → IsText limits (merged_text limits xs) (merged_records limits xs)
  -- x with y after it is the text of both
  pub together : (x y : List ℕ) (xs ys : List Record) → IsText limits x xs → IsText limits y ys → length (x ++ y) ≤ most_record_bytes → IsText limits (x ++ y) (xs ++ ys)
  -- and y can come after the merged text
  pub appended : (x y : List ℕ) (xs ys : List Record) → IsText limits x xs → IsText limits y ys → length (x ++ y) ≤ most_record_bytes
      → IsText limits (merged_text limits xs ++ y) (merged_records limits xs ++ ys)
  -- merging that merges x and y
  pub in_parts : (x y : List ℕ) (xs ys : List Record) → IsText limits x xs → IsText limits y ys → merged_text limits (merged_records limits xs ++ ys) ≡ merged_text limits (xs ++ ys)
  -- the same records, in any order and however often each, have the same merged text
  pub same_records : (xs ys : List Record) → SameMembers xs ys → merged_text limits xs ≡ merged_text limits ys
