-- The text of a verdict with what the searches found.
use Rattle.std.proofs.Common.{◌≡◌, ℕ, Bool, false, List, ◌++◌, refl}
use Rattle.wl_bound.specs.declared.verdict.Outside.{Outside}
use Rattle.wl_bound.specs.declared.verdict.Verdict.{Verdict}
use Rattle.wl_bound.specs.declared.verdict.Verdict.TheVariants.{ForAny, ForOne, DoesNotHold, NoBound}
use Rattle.wl_bound.specs.Families.{Buses}
use Rattle.wl_margin.specs.declared.searches.Headroom.{Headroom}
use Rattle.wl_margin.specs.declared.searches.SearchResults.{SearchResults}
use Rattle.wl_margin.specs.Margins.{AreSearchResults, IsHeadroom, IsTextAfter, results_words, unproved}

pub text_after : (proved : Bool) (v : Verdict) (said noise : List ℕ) (f : Buses) (text : List ℕ) (found : SearchResults)
    → ((cause : Outside) → v ≡ NoBound cause → ⊥) → AreSearchResults proved f found → text ≡ said ++ (results_words found ++ noise)
    → IsTextAfter proved v said noise f text
text_after proved ForAny said noise f text found none are e = (found, are, e)
text_after proved ForOne said noise f text found none are e = (found, are, e)
text_after proved (DoesNotHold failure) said noise f text found none are e = (found, are, e)
text_after proved (NoBound cause) said noise f text found none are e = absurd (none cause refl)

-- what is found with what stays proved is found without it
pub without_proof : (proved : Bool) (f : Buses) (longer wider : Headroom) → IsHeadroom proved f longer wider
    → IsHeadroom false f (unproved longer) (unproved wider)
without_proof proved f longer wider is = record {
  longer_one = is.longer_one;
  longer_any = is.longer_any;
  longer_proved = refl;
  wider_one = is.wider_one;
  wider_any = is.wider_any;
  wider_proved = refl;
}
