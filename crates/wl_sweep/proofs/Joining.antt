-- The tally of two lists, one after the other.
use Rattle.std.proofs.Common.{◌≡◌, ◌+◌, ◌^◌, ◌<◌, List, ◌++◌, length, option_map, refl, sym, length-append}
use Rattle.std.specs.Option.{option_or}
use Rattle.wl_sweep.specs.declared.finding.Finding.{Finding}
use Rattle.wl_sweep.specs.Family.{capped}
use Rattle.wl_sweep.specs.Findings.{is_clean, is_early, is_refused, is_unclean}
use Rattle.wl_sweep.specs.Tallies.{tally_of}
use Rattle.wl_sweep.proofs.Callers.{capped-small, count-joined, first-joined}

pub tally-joined : (xs ys : List Finding) → length xs + length ys < 2 ^ 64
    → tally_of (xs ++ ys) ≡ record {
      runs = capped ((tally_of xs).runs + (tally_of ys).runs);
      clean = capped ((tally_of xs).clean + (tally_of ys).clean);
      early = capped ((tally_of xs).early + (tally_of ys).early);
      refused = capped ((tally_of xs).refused + (tally_of ys).refused);
      first = option_or (tally_of xs).first (option_map (λ n. capped ((tally_of xs).runs + n)) (tally_of ys).first);
      first_refused = option_or (tally_of xs).first_refused (option_map (λ n. capped ((tally_of xs).runs + n)) (tally_of ys).first_refused);
    }
tally-joined xs ys small =
    rw (
      sym (first-joined is_unclean xs ys small),
      sym (first-joined is_refused xs ys small),
      sym (count-joined is_clean xs ys small),
      sym (count-joined is_early xs ys small),
      sym (count-joined is_refused xs ys small),
      length-append xs ys,
      capped-small (length xs + length ys) small,
    )
    refl
