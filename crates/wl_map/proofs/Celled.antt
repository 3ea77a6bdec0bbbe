-- What a cell says, piece by piece.
use Rattle.std.proofs.Common.{◌≡◌, ◌∙◌, ap, ℕ, List, ◌++◌}
use Rattle.std.proofs.lemmas.List.{append_assoc}
use Rattle.wl_sweep.specs.declared.sweep.Sweep.{Sweep}
use Rattle.wl_sweep.specs.declared.tally.Tally.{Tally}
use Rattle.wl_sweep.specs.Sweeps.{all_findings, sweep_text}
use Rattle.wl_sweep.specs.Tallies.{tally_of}
use Rattle.wl_map.specs.declared.cell.Colour.{Colour}
use Rattle.wl_map.specs.Cells.{cell_of_row, coloured_words, colour_of, first_error_of}

-- the colour and what the sweep says, and the first error
pub celled : (s : Sweep) (tally : Tally) (colour : Colour) (old said one two : List ℕ) → tally ≡ tally_of (all_findings s)
    → colour ≡ colour_of tally → said ≡ sweep_text s → one ≡ old ++ coloured_words colour said → two ≡ one ++ first_error_of s tally.first
    → two ≡ old ++ cell_of_row s
celled s tally colour old said one two t of is first second =
    second
    ∙ ap (λ b. b ++ first_error_of s tally.first) first
    ∙ append_assoc old (coloured_words colour said) (first_error_of s tally.first)
    ∙ (λ i. old ++ (coloured_words (of i) (is i) ++ first_error_of s tally.first))
    ∙ (λ i. old ++ (coloured_words (colour_of (t i)) (sweep_text s) ++ first_error_of s (t i).first))
